-- Nothing of the piece was taken, or as much as fits, or all of it.
use Rattle.std.proofs.Common.{[], ◌∷◌, ◌++◌, ◌-◌, Some, take, ap, subst, ◌∙◌}
use Rattle.m36_outside.specs.MemSink.{MemSinkFields}
use Rattle.m36_outside.specs.Passing.{TakesPart}
use Rattle.m36_outside.specs.Written.{GrewWithin}
use Rattle.m36_outside.proofs.Grown.{within_nothing, within_front}
use Rattle.m36_outside.proofs.Takes.{takes_nothing, takes_front}
use Rattle.m36_outside.proofs.memory_sink.MemSinkSink.put.Goals as goal

pub returns-then-next_fails-clause-says : goal.returns-then-next_fails-clause-says
returns-then-next_fails-clause-says c =
    let bytes = c.self.inside.bytes.items in
    subst (λ l. GrewWithin (Some l) (Some bytes) c.args.piece.now) (ap (λ (s : MemSinkFields). s.bytes) c.self.view_is)
    (within_nothing (Some bytes) c.args.piece.now)

pub returns-then-next_fails-clause-took : goal.returns-then-next_fails-clause-took
returns-then-next_fails-clause-took c =
    let bytes = c.self.inside.bytes.items in
    let old = c.args.self.now.pieces in
    let new = c.note.new.self.entries in
    subst (λ l. TakesPart (Some l) (Some bytes) old new c.args.piece.now) (ap (λ (s : MemSinkFields). s.bytes) c.self.view_is)
    (takes_nothing (Some bytes) old new c.args.piece.now (c.note.ensures ∙ ap (λ (s : MemSinkFields). s.pieces ++ [] ∷ []) c.self.view_is))

pub returns-then-piece-left-clause-says : goal.returns-then-piece-left-clause-says
returns-then-piece-left-clause-says c =
    let piece = c.args.piece.now in
    let left = c.self.inside.room - c.len.result in
    within_front c.args.self.now.bytes c.add_within.new.bytes.items piece left
    (c.add_within.ensures.items ∙ ap (λ (s : MemSinkFields). s.bytes ++ take left piece) c.self.view_is)

pub returns-then-piece-left-clause-took : goal.returns-then-piece-left-clause-took
returns-then-piece-left-clause-took c =
    let piece = c.args.piece.now in
    let left = c.self.inside.room - c.len.result in
    takes_front c.args.self.now.bytes c.add_within.new.bytes.items c.args.self.now.pieces c.note-then-piece-left.new.self.entries piece left
    (c.add_within.ensures.items ∙ ap (λ (s : MemSinkFields). s.bytes ++ take left piece) c.self.view_is)
    (c.note-then-piece-left.ensures ∙ ap (λ (s : MemSinkFields). s.pieces ++ take left piece ∷ []) c.self.view_is)

pub returns-clause-says : goal.returns-clause-says
returns-clause-says c =
    ap (λ l. Some l) (c.add_within-2.ensures.items ∙ ap (λ (s : MemSinkFields). s.bytes ++ c.args.piece.now) c.self.view_is)

pub returns-clause-took : goal.returns-clause-took
returns-clause-took c = c.note-2.ensures ∙ ap (λ (s : MemSinkFields). s.pieces ++ c.args.piece.now ∷ []) c.self.view_is
