-- The writer took nothing, or a signal interrupted the write.
use Rattle.std.proofs.Common.{◌≡◌, ℕ, take, subst, rules, arith}
use Rattle.std.specs.Io.KnownBytes.{Appends}
use Rattle.m36_outside.proofs.Appended.{keeps_nothing, appends_nothing}
use Rattle.m36_outside.proofs.Signalled.{zero_is_fault}
use Rattle.m36_outside.proofs.logged.WriterLogs.write.Goals as goal

pub returns-in-Ok-eq0-clause-inner : goal.returns-in-Ok-eq0-clause-inner
returns-in-Ok-eq0-clause-inner g c =
    let old = g.W.Write.contents c.args.writer.now in
    let new = g.W.Write.contents c.write.new.self in
    let none : c.in-Ok-eq0.field-0 ≡ 0 = first_of (search rules, grind arith) in
    keeps_nothing old new (subst (λ (n : ℕ). Appends old new (take n c.args.bytes.now)) none c.in-Ok-eq0.ensures.bytes)

pub returns-in-Ok-eq0-clause-failed : goal.returns-in-Ok-eq0-clause-failed
returns-in-Ok-eq0-clause-failed g c =
    zero_is_fault c.args.self.now.errors.entries c.note.new.self.entries c.note.ensures

pub returns-then-note_error-clause-inner : goal.returns-then-note_error-clause-inner
returns-then-note_error-clause-inner g c =
    appends_nothing (g.W.Write.contents c.args.writer.now) (g.W.Write.contents c.write.new.self) c.in-Err.ensures.bytes
