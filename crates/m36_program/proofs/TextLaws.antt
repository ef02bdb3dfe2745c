-- What is written grows by the pieces that a program puts.
use Rattle.std.proofs.Common.{◌≡◌, ℕ, List, [], ◌∷◌, ◌++◌, Result, Err, refl, sym, ap, subst, ◌∙◌}
use Rattle.std.proofs.lemmas.List.{append-nil}
use Rattle.m36_outside.specs.Passing.{joined}
use Rattle.m36_outside.specs.Putting.{PutsPieces}
use Rattle.m36_outside.specs.SinkState.{SinkState}
use Rattle.m36_outside.specs.Written.{appended}
use Rattle.m36_outside.specs.declared.sink.Put.{Put}
use Rattle.m36_outside.specs.declared.sink.Put.TheVariants.{Done, Failed}
use Rattle.m36_outside.proofs.Grown.{grew_by_nothing, grew_on, grew_more}
use Rattle.m36_outside.proofs.LinesTaken.{takes_no_lines, takes_lines_on, takes_lines_more}
use Rattle.m36_outside.specs.Counts.{Rose}
use Rattle.m36_world.specs.declared.event.Event.{Event}
use Rattle.m36_world.specs.declared.event.Event.TheVariants.{FileRead, FileWrite, Output, OutputFailed, Input}
use Rattle.m36_world.specs.declared.event.Event.TheVariants.{InputFailed}
use Rattle.m36_world.specs.Seen.{Seen}
use Rattle.m36_world.specs.Happened.{IsFileRead, IsFileWrite, IsOutput, IsOutputFailed, IsInput, IsInputFailed}
use Rattle.m36_world.specs.Follow.{Follow}
use Rattle.m36_status.specs.declared.status.Status.{Status}
use Rattle.m36_status.specs.declared.status.Status.TheVariants as status
use Rattle.m36_program.specs.Program.{May}
use Rattle.m36_program.specs.MayHappen.{MayHappen, pieces_of, put_answer_of, output_of}
use Rattle.m36_program.proofs.KeptLaws.{after_read, after_write, passed_none}

-- nothing is put
puts_nothing : (old new : SinkState) → new ≡ old → PutsPieces Done [] old new
puts_nothing old new same = record {
  text = ap (λ s. s.written) same ∙ grew_by_nothing old.written;
  pieces = ap (λ s. s.taken) same ∙ takes_no_lines old.taken;
  faults = ap (λ s. s.faults) same;
}

-- a piece, and then others
puts_piece :
    (answer : Put) (piece : List ℕ) (pieces : List (List ℕ)) (old between new : SinkState)
    → PutsPieces Done (piece ∷ []) old between → PutsPieces answer pieces between new
    → PutsPieces answer (piece ∷ pieces) old new
puts_piece Done piece pieces old between new first rest = record {
  text =
      grew_on old.written between.written new.written piece (joined pieces)
      (first.text ∙ ap (λ l. appended l old.written) (append-nil piece)) rest.text;
  pieces = takes_lines_on old.taken between.taken new.taken (piece ∷ []) pieces first.pieces rest.pieces;
  faults = rest.faults ∙ first.faults;
}
puts_piece Failed piece pieces old between new first rest = record {
  text =
      grew_more old.written between.written new.written piece (joined pieces)
      (first.text ∙ ap (λ l. appended l old.written) (append-nil piece)) rest.text;
  pieces = takes_lines_more old.taken between.taken new.taken (piece ∷ []) pieces first.pieces rest.pieces;
  faults = subst (λ n. Rose n new.faults) first.faults rest.faults;
}

-- ---- by the events

-- no event after one that puts nothing
text_ends :
    (more : List Event) (old between new : Seen)
    → more ≡ [] → Follow more between new → output_of between ≡ output_of old
    → PutsPieces (put_answer_of more) (pieces_of more) (output_of old) (output_of new)
text_ends more old between new none follow same =
    subst (λ events. PutsPieces (put_answer_of events) (pieces_of events) (output_of old) (output_of new)) (sym none)
    (puts_nothing (output_of old) (output_of new) (ap output_of (passed_none more between new none follow) ∙ same))

-- an event that puts nothing, and then others
text_after :
    (more : List Event) (old between new : Seen)
    → output_of between ≡ output_of old → PutsPieces (put_answer_of more) (pieces_of more) (output_of between) (output_of new)
    → PutsPieces (put_answer_of more) (pieces_of more) (output_of old) (output_of new)
text_after more old between new same rest =
    subst (λ s. PutsPieces (put_answer_of more) (pieces_of more) s (output_of new)) same rest

text_failed :
    (pieces : List (List ℕ)) (more : List Event) (old between new : Seen)
    → IsOutputFailed pieces old between → more ≡ [] → Follow more between new
    → PutsPieces Failed (pieces ++ pieces_of more) (output_of old) (output_of new)
text_failed pieces more old between new did none follow =
    let all : pieces ++ pieces_of more ≡ pieces = ap (λ events. pieces ++ pieces_of events) none ∙ append-nil pieces in
    let same : output_of new ≡ output_of between = ap output_of (passed_none more between new none follow) in
    subst (λ l. PutsPieces Failed l (output_of old) (output_of new)) (sym all)
    (subst (λ s. PutsPieces Failed pieces (output_of old) s) (sym same)
    (record { text = did.grew; pieces = did.took; faults = did.cause }))

pub follow_text :
    {A : Type 0} (may : May) (events : List Event) (result : Result A Status) (old new : Seen)
    → MayHappen may events result → Follow events old new
    → PutsPieces (put_answer_of events) (pieces_of events) (output_of old) (output_of new)
unfolding Follow
follow_text may [] result old new trail same = puts_nothing (output_of old) (output_of new) (ap output_of same)
follow_text may (FileRead name answer ∷ more) result old new trail follow =
    let did : IsFileRead name answer old follow.between = follow.begins in
    after_read answer (MayHappen may more result) more result
    (λ none. text_ends more old follow.between new none follow.goes_on (ap output_of did.rest))
    (λ on. text_after more old follow.between new (ap output_of did.rest)
    (follow_text may more result follow.between new on follow.goes_on)) trail
follow_text may (FileWrite name content answer ∷ more) result old new trail follow =
    let did : IsFileWrite name content answer old follow.between = follow.begins in
    after_write answer (MayHappen may more result) more result
    (λ none. text_ends more old follow.between new none follow.goes_on (ap output_of did.rest))
    (λ on. text_after more old follow.between new (ap output_of did.rest)
    (follow_text may more result follow.between new on follow.goes_on)) trail.1
follow_text may (Output piece ∷ more) result old new trail follow =
    let did : IsOutput piece old follow.between = follow.begins in
    puts_piece (put_answer_of more) piece (pieces_of more) (output_of old) (output_of follow.between) (output_of new)
    (record {
      text = ap (λ s. s.written) did.rest ∙ ap (λ l. appended l old.written) (sym (append-nil piece));
      pieces = ap (λ s. s.outputs) did.rest;
      faults = ap (λ s. s.output_faults) did.rest;
    }) (follow_text may more result follow.between new trail follow.goes_on)
follow_text may (OutputFailed pieces ∷ more) result old new trail follow =
    text_failed pieces more old follow.between new follow.begins trail.none follow.goes_on
follow_text may (Input piece ∷ more) result old new trail follow =
    let did : IsInput piece old follow.between = follow.begins in
    text_after more old follow.between new (ap output_of did.rest)
    (follow_text may more result follow.between new trail.1 follow.goes_on)
follow_text may (InputFailed ∷ more) result old new trail follow =
    let did : IsInputFailed old follow.between = follow.begins in
    text_ends more old follow.between new trail.1.none follow.goes_on (ap output_of did.rest)

-- ---- whether everything was put, by the result

-- Unless the result is WriteFault, all pieces are put as a whole.
pub trail_put :
    {A : Type 0} (may : May) (events : List Event) (result : Result A Status)
    → (result ≡ Err status.WriteFault → ⊥) → MayHappen may events result → put_answer_of events ≡ Done
trail_put may [] result whole trail = refl
trail_put may (FileRead name answer ∷ more) result whole trail =
    after_read answer (MayHappen may more result) more result (ap put_answer_of) (λ on. trail_put may more result whole on) trail
trail_put may (FileWrite name content answer ∷ more) result whole trail =
    after_write answer (MayHappen may more result) more result (ap put_answer_of)
    (λ on. trail_put may more result whole on) trail.1
trail_put may (Output piece ∷ more) result whole trail = trail_put may more result whole trail
trail_put may (OutputFailed pieces ∷ more) result whole trail = absurd (whole trail.result_is)
trail_put may (Input piece ∷ more) result whole trail = trail_put may more result whole trail.1
trail_put may (InputFailed ∷ more) result whole trail = ap put_answer_of trail.1.none
