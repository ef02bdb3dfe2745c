-- The events of pieces that are put one after another.
use Rattle.std.proofs.Common.{◌≡◌, ◌⊎◌, ℕ, List, [], ◌∷◌, ◌++◌, Result, Err, refl, sym}
use Rattle.std.proofs.Common.{ap, subst, ◌∙◌, inl, inr}
use Rattle.m36_outside.specs.Passing.{joined}
use Rattle.m36_outside.specs.Putting.{PutsText, PutsPieces}
use Rattle.m36_outside.specs.SinkState.{SinkState}
use Rattle.m36_outside.specs.declared.sink.Put.TheVariants.{Done, Failed}
use Rattle.std.proofs.lemmas.List.Folds.{concat-append as joined_both}
use Rattle.m36_outside.proofs.Grown.{grew_longer}
use Rattle.m36_outside.proofs.LinesTaken.{takes_lines_longer}
use Rattle.m36_world.specs.Follow.{outputs}
use Rattle.m36_world.specs.declared.event.Event.{Event}
use Rattle.m36_world.specs.declared.event.Event.TheVariants.{Output, OutputFailed}
use Rattle.m36_status.specs.declared.status.Status.{Status}
use Rattle.m36_status.specs.declared.status.Status.TheVariants as status
use Rattle.m36_status.specs.declared.status.Status.TheVariants.{WriteFault}
use Rattle.m36_program.specs.Program.{May, Program, puts_all}
use Rattle.m36_program.specs.Goes.{FailsWith, Goes}
use Rattle.m36_program.specs.Early.{result_of_status, MayEnd, ends}
use Rattle.m36_program.specs.MayHappen.{pieces_of, put_answer_of}

-- ---- pieces, reads and events

pub pieces_put :
    (pieces : List (List ℕ)) (more : List Event) → pieces_of (outputs pieces ++ more) ≡ pieces ++ pieces_of more
pieces_put [] more = refl
pieces_put (piece ∷ pieces) more = ap (λ l. piece ∷ l) (pieces_put pieces more)

pub put_after : (pieces : List (List ℕ)) (more : List Event) → put_answer_of (outputs pieces ++ more) ≡ put_answer_of more
put_after [] more = refl
put_after (piece ∷ pieces) more = put_after pieces more

-- ---- a program that puts pieces

-- They were put, and then the rest was performed.
pub record ThenGoes {may : May} {A : Type 0} (pieces : List (List ℕ)) (rest : Program may A) (events : List Event)
    (result : Result A Status) : Type 0 where
  pub more : List Event
  pub is : events ≡ outputs pieces ++ more
  pub goes : Goes rest more result

then_more :
    {may : May} {A : Type 0} (piece : List ℕ) (pieces : List (List ℕ)) (rest : Program may A) (more events : List Event)
    (result : Result A Status)
    → events ≡ Output piece ∷ more → ThenGoes pieces rest more result → ThenGoes (piece ∷ pieces) rest events result
then_more piece pieces rest more events result is on = record {
  more = on.more;
  is = is ∙ ap (λ l. Output piece ∷ l) on.is;
  goes = on.goes;
}

-- If the output did not fail, all of them were put.
pub puts_gone :
    {may : May} {A : Type 0} (pieces : List (List ℕ)) (rest : Program may A) (events : List Event)
    (result : Result A Status)
    → put_answer_of events ≡ Done → Goes (puts_all pieces rest) events result → ThenGoes pieces rest events result
unfolding Goes puts_all
puts_gone [] rest events result whole goes = record { more = events; is = refl; goes = goes }
puts_gone (piece ∷ pieces) rest events result whole (inl goes) =
    then_more piece pieces rest goes.more events result goes.first
    (puts_gone pieces rest goes.more result (sym (ap put_answer_of goes.first) ∙ whole) goes.rest)
puts_gone (piece ∷ pieces) rest events result whole (inr failed) =
    absurd (let fails : put_answer_of events ≡ Failed = ap put_answer_of failed.only in cc)

-- ---- a program that puts pieces, and ends with a status

-- All of them were put.
pub record PutsWhole (pieces : List (List ℕ)) (s : Status) (events : List Event)
    (result : Result (Unit {0}) Status) : Type 0 where
  pub events_are : events ≡ outputs pieces
  pub result_is : result ≡ result_of_status s

-- The output failed.
pub record PutsPart (pieces : List (List ℕ)) (events : List Event) (result : Result (Unit {0}) Status) : Type 0 where
  pub left : List (List ℕ)
  pub is : pieces ≡ pieces_of events ++ left
  pub failed : put_answer_of events ≡ Failed
  pub result_is : result ≡ Err WriteFault

ends_whole :
    (may : May) (s : Status) (own : MayEnd s) (events : List Event) (result : Result (Unit {0}) Status)
    → Goes {may = may} (ends s own) events result → PutsWhole [] s events result
unfolding Goes ends
ends_whole may status.Usage own events result goes = absurd own
ends_whole may status.ReadFault own events result goes = absurd own
ends_whole may status.WriteFault own events result goes = absurd own
ends_whole may status.NoMemory own events result goes = absurd own
ends_whole may _ own events result goes = record { events_are = goes.none; result_is = goes.result_is }

outputs_done : (pieces : List (List ℕ)) → put_answer_of (outputs pieces) ≡ Done
outputs_done [] = refl
outputs_done (piece ∷ pieces) = outputs_done pieces

abbrev pub PutsBy : List (List ℕ) → Status → List Event → Result (Unit {0}) Status → Type 0
PutsBy pieces s events result = PutsWhole pieces s events result ⊎ PutsPart pieces events result

ended_more :
    (piece : List ℕ) (pieces : List (List ℕ)) (s : Status) (events : List Event) (result : Result (Unit {0}) Status)
    → PutsBy pieces s events result → PutsBy (piece ∷ pieces) s (Output piece ∷ events) result
ended_more piece pieces s events result (inl whole) = inl (record {
  events_are = ap (λ l. Output piece ∷ l) whole.events_are;
  result_is = whole.result_is;
})
ended_more piece pieces s events result (inr part) = inr (record {
  left = part.left;
  is = ap (λ l. piece ∷ l) part.is;
  failed = part.failed;
  result_is = part.result_is;
})

ended_failed :
    (may : May) (piece : List ℕ) (failed pieces : List (List ℕ)) (s : Status) (rest : Program may (Unit {0}))
    (result : Result (Unit {0}) Status)
    → (Goes rest (OutputFailed failed ∷ []) result → PutsBy pieces s (OutputFailed failed ∷ []) result)
    → FailsWith failed (λ more. Goes rest more result) result
    → PutsPart (piece ∷ pieces) (OutputFailed (piece ∷ failed) ∷ []) result
ended_failed may piece [] pieces s rest result on fails =
    record { left = pieces; is = refl; failed = refl; result_is = fails }
ended_failed may piece (next ∷ failed) pieces s rest result on fails =
    elim (on fails) [
      | inl whole ↦ absurd (let done : put_answer_of (OutputFailed (next ∷ failed) ∷ []) ≡ Done =
          ap put_answer_of whole.events_are ∙ outputs_done pieces in cc)
      | inr part ↦ record {
        left = part.left;
        is = ap (λ l. piece ∷ l) part.is;
        failed = refl;
        result_is = part.result_is;
      }
    ]

-- All pieces were put, and the result is that of the status; or the output failed, and the pieces of the events are a
-- prefix of them.
pub puts_ended :
    (may : May) (pieces : List (List ℕ)) (s : Status) (own : MayEnd s) (events : List Event)
    (result : Result (Unit {0}) Status)
    → Goes {may = may} (puts_all pieces (ends s own)) events result → PutsBy pieces s events result
unfolding Goes puts_all
puts_ended may [] s own events result goes = inl (ends_whole may s own events result goes)
puts_ended may (piece ∷ pieces) s own events result (inl goes) =
    subst (λ e. PutsBy (piece ∷ pieces) s e result) (sym goes.first)
    (ended_more piece pieces s goes.more result (puts_ended may pieces s own goes.more result goes.rest))
puts_ended may (piece ∷ pieces) s own events result (inr failed) =
    subst (λ e. PutsBy (piece ∷ pieces) s e result) (sym failed.only)
    (inr (ended_failed may piece failed.pieces pieces s (puts_all pieces (ends s own)) result
    (λ on. puts_ended may pieces s own (OutputFailed failed.pieces ∷ []) result on) failed.rest))

-- ---- what is put if the output fails

-- A prefix of some pieces is a prefix of more.
pub puts_longer :
    (pieces left : List (List ℕ)) (old new : SinkState) → PutsPieces Failed pieces old new
    → PutsPieces Failed (pieces ++ left) old new
puts_longer pieces left old new put =
    subst (λ t. PutsText Failed t (pieces ++ left) old new) (sym (joined_both pieces left)) (record {
      text = grew_longer old.written new.written (joined pieces) (joined left) put.text;
      pieces = takes_lines_longer old.taken new.taken pieces left put.pieces;
      faults = put.faults;
    })
