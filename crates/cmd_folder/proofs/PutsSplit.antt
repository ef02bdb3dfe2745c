-- The events of a program that puts pieces and then continues.
use Rattle.std.proofs.Common.{◌≡◌, ◌⊎◌, ℕ, List, [], ◌∷◌, ◌++◌, Result, Err, refl, sym, ap, ◌∙◌, inl, inr}
use Rattle.std.proofs.lemmas.List.{append-nil}
use Rattle.m36_world.specs.Follow.{outputs}
use Rattle.m36_world.specs.declared.event.Event.{Event}
use Rattle.m36_world.specs.declared.event.Event.TheVariants.{OutputFailed}
use Rattle.m36_status.specs.declared.status.Status.{Status}
use Rattle.m36_status.specs.declared.status.Status.TheVariants.{WriteFault}
use Rattle.m36_program.specs.Goes.{FailsWith, Goes}
use Rattle.m36_program.specs.Program.{quiet, Program, puts_all}
use Rattle.m36_program.specs.MayHappen.{pieces_of}
use Rattle.m36_program.proofs.PieceLaws.{pieces_put}

-- the pieces of a call that put these
pub pieces_all : (pieces : List (List ℕ)) (events : List Event) → events ≡ outputs pieces → pieces_of events ≡ pieces
pieces_all pieces events is =
    ap pieces_of (is ∙ sym (append-nil (outputs pieces))) ∙ pieces_put pieces [] ∙ append-nil pieces

-- All of them are pieces of the call, and the rest of the program had the other pieces.
pub record PutsOn (pieces : List (List ℕ)) (rest : Program quiet (Unit {0})) (events : List Event)
    (result : Result (Unit {0}) Status) : Type 0 where
  pub more : List Event
  pub is : pieces_of events ≡ pieces ++ pieces_of more
  pub goes : Goes rest more result

-- The output failed, and the pieces of the call are a prefix of these.
pub record PutsFirst (pieces : List (List ℕ)) (events : List Event) (result : Result (Unit {0}) Status) : Type 0 where
  pub left : List (List ℕ)
  pub is : pieces ≡ pieces_of events ++ left
  pub result_is : result ≡ Err WriteFault

abbrev pub PutsSplit : List (List ℕ) → Program quiet (Unit {0}) → List Event → Result (Unit {0}) Status → Type 0
PutsSplit pieces rest events result = PutsOn pieces rest events result ⊎ PutsFirst pieces events result

-- one piece before them
split_more :
    (piece : List ℕ) (pieces : List (List ℕ)) (rest : Program quiet (Unit {0})) (events more : List Event)
    (result : Result (Unit {0}) Status)
    → pieces_of events ≡ piece ∷ pieces_of more → PutsSplit pieces rest more result
    → PutsSplit (piece ∷ pieces) rest events result
split_more piece pieces rest events more result is (inl on) = inl (record {
  more = on.more;
  is = is ∙ ap (λ l. piece ∷ l) on.is;
  goes = on.goes;
})
split_more piece pieces rest events more result is (inr first) = inr (record {
  left = first.left;
  is = ap (λ l. piece ∷ l) first.is ∙ ap (λ l. l ++ first.left) (sym is);
  result_is = first.result_is;
})

-- one call that failed
split_failed :
    (piece : List ℕ) (failed pieces : List (List ℕ)) (rest : Program quiet (Unit {0})) (events : List Event)
    (result : Result (Unit {0}) Status)
    → events ≡ OutputFailed (piece ∷ failed) ∷ []
    → (Goes (puts_all pieces rest) (OutputFailed failed ∷ []) result
    → PutsSplit pieces rest (OutputFailed failed ∷ []) result)
    → FailsWith failed (λ more. Goes (puts_all pieces rest) more result) result
    → PutsSplit (piece ∷ pieces) rest events result
split_failed piece [] pieces rest events result is on fails = inr (record {
  left = pieces;
  is = ap (λ e. pieces_of e ++ pieces) (sym is);
  result_is = fails;
})
split_failed piece (next ∷ failed) pieces rest events result is on fails =
    split_more piece pieces rest events (OutputFailed (next ∷ failed) ∷ []) result (ap pieces_of is) (on fails)

pub puts_split :
    (pieces : List (List ℕ)) (rest : Program quiet (Unit {0})) (events : List Event) (result : Result (Unit {0}) Status)
    → Goes (puts_all pieces rest) events result → PutsSplit pieces rest events result
unfolding Goes puts_all
puts_split [] rest events result goes = inl (record { more = events; is = refl; goes = goes })
puts_split (piece ∷ pieces) rest events result (inl goes) =
    split_more piece pieces rest events goes.more result (ap pieces_of goes.first)
    (puts_split pieces rest goes.more result goes.rest)
puts_split (piece ∷ pieces) rest events result (inr fails) =
    split_failed piece fails.pieces pieces rest events result fails.only
    (λ more. puts_split pieces rest (OutputFailed fails.pieces ∷ []) result more) fails.rest
