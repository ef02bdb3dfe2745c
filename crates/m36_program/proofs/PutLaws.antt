-- Programs that put pieces.
use Rattle.std.proofs.Common.{◌≡◌, ℕ, List, [], ◌∷◌, ◌++◌, Result, Err, refl, sym, ap, subst, ◌∙◌, inl, inr}
use Rattle.m36_world.specs.declared.event.Event.{Event}
use Rattle.m36_world.specs.declared.event.Event.TheVariants.{OutputFailed}
use Rattle.m36_world.specs.Seen.{Seen}
use Rattle.m36_world.specs.Happened.{IsOutputFailed}
use Rattle.m36_world.specs.Follow.{outputs}
use Rattle.m36_status.specs.declared.status.Status.{Status}
use Rattle.m36_status.specs.declared.status.Status.TheVariants.{WriteFault}
use Rattle.m36_program.specs.Program.{May, Program, puts, puts_all}
use Rattle.m36_program.specs.Goes.{Goes}
use Rattle.m36_program.specs.Performs.{Performs}
use Rattle.m36_program.specs.Gathered.{Loses}
use Rattle.m36_world.proofs.Following.{follow_on, follow_one}

-- pieces, and then the rest
pub goes_puts :
    {may : May} {A : Type 0} (pieces : List (List ℕ)) (rest : Program may A) (more : List Event)
    (result : Result A Status)
    → Goes rest more result → Goes (puts_all pieces rest) (outputs pieces ++ more) result
unfolding Goes puts_all
goes_puts [] rest more result goes = goes
goes_puts (piece ∷ pieces) rest more result goes = inl (record {
  more = outputs pieces ++ more;
  first = refl;
  rest = goes_puts pieces rest more result goes;
})

-- the pieces of one list and then of another
pub puts_both :
    {may : May} {A : Type 0} (first more : List (List ℕ)) (rest : Program may A)
    → puts_all (first ++ more) rest ≡ puts_all first (puts_all more rest)
unfolding puts_all
puts_both [] more rest = refl
puts_both (piece ∷ first) more rest = ap (puts piece) (puts_both first more rest)

pub puts_one :
    {may : May} {A : Type 0} (piece : List ℕ) (rest : Program may A) → puts_all (piece ∷ []) rest ≡ puts piece rest
unfolding puts_all
puts_one piece rest = refl

pub puts_none : {may : May} {A : Type 0} (rest : Program may A) → puts_all [] rest ≡ rest
unfolding puts_all
puts_none rest = refl

-- the output fails in a call for one or more pieces
goes_lost :
    {may : May} {A : Type 0} (piece : List ℕ) (pieces : List (List ℕ)) (rest : Program may A)
    → Goes (puts_all (piece ∷ pieces) rest) (OutputFailed (piece ∷ pieces) ∷ []) (Err WriteFault)
unfolding Goes puts_all
goes_lost piece [] rest = inr (record { pieces = []; only = refl; rest = refl })
goes_lost piece (next ∷ pieces) rest = inr (record {
  pieces = next ∷ pieces;
  only = refl;
  rest = goes_lost next pieces rest;
})

-- A call that failed had a piece to put.
no_pieces :
    (lines left : List (List ℕ)) (line : List ℕ) → let none : List (List ℕ) = [] in none ≡ lines ++ line ∷ left → ⊥
no_pieces [] left line is = cc
no_pieces (first ∷ lines) left line is = cc

goes_fails :
    {may : May} {A : Type 0} (failed : List (List ℕ)) (rest : Program may A) (old new : Seen)
    → IsOutputFailed failed old new → Goes (puts_all failed rest) (OutputFailed failed ∷ []) (Err WriteFault)
goes_fails [] rest old new fails = absurd (no_pieces fails.took.lines fails.took.left fails.took.line fails.took.is)
goes_fails (piece ∷ pieces) rest old new fails = goes_lost piece pieces rest

-- some pieces are put, and then the output fails
pub loses_performs :
    {may : May} {A : Type 0} (pieces : List (List ℕ)) (rest : Program may A) (old new : Seen)
    → Loses pieces old new → Performs (puts_all pieces rest) (Err WriteFault) old new
loses_performs pieces rest old new lost = record {
  events = outputs lost.handed ++ OutputFailed lost.failed ∷ [];
  follow = follow_on (outputs lost.handed) (OutputFailed lost.failed ∷ []) old lost.between new lost.follow
      (follow_one (OutputFailed lost.failed) lost.between new lost.fails);
  goes = subst (λ program. Goes program (outputs lost.handed ++ OutputFailed lost.failed ∷ []) (Err WriteFault))
      (sym (ap (λ l. puts_all l rest) lost.is
      ∙ puts_both (lost.handed ++ lost.failed) lost.left rest
      ∙ puts_both lost.handed lost.failed (puts_all lost.left rest)))
      (goes_puts lost.handed (puts_all lost.failed (puts_all lost.left rest)) (OutputFailed lost.failed ∷ [])
      (Err WriteFault)
      (goes_fails lost.failed (puts_all lost.left rest) lost.between new lost.fails));
}
