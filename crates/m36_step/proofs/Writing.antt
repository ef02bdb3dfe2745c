-- The words of an instruction are written one after another.
use Rattle.std.proofs.Common.{ℕ, zero, suc, ◌≡◌, ◌+◌, ◌*◌, ◌∙◌, refl, sym, ap, subst, List, [], ◌∷◌, ◌++◌, map, length, Option, Some, None, inr, arith}
use Rattle.m36_word.specs.declared.pair.Pair.{Pair}
use Rattle.m36_model.specs.Act.{Whole}
use Rattle.m36_model.specs.Chain.{chain_end_fields, claimed_by, pending_of}
use Rattle.m36_model.specs.Core.{core_put, put_one}
use Rattle.m36_model.specs.Place.{wrapped_address}
use Rattle.m36_model.specs.Results.{words_of_held, words_of_pairs}
use Rattle.m36_model.specs.Store.{Core_word, Change, changes}
use Rattle.m36_model.specs.StepCases.{changes_at_spots}
use Rattle.m36_model.specs.declared.effects.Formed.{Formed}
use Rattle.m36_model.specs.declared.effects.Held.{Held}
use Rattle.m36_model.specs.declared.effects.Tally.{Tally}
use Rattle.m36_model.proofs.PutLaw.{IsTallied, no_tally, tallied_at, all_changes}
use Rattle.m36_walk.specs.Runs.{run_from, IsInCore}
use Rattle.m36_walk.specs.Words.{run_changes}
use Rattle.m36_step.specs.Operated.{part_of, claims_of, puts_of, WordsFitPart}
use Rattle.m36_step.specs.declared.operated.Part as code
use Rattle.m36_step.specs.declared.operated.Part.TheVariants as part
use Rattle.m36_step.specs.declared.operated.Operated.{Operated}

-- changes one after another
put_more : (core : List ℕ) (xs ys : List Change) → core_put core (xs ++ ys) ≡ core_put (core_put core xs) ys
unfolding core_put
put_more core [] ys = refl
put_more core (x ∷ xs) ys = put_more (put_one core x.spot x.part x.value) xs ys

run_length : (a n : ℕ) → length (run_from a n) ≡ n
unfolding run_from
run_length a zero = refl
run_length a (suc n) = let rest = run_length (wrapped_address (a + 1)) n in omega (arith, rest)

tallied_so : (t : Option Tally) (place : ℕ) (f : Formed) → f.tally ≡ t → f.place ≡ place → IsTallied (chain_end_fields f) (claimed_by t place)
tallied_so None place f e p = no_tally (ap pending_of e) refl
tallied_so (Some t) place f e p = tallied_at _ t.word (ap pending_of e) refl

tally_alone : (t : Option Tally) (place : ℕ) → changes_at_spots Whole (claimed_by t place) (map (λ p. p.value) (pending_of t)) ≡ changes (claimed_by t place) (pending_of t)
unfolding changes
tally_alone None place = refl
tally_alone (Some t) place = refl

-- the tally word, and then the words of the operand
pub written_together : (core : List ℕ) (f : Formed) (put : Held) (o : Operated) → core_put core (changes (claims_of f put o) (puts_of f put o)) ≡ core_put (core_put core (changes (claimed_by f.tally f.place) (pending_of f.tally))) (changes_at_spots (part_of o.part) (run_from o.place (length (words_of_held put))) (words_of_held put))
written_together core f put o =
    let claimed = claimed_by f.tally f.place in
    let spots = run_from o.place (length (words_of_held put)) in
    let all = all_changes (chain_end_fields f) (part_of o.part) claimed spots (length claimed) (words_of_held put) (tallied_so f.tally f.place f refl refl) (run_length o.place (length (words_of_held put))) (inr refl) in
    let more : List Change = changes_at_spots (part_of o.part) spots (words_of_held put) in
    ap (core_put core) all
    ∙ ap (λ (xs : List Change). core_put core (xs ++ more)) (tally_alone f.tally f.place)
    ∙ put_more core (changes claimed (pending_of f.tally)) more

-- whole words, as the walk writes them
whole_run : (a : ℕ) (words : List ℕ) → changes_at_spots Whole (run_from a (length words)) words ≡ run_changes a words
unfolding run_from
whole_run a [] = refl
whole_run a (w ∷ words) = ap (λ (more : List Change). record { spot = Core_word a; part = Whole; value = w } ∷ more) (whole_run (wrapped_address (a + 1)) words)

pub block_written : (core core' : List ℕ) (a : ℕ) (pairs : List Pair) → core' ≡ core_put core (run_changes a (words_of_pairs pairs)) → core' ≡ core_put core (changes_at_spots Whole (run_from a (length (words_of_pairs pairs))) (words_of_pairs pairs))
block_written core core' a pairs h =
    h ∙ ap (core_put core) (sym (whole_run a (words_of_pairs pairs)))

pub block_length : (pairs : List Pair) → length (words_of_pairs pairs) ≡ 2 * length pairs
block_length [] = refl
block_length (p ∷ pairs) = let rest = block_length pairs in omega (arith, rest)

pub block_lies : (size a : ℕ) (pairs : List Pair) → length pairs ≡ 8 → IsInCore size a (length (words_of_pairs pairs)) → IsInCore size a 16
block_lies size a pairs e h =
    let n : length (words_of_pairs pairs) ≡ 16 = omega (arith, block_length pairs) in
    subst (λ (k : ℕ). IsInCore size a k) n h

-- A block is written as a whole.
pub block_is_whole : (part : code.Part) (pairs : List Pair) → WordsFitPart part (words_of_pairs pairs) → Whole ≡ part_of part
block_is_whole part.Whole pairs h = refl
block_is_whole part.Left pairs h = absurd (omega (arith, h.0, block_length pairs))
block_is_whole part.Right pairs h = absurd (omega (arith, h.0, block_length pairs))
