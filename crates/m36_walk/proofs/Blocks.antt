-- A block of 16 words is eight pairs in order.
use Rattle.std.proofs.Common.{ℕ, zero, suc, ◌≡◌, ◌+◌, ◌<◌, ◌≤◌, List, [], ◌∷◌, ◌++◌, length, get_or, set, take, drop, refl, ap, sym, ◌∙◌, subst, append_assoc, append-nil, add-one, arith}
use Rattle.std.proofs.lemmas.List.{take_more_set, take_all}
use Rattle.std.proofs.Math.ListN.{drop_of_length-le}
use Rattle.std.proofs.Math.Seq.{drop-cons}
use Rattle.m36_word.specs.declared.pair.Pair.{Pair}
use Rattle.m36_model.specs.Core.{core_put}
use Rattle.m36_model.specs.Place.{wrapped_address}
use Rattle.m36_model.specs.Results.{words_of_pairs}
use Rattle.m36_model.proofs.StepLaw.{core_quiet}
use Rattle.m36_walk.specs.Runs.{IsInCore, words_from}
use Rattle.m36_word.specs.Pairs.{pair_words}
use Rattle.m36_walk.specs.Words.{run_changes}

-- the address of the next pair
abbrev pub pair_after : ℕ → ℕ
pair_after a = wrapped_address (wrapped_address (a + 1) + 1)

pub first_pair_lies : (size a n : ℕ) → 2 ≤ n → IsInCore size a n → IsInCore size a 2
unfolding IsInCore
first_pair_lies size a zero k h = absurd (omega arith)
first_pair_lies size a (suc zero) k h = absurd (omega arith)
first_pair_lies size a (suc (suc n)) k h = (h.0, (h.1.0, tt))

other_pairs_lie : (size a m : ℕ) → IsInCore size a (suc (suc m)) → IsInCore size (pair_after a) m
unfolding IsInCore
other_pairs_lie size a m h = h.1.1

pub rest_lies : (size a n m : ℕ) → n ≡ m + 2 → IsInCore size a n → IsInCore size (pair_after a) m
rest_lies size a n m e h =
    let f : n ≡ suc (suc m) = omega arith in
    other_pairs_lie size a m (subst (λ (k : ℕ). IsInCore size a k) f h)

words_step : (X : List ℕ) (a m : ℕ) (p : Pair) → words_from X a 2 ≡ pair_words p → words_from X a (suc (suc m)) ≡ pair_words p ++ words_from X (pair_after a) m
unfolding words_from
words_step X a m p e = ap (λ ws. ws ++ words_from X (pair_after a) m) e

words_of_pairs-append : (pairs : List Pair) (p : Pair) → words_of_pairs (pairs ++ p ∷ []) ≡ words_of_pairs pairs ++ pair_words p
words_of_pairs-append [] p = refl
words_of_pairs-append (q ∷ pairs) p = ap (λ ws. q.even ∷ (q.odd ∷ ws)) (words_of_pairs-append pairs p)

-- reading one more pair of a block
pub block_read_on : (X whole : List ℕ) (a n m i : ℕ) (pairs : List Pair) (p : Pair) → i < length pairs → n ≡ m + 2 → words_from X a 2 ≡ pair_words p
    → whole ≡ words_of_pairs (take i pairs) ++ words_from X a n → whole ≡ words_of_pairs (take (i + 1) (set pairs i p)) ++ words_from X (pair_after a) m
block_read_on X whole a n m i pairs p h e w k =
    let f : n ≡ suc (suc m) = omega arith in
    let two : words_from X a n ≡ pair_words p ++ words_from X (pair_after a) m = rw f (words_step X a m p w) in
    let more : words_of_pairs (take (i + 1) (set pairs i p)) ≡ words_of_pairs (take i pairs) ++ pair_words p = rw (take_more_set pairs i p h) (words_of_pairs-append (take i pairs) p) in
    k ∙ rw (two, more) (sym (append_assoc (words_of_pairs (take i pairs)) (pair_words p) (words_from X (pair_after a) m)))

-- writing one more pair of a block
put_on : (core words : List ℕ) (a : ℕ) (p : Pair) → core_put core (run_changes a (p.even ∷ (p.odd ∷ words))) ≡ core_put (core_put core (run_changes a (pair_words p))) (run_changes (pair_after a) words)
unfolding core_put
put_on core words a p = refl

pub block_put_on : (whole core new : List ℕ) (a i : ℕ) (pairs : List Pair) (p d : Pair) → i < length pairs → p ≡ get_or pairs i d → new ≡ core_put core (run_changes a (pair_words p))
    → whole ≡ core_put core (run_changes a (words_of_pairs (drop i pairs))) → whole ≡ core_put new (run_changes (pair_after a) (words_of_pairs (drop (i + 1) pairs)))
block_put_on whole core new a i pairs p d h e f k =
    let one : i + 1 ≡ suc i = add-one i in
    let cons : drop i pairs ≡ get_or pairs i d ∷ drop (suc i) pairs = drop-cons pairs i d h in
    let rest : drop i pairs ≡ p ∷ drop (i + 1) pairs = cc in
    k ∙ rw (rest, f) (put_on core (words_of_pairs (drop (i + 1) pairs)) a p)

-- the whole block was written
pub block_put_whole : (core : List ℕ) (a i : ℕ) (pairs : List Pair) → length pairs ≤ i → core_put core (run_changes a (words_of_pairs (drop i pairs))) ≡ core
block_put_whole core a i pairs h = rw (drop_of_length-le pairs h) (core_quiet core)

-- the whole block was read
no_words : (X : List ℕ) (a n : ℕ) → n ≤ 0 → words_from X a n ≡ []
unfolding words_from
no_words X a zero h = refl
no_words X a (suc n) h = absurd (omega arith)

pub block_read_whole : (X whole : List ℕ) (a n i : ℕ) (pairs : List Pair) → length pairs ≤ i → n ≤ 0 → whole ≡ words_of_pairs (take i pairs) ++ words_from X a n → whole ≡ words_of_pairs pairs
block_read_whole X whole a n i pairs h k e = e ∙ rw (no_words X a n k, take_all i pairs h) (append-nil (words_of_pairs pairs))

pub length-words_of_pairs : (pairs : List Pair) (n : ℕ) → length pairs ≡ n → length (words_of_pairs pairs) ≡ n + n
length-words_of_pairs [] n h = omega arith
length-words_of_pairs (p ∷ pairs) zero h = absurd (omega arith)
length-words_of_pairs (p ∷ pairs) (suc n) h = omega (arith, length-words_of_pairs pairs n (omega arith))
