-- The number of numbers below n that pass a test.
use Rattle.std.proofs.Common.{◌≡◌, ◌≢◌, ℕ, zero, suc, ◌+◌, ◌<◌, ◌≤◌, refl, sym, ◌∙◌, ap, inl, inr, arith}
use Rattle.std.specs.Prelude.{◌⊎◌, Bool, true, false}
use Rattle.std.proofs.lemmas.Bool.{cases_eq}
use Rattle.m36_word.specs.Bits.{of_bit}
use Rattle.m36_word.proofs.BitLaws.{bit_small}
use Rattle.m36_audit.specs.Runs.{count_below}

pub count_most : (test : ℕ → Bool) (n : ℕ) → count_below test n ≤ n
unfolding count_below
count_most test zero = omega arith
count_most test (suc n) =
    let before = count_most test n in
    let one = bit_small (test n) in
    omega arith

pub count_more : (test : ℕ → Bool) (n : ℕ) → count_below test (n + 1) ≡ count_below test n + of_bit (test n)
unfolding count_below
count_more test n =
    let e : n + 1 ≡ suc n = omega arith in
    ap (count_below test) e

pub count_zero : (test : ℕ → Bool) → count_below test 0 ≡ 0
unfolding count_below
count_zero test = refl

pub count_same : (f g : ℕ → Bool) (n : ℕ) → ((i : ℕ) → f i ≡ g i) → count_below f n ≡ count_below g n
unfolding count_below
count_same f g zero same = refl
count_same f g (suc n) same =
    let before = count_same f g n same in
    let here : of_bit (f n) ≡ of_bit (g n) = ap of_bit (same n) in
    omega arith

-- a test that passes if exactly one of two others passes
pub count_sum : (f g h : ℕ → Bool) (n : ℕ) → ((i : ℕ) → of_bit (f i) ≡ of_bit (g i) + of_bit (h i)) → count_below f n ≡ count_below g n + count_below h n
unfolding count_below
count_sum f g h zero sum = refl
count_sum f g h (suc n) sum =
    let before = count_sum f g h n sum in
    let here = sum n in
    omega arith

pub count_none : (f : ℕ → Bool) (n : ℕ) → ((i : ℕ) → f i ≡ false) → count_below f n ≡ 0
unfolding count_below
count_none f zero none = refl
count_none f (suc n) none =
    let before = count_none f n none in
    let here : of_bit (f n) ≡ 0 = ap of_bit (none n) in
    omega arith

-- no number from n up to n + more passes
pub count_past : (f : ℕ → Bool) (n more : ℕ) → ((i : ℕ) → n ≤ i → i < n + more → f i ≡ false) → count_below f (n + more) ≡ count_below f n
count_past f n zero none = let e : n + zero ≡ n = omega arith in ap (count_below f) e
count_past f n (suc more) none =
    let e : n + suc more ≡ (n + more) + 1 = omega arith in
    let here : of_bit (f (n + more)) ≡ 0 = ap of_bit (none (n + more) (omega arith) (omega arith)) in
    let step = count_more f (n + more) in
    let before = count_past f n more (λ i far near. none i far (omega arith)) in
    let with_number : count_below f (n + suc more) ≡ count_below f ((n + more) + 1) = ap (count_below f) e in
    omega arith

-- a number below n that passes
pub record Passes (f : ℕ → Bool) (n : ℕ) : Type 0 where
  pub at : ℕ
  pub below : at < n
  pub passes : f at ≡ true

-- two of them
pub record PassTwice (f : ℕ → Bool) (n : ℕ) : Type 0 where
  pub at : ℕ
  pub other : ℕ
  pub below : at < n
  pub other_below : other < n
  pub passes : f at ≡ true
  pub other_passes : f other ≡ true
  pub differ : at ≢ other

further : (f : ℕ → Bool) (n : ℕ) → Passes f n → Passes f (suc n)
further f n k = let lt = k.below in record { at = k.at; below = omega arith; passes = k.passes }

one_by : (f : ℕ → Bool) (n : ℕ) (b : Bool) → f n ≡ b → (1 ≤ count_below f n → Passes f n) → 1 ≤ count_below f n + of_bit b → Passes f (suc n)
one_by f n true e before h = record { at = n; below = omega arith; passes = e }
one_by f n false e before h = further f n (before (omega arith))

pub one : (f : ℕ → Bool) (n : ℕ) → 1 ≤ count_below f n → Passes f n
unfolding count_below
one f zero h = absurd (omega arith)
one f (suc n) h = one_by f n (f n) refl (one f n) h

two_by : (f : ℕ → Bool) (n : ℕ) (b : Bool) → f n ≡ b → (2 ≤ count_below f n → PassTwice f n) → 2 ≤ count_below f n + of_bit b → PassTwice f (suc n)
two_by f n true e before h =
    let k = one f n (omega arith) in
    let lt = k.below in
    record { at = k.at; other = n; below = omega arith; other_below = omega arith; passes = k.passes; other_passes = e; differ = omega arith }
two_by f n false e before h =
    let k = before (omega arith) in
    let lt = k.below in
    let other_lt = k.other_below in
    record { at = k.at; other = k.other; below = omega arith; other_below = omega arith; passes = k.passes; other_passes = k.other_passes; differ = k.differ }

pub two : (f : ℕ → Bool) (n : ℕ) → 2 ≤ count_below f n → PassTwice f n
unfolding count_below
two f zero h = absurd (omega arith)
two f (suc n) h = two_by f n (f n) refl (two f n) h

pub at_least_one : (f : ℕ → Bool) (n i : ℕ) → i < n → f i ≡ true → 1 ≤ count_below f n
unfolding count_below
at_least_one f zero i lt h = absurd (omega arith)
at_least_one f (suc n) i lt h = at (λ below. at_least_one f n i below h) (cases_eq i n)
  where
    at : (i < n → 1 ≤ count_below f n) → (i ≡ n) ⊎ (i ≡ n → ⊥) → 1 ≤ count_below f n + of_bit (f n)
    at rest (inl e) =
        let here : of_bit (f n) ≡ 1 = ap of_bit (ap f (sym e) ∙ h) in
        omega arith
    at rest (inr far) =
        let before = rest (omega arith) in
        omega arith

pub at_least_two : (f : ℕ → Bool) (n i j : ℕ) → i < n → j < n → i ≢ j → f i ≡ true → f j ≡ true → 2 ≤ count_below f n
unfolding count_below
at_least_two f zero i j lt lt_too differ h k = absurd (omega arith)
at_least_two f (suc n) i j lt lt_too differ h k = at (λ below other_below. at_least_two f n i j below other_below differ h k) (cases_eq i n) (cases_eq j n)
  where
    at : (i < n → j < n → 2 ≤ count_below f n) → (i ≡ n) ⊎ (i ≡ n → ⊥) → (j ≡ n) ⊎ (j ≡ n → ⊥) → 2 ≤ count_below f n + of_bit (f n)
    at rest (inl e) (inl g) = absurd (differ (e ∙ sym g))
    at rest (inl e) (inr far) =
        let here : of_bit (f n) ≡ 1 = ap of_bit (ap f (sym e) ∙ h) in
        let before = at_least_one f n j (omega arith) k in
        omega arith
    at rest (inr far) (inl g) =
        let here : of_bit (f n) ≡ 1 = ap of_bit (ap f (sym g) ∙ k) in
        let before = at_least_one f n i (omega arith) h in
        omega arith
    at rest (inr far) (inr far_too) =
        let before = rest (omega arith) (omega arith) in
        omega arith
