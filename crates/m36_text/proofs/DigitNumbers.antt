-- `digits` and `number_from_digits` are inverse.
use Rattle.std.proofs.Common.{ℕ, zero, suc, ◌≡◌, ◌+◌, ◌*◌, ◌/◌, ◌%◌, ◌^◌, ◌<◌, List, [], ◌∷◌, length, refl, arith}
use Rattle.std.specs.Int.Digits.{AllBelowBase, number_from_digits, number_from_digits_after}
use Rattle.std.proofs.lemmas.Int.Digits.{number_lt}
use Rattle.std.proofs.lemmas.Nat.{div-mul-add, mod-mul-add}
use Rattle.std.proofs.Math.Nat.{pow-zero, pow-suc, mod-eq_of_lt, mod-one, one-le-pow}
use lib.Arith.{mod-mul}
use Rattle.m36_text.specs.Digits.{digits}

-- the digits before these count by their places
number_after_is : (base n : ℕ) (ds : List ℕ) → number_from_digits_after base n ds ≡ n * base ^ length ds + number_from_digits base ds
number_after_is base n [] = rw (pow-zero base) (omega arith)
number_after_is base n (d ∷ ds) =
    rw (number_after_is base (n * base + d) ds, number_after_is base (0 * base + d) ds, pow-suc base (length ds)) (omega arith)

-- the number of a number's last digits is the remainder by their power
number_digits_after : (base places n v : ℕ) → 0 < base
    → number_from_digits_after base n (digits base places v) ≡ n * base ^ places + v % base ^ places
unfolding digits
number_digits_after base zero n v some = rw (pow-zero base, mod-one v) (omega arith)
number_digits_after base (suc places) n v some =
    rw (number_digits_after base places (n * base + v / base ^ places % base) v some, pow-suc base places)
    (let split : v % (base * base ^ places) ≡ v / base ^ places % base * base ^ places + v % base ^ places =
    mod-mul v some (one-le-pow places base some) in
    let turned : base ^ places * base ≡ base * base ^ places = omega arith in
    rw (turned, split) (omega arith))

pub number_of_digits : (base places v : ℕ) → 0 < base → v < base ^ places → number_from_digits base (digits base places v) ≡ v
number_of_digits base places v some fits = rw (number_digits_after base places 0 v some, mod-eq_of_lt fits) (omega arith)

digits_of_number_after : (base n : ℕ) (ds : List ℕ) → AllBelowBase base ds → digits base (length ds) (number_from_digits_after base n ds) ≡ ds
unfolding digits
digits_of_number_after base n [] below = refl
digits_of_number_after base n (d ∷ ds) below =
    let high : number_from_digits_after base (n * base + d) ds / base ^ length ds ≡ n * base + d =
    rw (number_after_is base (n * base + d) ds) (div-mul-add (n * base + d) (base ^ length ds) (number_from_digits base ds) (number_lt base ds below.1)) in
    let first : number_from_digits_after base (n * base + d) ds / base ^ length ds % base ≡ d =
    rw high (mod-mul-add n base d below.0) in
    λ i. first i ∷ digits_of_number_after base (n * base + d) ds below.1 i

pub digits_of_number : (base : ℕ) (ds : List ℕ) → AllBelowBase base ds → digits base (length ds) (number_from_digits base ds) ≡ ds
digits_of_number base ds below = digits_of_number_after base 0 ds below
