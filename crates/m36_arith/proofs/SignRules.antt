-- Products, quotients and remainders of signed numbers, by signs and magnitudes.
use Rattle.std.proofs.Common.{ℕ, zero, suc, ◌≡◌, ◌+◌, ◌-◌, ◌*◌, ◌/◌, ◌%◌, ◌^◌, ◌<◌, ◌≤◌, Bool, true, false, ℤ, pos, neg_ℤ, ◌*ℤ◌, refl, sym, ap, ◌∙◌, inl, inr, arith}
use Rattle.std.specs.Prelude.{int_div, int_rem, unsigned_abs}
use Rattle.std.proofs.lemmas.Bool.{cases_lt, lt-leb, le-leb}
use Rattle.std.proofs.lemmas.Int.{ints}
use Rattle.std.proofs.Math.Nat.{mul-zero, zero-mul, zero-div, zero-mod, mod-eq_of_lt, mod_self}
use Rattle.m36_word.specs.Signed.{signed}
use Rattle.m36_model.specs.Arithmetic.{is_negative, modulo, product, quotient, remainder}
use Rattle.m36_model.specs.Booleans.{xor_bit}
use Rattle.m36_arith.specs.Signs.{with_sign}

-- the first bit of a number decides its sign
pub positive : (half v m : ℕ) → v < half → m ≡ v → signed half v ≡ pos m
unfolding signed
positive half v m low e = grind (arith, ints)

pub negative : (half v m : ℕ) → half ≤ v → m + v ≡ 2 * half → signed half v ≡ neg_ℤ (pos m)
unfolding signed
negative half v m high e = grind (arith, ints)

pub signed_is : (half v m : ℕ) → (v < half → m ≡ v) → (half ≤ v → m + v ≡ 2 * half) → signed half v ≡ with_sign (is_negative half v) m
signed_is half v m low high =
    elim (cases_lt v half) [
      | inl below ↦ positive half v m below (low below) ∙ sym (ap (λ s. with_sign s m) (lt-leb half v below))
      | inr above ↦ negative half v m above (high above) ∙ sym (ap (λ s. with_sign s m) (le-leb half v above))
    ]

-- zero is its own negative
no_sign : (n : ℕ) → n ≡ 0 → pos n ≡ neg_ℤ (pos n)
no_sign n e = ap pos e ∙ sym (ap (λ k. neg_ℤ (pos k)) e)

products : (s t : Bool) (a b : ℕ) → with_sign s a *ℤ with_sign t b ≡ with_sign (xor_bit s t) (a * b)
products false false a b = refl
products false true a zero = no_sign (a * 0) (mul-zero a)
products false true a (suc b) = refl
products true false zero b = no_sign (0 * b) (zero-mul b)
products true false (suc a) b = refl
products true true zero zero = refl
products true true zero (suc b) = sym (no_sign (0 * suc b) (zero-mul (suc b)))
products true true (suc a) zero = sym (no_sign (suc a * 0) (mul-zero (suc a)))
products true true (suc a) (suc b) = refl

pub quotients : (s t : Bool) (a b : ℕ) → int_div (with_sign s a) (with_sign t (suc b)) ≡ with_sign (xor_bit s t) (a / suc b)
quotients false false a b = refl
quotients false true a b = refl
quotients true false zero b = no_sign (0 / suc b) (zero-div (suc b))
quotients true false (suc a) b = refl
quotients true true zero b = sym (no_sign (0 / suc b) (zero-div (suc b)))
quotients true true (suc a) b = refl

magnitude_of : (t : Bool) (b : ℕ) → unsigned_abs (with_sign t b) ≡ b
magnitude_of false b = refl
magnitude_of true zero = refl
magnitude_of true (suc b) = refl

remainders : (s : Bool) (a : ℕ) (d : ℤ) → int_rem (with_sign s a) d ≡ with_sign s (a % unsigned_abs d)
remainders false a d = refl
remainders true zero d = no_sign (0 % unsigned_abs d) (zero-mod (unsigned_abs d))
remainders true (suc a) d = refl

pub product_is : (x y a b : ℕ) (s t : Bool) → signed (2 ^ 35) x ≡ with_sign s a → signed (2 ^ 35) y ≡ with_sign t b → product x y ≡ modulo (with_sign (xor_bit s t) (a * b)) (2 ^ 72)
unfolding product
product_is x y a b s t p q = rw (p, q) (ap (λ z. modulo z (2 ^ 72)) (products s t a b))

pub quotient_is : (x y a b : ℕ) (s t : Bool) → signed (2 ^ 35) x ≡ with_sign s a → signed (2 ^ 35) y ≡ with_sign t b → 0 < b → quotient x y ≡ modulo (with_sign (xor_bit s t) (a / b)) (2 ^ 36)
unfolding quotient
quotient_is x y a zero s t p q some = absurd (omega arith)
quotient_is x y a (suc b) s t p q some = rw (p, q) (ap (λ z. modulo z (2 ^ 36)) (quotients s t a b))

pub remainder_is : (x y a b : ℕ) (s t : Bool) → signed (2 ^ 35) x ≡ with_sign s a → signed (2 ^ 35) y ≡ with_sign t b → remainder x y ≡ modulo (with_sign s (a % b)) (2 ^ 36)
unfolding remainder
remainder_is x y a b s t p q =
    rw (p, q) (ap (λ z. modulo z (2 ^ 36)) (remainders s a (with_sign t b) ∙ ap (λ n. with_sign s (a % n)) (magnitude_of t b)))

-- a magnitude with a sign, as a number of the width
pub plain_is : (m n : ℕ) → m < n → modulo (with_sign false m) n ≡ m
unfolding modulo
plain_is m n below = mod-eq_of_lt below

pub turned_is : (m n : ℕ) → m ≤ n → 0 < n → modulo (with_sign true m) n ≡ (n - m) % n
unfolding modulo
turned_is zero n within some = zero-mod n ∙ sym (ap (λ k. k % n) (omega arith) ∙ mod_self n)
turned_is (suc m) n within some =
    let small : m < n = omega arith in
    let less : n - suc m < n = omega arith in
    ap (λ k. n - 1 - k) (mod-eq_of_lt small) ∙ (omega arith ∙ sym (mod-eq_of_lt less))
