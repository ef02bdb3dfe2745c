-- The word of a negative number means this number.
use Rattle.std.proofs.Common.{ℕ, zero, suc, ◌≡◌, ◌+◌, ◌-◌, ◌*◌, ◌%◌, ◌^◌, ◌≤◌, pos, neg_ℤ, refl, arith}
use Rattle.std.proofs.lemmas.Int.{ints}
use Rattle.m36_word.specs.Signed.{signed}
use Rattle.alm_tokens.specs.Numerals.{NegativesAreTwosComplement}

-- a word of at least half the range, and the magnitude that complements it to the range
complement : (half v m : ℕ) → half ≤ v → m + v ≡ 2 * half → signed half v ≡ neg_ℤ (pos m)
unfolding signed
complement half v m high e = grind (arith, ints)

no_magnitude : signed (2 ^ 35) 0 ≡ neg_ℤ (pos 0)
unfolding signed
no_magnitude = refl

pub negatives_mean : NegativesAreTwosComplement
negatives_mean zero within = no_magnitude
negatives_mean (suc m) within =
    let v = (2 ^ 36 - suc m) % 2 ^ 36 in
    let high : 2 ^ 35 ≤ v = omega arith in
    let sum : suc m + v ≡ 2 * 2 ^ 35 = omega arith in
    complement (2 ^ 35) v (suc m) high sum
