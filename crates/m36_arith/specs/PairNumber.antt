-- A pair of words is determined by its number.
use Rattle.std.proofs.Common.{◌≡◌, ◌%◌, ◌^◌, ◌<◌, ap, ◌∙◌}
use Rattle.std.proofs.lemmas.Nat.{shr_high, mod_low}
use Rattle.std.proofs.Math.Nat.{mod-eq_of_lt}
use Rattle.m36_word.specs.declared.pair.Pair.{Pair}
use Rattle.m36_word.specs.Pairs.{number_of, pair_of}

pub pair_back : (p : Pair) → p.even < 2 ^ 36 → p.odd < 2 ^ 36 → pair_of (number_of p) ≡ p
pair_back p in_even in_odd =
    λ i. record {
      even = (ap (λ n. n % 2 ^ 36) (shr_high p.even 36 p.odd in_odd) ∙ mod-eq_of_lt in_even) i;
      odd = mod_low p.even 36 p.odd in_odd i;
    }
