-- Indicators that are stored are loaded back.
use Rattle.std.proofs.Common.{◌≡◌, Bool, true, false, refl}
use Rattle.m36_model.specs.Loads.{indicators_of}
use Rattle.m36_model.specs.Stores.{indicators_half, IndicatorsRoundTrip}
use Rattle.m36_model.specs.declared.registers.Ind.{Ind}

abbrev six : (zero negative carry overflow mask tally : Bool) → Ind
six zero negative carry overflow mask tally = record { zero = zero; negative = negative; carry = carry; overflow = overflow; mask = mask; tally = tally }

by_bits : (zero negative carry overflow mask tally : Bool) → indicators_of (indicators_half (six zero negative carry overflow mask tally)) ≡ six zero negative carry overflow mask tally
unfolding indicators_of indicators_half
by_bits true true true true true true = refl
by_bits true true true true true false = refl
by_bits true true true true false true = refl
by_bits true true true true false false = refl
by_bits true true true false true true = refl
by_bits true true true false true false = refl
by_bits true true true false false true = refl
by_bits true true true false false false = refl
by_bits true true false true true true = refl
by_bits true true false true true false = refl
by_bits true true false true false true = refl
by_bits true true false true false false = refl
by_bits true true false false true true = refl
by_bits true true false false true false = refl
by_bits true true false false false true = refl
by_bits true true false false false false = refl
by_bits true false true true true true = refl
by_bits true false true true true false = refl
by_bits true false true true false true = refl
by_bits true false true true false false = refl
by_bits true false true false true true = refl
by_bits true false true false true false = refl
by_bits true false true false false true = refl
by_bits true false true false false false = refl
by_bits true false false true true true = refl
by_bits true false false true true false = refl
by_bits true false false true false true = refl
by_bits true false false true false false = refl
by_bits true false false false true true = refl
by_bits true false false false true false = refl
by_bits true false false false false true = refl
by_bits true false false false false false = refl
by_bits false true true true true true = refl
by_bits false true true true true false = refl
by_bits false true true true false true = refl
by_bits false true true true false false = refl
by_bits false true true false true true = refl
by_bits false true true false true false = refl
by_bits false true true false false true = refl
by_bits false true true false false false = refl
by_bits false true false true true true = refl
by_bits false true false true true false = refl
by_bits false true false true false true = refl
by_bits false true false true false false = refl
by_bits false true false false true true = refl
by_bits false true false false true false = refl
by_bits false true false false false true = refl
by_bits false true false false false false = refl
by_bits false false true true true true = refl
by_bits false false true true true false = refl
by_bits false false true true false true = refl
by_bits false false true true false false = refl
by_bits false false true false true true = refl
by_bits false false true false true false = refl
by_bits false false true false false true = refl
by_bits false false true false false false = refl
by_bits false false false true true true = refl
by_bits false false false true true false = refl
by_bits false false false true false true = refl
by_bits false false false true false false = refl
by_bits false false false false true true = refl
by_bits false false false false true false = refl
by_bits false false false false false true = refl
by_bits false false false false false false = refl

pub indicators_come_back : IndicatorsRoundTrip
indicators_come_back i = by_bits i.zero i.negative i.carry i.overflow i.mask i.tally
