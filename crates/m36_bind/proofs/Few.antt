-- The parts of an object have few items.
use Rattle.std.proofs.Common.{◌≡◌, true, sym, subst, arith}
use Rattle.obj36_parts.specs.PartsFields.{PartsFields}
use Rattle.obj36_parts.specs.ObjectSegment.{is_well_formed}
use Rattle.obj36_parts.proofs.Formed.{is_formed}
use Rattle.obj36_parts.proofs.LengthLaws.{length-words_of}
use Rattle.m36_bind.specs.Components.{HasShortParts}

few_of : (p : PartsFields) → is_well_formed p ≡ true → HasShortParts p
few_of p e =
    let small = (is_formed p e).fits in
    record {
      text = omega (arith, small, length-words_of p);
      statics = omega (arith, small, length-words_of p);
      links = omega (arith, small, length-words_of p);
    }

pub few_parts : (q p : PartsFields) → q ≡ p → is_well_formed p ≡ true → HasShortParts q
few_parts q p same e = let P : PartsFields → Type 0 = HasShortParts in subst P (sym same) (few_of p e)
