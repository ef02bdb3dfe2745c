-- The numbers of words of an object follow from its sections.
use Rattle.std.proofs.Common.{ℕ, ◌≡◌, List, length, ap, ◌∙◌, arith}
use Rattle.obj36_parts.specs.PartsFields.{PartsFields}
use Rattle.obj36_parts.specs.ObjectSegment.{definition_section, linkage_section, outer_statics, symbol_section, Encodes}
use Rattle.m36_list.specs.Counts.{AreCountsOf}
use Rattle.m36_list.proofs.SectionPlaces.{sections_fit}

pub count_of : (p : PartsFields) (words whole text linkage statics symbol : List ℕ) (definition : ℕ) → Encodes p words → whole ≡ words → text ≡ p.text → definition ≡ length (definition_section p)
    → linkage ≡ linkage_section p → statics ≡ outer_statics p → symbol ≡ symbol_section p
    → AreCountsOf record { whole = length whole; text = length text; definition = definition; linkage = length linkage; statics = length statics; symbol = length symbol } p
count_of p words whole text linkage statics symbol definition stands w t d k s y =
    let a = ap length t in
    let b = ap length k in
    let e = ap length s in
    let f = ap length y in
    let small = sections_fit p stands.formed in
    record {
      whole = ap length (w ∙ stands.spelled);
      text = a;
      definition = d;
      linkage = b;
      statics = e;
      symbol = f;
      fits = omega arith;
    }
