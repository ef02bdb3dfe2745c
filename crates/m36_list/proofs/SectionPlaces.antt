-- The offsets of the sections of an object.
use Rattle.std.proofs.Common.{ℕ, ◌≡◌, ◌+◌, ◌*◌, ◌^◌, ◌≤◌, true, List, ◌++◌, length, append_assoc, arith}
use Rattle.obj36_parts.specs.PartsFields.{PartsFields}
use Rattle.obj36_parts.specs.ObjectSegment.{inner_statics, outer_statics, definition_section, linkage_section, first_link, symbol_section, is_well_formed}
use Rattle.obj36_parts.proofs.Formed.{is_formed}
use Rattle.obj36_parts.proofs.LengthLaws.{length-linkage_part, length-sections}
use Rattle.obj36.proofs.ReadingBack.{map_length}

-- All sections of an object and the map after them have at most 2^18 words.
pub sections_fit : (p : PartsFields) → is_well_formed p ≡ true
    → length p.text + length (definition_section p) + length (linkage_section p) + length (outer_statics p) + length (symbol_section p) + 7 ≤ 2 ^ 18
sections_fit p formed = omega (arith, (is_formed p formed).fits, length-sections p, map_length p)

-- the links are after the head and the static words
pub links_behind : (p : PartsFields) → length (linkage_section p) ≡ first_link p + 2 * length p.links
unfolding linkage_section
links_behind p = length-linkage_part (inner_statics p) p.links (2 + 2 * length p.definitions)

-- six texts joined
pub six : (old a b c d e f : List ℕ) → (((((old ++ a) ++ b) ++ c) ++ d) ++ e) ++ f ≡ old ++ (((((a ++ b) ++ c) ++ d) ++ e) ++ f)
six old a b c d e f = simp append_assoc

-- and five
pub five : (old a b c d e : List ℕ) → ((((old ++ a) ++ b) ++ c) ++ d) ++ e ≡ old ++ ((((a ++ b) ++ c) ++ d) ++ e)
five old a b c d e = simp append_assoc
