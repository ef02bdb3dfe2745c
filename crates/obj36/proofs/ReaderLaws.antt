-- The result of reading a list.
use Rattle.std.proofs.Common.{ℕ, zero, suc, ◌≡◌, ◌+◌, ◌-◌, ◌*◌, ◌^◌, ◌<◌, ◌≤◌, Bool, true, false, cond, eqb, List, length, take, drop, Option, Some, None, Err, refl, sym, ap, ◌∙◌, arith}
use Rattle.std.proofs.lemmas.List.{length-take, length-drop}
use Rattle.obj36_parts.specs.PartsFields.{PartsFields}
use Rattle.obj36.specs.declared.fault.ObjectFault.{ObjectFault}
use Rattle.obj36.specs.declared.fault.ObjectFault.TheVariants.{O1, O2, O3, O4, O5, O6, O7, O8, NoMemory}
use Rattle.obj36_parts.specs.ObjectSegment.{Encodes}
use Rattle.obj36_parts.specs.Sizes.{HasShortLists}
use Rattle.obj36_read.specs.Reading.{version_in, section_length_in_map, count_of_items, first_link_in_head, from_definition, from_linkage, from_statics, from_symbol, statics_in, definitions_in, links_in, relocations_in, parts_of}
use Rattle.obj36.specs.Faults.{o1_or_o2_or, length_or_map_fault, fault_after_map, first_fault, ObjectResult, IsReadAs, IsValueOf}
use Rattle.obj36_parts.proofs.Formed.{is_formed}
use Rattle.obj36.proofs.ReadingBack.{outline_back, values_apart}

-- ---- the parts that are decoded have short lists

definitions_few : (words : List ℕ) (at count : ℕ) → length (definitions_in words at count) ≡ count
unfolding definitions_in
definitions_few words at zero = refl
definitions_few words at (suc count) = ap suc (definitions_few words (at + 2) count)

links_few : (words : List ℕ) (at : ℕ) (linkage : List ℕ) (place count : ℕ) → length (links_in words at linkage place count) ≡ count
unfolding links_in
links_few words at linkage place zero = refl
links_few words at linkage place (suc count) = ap suc (links_few words (at + 2) linkage (place + 2) count)

relocations_few : (words : List ℕ) (at count : ℕ) → length (relocations_in words at count) ≡ count
unfolding relocations_in
relocations_few words at zero = refl
relocations_few words at (suc count) = ap suc (relocations_few words (at + 1) count)

count_few : (words part : List ℕ) (i : ℕ) → count_of_items words part i ≤ length words
unfolding count_of_items
count_few words part i = omega arith

take_few : (n : ℕ) (xs : List ℕ) → length (take n xs) ≤ length xs
take_few n xs = omega (arith, length-take n xs)

drop_few : (n : ℕ) (xs : List ℕ) → length (drop n xs) ≤ length xs
drop_few n xs = omega (arith, length-drop n xs)

statics_by : (words s k : List ℕ) (b : Bool) (m n : ℕ) → length s ≤ length words → length k ≤ length words → length (cond b (take m s) (take n k)) ≤ length words
statics_by words s k true m n le lf = omega (arith, take_few m s)
statics_by words s k false m n le lf = omega (arith, take_few n k)

statics_few : (words : List ℕ) → length (statics_in words) ≤ length words
unfolding statics_in from_statics from_linkage from_definition
statics_few words =
    let d = from_definition words in
    let k = from_linkage words in
    let d_few : length d ≤ length words = drop_few (section_length_in_map words 1) words in
    let k_few : length k ≤ length words = omega (arith, drop_few (section_length_in_map words 2) d) in
    let s_few : length (from_statics words) ≤ length words = omega (arith, drop_few (section_length_in_map words 3) k) in
    let inner_few : length (drop 8 k) ≤ length words = omega (arith, drop_few 8 k) in
    statics_by words (from_statics words) (drop 8 k) (eqb (version_in words) 2) (section_length_in_map words 4) (first_link_in_head words - 8) s_few inner_few

pub short_parts : (words : List ℕ) → length words < 2 ^ 32 → HasShortLists (parts_of words)
unfolding parts_of
short_parts words lt = record {
  text = omega (arith, take_few (section_length_in_map words 1) words);
  statics = omega (arith, statics_few words);
  definitions = omega (arith, definitions_few (from_definition words) 2 (count_of_items words (from_definition words) 0), count_few words (from_definition words) 0);
  links =
      omega (
        arith,
        links_few (from_definition words) (2 + 2 * count_of_items words (from_definition words) 0) (from_linkage words) (first_link_in_head words) (count_of_items words (from_definition words) 1),
        count_few words (from_definition words) 1,
      );
  relocations = omega (arith, relocations_few (from_symbol words) 1 (count_of_items words (from_symbol words) 0), count_few words (from_symbol words) 0);
}

-- ---- the fault that is found before the parts are decoded

pub outline_stands : (words : List ℕ) (f : ObjectFault) → Some f ≡ length_or_map_fault words → (p : PartsFields) → Encodes p words → ⊥
outline_stands words f e p s =
    let none : length_or_map_fault words ≡ None = ap length_or_map_fault s.spelled ∙ outline_back p (is_formed p s.formed) in
    let wrong : Some f ≡ None = e ∙ none in
    absurd cc

pub outline_first : (words : List ℕ) (f : ObjectFault) → Some f ≡ length_or_map_fault words → f ≡ first_fault words
unfolding first_fault
outline_first words f e = ap (λ (o : Option ObjectFault). o1_or_o2_or o (fault_after_map words)) e

pub behind_first : (words : List ℕ) (f : ObjectFault) → None ≡ length_or_map_fault words → f ≡ fault_after_map words → f ≡ first_fault words
unfolding first_fault
behind_first words f none e = e ∙ ap (λ (o : Option ObjectFault). o1_or_o2_or o (fault_after_map words)) none

-- ---- the result

pub refused : (words : List ℕ) (f : ObjectFault) → f ≡ first_fault words → IsValueOf words None → ObjectResult words (Err f)
refused words (O1 place) e none = record { first = sym e; stands_for_none = none }
refused words (O2 place) e none = record { first = sym e; stands_for_none = none }
refused words (O3 place) e none = record { first = sym e; stands_for_none = none }
refused words (O4 place) e none = record { first = sym e; stands_for_none = none }
refused words (O5 place) e none = record { first = sym e; stands_for_none = none }
refused words (O6 place) e none = record { first = sym e; stands_for_none = none }
refused words (O7 place) e none = record { first = sym e; stands_for_none = none }
refused words (O8 place) e none = record { first = sym e; stands_for_none = none }
refused words NoMemory e none = tt

pub read_as : (words : List ℕ) (q p : PartsFields) → Encodes q words → Encodes p words → q ≡ p
read_as words q p s t = values_apart q p words s t

pub never_read : (words : List ℕ) (f : ObjectFault) → Some f ≡ length_or_map_fault words → (p : PartsFields) → Encodes p words → IsReadAs p (Err f)
never_read words f e p s = absurd (outline_stands words f e p s)
