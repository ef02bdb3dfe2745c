-- A map that was encoded is valid, so such a list has no fault before its sections.
use Rattle.std.proofs.Common.{ℕ, ◌≡◌, ◌+◌, ◌-◌, ◌^◌, ◌<◌, ◌≤◌, Bool, true, false, cond, not, eqb, leb, List, [], ◌∷◌, ◌++◌, length, Some, None, refl, ap, ◌∙◌, arith}
use Rattle.std.specs.Prelude.{slice_index}
use Rattle.std.specs.Option.{option_map}
use Rattle.std.proofs.lemmas.Bool.{and_from, or_left, or_right, eq-eqb, le-leb, le-ltb}
use Rattle.std.proofs.lemmas.List.{length-append}
use Rattle.m36_text.specs.Lines.{first_true_case}
use Rattle.obj36_parts.specs.Halves.{left, right, word_with_halves}
use Rattle.obj36_parts.specs.ObjectSegment.{map_part}
use Rattle.obj36_read.specs.Reading.{map_index, version_in, section_length_in_map, bound_index}
use Rattle.obj36_read.specs.MapFaults.{locates_map, is_valid_entry_bound, map_word_fault, map_fault}
use Rattle.obj36.specs.Faults.{length_or_map_fault}
use Rattle.obj36.specs.declared.fault.ObjectFault.TheVariants.{O1, O2}
use Rattle.obj36.proofs.TableReading.{left_joined, right_joined}
use Rattle.obj36.proofs.MapReading.{in_map, placed, mapped}

none_of_three : (a b c : Bool) (x y z : ℕ) → a ≡ false → b ≡ false → c ≡ false → first_true_case ((a, x) ∷ (b, y) ∷ (c, z) ∷ []) ≡ None
unfolding first_true_case
none_of_three a b c x y z e f g = λ i. cond (e i) (Some x) (cond (f i) (Some y) (cond (g i) (Some z) None))

bound_right : (words : List ℕ) (w b t : ℕ) → w ≡ word_with_halves b 0 → slice_index words (map_index words + 1) ≡ word_with_halves 0 t → b ≤ t → t < 2 ^ 18 → is_valid_entry_bound words w ≡ true
unfolding is_valid_entry_bound section_length_in_map
bound_right words w b t e f le lt =
    let none : right w ≡ 0 = ap right e ∙ right_joined b 0 (omega arith) in
    let bound : left w ≡ b = ap left e ∙ left_joined b 0 (omega arith) in
    let text : right (slice_index words (map_index words + 1)) ≡ t = ap right f ∙ right_joined 0 t lt in
    and_from (eqb (right w) 0) (leb (left w) (right (slice_index words (map_index words + 1)))) (eq-eqb (right w) 0 none)
    (le-leb (left w) (right (slice_index words (map_index words + 1))) (omega arith))

fixed_right : (words : List ℕ) (version x : ℕ) → slice_index words (map_index words) ≡ version
    → is_valid_entry_bound words (slice_index words (map_index words + bound_index version)) ≡ true → slice_index words (length words - 1) ≡ word_with_halves x 0 → map_word_fault words version ≡ None
unfolding map_word_fault
fixed_right words version x e f g =
    let last : right (slice_index words (length words - 1)) ≡ 0 = ap right g ∙ right_joined x 0 (omega arith) in
    none_of_three (not (eqb (slice_index words (map_index words)) version)) (not (is_valid_entry_bound words (slice_index words (map_index words + bound_index version)))) (not (eqb (right (slice_index words (length words - 1))) 0))
    (map_index words) (map_index words + bound_index version) (length words - 1)
    (ap not (eq-eqb (slice_index words (map_index words)) version e)) (ap not f) (ap not (eq-eqb (right (slice_index words (length words - 1))) 0 last))

map_told : (words : List ℕ) (version : ℕ) → locates_map words ≡ true → version_in words ≡ version → map_word_fault words version ≡ None → map_fault words ≡ None
unfolding map_fault
map_told words version e f g =
    ap (λ b. cond b (map_word_fault words (version_in words)) (Some (length words - 1))) e ∙ ap (map_word_fault words) f ∙ g

outline_none : (words : List ℕ) → 7 ≤ length words → map_fault words ≡ None → length_or_map_fault words ≡ None
unfolding length_or_map_fault
outline_none words le e =
    (λ i. cond (le-ltb (length words) 7 le i) (Some (O1 (length words))) (option_map O2 (e i)))

pub outline_right : (newer : Bool) (front : List ℕ) (t d k s y b : ℕ) → t + d + k + s + y ≡ length front → length front < 2 ^ 18 → b ≤ t → length_or_map_fault (front ++ map_part newer t d k s y b) ≡ None
unfolding map_part locates_map word_with_halves
outline_right true front t d k s y b e lt le =
    let m = map_part true t d k s y b in
    let words = front ++ m in
    let place : map_index words ≡ length front = placed front m 7 refl (ap (λ n. word_with_halves n 0) e) lt in
    let long : length words ≡ length front + 8 = length-append front m in
    let version : version_in words ≡ 2 = (mapped true front t d k s y b e lt (omega arith)).version in
    let told : locates_map words ≡ true =
    or_right (eqb (map_index words + 7) (length words)) (eqb (map_index words + 8) (length words)) (eq-eqb (map_index words + 8) (length words) (omega arith))
    in
    let text : slice_index words (map_index words + 1) ≡ word_with_halves 0 t = in_map front m 1 (map_index words + 1) (omega arith) in
    let bound : slice_index words (map_index words + 6) ≡ word_with_halves b 0 = in_map front m 6 (map_index words + 6) (omega arith) in
    let last : slice_index words (length words - 1) ≡ word_with_halves (t + d + k + s + y) 0 = in_map front m 7 (length words - 1) (omega arith) in
    let first : slice_index words (map_index words) ≡ 2 = in_map front m 0 (map_index words) (omega arith) in
    outline_none words (omega arith)
    (map_told words 2 told version
    (fixed_right words 2 (t + d + k + s + y) first (bound_right words (slice_index words (map_index words + 6)) b t bound text le (omega arith)) last))
outline_right false front t d k s y b e lt le =
    let m = map_part false t d k s y b in
    let words = front ++ m in
    let place : map_index words ≡ length front = placed front m 6 refl (ap (λ n. word_with_halves n 0) e) lt in
    let long : length words ≡ length front + 7 = length-append front m in
    let version : version_in words ≡ 1 = (mapped false front t d k s y b e lt (omega arith)).version in
    let told : locates_map words ≡ true =
    or_left (eqb (map_index words + 7) (length words)) (eqb (map_index words + 8) (length words)) (eq-eqb (map_index words + 7) (length words) (omega arith))
    in
    let text : slice_index words (map_index words + 1) ≡ word_with_halves 0 t = in_map front m 1 (map_index words + 1) (omega arith) in
    let bound : slice_index words (map_index words + 5) ≡ word_with_halves b 0 = in_map front m 5 (map_index words + 5) (omega arith) in
    let last : slice_index words (length words - 1) ≡ word_with_halves (t + d + k + s + y) 0 = in_map front m 6 (length words - 1) (omega arith) in
    let first : slice_index words (map_index words) ≡ 1 = in_map front m 0 (map_index words) (omega arith) in
    outline_none words (omega arith)
    (map_told words 1 told version
    (fixed_right words 1 (t + d + k + s + y) first (bound_right words (slice_index words (map_index words + 5)) b t bound text le (omega arith)) last))
