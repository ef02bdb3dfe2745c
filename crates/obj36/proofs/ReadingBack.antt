-- Parts that were encoded are decoded as themselves, so different parts have different lists.
use Rattle.std.proofs.Common.{ℕ, ◌≡◌, ◌+◌, ◌*◌, ◌^◌, ◌<◌, ◌≤◌, Bool, true, false, cond, ◌||◌, eqb, List, [], ◌∷◌, ◌++◌, length, None, refl, sym, ap, ◌∙◌, append_assoc, arith}
use Rattle.std.specs.Prelude.{slice_index}
use Rattle.std.specs.List.{list_any, list_all}
use Rattle.std.proofs.lemmas.Bool.{or_left, or_right, eqb-true}
use Rattle.std.proofs.lemmas.List.{length-append}
use Rattle.std.proofs.lemmas.List.Folds.{list_any-append}
use Rattle.obj36_parts.specs.Fields.{LinkFields, RelocFields}
use Rattle.obj36_parts.specs.PartsFields.{PartsFields}
use Rattle.obj36_parts.specs.declared.definition.Named.{Named}
use Rattle.obj36_parts.specs.Halves.{word_with_halves}
use Rattle.obj36_parts.specs.Names.{same, with_names, name_offset, all_name_words}
use Rattle.obj36_parts.specs.ObjectSegment.{is_newer, inner_statics, outer_statics, offset_if_any, definition_names, all_link_names, definition_words, expression_words, definition_part, definition_section, link_words, linkage_part, linkage_section, symbol_part, symbol_section, map_words, words_of, is_valid_definition, is_valid_link, is_valid_relocation, is_well_formed, Encodes, WordsDetermineParts}
use Rattle.obj36_parts.specs.Sizes.{distinct_names_size}
use Rattle.obj36_read.specs.Reading.{version_in, count_of_items, from_definition, from_linkage, from_symbol, first_link_in_head, statics_in, definitions_in, links_in, relocations_in, parts_of}
use Rattle.obj36_parts.proofs.Formed.{IsFormed, is_formed}
use Rattle.obj36_parts.proofs.SizeLaws.{any_among}
use Rattle.obj36_parts.proofs.LengthLaws.{small_sections, length-definition_words, length-expression_words, length-definition_part, length-linkage_part, length-symbol_part, length-words_of, length-map_part, length-sections}
use Rattle.obj36.proofs.NameReading.{IsGood, IsRead, names_read}
use Rattle.obj36.proofs.TableReading.{definitions_back, links_back, relocations_back}
use Rattle.obj36.proofs.TablesStand.{AreRead, definitions_stand, links_stand, relocations_stand}
use Rattle.obj36.specs.Faults.{length_or_map_fault}
use Rattle.obj36.proofs.MapStands.{outline_right}
use Rattle.obj36.proofs.MapReading.{IsMapped, mapped, IsCut, cut, first_is, statics_are, count_is}

-- ---- the definition section and what follows it

-- the names of definitions and links
abbrev names : List Named → List LinkFields → List (List ℕ)
names ds ls = with_names [] (definition_names ds ++ all_link_names ls)

abbrev base : List Named → List LinkFields → ℕ
base ds ls = 2 + 2 * length ds + 2 * length ls

abbrev head : List Named → List LinkFields → List ℕ
head ds ls = word_with_halves (offset_if_any (length ds) 2) (length ds) ∷ word_with_halves (offset_if_any (length ls) (2 + 2 * length ds)) (length ls) ∷ []

from_table : (ds : List Named) (ls : List LinkFields) (tail : List ℕ)
    → definition_part ds ls ++ tail ≡ head ds ls ++ (definition_words (names ds ls) (base ds ls) ds 2 ++ (expression_words (names ds ls) (base ds ls) ls ++ (all_name_words (names ds ls) ++ tail)))
unfolding definition_part
from_table ds ls tail =
    let d = definition_words (names ds ls) (base ds ls) ds 2 in
    let e = expression_words (names ds ls) (base ds ls) ls in
    let n = all_name_words (names ds ls) in
    append_assoc ((head ds ls ++ d) ++ e) n tail ∙ append_assoc (head ds ls ++ d) e (n ++ tail) ∙ append_assoc (head ds ls) d (e ++ (n ++ tail))

from_expressions : (ds : List Named) (ls : List LinkFields) (tail : List ℕ)
    → definition_part ds ls ++ tail ≡ (head ds ls ++ definition_words (names ds ls) (base ds ls) ds 2) ++ (expression_words (names ds ls) (base ds ls) ls ++ (all_name_words (names ds ls) ++ tail))
from_expressions ds ls tail =
    from_table ds ls tail ∙ sym (append_assoc (head ds ls) (definition_words (names ds ls) (base ds ls) ds 2) (expression_words (names ds ls) (base ds ls) ls ++ (all_name_words (names ds ls) ++ tail)))

o6_or : (ds : List Named) (ls : List LinkFields) (tail : List ℕ)
    → definition_part ds ls ++ tail ≡ ((head ds ls ++ definition_words (names ds ls) (base ds ls) ds 2) ++ expression_words (names ds ls) (base ds ls) ls) ++ (all_name_words (names ds ls) ++ tail)
o6_or ds ls tail =
    from_expressions ds ls tail ∙ sym (append_assoc (head ds ls ++ definition_words (names ds ls) (base ds ls) ds 2) (expression_words (names ds ls) (base ds ls) ls) (all_name_words (names ds ls) ++ tail))

expressions_place : (ds : List Named) (ls : List LinkFields) → length (head ds ls ++ definition_words (names ds ls) (base ds ls) ds 2) ≡ 2 + 2 * length ds
expressions_place ds ls = omega (arith, length-append (head ds ls) (definition_words (names ds ls) (base ds ls) ds 2), length-definition_words (names ds ls) (base ds ls) ds 2)

names_place : (ds : List Named) (ls : List LinkFields) → length ((head ds ls ++ definition_words (names ds ls) (base ds ls) ds 2) ++ expression_words (names ds ls) (base ds ls) ls) ≡ base ds ls
names_place ds ls =
    omega (arith, length-append (head ds ls ++ definition_words (names ds ls) (base ds ls) ds 2) (expression_words (names ds ls) (base ds ls) ls), expressions_place ds ls, length-expression_words (names ds ls) (base ds ls) ls)

-- each name that is used is decoded
used_read : (ds : List Named) (ls : List LinkFields) (tail : List ℕ) → length (definition_part ds ls) ≤ 2 ^ 18 → (x : List ℕ) → list_any (same x) (definition_names ds ++ all_link_names ls) ≡ true → IsGood x
    → IsRead (definition_part ds ls ++ tail) (name_offset x (names ds ls) (base ds ls)) (2 ^ 18) x
unfolding distinct_names_size
used_read ds ls tail small x among g =
    let front = (head ds ls ++ definition_words (names ds ls) (base ds ls) ds 2) ++ expression_words (names ds ls) (base ds ls) ls in
    let stands : list_any (same x) (names ds ls) ≡ true = any_among x [] (definition_names ds ++ all_link_names ls) ∙ among in
    names_read (names ds ls) (definition_part ds ls ++ tail) front tail (base ds ls) (2 ^ 18) x (o6_or ds ls tail) (names_place ds ls) (omega (arith, length-definition_part ds ls)) stands g

definitions_read : (version : ℕ) (ds : List Named) (ls : List LinkFields) (tail words : List ℕ) → words ≡ definition_part ds ls ++ tail → length (definition_part ds ls) ≤ 2 ^ 18 → list_all (is_valid_definition version) ds ≡ true
    → definitions_in words 2 (length ds) ≡ ds
definitions_read version ds ls tail words e small good =
    let all = definition_part ds ls ++ tail in
    let read : AreRead (definition_names ds) all (names ds ls) (base ds ls) = λ x among g.
    used_read ds ls tail small x (list_any-append (same x) (definition_names ds) (all_link_names ls) ∙ or_left (list_any (same x) (definition_names ds)) (list_any (same x) (all_link_names ls)) among) g
    in
    ap (λ (ws : List ℕ). definitions_in ws 2 (length ds)) e
    ∙ definitions_back (names ds ls) (base ds ls) ds all (head ds ls) (expression_words (names ds ls) (base ds ls) ls ++ (all_name_words (names ds ls) ++ tail)) 2 (from_table ds ls tail) refl
    (definitions_stand version all (names ds ls) (base ds ls) ds read good)

linkage_head : List ℕ → List LinkFields → List ℕ
linkage_head statics ls = 0 ∷ word_with_halves (8 + length statics) (length ls) ∷ 0 ∷ 0 ∷ 0 ∷ 0 ∷ 0 ∷ 0 ∷ statics

o7_or_o8 : (statics : List ℕ) (ls : List LinkFields) (x : ℕ) (tail : List ℕ) → linkage_part statics ls x ++ tail ≡ linkage_head statics ls ++ (link_words ls (8 + length statics) x ++ tail)
unfolding linkage_part linkage_head
o7_or_o8 statics ls x tail = append_assoc (linkage_head statics ls) (link_words ls (8 + length statics) x) tail

links_place : (statics : List ℕ) (ls : List LinkFields) → length (linkage_head statics ls) ≡ 8 + length statics
unfolding linkage_head
links_place statics ls = omega arith

links_read : (version : ℕ) (ds : List Named) (ls : List LinkFields) (tail words statics after linkage : List ℕ) → words ≡ definition_part ds ls ++ tail → length (definition_part ds ls) ≤ 2 ^ 18
    → linkage ≡ linkage_part statics ls (2 + 2 * length ds) ++ after → list_all (is_valid_link version) ls ≡ true
    → links_in words (2 + 2 * length ds) linkage (8 + length statics) (length ls) ≡ ls
links_read version ds ls tail words statics after linkage e small f good =
    let all = definition_part ds ls ++ tail in
    let read : AreRead (all_link_names ls) all (names ds ls) (base ds ls) = λ x among g.
    used_read ds ls tail small x (list_any-append (same x) (definition_names ds) (all_link_names ls) ∙ or_right (list_any (same x) (definition_names ds)) (list_any (same x) (all_link_names ls)) among) g
    in
    ap (λ (ws : List ℕ). links_in ws (2 + 2 * length ds) linkage (8 + length statics) (length ls)) e
    ∙ links_back (names ds ls) (base ds ls) ls all (head ds ls ++ definition_words (names ds ls) (base ds ls) ds 2) (all_name_words (names ds ls) ++ tail) (2 + 2 * length ds)
    linkage (linkage_head statics ls) after (8 + length statics) (2 + 2 * length ds)
    (from_expressions ds ls tail) (expressions_place ds ls) (f ∙ o7_or_o8 statics ls (2 + 2 * length ds) after) (links_place statics ls)
    (links_stand version all (names ds ls) (base ds ls) ls read good)

-- the head of a definition section
counts_here : (ds : List Named) (ls : List LinkFields) (tail : List ℕ) → slice_index (definition_part ds ls ++ tail) 0 ≡ word_with_halves (offset_if_any (length ds) 2) (length ds)
unfolding definition_part
counts_here ds ls tail = refl

counts_next : (ds : List Named) (ls : List LinkFields) (tail : List ℕ) → slice_index (definition_part ds ls ++ tail) 1 ≡ word_with_halves (offset_if_any (length ls) (2 + 2 * length ds)) (length ls)
unfolding definition_part
counts_next ds ls tail = refl

count_of_relocations : (rs : List RelocFields) (tail : List ℕ) → slice_index (symbol_part rs ++ tail) 0 ≡ word_with_halves 0 (length rs)
unfolding symbol_part
count_of_relocations rs tail = refl

relocations_read : (text inner outer version : ℕ) (rs : List RelocFields) (tail words : List ℕ) → words ≡ symbol_part rs ++ tail → list_all (is_valid_relocation text inner outer version) rs ≡ true → relocations_in words 1 (length rs) ≡ rs
unfolding symbol_part
relocations_read text inner outer version rs tail words e good =
    relocations_back rs words (word_with_halves 0 (length rs) ∷ []) tail 1 e refl (relocations_stand text inner outer version rs good)

-- ---- the whole

grouped : (p : PartsFields) → words_of p ≡ p.text ++ (definition_section p ++ (linkage_section p ++ (outer_statics p ++ (symbol_section p ++ map_words p))))
unfolding words_of
grouped p =
    let d = definition_section p in
    let k = linkage_section p in
    let s = outer_statics p in
    let y = symbol_section p in
    let m = map_words p in
    append_assoc (p.text ++ d ++ k ++ s) y m ∙ append_assoc (p.text ++ d ++ k) s (y ++ m) ∙ append_assoc (p.text ++ d) k (s ++ (y ++ m)) ∙ append_assoc p.text d (k ++ (s ++ (y ++ m)))

front_of : PartsFields → List ℕ
front_of p = p.text ++ definition_section p ++ linkage_section p ++ outer_statics p ++ symbol_section p

front_length : (p : PartsFields) → length p.text + length (definition_section p) + length (linkage_section p) + length (outer_statics p) + length (symbol_section p) ≡ length (front_of p)
unfolding front_of
front_length p =
    let d = definition_section p in
    let k = linkage_section p in
    let s = outer_statics p in
    let y = symbol_section p in
    omega (arith, length-append (p.text ++ d ++ k ++ s) y, length-append (p.text ++ d ++ k) s, length-append (p.text ++ d) k, length-append p.text d)

seven : (b : Bool) → 7 ≤ cond b 8 7
seven true = omega arith
seven false = omega arith

pub map_length : (p : PartsFields) → 7 ≤ length (map_words p)
unfolding map_words
map_length p =
    omega (arith, length-map_part (is_newer p) (length p.text) (length (definition_section p)) (length (linkage_section p)) (length (outer_statics p)) (length (symbol_section p)) p.entry_bound, seven (is_newer p))

is_mapped : (p : PartsFields) → IsFormed p → IsMapped (words_of p) (is_newer p) (length p.text) (length (definition_section p)) (length (linkage_section p)) (length (outer_statics p)) p.entry_bound
unfolding words_of map_words front_of
is_mapped p f =
    let small : length (front_of p) < 2 ^ 18 = omega (arith, f.fits, length-sections p, front_length p, map_length p) in
    let bound : p.entry_bound < 2 ^ 18 = omega (arith, f.bound, front_length p) in
    mapped (is_newer p) (front_of p) (length p.text) (length (definition_section p)) (length (linkage_section p)) (length (outer_statics p)) (length (symbol_section p)) p.entry_bound (front_length p) small bound

-- the map is valid
pub outline_back : (p : PartsFields) → IsFormed p → length_or_map_fault (words_of p) ≡ None
unfolding words_of map_words front_of
outline_back p f =
    let small : length (front_of p) < 2 ^ 18 = omega (arith, f.fits, length-sections p, front_length p, map_length p) in
    outline_right (is_newer p) (front_of p) (length p.text) (length (definition_section p)) (length (linkage_section p)) (length (outer_statics p)) (length (symbol_section p)) p.entry_bound (front_length p) small f.bound

is_cut : (p : PartsFields) → IsFormed p → IsCut (words_of p) p.text (definition_section p) (linkage_section p) (outer_statics p) (symbol_section p) (map_words p)
is_cut p f = cut (is_newer p) (words_of p) p.text (definition_section p) (linkage_section p) p.statics (outer_statics p) (symbol_section p) (map_words p) p.entry_bound (grouped p) refl (is_mapped p f)

or_first : (a b : Bool) → (a || b) ≡ true → b ≡ false → a ≡ true
or_first true b e f = refl
or_first false true e f = absurd cc
or_first false false e f = e

version_by : (v : ℕ) (b : Bool) → eqb v 2 ≡ b → (eqb v 1 || eqb v 2) ≡ true → cond b 2 1 ≡ v
version_by v true e f = sym (eqb-true v 2 e)
version_by v false e f = sym (eqb-true v 1 (or_first (eqb v 1) (eqb v 2) f e))

pub parts_back : (p : PartsFields) → is_well_formed p ≡ true → parts_of (words_of p) ≡ p
unfolding parts_of definition_section linkage_section symbol_section
parts_back p e =
    let words = words_of p in
    let f = is_formed p e in
    let c = is_cut p f in
    let m = is_mapped p f in
    let small = small_sections p e in
    let ds = p.definitions in
    let ls = p.links in
    let rs = p.relocations in
    let expressions = 2 + 2 * length ds in
    let k = linkage_section p in
    let s = outer_statics p in
    let y = symbol_section p in
    let tail = k ++ (s ++ (y ++ map_words p)) in
    let inner = inner_statics p in
    let definition : from_definition words ≡ definition_part ds ls ++ tail = c.definition in
    let linkage : from_linkage words ≡ linkage_part inner ls expressions ++ (s ++ (y ++ map_words p)) = c.linkage in
    let symbol : from_symbol words ≡ symbol_part rs ++ map_words p = c.symbol in
    let ds_few : length ds < 2 ^ 18 = omega (arith, f.fits, length-words_of p) in
    let ls_few : length ls < 2 ^ 18 = omega (arith, f.fits, length-words_of p) in
    let rs_few : length rs < 2 ^ 18 = omega (arith, f.fits, length-sections p, length-symbol_part rs, map_length p) in
    let first_fits : 8 + length inner < 2 ^ 18 = omega (arith, f.fits, length-sections p, length-linkage_part inner ls expressions, map_length p) in
    let count : count_of_items words (from_definition words) 0 ≡ length ds =
    count_is words (from_definition words) 0 (offset_if_any (length ds) 2) (length ds) (ap (λ (ws : List ℕ). slice_index ws 0) definition ∙ counts_here ds ls tail) (omega (arith, length-words_of p)) ds_few
    in
    let linked : count_of_items words (from_definition words) 1 ≡ length ls =
    count_is words (from_definition words) 1 (offset_if_any (length ls) expressions) (length ls) (ap (λ (ws : List ℕ). slice_index ws 1) definition ∙ counts_next ds ls tail) (omega (arith, length-words_of p)) ls_few
    in
    let moved : count_of_items words (from_symbol words) 0 ≡ length rs =
    count_is words (from_symbol words) 0 0 (length rs) (ap (λ (ws : List ℕ). slice_index ws 0) symbol ∙ count_of_relocations rs (map_words p)) (omega (arith, length-words_of p)) rs_few
    in
    let first : first_link_in_head words ≡ 8 + length inner = first_is words inner (s ++ (y ++ map_words p)) ls expressions linkage first_fits in
    let version : version_in words ≡ p.version = m.version ∙ version_by p.version (is_newer p) refl f.version in
    let statics : statics_in words ≡ p.statics =
    statics_are (is_newer p) words p.statics (y ++ map_words p) (s ++ (y ++ map_words p)) ls expressions m.version linkage c.statics m.statics first_fits
    in
    let defined : definitions_in (from_definition words) 2 (count_of_items words (from_definition words) 0) ≡ ds =
    ap (definitions_in (from_definition words) 2) count ∙ definitions_read p.version ds ls tail (from_definition words) definition small.definition f.definitions
    in
    let links : links_in (from_definition words) (2 + 2 * count_of_items words (from_definition words) 0) (from_linkage words) (first_link_in_head words) (count_of_items words (from_definition words) 1) ≡ ls =
    ap (λ n. links_in (from_definition words) (2 + 2 * n) (from_linkage words) (first_link_in_head words) (count_of_items words (from_definition words) 1)) count
    ∙ ap (λ n. links_in (from_definition words) (2 + 2 * length ds) (from_linkage words) n (count_of_items words (from_definition words) 1)) first
    ∙ ap (λ n. links_in (from_definition words) (2 + 2 * length ds) (from_linkage words) (8 + length inner) n) linked
    ∙ links_read p.version ds ls tail (from_definition words) inner (s ++ (y ++ map_words p)) (from_linkage words) definition small.definition linkage f.links
    in
    let relocations : relocations_in (from_symbol words) 1 (count_of_items words (from_symbol words) 0) ≡ rs =
    ap (relocations_in (from_symbol words) 1) moved
    ∙ relocations_read (length p.text) (length inner) (length s) p.version rs (map_words p) (from_symbol words) symbol f.relocations
    in
    λ i. record { text = c.text i; statics = statics i; definitions = defined i; links = links i; relocations = relocations i; entry_bound = m.bound i; version = version i }

-- the list that encodes parts is read as these parts
pub stands_back : (p : PartsFields) (words : List ℕ) → Encodes p words → parts_of words ≡ p
stands_back p words s = ap parts_of s.spelled ∙ parts_back p s.formed

pub values_apart : WordsDetermineParts
values_apart p q words s t = sym (stands_back p words s) ∙ stands_back q words t
