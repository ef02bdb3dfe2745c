-- The lengths of the sections.
use Rattle.std.proofs.Common.{ℕ, suc, ◌≡◌, ◌+◌, ◌-◌, ◌*◌, ◌^◌, ◌≤◌, Bool, true, false, cond, eqb, List, [], ◌∷◌, ◌++◌, length, IsTrue, refl, sym, ap, ◌∙◌, true≢false, arith}
use Rattle.std.proofs.lemmas.List.{length-append}
use Rattle.obj36_parts.specs.Fields.{LinkFields, RelocFields}
use Rattle.obj36_parts.specs.PartsFields.{PartsFields}
use Rattle.obj36_parts.specs.declared.definition.Named.{Named}
use Rattle.obj36_parts.specs.Names.{with_names, all_name_words}
use Rattle.obj36_parts.specs.ObjectSegment.{is_newer, inner_statics, outer_statics, definition_names, all_link_names, definition_words, expression_words, definition_part, definition_section, head_words, definition_head_words, first_expression_at, link_words, linkage_part, linkage_section, relocation_words, symbol_part, symbol_section, map_part, map_words, words_of, is_well_formed}
use Rattle.obj36_parts.specs.Sizes.{distinct_names_size, HasShortLists, LinkageEndsAfterLinks}
use Rattle.obj36_parts.proofs.Formed.{is_formed}

pub length-definition_words : (names : List (List ℕ)) (base : ℕ) (ds : List Named) (at : ℕ) → length (definition_words names base ds at) ≡ 2 * length ds
unfolding definition_words
length-definition_words names base [] at = refl
length-definition_words names base (d ∷ ds) at = omega (arith, length-definition_words names base ds (at + 2))

pub length-expression_words : (names : List (List ℕ)) (base : ℕ) (ls : List LinkFields) → length (expression_words names base ls) ≡ 2 * length ls
unfolding expression_words
length-expression_words names base [] = refl
length-expression_words names base (l ∷ ls) = omega (arith, length-expression_words names base ls)

pub length-definition_part : (ds : List Named) (ls : List LinkFields) → length (definition_part ds ls) ≡ 2 + 2 * length ds + 2 * length ls + distinct_names_size (definition_names ds ++ all_link_names ls)
unfolding definition_part distinct_names_size
length-definition_part ds ls =
    let names = with_names [] (definition_names ds ++ all_link_names ls) in
    let base = first_expression_at (length ds) + 2 * length ls in
    omega (
      arith,
      length-append (definition_words names base ds definition_head_words ++ expression_words names base ls) (all_name_words names),
      length-append (definition_words names base ds definition_head_words) (expression_words names base ls),
      length-definition_words names base ds definition_head_words,
      length-expression_words names base ls,
    )

pub length-link_words : (ls : List LinkFields) (at expression : ℕ) → length (link_words ls at expression) ≡ 2 * length ls
unfolding link_words
length-link_words [] at expression = refl
length-link_words (l ∷ ls) at expression = omega (arith, length-link_words ls (at + 2) (expression + 2))

pub length-linkage_part : (statics : List ℕ) (ls : List LinkFields) (expressions : ℕ) → length (linkage_part statics ls expressions) ≡ 8 + length statics + 2 * length ls
unfolding linkage_part
length-linkage_part statics ls expressions =
    omega (arith, length-append statics (link_words ls (head_words + length statics) expressions), length-link_words ls (head_words + length statics) expressions)

-- an object with a static section has no static words in the linkage section
no_inner : (newer : Bool) (statics : List ℕ) → newer ≡ true → length (cond newer [] statics) ≡ 0
no_inner true statics e = refl
no_inner false statics e = absurd (true≢false (sym e))

pub statics_past_links : LinkageEndsAfterLinks
unfolding linkage_section
statics_past_links p newer =
    omega (
      arith,
      length-linkage_part (inner_statics p) p.links (first_expression_at (length p.definitions)),
      no_inner (is_newer p) p.statics newer,
    )

pub length-relocation_words : (rs : List RelocFields) → length (relocation_words rs) ≡ length rs
unfolding relocation_words
length-relocation_words [] = refl
length-relocation_words (r ∷ rs) = ap suc (length-relocation_words rs)

pub length-symbol_part : (rs : List RelocFields) → length (symbol_part rs) ≡ 1 + length rs
unfolding symbol_part
length-symbol_part rs = omega (arith, length-relocation_words rs)

pub length-map_part : (newer : Bool) (t d k s y b : ℕ) → length (map_part newer t d k s y b) ≡ cond newer 8 7
unfolding map_part
length-map_part true t d k s y b = refl
length-map_part false t d k s y b = refl

statics_once : (b : Bool) (xs : List ℕ) → length (cond b [] xs) + length (cond b xs []) ≡ length xs
statics_once true xs = omega arith
statics_once false xs = omega arith

fixed : (b : Bool) → 11 + cond b 8 7 ≡ cond b 19 18
fixed true = refl
fixed false = refl

pub length-words_of : (p : PartsFields) → length (words_of p) ≡ cond (eqb p.version 2) 19 18 + length p.text + length p.statics + length p.relocations + (2 * length p.definitions + 4 * length p.links) + distinct_names_size (definition_names p.definitions ++ all_link_names p.links)
unfolding words_of map_words definition_section linkage_section symbol_section
length-words_of p =
    let d = definition_section p in
    let k = linkage_section p in
    let y = symbol_section p in
    let m = map_words p in
    omega (
      arith,
      length-append (p.text ++ d ++ k ++ outer_statics p ++ y) m,
      length-append (p.text ++ d ++ k ++ outer_statics p) y,
      length-append (p.text ++ d ++ k) (outer_statics p),
      length-append (p.text ++ d) k,
      length-append p.text d,
      length-definition_part p.definitions p.links,
      length-linkage_part (inner_statics p) p.links (first_expression_at (length p.definitions)),
      length-symbol_part p.relocations,
      length-map_part (is_newer p) (length p.text) (length d) (length k) (length (outer_statics p)) (length y) p.entry_bound,
      statics_once (is_newer p) p.statics,
      fixed (is_newer p),
    )

pub size_is : (p : PartsFields) (text statics : List ℕ) (ds : List Named) (ls : List LinkFields) (rs : List RelocFields) (f n : ℕ)
    → text ≡ p.text → statics ≡ p.statics → ds ≡ p.definitions → ls ≡ p.links → rs ≡ p.relocations → f ≡ cond (eqb p.version 2) 19 18
    → n ≡ distinct_names_size (definition_names p.definitions ++ all_link_names p.links)
    → f + length text + length statics + length rs + (2 * length ds + 4 * length ls) + n ≡ length (words_of p)
size_is p text statics ds ls rs f n t s d l r e names =
    omega (arith, length-words_of p, ap length t, ap length s, ap length d, ap length l, ap length r)

-- ---- an object is small

pub short_lists : (p : PartsFields) → is_well_formed p ≡ true → HasShortLists p
short_lists p e =
    let small = (is_formed p e).fits in
    record {
      text = omega (arith, small, length-words_of p);
      statics = omega (arith, small, length-words_of p);
      definitions = omega (arith, small, length-words_of p);
      links = omega (arith, small, length-words_of p);
      relocations = omega (arith, small, length-words_of p);
    }

-- the least number of words of an object without those of its parts
pub least_size : (b : Bool) → 18 ≤ cond b 19 18
least_size true = omega arith
least_size false = omega arith

-- parts with a list of 2^32 items or more are not well formed
no_list : (p : PartsFields) (b : Bool) → is_well_formed p ≡ b → (HasShortLists p → ⊥) → b ≡ false
no_list p true e long = absurd (long (short_lists p e))
no_list p false e long = refl

pub long_is_none : (p : PartsFields) (b : Bool) → (HasShortLists p → IsTrue b) → b ≡ false → false ≡ is_well_formed p
long_is_none p b long e = sym (no_list p (is_well_formed p) refl (λ short. true≢false (sym (long short) ∙ e)))

-- ---- the length of each section fits the map

pub record IsSmall (p : PartsFields) : Type 0 where
  pub text : length p.text ≤ 2 ^ 18
  pub definition : length (definition_section p) ≤ 2 ^ 18
  pub linkage : length (linkage_section p) ≤ 2 ^ 18
  pub outer : length (outer_statics p) ≤ 2 ^ 18
  pub symbol : length (symbol_section p) ≤ 2 ^ 18

pub length-sections : (p : PartsFields)
    → length (words_of p) ≡ length p.text + length (definition_section p) + length (linkage_section p) + length (outer_statics p) + length (symbol_section p) + length (map_words p)
unfolding words_of
length-sections p =
    let d = definition_section p in
    let k = linkage_section p in
    let y = symbol_section p in
    omega (
      arith,
      length-append (p.text ++ d ++ k ++ outer_statics p ++ y) (map_words p),
      length-append (p.text ++ d ++ k ++ outer_statics p) y,
      length-append (p.text ++ d ++ k) (outer_statics p),
      length-append (p.text ++ d) k,
      length-append p.text d,
    )

pub small_sections : (p : PartsFields) → is_well_formed p ≡ true → IsSmall p
small_sections p e =
    let small = (is_formed p e).fits in
    record {
      text = omega (arith, small, length-sections p);
      definition = omega (arith, small, length-sections p);
      linkage = omega (arith, small, length-sections p);
      outer = omega (arith, small, length-sections p);
      symbol = omega (arith, small, length-sections p);
    }
