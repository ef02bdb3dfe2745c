-- A table that was encoded is decoded as itself.
use Rattle.std.proofs.Common.{ℕ, ◌≡◌, ◌+◌, ◌-◌, ◌*◌, ◌/◌, ◌%◌, ◌^◌, ◌<◌, ◌≤◌, Bool, true, false, cond, leb, List, [], ◌∷◌, ◌++◌, length, get_or, refl, sym, ap, ◌∙◌, append_assoc, arith}
use Rattle.std.specs.Prelude.{slice_index}
use Rattle.std.specs.List.{AllByRecursion}
use Rattle.std.proofs.lemmas.List.{length-append, get_or-append_right}
use Rattle.obj36_parts.specs.declared.section.Section.{Section}
use Rattle.obj36_parts.specs.declared.section.Section.TheVariants.{Text, Linkage, Symbol, Static}
use Rattle.obj36_parts.specs.declared.definition.Named.{Named}
use Rattle.obj36_parts.specs.Fields.{LinkFields, RelocFields}
use Rattle.obj36_parts.specs.Halves.{left, right, word_with_halves}
use Rattle.obj36_parts.specs.Names.{name_offset}
use Rattle.obj36_parts.specs.Sections.{class_number, section_number}
use Rattle.obj36_parts.specs.ObjectSegment.{has_name, has_entry, offset_if_any, class_of, definition_words, section_or_name_offset, entry_name_offset, expression_words, link_words, relocation_word, relocation_words}
use Rattle.obj36_read.specs.Reading.{name_at, section_of_class_number, section_with, definition_at, definitions_in, link_at, links_in, relocation_in, relocations_in}

-- ---- halves

pub left_joined : (l r : ℕ) → l < 2 ^ 18 → left (word_with_halves l r) ≡ l
unfolding left word_with_halves
left_joined l r lt = omega arith

pub right_joined : (l r : ℕ) → r < 2 ^ 18 → right (word_with_halves l r) ≡ r
unfolding right word_with_halves
right_joined l r lt = omega arith

-- ---- words at indexes

pub word_here : (words front rest : List ℕ) (at x : ℕ) → words ≡ front ++ (x ∷ rest) → length front ≡ at → slice_index words at ≡ x
word_here words front rest at x e p =
    ap (λ (ws : List ℕ). get_or ws at 0) e ∙ get_or-append_right front (x ∷ rest) at at 0 p (omega arith) ∙ ap (λ n. get_or (x ∷ rest) n 0) (let z : at - at ≡ 0 = omega arith in z)

pub word_next : (words front rest : List ℕ) (at x y : ℕ) → words ≡ front ++ (x ∷ y ∷ rest) → length front ≡ at → slice_index words (at + 1) ≡ y
word_next words front rest at x y e p =
    ap (λ (ws : List ℕ). get_or ws (at + 1) 0) e ∙ get_or-append_right front (x ∷ y ∷ rest) at (at + 1) 0 p (omega arith) ∙ ap (λ n. get_or (x ∷ y ∷ rest) n 0) (let z : at + 1 - at ≡ 1 = omega arith in z)

-- the rest of a table after two words of it
behind_two : (words front rest tail : List ℕ) (x y : ℕ) → words ≡ front ++ ((x ∷ y ∷ rest) ++ tail) → words ≡ (front ++ x ∷ y ∷ []) ++ (rest ++ tail)
behind_two words front rest tail x y e = e ∙ sym (append_assoc front (x ∷ y ∷ []) (rest ++ tail))

long_two : (front : List ℕ) (x y at : ℕ) → length front ≡ at → length (front ++ x ∷ y ∷ []) ≡ at + 2
long_two front x y at e = omega (arith, length-append front (x ∷ y ∷ []))

-- ---- definitions

small_class : (s : Section) (b : Bool) → class_number s + cond b 8 0 < 2 ^ 18
small_class Text true = omega arith
small_class Text false = omega arith
small_class Linkage true = omega arith
small_class Linkage false = omega arith
small_class Symbol true = omega arith
small_class Symbol false = omega arith
small_class Static true = omega arith
small_class Static false = omega arith

class_back : (s : Section) (b : Bool) → section_of_class_number ((class_number s + cond b 8 0) % 2 ^ 3) ≡ s
unfolding section_of_class_number
class_back Text true = refl
class_back Text false = refl
class_back Linkage true = refl
class_back Linkage false = refl
class_back Symbol true = refl
class_back Symbol false = refl
class_back Static true = refl
class_back Static false = refl

entry_back : (s : Section) (b : Bool) → leb 8 (class_number s + cond b 8 0) ≡ b
entry_back Text true = refl
entry_back Text false = refl
entry_back Linkage true = refl
entry_back Linkage false = refl
entry_back Symbol true = refl
entry_back Symbol false = refl
entry_back Static true = refl
entry_back Static false = refl

pub record DefinitionStands (words : List ℕ) (names : List (List ℕ)) (base : ℕ) (d : Named) : Type 0 where
  pub name : name_at words (name_offset d.name names base) ≡ d.name
  pub place : name_offset d.name names base < 2 ^ 18
  pub value : d.def.value < 2 ^ 18

definition_back : (words : List ℕ) (names : List (List ℕ)) (base at next : ℕ) (d : Named) → DefinitionStands words names base d
    → slice_index words at ≡ word_with_halves next (class_of d.def) → slice_index words (at + 1) ≡ word_with_halves d.def.value (name_offset d.name names base) → definition_at words at ≡ d
unfolding definition_at class_of
definition_back words names base at next d s e f =
    let first : right (slice_index words at) ≡ class_number d.def.section + cond d.def.is_entry 8 0 = ap right e ∙ right_joined next (class_of d.def) (small_class d.def.section d.def.is_entry) in
    let place : right (slice_index words (at + 1)) ≡ name_offset d.name names base = ap right f ∙ right_joined d.def.value (name_offset d.name names base) s.place in
    let value : left (slice_index words (at + 1)) ≡ d.def.value = ap left f ∙ left_joined d.def.value (name_offset d.name names base) s.value in
    let name_is : name_at words (right (slice_index words (at + 1))) ≡ d.name = ap (name_at words) place ∙ s.name in
    let section_is : section_of_class_number (right (slice_index words at) % 2 ^ 3) ≡ d.def.section = ap (λ n. section_of_class_number (n % 2 ^ 3)) first ∙ class_back d.def.section d.def.is_entry in
    let entry_is : leb 8 (right (slice_index words at)) ≡ d.def.is_entry = ap (leb 8) first ∙ entry_back d.def.section d.def.is_entry in
    λ i. record { name = name_is i; def = record { section = section_is i; value = value i; is_entry = entry_is i } }

pub definitions_back : (names : List (List ℕ)) (base : ℕ) (ds : List Named) (words front rest : List ℕ) (at : ℕ) → words ≡ front ++ (definition_words names base ds at ++ rest) → length front ≡ at
    → AllByRecursion (DefinitionStands words names base) ds → definitions_in words at (length ds) ≡ ds
unfolding definitions_in definition_words
definitions_back names base [] words front rest at e p s = refl
definitions_back names base (d ∷ ds) words front rest at e p s =
    let next = offset_if_any (length ds) (at + 2) in
    let a = word_with_halves next (class_of d.def) in
    let b = word_with_halves d.def.value (name_offset d.name names base) in
    let tail = definition_words names base ds (at + 2) in
    let here : slice_index words at ≡ a = word_here words front (b ∷ (tail ++ rest)) at a e p in
    let there : slice_index words (at + 1) ≡ b = word_next words front (tail ++ rest) at a b e p in
    ap (λ (x : Named). x ∷ definitions_in words (at + 2) (length ds)) (definition_back words names base at next d s.0 here there)
    ∙ ap (λ (xs : List Named). d ∷ xs) (definitions_back names base ds words (front ++ a ∷ b ∷ []) rest (at + 2) (behind_two words front tail rest a b e) (long_two front a b at p) s.1)

-- ---- links

pub record LinkStands (words : List ℕ) (names : List (List ℕ)) (base : ℕ) (l : LinkFields) : Type 0 where
  pub kind : l.kind < 2 ^ 8
  pub expr : l.expr < 2 ^ 18
  pub modifier : l.modifier < 2 ^ 6
  pub subject : section_or_name_offset names base l < 2 ^ 18
  pub entry_at : entry_name_offset names base l < 2 ^ 18
  pub section : cond (has_name l.kind) Text (section_with (section_or_name_offset names base l)) ≡ l.section
  pub name : cond (has_name l.kind) (name_at words (section_or_name_offset names base l)) [] ≡ l.name
  pub entry : cond (has_entry l.kind) (name_at words (entry_name_offset names base l)) [] ≡ l.entry

link_back : (words linkage : List ℕ) (names : List (List ℕ)) (base at place expression : ℕ) (l : LinkFields) → LinkStands words names base l
    → slice_index words at ≡ word_with_halves l.kind (section_or_name_offset names base l) → slice_index words (at + 1) ≡ word_with_halves (entry_name_offset names base l) l.expr
    → slice_index linkage (place + 1) ≡ word_with_halves expression l.modifier → link_at words at linkage place ≡ l
unfolding link_at
link_back words linkage names base at place expression l s e f g =
    let kind : left (slice_index words at) % 2 ^ 8 ≡ l.kind = ap (λ n. left n % 2 ^ 8) e ∙ ap (λ n. n % 2 ^ 8) (left_joined l.kind (section_or_name_offset names base l) (omega (arith, s.kind))) ∙ (let k : l.kind % 2 ^ 8 ≡ l.kind = omega (arith, s.kind) in k) in
    let subject : right (slice_index words at) ≡ section_or_name_offset names base l = ap right e ∙ right_joined l.kind (section_or_name_offset names base l) s.subject in
    let entry_at : left (slice_index words (at + 1)) ≡ entry_name_offset names base l = ap left f ∙ left_joined (entry_name_offset names base l) l.expr s.entry_at in
    let expr : right (slice_index words (at + 1)) ≡ l.expr = ap right f ∙ right_joined (entry_name_offset names base l) l.expr s.expr in
    let modifier : right (slice_index linkage (place + 1)) % 2 ^ 6 ≡ l.modifier = ap (λ n. right n % 2 ^ 6) g ∙ ap (λ n. n % 2 ^ 6) (right_joined expression l.modifier (omega (arith, s.modifier))) ∙ (let k : l.modifier % 2 ^ 6 ≡ l.modifier = omega (arith, s.modifier) in k) in
    let section : cond (has_name (left (slice_index words at) % 2 ^ 8)) Text (section_with (right (slice_index words at))) ≡ l.section =
    ap (λ k. cond (has_name k) Text (section_with (right (slice_index words at)))) kind ∙ ap (λ n. cond (has_name l.kind) Text (section_with n)) subject ∙ s.section
    in
    let name : cond (has_name (left (slice_index words at) % 2 ^ 8)) (name_at words (right (slice_index words at))) [] ≡ l.name =
    ap (λ k. cond (has_name k) (name_at words (right (slice_index words at))) []) kind ∙ ap (λ n. cond (has_name l.kind) (name_at words n) []) subject ∙ s.name
    in
    let entry : cond (has_entry (left (slice_index words at) % 2 ^ 8)) (name_at words (left (slice_index words (at + 1)))) [] ≡ l.entry =
    ap (λ k. cond (has_entry k) (name_at words (left (slice_index words (at + 1)))) []) kind ∙ ap (λ n. cond (has_entry l.kind) (name_at words n) []) entry_at ∙ s.entry
    in
    λ i. record { kind = kind i; section = section i; name = name i; entry = entry i; expr = expr i; modifier = modifier i }

pub links_back : (names : List (List ℕ)) (base : ℕ) (ls : List LinkFields) (words front rest : List ℕ) (at : ℕ) (linkage before after : List ℕ) (place expression : ℕ)
    → words ≡ front ++ (expression_words names base ls ++ rest) → length front ≡ at → linkage ≡ before ++ (link_words ls place expression ++ after) → length before ≡ place
    → AllByRecursion (LinkStands words names base) ls → links_in words at linkage place (length ls) ≡ ls
unfolding links_in expression_words link_words
links_back names base [] words front rest at linkage before after place expression e p f q s = refl
links_back names base (l ∷ ls) words front rest at linkage before after place expression e p f q s =
    let a = word_with_halves l.kind (section_or_name_offset names base l) in
    let b = word_with_halves (entry_name_offset names base l) l.expr in
    let tail = expression_words names base ls in
    let c = word_with_halves (2 ^ 18 - place) 38 in
    let d = word_with_halves expression l.modifier in
    let others = link_words ls (place + 2) (expression + 2) in
    let here : slice_index words at ≡ a = word_here words front (b ∷ (tail ++ rest)) at a e p in
    let there : slice_index words (at + 1) ≡ b = word_next words front (tail ++ rest) at a b e p in
    let odd : slice_index linkage (place + 1) ≡ d = word_next linkage before (others ++ after) place c d f q in
    ap (λ (x : LinkFields). x ∷ links_in words (at + 2) linkage (place + 2) (length ls)) (link_back words linkage names base at place expression l s.0 here there odd)
    ∙ ap (λ (xs : List LinkFields). l ∷ xs)
    (links_back names base ls words (front ++ a ∷ b ∷ []) rest (at + 2) linkage (before ++ c ∷ d ∷ []) after (place + 2) (expression + 2)
    (behind_two words front tail rest a b e) (long_two front a b at p) (behind_two linkage before others after c d f) (long_two before c d place q) s.1)

-- ---- relocations

pub relocations_back : (rs : List RelocFields) (words front rest : List ℕ) (at : ℕ) → words ≡ front ++ (relocation_words rs ++ rest) → length front ≡ at
    → AllByRecursion (λ r. relocation_in (relocation_word r) ≡ r) rs → relocations_in words at (length rs) ≡ rs
unfolding relocations_in relocation_words
relocations_back [] words front rest at e p s = refl
relocations_back (r ∷ rs) words front rest at e p s =
    let here : slice_index words at ≡ relocation_word r = word_here words front (relocation_words rs ++ rest) at (relocation_word r) e p in
    let next : words ≡ (front ++ relocation_word r ∷ []) ++ (relocation_words rs ++ rest) = e ∙ sym (append_assoc front (relocation_word r ∷ []) (relocation_words rs ++ rest)) in
    let place : length (front ++ relocation_word r ∷ []) ≡ at + 1 = omega (arith, length-append front (relocation_word r ∷ [])) in
    ap (λ w. relocation_in w ∷ relocations_in words (at + 1) (length rs)) here
    ∙ ap (λ (x : RelocFields). x ∷ relocations_in words (at + 1) (length rs)) s.0
    ∙ ap (λ (xs : List RelocFields). r ∷ xs) (relocations_back rs words (front ++ relocation_word r ∷ []) rest (at + 1) next place s.1)

pub section_back : (s : Section) → section_with (section_number s) ≡ s
unfolding section_with
section_back Text = refl
section_back Linkage = refl
section_back Symbol = refl
section_back Static = refl

pub small_section : (s : Section) → section_number s ≤ 3
small_section Text = omega arith
small_section Linkage = omega arith
small_section Symbol = omega arith
small_section Static = omega arith

pub relocation_back : (r : RelocFields) → r.offset < 2 ^ 18 → r.part ≤ 2 → relocation_in (relocation_word r) ≡ r
unfolding relocation_in relocation_word
relocation_back r small part =
    let s = section_number r.section in
    let t = section_number r.target in
    let fields = s * 2 ^ 15 + r.part * 2 ^ 12 + t * 2 ^ 9 in
    let fits : fields < 2 ^ 18 = omega (arith, small_section r.section, small_section r.target) in
    let back : right (word_with_halves r.offset fields) ≡ fields = right_joined r.offset fields fits in
    let offset : left (word_with_halves r.offset fields) ≡ r.offset = left_joined r.offset fields small in
    let section : section_with (right (word_with_halves r.offset fields) / 2 ^ 15) ≡ r.section =
    ap (λ n. section_with (n / 2 ^ 15)) back ∙ ap section_with (let e : fields / 2 ^ 15 ≡ s = omega (arith, small_section r.section, small_section r.target) in e) ∙ section_back r.section
    in
    let part_is : right (word_with_halves r.offset fields) / 2 ^ 12 % 2 ^ 3 ≡ r.part =
    ap (λ n. n / 2 ^ 12 % 2 ^ 3) back ∙ (let e : fields / 2 ^ 12 % 2 ^ 3 ≡ r.part = omega (arith, small_section r.section, small_section r.target) in e)
    in
    let target : section_with (right (word_with_halves r.offset fields) / 2 ^ 9 % 2 ^ 3) ≡ r.target =
    ap (λ n. section_with (n / 2 ^ 9 % 2 ^ 3)) back ∙ ap section_with (let e : fields / 2 ^ 9 % 2 ^ 3 ≡ t = omega (arith, small_section r.section, small_section r.target) in e) ∙ section_back r.target
    in
    λ i. record { section = section i; offset = offset i; part = part_is i; target = target i }
