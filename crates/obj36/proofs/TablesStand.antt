-- Each definition, link and relocation of well-formed parts is decoded as itself.
use Rattle.std.proofs.Common.{ℕ, ◌≡◌, ◌^◌, ◌<◌, ◌≤◌, Bool, true, false, cond, ◌&&◌, ◌||◌, eqb, leb, ltb, List, [], ◌∷◌, length, refl, sym, ◌∙◌, arith}
use Rattle.std.specs.List.{list_any, list_all, AllByRecursion}
use Rattle.std.proofs.lemmas.Bool.{and_parts, or_left, or_right, leb-true, ltb-true, eqb-true}
use Rattle.std.proofs.lemmas.Bool.Decides.{nat_tests}
use Rattle.std.proofs.lemmas.List.{nil_from_length}
use Rattle.std.proofs.lemmas.List.Folds.{list_any-append}
use Rattle.obj36_parts.specs.declared.section.Section.{Section}
use Rattle.obj36_parts.specs.declared.section.Section.TheVariants.{Text, Linkage, Symbol, Static}
use Rattle.obj36_parts.specs.declared.definition.Named.{Named}
use Rattle.obj36_parts.specs.Fields.{LinkFields, RelocFields}
use Rattle.obj36_parts.specs.Names.{same, is_name, name_offset}
use Rattle.obj36_parts.specs.Sections.{class_number, section_number}
use Rattle.obj36_parts.specs.ObjectSegment.{has_name, has_entry, has_section, greatest_class_number, last_section_number, section_or_name_offset, entry_name_offset, link_names, name_used, entry_used, definition_names, all_link_names, is_valid_definition, is_valid_link, is_relocatable, is_valid_relocation, relocation_word}
use Rattle.obj36_read.specs.Reading.{name_at, section_with, relocation_in}
use Rattle.obj36_parts.proofs.SizeLaws.{same_self}
use Rattle.obj36.proofs.NameReading.{IsGood, good_name, IsRead}
use Rattle.obj36.proofs.TableReading.{DefinitionStands, LinkStands, section_back, small_section, relocation_back}

-- each valid name of the list is decoded where the table has it
abbrev pub AreRead : List (List ℕ) → List ℕ → List (List ℕ) → ℕ → Type 0
AreRead some words names base = (x : List ℕ) → list_any (same x) some ≡ true → IsGood x → IsRead words (name_offset x names base) (2 ^ 18) x

-- ---- definitions

definition_stands : (version : ℕ) (words : List ℕ) (names : List (List ℕ)) (base : ℕ) (d : Named) → is_valid_definition version d ≡ true → (IsGood d.name → IsRead words (name_offset d.name names base) (2 ^ 18) d.name)
    → DefinitionStands words names base d
unfolding is_valid_definition
definition_stands version words names base d e read =
    let b = and_parts (is_name d.name && ltb d.def.value (2 ^ 18)) (leb (class_number d.def.section) (greatest_class_number version)) e in
    let a = and_parts (is_name d.name) (ltb d.def.value (2 ^ 18)) b.0 in
    let r = read (good_name d.name a.0) in
    record { name = r.name_is; place = r.within; value = ltb-true _ _ a.1 }

pub definitions_stand : (version : ℕ) (words : List ℕ) (names : List (List ℕ)) (base : ℕ) (ds : List Named) → AreRead (definition_names ds) words names base → list_all (is_valid_definition version) ds ≡ true
    → AllByRecursion (DefinitionStands words names base) ds
unfolding definition_names
definitions_stand version words names base [] read e = tt
definitions_stand version words names base (d ∷ ds) read e =
    let both = and_parts (is_valid_definition version d) (list_all (is_valid_definition version) ds) e in (
      definition_stands version words names base d both.0 (λ g. read d.name (or_left (same d.name d.name) (list_any (same d.name) (definition_names ds)) (same_self d.name)) g),
      definitions_stand version words names base ds (λ x among g. read x (or_right (same x d.name) (list_any (same x) (definition_names ds)) among) g) both.1,
    )

-- ---- links

small_kind : (kind : ℕ) → (has_name kind || has_section kind) ≡ true → kind < 2 ^ 8
small_kind kind e = grind (arith, nat_tests)

no_section : (kind : ℕ) → has_name kind ≡ true → has_section kind ≡ false
no_section kind e = grind (arith, nat_tests)

is_text : (s : Section) → section_number s ≤ 0 → s ≡ Text
is_text Text le = refl
is_text Linkage le = absurd (omega arith)
is_text Symbol le = absurd (omega arith)
is_text Static le = absurd (omega arith)

small_of : (a : Bool) (x y : ℕ) → (a ≡ true → x < 2 ^ 18) → y ≤ 3 → cond a x y < 2 ^ 18
small_of true x y f le = f refl
small_of false x y f le = omega arith

text_of : (a : Bool) (x : List ℕ) → cond a (is_name x) (eqb (length x) 0) ≡ true → a ≡ true → IsGood x
text_of true x e t = good_name x e
text_of false x e t = absurd cc

nothing_of : (a : Bool) (x : List ℕ) → cond a (is_name x) (eqb (length x) 0) ≡ true → a ≡ false → [] ≡ x
nothing_of true x e t = absurd cc
nothing_of false x e t = sym (nil_from_length x (eqb-true (length x) 0 e))

section_of : (a b : Bool) (s : Section) (x last : ℕ) → (a ≡ true → b ≡ false) → leb (section_number s) (cond b last 0) ≡ true → cond a Text (section_with (cond a x (section_number s))) ≡ s
section_of true true s x last none e = absurd (let h : true ≡ false = none refl in cc)
section_of true false s x last none e = sym (is_text s (leb-true _ _ e))
section_of false b s x last none e = section_back s

name_of : (a : Bool) (words name : List ℕ) (x y : ℕ) → (a ≡ true → name_at words x ≡ name) → (a ≡ false → [] ≡ name) → cond a (name_at words (cond a x y)) [] ≡ name
name_of true words name x y read none = read refl
name_of false words name x y read none = none refl

link_stands : (version : ℕ) (words : List ℕ) (names : List (List ℕ)) (base : ℕ) (l : LinkFields) → is_valid_link version l ≡ true
    → (has_name l.kind ≡ true → IsGood l.name → IsRead words (name_offset l.name names base) (2 ^ 18) l.name)
    → (has_entry l.kind ≡ true → IsGood l.entry → IsRead words (name_offset l.entry names base) (2 ^ 18) l.entry)
    → LinkStands words names base l
unfolding is_valid_link section_or_name_offset entry_name_offset
link_stands version words names base l e read_name read_entry =
    let k = l.kind in
    let used = has_name k || has_section k in
    let within = leb (section_number l.section) (cond (has_section k) (last_section_number version) 0) in
    let named = cond (has_name k) (is_name l.name) (eqb (length l.name) 0) in
    let entered = cond (has_entry k) (is_name l.entry) (eqb (length l.entry) 0) in
    let m = and_parts (used && within && named && entered && ltb l.expr (2 ^ 18)) (ltb l.modifier (2 ^ 6)) e in
    let x = and_parts (used && within && named && entered) (ltb l.expr (2 ^ 18)) m.0 in
    let n = and_parts (used && within && named) entered x.0 in
    let o = and_parts (used && within) named n.0 in
    let u = and_parts used within o.0 in
    let name_read : has_name k ≡ true → IsRead words (name_offset l.name names base) (2 ^ 18) l.name = λ t. read_name t (text_of (has_name k) l.name o.1 t) in
    let entry_read : has_entry k ≡ true → IsRead words (name_offset l.entry names base) (2 ^ 18) l.entry = λ t. read_entry t (text_of (has_entry k) l.entry n.1 t) in
    record {
      kind = small_kind k u.0;
      expr = ltb-true _ _ x.1;
      modifier = ltb-true _ _ m.1;
      subject = small_of (has_name k) (name_offset l.name names base) (section_number l.section) (λ t. (name_read t).within) (small_section l.section);
      entry_at = small_of (has_entry k) (name_offset l.entry names base) 0 (λ t. (entry_read t).within) (omega arith);
      section = section_of (has_name k) (has_section k) l.section (name_offset l.name names base) (last_section_number version) (no_section k) u.1;
      name = name_of (has_name k) words l.name (name_offset l.name names base) (section_number l.section) (λ t. (name_read t).name_is) (nothing_of (has_name k) l.name o.1);
      entry = name_of (has_entry k) words l.entry (name_offset l.entry names base) 0 (λ t. (entry_read t).name_is) (nothing_of (has_entry k) l.entry n.1);
    }

chosen_here : (a : Bool) (x : List ℕ) → a ≡ true → list_any (same x) (cond a (x ∷ []) []) ≡ true
chosen_here true x e = or_left (same x x) false (same_self x)
chosen_here false x e = absurd cc

name_among : (l : LinkFields) → has_name l.kind ≡ true → list_any (same l.name) (link_names l) ≡ true
unfolding link_names name_used
name_among l e = list_any-append (same l.name) (name_used l) (entry_used l) ∙ or_left (list_any (same l.name) (name_used l)) (list_any (same l.name) (entry_used l)) (chosen_here (has_name l.kind) l.name e)

entry_among : (l : LinkFields) → has_entry l.kind ≡ true → list_any (same l.entry) (link_names l) ≡ true
unfolding link_names entry_used
entry_among l e = list_any-append (same l.entry) (name_used l) (entry_used l) ∙ or_right (list_any (same l.entry) (name_used l)) (list_any (same l.entry) (entry_used l)) (chosen_here (has_entry l.kind) l.entry e)

among_first : (x : List ℕ) (l : LinkFields) (ls : List LinkFields) → list_any (same x) (link_names l) ≡ true → list_any (same x) (all_link_names (l ∷ ls)) ≡ true
unfolding all_link_names
among_first x l ls e = list_any-append (same x) (link_names l) (all_link_names ls) ∙ or_left (list_any (same x) (link_names l)) (list_any (same x) (all_link_names ls)) e

among_rest : (x : List ℕ) (l : LinkFields) (ls : List LinkFields) → list_any (same x) (all_link_names ls) ≡ true → list_any (same x) (all_link_names (l ∷ ls)) ≡ true
unfolding all_link_names
among_rest x l ls e = list_any-append (same x) (link_names l) (all_link_names ls) ∙ or_right (list_any (same x) (link_names l)) (list_any (same x) (all_link_names ls)) e

pub links_stand : (version : ℕ) (words : List ℕ) (names : List (List ℕ)) (base : ℕ) (ls : List LinkFields) → AreRead (all_link_names ls) words names base → list_all (is_valid_link version) ls ≡ true
    → AllByRecursion (LinkStands words names base) ls
links_stand version words names base [] read e = tt
links_stand version words names base (l ∷ ls) read e =
    let both = and_parts (is_valid_link version l) (list_all (is_valid_link version) ls) e in (
      link_stands version words names base l both.0
          (λ t g. read l.name (among_first l.name l ls (name_among l t)) g)
          (λ t g. read l.entry (among_first l.entry l ls (entry_among l t)) g),
      links_stand version words names base ls (λ x among g. read x (among_rest x l ls among) g) both.1,
    )

-- ---- relocations

pub relocations_stand : (text inner outer version : ℕ) (rs : List RelocFields) → list_all (is_valid_relocation text inner outer version) rs ≡ true → AllByRecursion (λ r. relocation_in (relocation_word r) ≡ r) rs
unfolding is_valid_relocation
relocations_stand text inner outer version [] e = tt
relocations_stand text inner outer version (r ∷ rs) e =
    let both = and_parts (is_valid_relocation text inner outer version r) (list_all (is_valid_relocation text inner outer version) rs) e in
    let c = and_parts (is_relocatable text inner outer r.section r.offset && ltb r.offset (2 ^ 18) && leb r.part 2) (leb (section_number r.target) (last_section_number version)) both.0 in
    let b = and_parts (is_relocatable text inner outer r.section r.offset && ltb r.offset (2 ^ 18)) (leb r.part 2) c.0 in
    let a = and_parts (is_relocatable text inner outer r.section r.offset) (ltb r.offset (2 ^ 18)) b.0 in
    (relocation_back r (ltb-true _ _ a.1) (leb-true _ _ b.1), relocations_stand text inner outer version rs both.1)
