-- What is found in the tables of definitions and links.
use Rattle.std.proofs.Common.{ℕ, suc, ◌≡◌, ◌+◌, Bool, true, false, cond, ◌&&◌, ◌||◌, not, eqb, List, [], ◌∷◌, ◌++◌, length, Option, Some, None, is_some, refl, sym, ap, ◌∙◌, subst, true≢false, arith}
use Rattle.std.specs.List.{list_any, position_from}
use Rattle.std.specs.Prelude.{position}
use Rattle.std.specs.Map.{lookup}
use Rattle.indexmap.specs.IndexMap.{insert_entry}
use Rattle.std.proofs.lemmas.Bool.{and_parts, and_from, eqb-true, eq-eqb, ne_eqb}
use Rattle.std.proofs.lemmas.Cmp.{nat_list_eq_equiv}
use Rattle.std.proofs.lemmas.Iterator.Adapters.{position_from-zero}
use Rattle.std.proofs.lemmas.List.{length-append, append-nil}
use Rattle.std.proofs.lemmas.List.Folds.{list_any-append}
use Rattle.obj36_parts.specs.Fields.{LinkFields}
use Rattle.obj36_parts.specs.declared.definition.Named.{Named}
use Rattle.obj36_parts.specs.declared.section.Section.{Section}
use Rattle.obj36_parts.specs.declared.section.Section.TheVariants.{Text, Linkage, Symbol, Static}
use Rattle.obj36_parts.specs.Names.{same, with_name, with_names, names_in}
use Rattle.obj36_parts.specs.Sections.{section_number}
use Rattle.obj36_parts.specs.ObjectSegment.{definition_names, link_names, all_link_names, are_distinct}
use Rattle.obj36_parts.specs.Indexes.{same_link, with_first_index, AreIndexed}
use Rattle.obj36_parts.proofs.NameTables.{with_names-append, few_with, few_definitions}
use Rattle.obj36_parts.proofs.SizeLaws.{same_is, same_self, all_link_names-append}

-- ---- names of definitions

-- the names of entries with one more
pub names_in_last : {A : Type 0} (entries : List (List ℕ × A)) (name : List ℕ) (x : A) → names_in (entries ++ (name, x) ∷ []) ≡ names_in entries ++ name ∷ []
names_in_last [] name x = refl
names_in_last (e ∷ entries) name x = ap (λ (ns : List (List ℕ)). e.0 ∷ ns) (names_in_last entries name x)

-- a name is found exactly if the list has it
pub looked : {A : Type 0} (name : List ℕ) (entries : List (List ℕ × A)) → is_some (lookup (same name) entries) ≡ list_any (same name) (names_in entries)
looked name [] = refl
looked {A} name (e ∷ entries) = by (same name e.0) (looked name entries)
  where
    by : (b : Bool) → is_some (lookup (same name) entries) ≡ list_any (same name) (names_in entries)
        → is_some (cond b (Some e.1) (lookup (same name) entries)) ≡ (b || list_any (same name) (names_in entries))
    by true later = refl
    by false later = later

-- ---- names are all different if they are as many as without repetition

-- whether no name of one list is in another
none_in : List (List ℕ) → List (List ℕ) → Bool
none_in names [] = true
none_in names (x ∷ xs) = not (list_any (same x) names) && none_in names xs

reordered : (a s n r : Bool) → (not (a || (s || false)) && (n && not r)) ≡ ((not a && n) && not (s || r))
reordered true s n r = refl
reordered false true true r = refl
reordered false true false r = refl
reordered false false n r = refl

none_in_more : (names : List (List ℕ)) (x : List ℕ) (xs : List (List ℕ)) → none_in (names ++ x ∷ []) xs ≡ (none_in names xs && not (list_any (same x) xs))
unfolding none_in
none_in_more names x [] = refl
none_in_more names x (y ∷ ys) =
    (λ i. not (list_any-append (same y) names (x ∷ []) i) && none_in_more names x ys i)
    ∙ ap (λ b. not (list_any (same y) names || (b || false)) && (none_in names ys && not (list_any (same x) ys))) (nat_list_eq_equiv.symm y x)
    ∙ reordered (list_any (same y) names) (same x y) (none_in names ys) (list_any (same x) ys)

none_in_none : (xs : List (List ℕ)) → none_in [] xs ≡ true
unfolding none_in
none_in_none [] = refl
none_in_none (x ∷ xs) = none_in_none xs

no_more : (a n x : Bool) → (a && (n && x)) ≡ ((x && a) && n)
no_more true true true = refl
no_more true true false = refl
no_more true false true = refl
no_more true false false = refl
no_more false n true = refl
no_more false n false = refl

and_false : (b : Bool) → (b && false) ≡ false
and_false true = refl
and_false false = refl

and_true : (b : Bool) → (b && true) ≡ b
and_true true = refl
and_true false = refl

counted : (names xs : List (List ℕ)) → eqb (length (with_names names xs)) (length names + length xs) ≡ (are_distinct xs && none_in names xs)
unfolding with_names with_name are_distinct none_in
counted names [] = eq-eqb (length names) (length names + 0) (omega arith)
counted names (x ∷ xs) = by (list_any (same x) names) (counted (names ++ x ∷ []) xs)
  where
    by : (b : Bool)
        → eqb (length (with_names (names ++ x ∷ []) xs)) (length (names ++ x ∷ []) + length xs) ≡ (are_distinct xs && none_in (names ++ x ∷ []) xs)
        → eqb (length (with_names (cond b names (names ++ x ∷ [])) xs)) (length names + suc (length xs)) ≡ ((not (list_any (same x) xs) && are_distinct xs) && (not b && none_in names xs))
    by true more =
        ne_eqb (length (with_names names xs)) (length names + suc (length xs)) (λ same_count. absurd (omega (arith, few_with names xs, same_count)))
        ∙ sym (and_false (not (list_any (same x) xs) && are_distinct xs))
    by false more =
        ap (λ n. eqb (length (with_names (names ++ x ∷ []) xs)) n) (let k : length names + suc (length xs) ≡ length (names ++ x ∷ []) + length xs = omega (arith, length-append names (x ∷ [])) in k)
        ∙ more ∙ ap (λ b. are_distinct xs && b) (none_in_more names x xs) ∙ no_more (are_distinct xs) (none_in names xs) (not (list_any (same x) xs))

pub distinct_by_count : (keys : List (List ℕ)) (ds : List Named) → keys ≡ with_names [] (definition_names ds)
    → eqb (length keys) (length ds) ≡ are_distinct (definition_names ds)
distinct_by_count keys ds e =
    let names = definition_names ds in
    let count : length ds ≡ 0 + length names = omega (arith, few_definitions ds) in
    ap (λ (ns : List (List ℕ)). eqb (length ns) (length ds)) e ∙ ap (λ n. eqb (length (with_names [] names)) n) count
    ∙ counted [] names ∙ ap (λ b. are_distinct names && b) (none_in_none names) ∙ and_true (are_distinct names)

-- ---- equality of links

same_section_is : (a b : Section) → eqb (section_number a) (section_number b) ≡ true → a ≡ b
same_section_is Text Text e = refl
same_section_is Text Linkage e = absurd cc
same_section_is Text Symbol e = absurd cc
same_section_is Text Static e = absurd cc
same_section_is Linkage Text e = absurd cc
same_section_is Linkage Linkage e = refl
same_section_is Linkage Symbol e = absurd cc
same_section_is Linkage Static e = absurd cc
same_section_is Symbol Text e = absurd cc
same_section_is Symbol Linkage e = absurd cc
same_section_is Symbol Symbol e = refl
same_section_is Symbol Static e = absurd cc
same_section_is Static Text e = absurd cc
same_section_is Static Linkage e = absurd cc
same_section_is Static Symbol e = absurd cc
same_section_is Static Static e = refl

pub same_link_is : (a b : LinkFields) → same_link a b ≡ true → a ≡ b
unfolding same_link
same_link_is a b e =
    let modifier = and_parts _ (eqb a.modifier b.modifier) e in
    let expr = and_parts _ (eqb a.expr b.expr) modifier.0 in
    let entry = and_parts _ (same a.entry b.entry) expr.0 in
    let name = and_parts _ (same a.name b.name) entry.0 in
    let section = and_parts (eqb a.kind b.kind) (eqb (section_number a.section) (section_number b.section)) name.0 in
    λ i. record {
      kind = eqb-true a.kind b.kind section.0 i;
      section = same_section_is a.section b.section section.1 i;
      name = same_is a.name b.name name.1 i;
      entry = same_is a.entry b.entry entry.1 i;
      expr = eqb-true a.expr b.expr expr.1 i;
      modifier = eqb-true a.modifier b.modifier modifier.1 i;
    }

pub link_self : (l : LinkFields) → same_link l l ≡ true
unfolding same_link
link_self l =
    let and_all : (a b : Bool) → a ≡ true → b ≡ true → (a && b) ≡ true = and_from in
    and_all _ (eqb l.modifier l.modifier)
    (and_all _ (eqb l.expr l.expr)
    (and_all _ (same l.entry l.entry)
    (and_all _ (same l.name l.name)
    (and_all (eqb l.kind l.kind) (eqb (section_number l.section) (section_number l.section)) (eq-eqb l.kind l.kind refl) (eq-eqb (section_number l.section) (section_number l.section) refl))
    (same_self l.name)) (same_self l.entry)) (eq-eqb l.expr l.expr refl)) (eq-eqb l.modifier l.modifier refl)

-- ---- the first indexes

unfoldable pub or_else : {A : Type 0} → Option A → Option A → Option A
or_else (Some i) o = Some i
or_else None o = o

pub or_nothing : {A : Type 0} (o : Option A) → or_else o None ≡ o
unfolding or_else
or_nothing (Some i) = refl
or_nothing None = refl

pub or_something : {A : Type 0} (o p : Option A) → is_some o ≡ true → or_else o p ≡ o
unfolding or_else
or_something (Some i) p e = refl
or_something None p e = absurd (true≢false (sym e))

pub first_or_else : {A : Type 0} (b : Bool) (i : A) (o p : Option A) → cond b (Some i) (or_else o p) ≡ or_else (cond b (Some i) o) p
unfolding or_else
first_or_else true i o p = refl
first_or_else false i o p = refl

pub lookup_last : {K A : Type 0} (test : K → Bool) (entries : List (K × A)) (key : K) (x : A)
    → lookup test (entries ++ (key, x) ∷ []) ≡ or_else (lookup test entries) (cond (test key) (Some x) None)
unfolding or_else
lookup_last test [] key x = refl
lookup_last {K} {A} test (p ∷ entries) key x =
    ap (λ (o : Option A). cond (test p.0) (Some p.1) o) (lookup_last test entries key x) ∙ first_or_else (test p.0) p.1 (lookup test entries) (cond (test key) (Some x) None)

module _ (test : LinkFields → Bool) where
  position_from_last : (i : ℕ) (links : List LinkFields) (link : LinkFields)
      → position_from test i (links ++ link ∷ []) ≡ or_else (position_from test i links) (cond (test link) (Some (i + length links)) None)
  unfolding or_else
  position_from_last i [] link = ap (λ n. cond (test link) (Some n) None) (let k : i ≡ i + 0 = omega arith in k)
  position_from_last i (l ∷ links) link =
      ap (λ o. cond (test l) (Some i) o)
      (position_from_last (i + 1) links link
      ∙ ap (λ n. or_else (position_from test (i + 1) links) (cond (test link) (Some n) None)) (let k : i + 1 + length links ≡ i + suc (length links) = omega arith in k))
      ∙ first_or_else (test l) i (position_from test (i + 1) links) (cond (test link) (Some (i + suc (length links))) None)

  position_last : (links : List LinkFields) (link : LinkFields)
      → position test (links ++ link ∷ []) ≡ or_else (position test links) (cond (test link) (Some (length links)) None)
  position_last links link =
      position_from-zero test (links ++ link ∷ []) ∙ position_from_last 0 links link
      ∙ (λ i. or_else (sym (position_from-zero test links) i) (cond (test link) (Some ((let k : 0 + length links ≡ length links = omega arith in k) i)) None))

  some_position : (i : ℕ) (links : List LinkFields) → is_some (position_from test i links) ≡ list_any test links
  some_position i [] = refl
  some_position i (l ∷ links) = by (test l) (some_position (i + 1) links)
    where
      by : (b : Bool) → is_some (position_from test (i + 1) links) ≡ list_any test links
          → is_some (cond b (Some i) (position_from test (i + 1) links)) ≡ (b || list_any test links)
      by true later = refl
      by false later = later

pub placed_has : (links : List LinkFields) (link : LinkFields) → is_some (position (same_link link) links) ≡ list_any (same_link link) links
placed_has links link = ap is_some (position_from-zero (same_link link) links) ∙ some_position (same_link link) 0 links

-- a link that has an index keeps it, and another one is added at the end
places_more : (links : List LinkFields) (places : List (LinkFields × ℕ)) (link other : LinkFields) (b : Bool)
    → ((l : LinkFields) → lookup (same_link l) places ≡ position (same_link l) links) → is_some (lookup (same_link link) places) ≡ b
    → lookup (same_link other) (cond b places (places ++ (link, length links) ∷ [])) ≡ position (same_link other) (links ++ link ∷ [])
places_more links places link other true are some =
    are other ∙ sym (stays (same_link other link) refl) ∙ sym (position_last (same_link other) links link)
  where
    stays : (s : Bool) → same_link other link ≡ s → or_else (position (same_link other) links) (cond s (Some (length links)) None) ≡ position (same_link other) links
    stays false e = or_nothing (position (same_link other) links)
    stays true e =
        or_something (position (same_link other) links) (Some (length links))
        (ap (λ (l : LinkFields). is_some (position (same_link l) links)) (same_link_is other link e) ∙ ap is_some (sym (are link)) ∙ some)
places_more links places link other false are some =
    lookup_last (same_link other) places link (length links)
    ∙ ap (λ o. or_else o (cond (same_link other link) (Some (length links)) None)) (are other)
    ∙ sym (position_last (same_link other) links link)

-- ---- inserting into a map

no_tail : {A : Type 0} (b : Bool) (n : A) (r : Option A) → is_some (cond b (Some n) r) ≡ false → (b ≡ false) × (is_some r ≡ false)
no_tail true n r e = absurd (true≢false e)
no_tail false n r e = (refl, e)

-- a key that is not in the map is added at the end
pub goes_last : {K A : Type 0} (eq : K → K → Bool) (entries : List (K × A)) (key : K) (place : A) → is_some (lookup (eq key) entries) ≡ false
    → insert_entry eq entries key place ≡ entries ++ (key, place) ∷ []
goes_last eq [] key place none = refl
goes_last {K} {A} eq (e ∷ entries) key place none =
    let parts = no_tail (eq key e.0) e.1 (lookup (eq key) entries) none in
    ap (λ b. cond b ((e.0, place) ∷ entries) (e ∷ insert_entry eq entries key place)) parts.0 ∙ ap (λ (l : List (K × A)). e ∷ l) (goes_last eq entries key place parts.1)

module _ (eq : LinkFields → LinkFields → Bool) (same_eq : (a b : LinkFields) → eq a b ≡ same_link a b) where
  looked_same : (places : List (LinkFields × ℕ)) (link : LinkFields) → lookup (eq link) places ≡ lookup (same_link link) places
  looked_same places link = λ i. lookup (λ other. same_eq link other i) places

  pub place_kept : (places : List (LinkFields × ℕ)) (link : LinkFields) (place : ℕ) → is_some (lookup (eq link) places) ≡ true → places ≡ with_first_index places link place
  unfolding with_first_index
  place_kept places link place some =
      sym (ap (λ b. cond b places (places ++ (link, place) ∷ [])) (ap is_some (sym (looked_same places link)) ∙ some))

  pub place_added : (places newer : List (LinkFields × ℕ)) (link : LinkFields) (place : ℕ) → is_some (lookup (eq link) places) ≡ false
      → newer ≡ insert_entry eq places link place → newer ≡ with_first_index places link place
  unfolding with_first_index
  place_added places newer link place none e =
      e ∙ goes_last eq places link place none
      ∙ sym (ap (λ b. cond b places (places ++ (link, place) ∷ [])) (ap is_some (sym (looked_same places link)) ∙ none))

pub indexed_place : (eq : LinkFields → LinkFields → Bool) → ((a b : LinkFields) → eq a b ≡ same_link a b)
    → (links : List LinkFields) (places : List (LinkFields × ℕ)) (keys : List (List ℕ)) (link : LinkFields) → AreIndexed links places keys
    → lookup (eq link) places ≡ position (same_link link) links
indexed_place eq same_eq links places keys link h = looked_same eq same_eq places link ∙ h.places_are link

pub none_indexed : (keys : List (List ℕ)) (places : List (LinkFields × ℕ)) (links : List LinkFields) → places ≡ [] → keys ≡ [] → links ≡ [] → AreIndexed links places keys
unfolding with_names all_link_names
none_indexed keys places links e f g = record {
  places_are = λ l. (λ i. lookup (same_link l) (e i)) ∙ ap (λ (ls : List LinkFields). position (same_link l) ls) (sym g);
  names_are = f ∙ ap (λ (ls : List LinkFields). with_names [] (all_link_names ls)) (sym g);
}

pub indexed_more : (links held all : List LinkFields) (places newer : List (LinkFields × ℕ)) (keys kept new : List (List ℕ)) (link : LinkFields) (place : ℕ)
    → AreIndexed links places keys → held ≡ links → all ≡ held ++ link ∷ [] → place ≡ length held → newer ≡ with_first_index places link place
    → kept ≡ keys → new ≡ with_names kept (link_names link) → AreIndexed all newer new
unfolding with_first_index all_link_names
indexed_more links held all places newer keys kept new link place h e f p q k n =
    let P : List LinkFields → Type 0 = λ ls. AreIndexed ls newer new in
    let at : place ≡ length links = p ∙ ap length e in
    subst P (sym (f ∙ ap (λ (ls : List LinkFields). ls ++ link ∷ []) e)) (record {
      places_are = λ l.
          ap (λ (ps : List (LinkFields × ℕ)). lookup (same_link l) ps) (q ∙ ap (λ m. cond (is_some (lookup (same_link link) places)) places (places ++ (link, m) ∷ [])) at)
          ∙ places_more links places link l (is_some (lookup (same_link link) places)) h.places_are refl;
      names_are =
          n ∙ ap (λ (ks : List (List ℕ)). with_names ks (link_names link)) (k ∙ h.names_are)
          ∙ sym (with_names-append [] (all_link_names links) (link_names link))
          ∙ ap (λ (ns : List (List ℕ)). with_names [] ns) (ap (λ (ns : List (List ℕ)). all_link_names links ++ ns) (sym (append-nil (link_names link))) ∙ sym (all_link_names-append links (link ∷ [])));
    })
