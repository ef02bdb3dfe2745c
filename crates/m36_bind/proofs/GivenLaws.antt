-- The index of the first object of each name.
use Rattle.std.proofs.Common.{ℕ, ◌≡◌, ◌+◌, Bool, true, false, cond, List, [], ◌∷◌, ◌++◌, Option, Some, None, is_some, refl, sym, ap, subst, ◌∙◌, true≢false, ◌<◌, ◌≤◌, length, get_or, drop}
use Rattle.std.specs.Prelude.{position, slice_get, option_and_then}
use Rattle.std.specs.List.{position_from}
use Rattle.std.specs.Map.{lookup}
use Rattle.std.proofs.lemmas.List.{drop_more, at_drop_all}
use Rattle.std.proofs.lemmas.Iterator.Adapters.{position_from-zero}
use Rattle.indexmap.specs.IndexMap.{insert_entry}
use Rattle.obj36_parts.specs.PartsFields.{PartsFields}
use Rattle.obj36_parts.specs.Names.{same}
use Rattle.obj36_parts.proofs.SizeLaws.{same_is}
use Rattle.obj36_parts.proofs.IndexLaws.{or_else, or_nothing, lookup_last, goes_last}
use Rattle.m36_bind.specs.Given.{NamedObjectsFields, object_named, with_index, IndexesAreFirst}

-- lookup in a table, or among the names that follow
abbrev pub found_in : List ℕ → List (List ℕ × ℕ) → ℕ → List (List ℕ) → Option ℕ
found_in name places place rest = or_else (lookup (same name) places) (position_from (same name) place rest)

joined_else : {A : Type 0} (o : Option A) (b : Bool) (x : A) (p : Option A) → or_else (or_else o (cond b (Some x) None)) p ≡ or_else o (cond b (Some x) p)
unfolding or_else
joined_else (Some y) b x p = refl
joined_else None true x p = refl
joined_else None false x p = refl

kept_else : {A : Type 0} (o p q : Option A) → is_some o ≡ true → or_else o p ≡ or_else o q
unfolding or_else
kept_else (Some x) p q some = refl
kept_else None p q some = absurd (true≢false (sym some))

-- one name goes from the rest into the table

found_more : (name other : List ℕ) (places : List (List ℕ × ℕ)) (place : ℕ) (others : List (List ℕ)) (b : Bool) → is_some (lookup (same other) places) ≡ b
    → found_in name (cond b places (insert_entry same places other place)) (place + 1) others ≡ found_in name places place (other ∷ others)
found_more name other places place others true some = by (same name other) refl
  where
    by : (s : Bool) → same name other ≡ s
        → or_else (lookup (same name) places) (position_from (same name) (place + 1) others)
        ≡ or_else (lookup (same name) places) (cond s (Some place) (position_from (same name) (place + 1) others))
    by true e =
        kept_else (lookup (same name) places) (position_from (same name) (place + 1) others) (Some place)
        (ap (λ (n : List ℕ). is_some (lookup (same n) places)) (same_is name other e) ∙ some)
    by false e = refl
found_more name other places place others false none =
    ap (λ (ps : List (List ℕ × ℕ)). found_in name ps (place + 1) others) (goes_last same places other place none)
    ∙ ap (λ (o : Option ℕ). or_else o (position_from (same name) (place + 1) others)) (lookup_last (same name) places other place)
    ∙ joined_else (lookup (same name) places) (same name other) place (position_from (same name) (place + 1) others)

pub place_noted : (places new : List (List ℕ × ℕ)) (place : ℕ) (name : List ℕ) (others rest names : List (List ℕ)) → rest ≡ name ∷ others
    → new ≡ with_index places name place
    → ((n : List ℕ) → found_in n places place rest ≡ position (same n) names) → (n : List ℕ) → found_in n new (place + 1) others ≡ position (same n) names
unfolding with_index
place_noted places new place name others rest names first put all n =
    ap (λ (ps : List (List ℕ × ℕ)). found_in n ps (place + 1) others) put
    ∙ found_more n name places place others (is_some (lookup (same name) places)) refl
    ∙ ap (λ (r : List (List ℕ)). found_in n places place r) (sym first) ∙ all n

pub none_noted : (places : List (List ℕ × ℕ)) (names : List (List ℕ)) → places ≡ [] → (n : List ℕ) → found_in n places 0 names ≡ position (same n) names
unfolding or_else
none_noted places names none n =
    ap (λ (ps : List (List ℕ × ℕ)). found_in n ps 0 names) none ∙ sym (position_from-zero (same n) names)

pub all_noted : (places : List (List ℕ × ℕ)) (place : ℕ) (rest names : List (List ℕ)) → rest ≡ [] → ((n : List ℕ) → found_in n places place rest ≡ position (same n) names)
    → IndexesAreFirst names places
all_noted places place rest names none all = record {
  each = λ n.
      sym (or_nothing (lookup (same n) places)) ∙ ap (λ (r : List (List ℕ)). found_in n places place r) (sym none) ∙ all n;
}

-- the rest of the names

pub name_left : (names : List (List ℕ)) (i : ℕ) (name : List ℕ) → i < length names → name ≡ get_or names i name → drop i names ≡ name ∷ drop (i + 1) names
name_left names i name lt is = drop_more names i name lt ∙ ap (λ (x : List ℕ). x ∷ drop (i + 1) names) (sym is)

pub no_name_left : (names : List (List ℕ)) (i : ℕ) → length names ≤ i → drop i names ≡ []
no_name_left names i le = at_drop_all (λ (ns : List (List ℕ)). ns) names i le

-- lookup of a name

pub found_at : (given : NamedObjectsFields) (names : List (List ℕ)) (objects : List PartsFields) (places : List (List ℕ × ℕ)) (name : List ℕ) (place : Option ℕ) (found : Option PartsFields)
    → record { names = names; objects = objects } ≡ given → IndexesAreFirst names places → place ≡ lookup (same name) places → found ≡ option_and_then (slice_get objects) place
    → found ≡ object_named given name
unfolding object_named
found_at given names objects places name place found view h is at =
    let all : NamedObjectsFields = record { names = names; objects = objects } in
    let P : NamedObjectsFields → Type 0 = λ g. found ≡ option_and_then (slice_get g.objects) (position (same name) g.names) in
    subst P view (at ∙ ap (λ (o : Option ℕ). option_and_then (slice_get objects) o) (is ∙ h.each name))
