-- The place of the first definition of each name.
use Rattle.std.proofs.Common.{ℕ, ◌≡◌, Bool, true, false, cond, eqb, List, [], ◌∷◌, ◌++◌, length, Option, Some, None, is_some, suc, refl, sym, ap, ◌∙◌, subst, true≢false}
use Rattle.std.specs.List.{list_any}
use Rattle.std.specs.Map.{lookup}
use Rattle.indexmap.specs.IndexMap.{insert_entry}
use Rattle.std.proofs.lemmas.Cmp.{nat_list_eq_equiv}
use Rattle.obj36_parts.specs.Fields.{DefFields}
use Rattle.obj36_parts.specs.declared.definition.Named.{Named}
use Rattle.obj36_parts.specs.Names.{same, with_name, with_names, names_in}
use Rattle.obj36_parts.specs.ObjectSegment.{definition_names, definition_named, are_distinct}
use Rattle.obj36_parts.specs.Indexes.{with_first_definition, AreFirsts}
use Rattle.obj36_parts.proofs.NameTables.{with_names-append}
use Rattle.obj36_parts.proofs.SizeLaws.{same_is, any_among, any_definition, definition_names-append}
use Rattle.obj36_parts.proofs.IndexLaws.{names_in_last, looked, or_else, or_nothing, or_something, first_or_else, lookup_last, goes_last, distinct_by_count}

pub none_first : (firsts : List (List ℕ × DefFields)) (ds : List Named) → firsts ≡ [] → ds ≡ [] → AreFirsts ds firsts
unfolding with_names definition_names definition_named
none_first firsts ds e f = record {
  names_are = ap (λ (es : List (List ℕ × DefFields)). names_in es) e ∙ ap (λ (xs : List Named). with_names [] (definition_names xs)) (sym f);
  firsts_are = λ name. ap (λ (es : List (List ℕ × DefFields)). lookup (same name) es) e ∙ ap (λ (xs : List Named). definition_named name xs) (sym f);
}

-- ---- one more definition

names_first : (firsts : List (List ℕ × DefFields)) (d : Named) → names_in (with_first_definition firsts d) ≡ with_name (names_in firsts) d.name
unfolding with_first_definition with_name
names_first firsts d = by (is_some (lookup (same d.name) firsts)) (list_any (same d.name) (names_in firsts)) (looked d.name firsts)
  where
    by : (b c : Bool) → b ≡ c → names_in (cond b firsts (firsts ++ (d.name, d.def) ∷ [])) ≡ cond c (names_in firsts) (names_in firsts ++ d.name ∷ [])
    by true true e = refl
    by false false e = names_in_last firsts d.name d.def
    by true false e = absurd (true≢false e)
    by false true e = absurd (true≢false (sym e))

named_last : (name : List ℕ) (ds : List Named) (d : Named)
    → definition_named name (ds ++ d ∷ []) ≡ or_else (definition_named name ds) (cond (same d.name name) (Some d.def) None)
unfolding definition_named or_else
named_last name [] d = refl
named_last name (x ∷ ds) d =
    ap (λ (o : Option DefFields). cond (same x.name name) (Some x.def) o) (named_last name ds d)
    ∙ first_or_else (same x.name name) x.def (definition_named name ds) (cond (same d.name name) (Some d.def) None)

first_last : (ds : List Named) (firsts : List (List ℕ × DefFields)) (d : Named) (name : List ℕ) → ((n : List ℕ) → lookup (same n) firsts ≡ definition_named n ds)
    → (b : Bool) → is_some (lookup (same d.name) firsts) ≡ b
    → lookup (same name) (cond b firsts (firsts ++ (d.name, d.def) ∷ [])) ≡ definition_named name (ds ++ d ∷ [])
first_last ds firsts d name are true some = are name ∙ sym (stays (same d.name name) refl) ∙ sym (named_last name ds d)
  where
    stays : (s : Bool) → same d.name name ≡ s → or_else (definition_named name ds) (cond s (Some d.def) None) ≡ definition_named name ds
    stays false e = or_nothing (definition_named name ds)
    stays true e =
        or_something (definition_named name ds) (Some d.def)
        (ap (λ (n : List ℕ). is_some (definition_named n ds)) (sym (same_is d.name name e)) ∙ ap (λ (o : Option DefFields). is_some o) (sym (are d.name)) ∙ some)
first_last ds firsts d name are false some =
    lookup_last (same name) firsts d.name d.def
    ∙ (λ i. or_else (are name i) (cond (nat_list_eq_equiv.symm name d.name i) (Some d.def) None))
    ∙ sym (named_last name ds d)

pub first_more : (ds held all : List Named) (firsts newer : List (List ℕ × DefFields)) (d : Named) → AreFirsts ds firsts → held ≡ ds → all ≡ held ++ d ∷ [] → newer ≡ with_first_definition firsts d
    → AreFirsts all newer
unfolding with_first_definition with_names definition_names
first_more ds held all firsts newer d h e f n =
    let P : List Named → Type 0 = λ xs. AreFirsts xs newer in
    subst P (sym (f ∙ ap (λ (xs : List Named). xs ++ d ∷ []) e)) (record {
      names_are =
          ap (λ (es : List (List ℕ × DefFields)). names_in es) n ∙ names_first firsts d ∙ ap (λ (ns : List (List ℕ)). with_name ns d.name) h.names_are
          ∙ sym (with_names-append [] (definition_names ds) (d.name ∷ []))
          ∙ ap (λ (ns : List (List ℕ)). with_names [] ns) (sym (definition_names-append ds (d ∷ [])));
      firsts_are = λ name.
          ap (λ (es : List (List ℕ × DefFields)). lookup (same name) es) n
          ∙ first_last ds firsts d name h.firsts_are (is_some (lookup (same d.name) firsts)) refl;
    })

-- ---- what is put into the map

pub first_kept : (firsts : List (List ℕ × DefFields)) (d : Named) → is_some (lookup (same d.name) firsts) ≡ true → firsts ≡ with_first_definition firsts d
unfolding with_first_definition
first_kept firsts d some = sym (ap (λ b. cond b firsts (firsts ++ (d.name, d.def) ∷ [])) some)

pub first_added : (firsts newer : List (List ℕ × DefFields)) (d : Named) (name : List ℕ) → is_some (lookup (same d.name) firsts) ≡ false → name ≡ d.name
    → newer ≡ insert_entry same firsts name d.def → newer ≡ with_first_definition firsts d
unfolding with_first_definition
first_added firsts newer d name none e f =
    f ∙ ap (λ (n : List ℕ). insert_entry same firsts n d.def) e ∙ goes_last same firsts d.name d.def none
    ∙ sym (ap (λ b. cond b firsts (firsts ++ (d.name, d.def) ∷ [])) none)

-- ---- what is found

pub first_has : (firsts : List (List ℕ × DefFields)) (ds : List Named) (name : List ℕ) → AreFirsts ds firsts → is_some (lookup (same name) firsts) ≡ list_any (λ d. same name d.name) ds
first_has firsts ds name h =
    looked name firsts ∙ ap (λ (ns : List (List ℕ)). list_any (same name) ns) h.names_are ∙ any_among name [] (definition_names ds) ∙ sym (any_definition name ds)

length-names_in : (firsts : List (List ℕ × DefFields)) → length (names_in firsts) ≡ length firsts
length-names_in [] = refl
length-names_in (e ∷ firsts) = ap suc (length-names_in firsts)

pub distinct_by_firsts : (firsts : List (List ℕ × DefFields)) (ds : List Named) → AreFirsts ds firsts → eqb (length firsts) (length ds) ≡ are_distinct (definition_names ds)
distinct_by_firsts firsts ds h = ap (λ n. eqb n (length ds)) (sym (length-names_in firsts)) ∙ distinct_by_count (names_in firsts) ds h.names_are
