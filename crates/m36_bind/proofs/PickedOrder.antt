-- The components that lines name are in order, and each is an object.
use Rattle.std.proofs.Common.{ℕ, zero, suc, ◌≡◌, ◌+◌, Bool, true, false, cond, List, [], ◌∷◌, ◌++◌, Option, Some, None, Result, Ok, Err, refl, sym, ap, subst, ◌∙◌, arith}
use Rattle.std.specs.Prelude.{position, slice_get, option_and_then}
use Rattle.std.specs.List.{list_any, Contains}
use Rattle.obj36_parts.specs.PartsFields.{PartsFields}
use Rattle.obj36_parts.specs.ObjectSegment.{is_well_formed}
use Rattle.obj36_parts.specs.Names.{same}
use Rattle.m36_bindfile.specs.declared.fault.BindFault.{BindFault}
use Rattle.m36_bindfile.specs.declared.fault.BindFault.TheVariants as fault
use Rattle.m36_bindfile.specs.declared.line.BindLine.{BindLine}
use Rattle.m36_bindfile.specs.declared.line.BindLine.TheVariants as line
use Rattle.m36_relocate.specs.Fields.{BasesFields}
use Rattle.m36_bind.specs.Given.{NamedObjectsFields, object_named}
use Rattle.m36_relocate.specs.Layout.{shape_of, next_bases, first_bases}
use Rattle.m36_relocate.specs.Exports.{with_own_definitions}
use Rattle.m36_text.specs.Results.{and_then}
use Rattle.m36_bind.specs.Components.{PlacedComponentFields, PlacedComponents, component, with_component, no_components, names_of, components_in, with_found_object, with_components_of_lines, components_of_lines}
use Rattle.m36_bind.specs.Meaning.{AreInOrder}

pub went : {A B : Type 0} (d : Result A BindFault) (f : A → Result B BindFault) (o : B) → and_then d f ≡ Ok o → (a : A) × (d ≡ Ok a) × (f a ≡ Ok o)
went (Ok a) f o e = (a, refl, e)
went (Err told) f o e = absurd cc

-- components in order, up to where the next begins
InOrderTo : BasesFields → List PlacedComponentFields → BasesFields → Type 0
InOrderTo b [] next = next ≡ b
InOrderTo b (p ∷ all) next = (p.bases ≡ b) × (p.shape ≡ shape_of p.parts) × InOrderTo (next_bases b p.parts) all next

AreFormed : List PlacedComponentFields → Type 0
AreFormed all = (p : PlacedComponentFields) → Contains all p → is_well_formed p.parts ≡ true

in_order : (b : BasesFields) (all : List PlacedComponentFields) (next : BasesFields) → InOrderTo b all next → AreInOrder b all
unfolding InOrderTo AreInOrder
in_order b [] next e = tt
in_order b (p ∷ all) next e = (e.0, e.1, in_order (next_bases b p.parts) all next e.2)

one_more : (b : BasesFields) (all : List PlacedComponentFields) (next : BasesFields) (p : PlacedComponentFields) → InOrderTo b all next → p.bases ≡ next → p.shape ≡ shape_of p.parts
    → InOrderTo b (all ++ p ∷ []) (next_bases next p.parts)
unfolding InOrderTo
one_more b [] next p e is shaped = (is ∙ e, shaped, ap (λ (x : BasesFields). next_bases x p.parts) e)
one_more b (q ∷ all) next p e is shaped = (e.0, e.1, one_more (next_bases b q.parts) all next p e.2 is shaped)

formed_more : (all : List PlacedComponentFields) (p : PlacedComponentFields) → AreFormed all → is_well_formed p.parts ≡ true → AreFormed (all ++ p ∷ [])
unfolding AreFormed
formed_more [] p formed one = λ q among. by q among
  where
    by : (q : PlacedComponentFields) → Contains (p ∷ []) q → is_well_formed q.parts ≡ true
    by q (zero, lt, is) = ap (λ (x : PlacedComponentFields). is_well_formed x.parts) (sym is) ∙ one
    by q (suc k, lt, is) = absurd (omega (arith, lt))
formed_more (r ∷ all) p formed one = by (formed_more all p (λ q among. formed q (suc among.0, omega (arith, among.1), among.2)) one)
  where
    by : AreFormed (all ++ p ∷ []) → (q : PlacedComponentFields) → Contains (r ∷ (all ++ p ∷ [])) q → is_well_formed q.parts ≡ true
    by later q (zero, lt, is) = formed q (zero, omega arith, is)
    by later q (suc k, lt, is) = later q (k, omega (arith, lt), is)

-- the properties of components and of where the next begins
record IsSound (all : PlacedComponents) : Type 0 where
  order : InOrderTo first_bases all.placed all.next
  formed : AreFormed all.placed

sound_more : (all : PlacedComponents) (p : PlacedComponentFields) → IsSound all → p.bases ≡ all.next → p.shape ≡ shape_of p.parts → is_well_formed p.parts ≡ true → IsSound (with_component all p)
sound_more all p sound is shaped one = record {
  order = one_more first_bases all.placed all.next p sound.order is shaped;
  formed = formed_more all.placed p sound.formed one;
}

pub got : {A : Type 0} (xs : List A) (i : ℕ) (x : A) → slice_get xs i ≡ Some x → Contains xs x
got [] i x e = absurd cc
got {A} (y ∷ ys) zero x e = (zero, omega arith, some_is y x e)
  where
    or : A → Option A → A
    or z None = z
    or z (Some w) = w

    some_is : (a b : A) → Some a ≡ Some b → a ≡ b
    some_is a b e = ap (λ o. or a o) e
got (y ∷ ys) (suc i) x e = let later = got ys i x e in (suc later.0, omega (arith, later.1), later.2)

given_formed : (given : NamedObjectsFields) (name : List ℕ) (p : PartsFields) → ((o : PartsFields) → Contains given.objects o → is_well_formed o ≡ true)
    → object_named given name ≡ Some p → is_well_formed p ≡ true
unfolding object_named
given_formed given name p formed e = by (position (same name) given.names) e
  where
    by : (o : Option ℕ) → option_and_then (slice_get given.objects) o ≡ Some p → is_well_formed p ≡ true
    by None e = absurd cc
    by (Some i) e = formed p (got given.objects i p e)

ok_is : (a b : PlacedComponents) → ◌≡◌ {A = Result PlacedComponents BindFault} (Ok a) (Ok b) → a ≡ b
ok_is a b e = ap (λ r. or a r) e
  where
    or : PlacedComponents → Result PlacedComponents BindFault → PlacedComponents
    or x (Ok y) = y
    or x (Err told) = x

picked_sound : (given : NamedObjectsFields) (all new : PlacedComponents) (n : ℕ) (lines : List BindLine) → ((o : PartsFields) → Contains given.objects o → is_well_formed o ≡ true) → IsSound all
    → with_components_of_lines given all n lines ≡ Ok new → IsSound new
unfolding with_components_of_lines
picked_sound given all new n [] formed sound e = subst IsSound (ok_is all new e) sound
picked_sound given all new n (line.Version ∷ lines) formed sound e = picked_sound given all new (n + 1) lines formed sound e
picked_sound given all new n (line.Retain name ∷ lines) formed sound e = picked_sound given all new (n + 1) lines formed sound e
picked_sound given all new n (line.Object name ∷ lines) formed sound e =
    by (object_named given name) refl (λ more good. picked_sound given more new (n + 1) lines formed good) e
  where
    added : (p : PartsFields) (b : Bool) → is_well_formed p ≡ true → ((more : PlacedComponents) → IsSound more → with_components_of_lines given more (n + 1) lines ≡ Ok new → IsSound new)
        → and_then (cond b (Err (fault.B3 n)) (Ok (with_component all (component name p all.next (with_own_definitions [] p.definitions))))) (λ more. with_components_of_lines given more (n + 1) lines) ≡ Ok new
        → IsSound new
    added p true one go e = absurd cc
    added p false one go e =
        go (with_component all (component name p all.next (with_own_definitions [] p.definitions)))
        (sound_more all (component name p all.next (with_own_definitions [] p.definitions)) sound refl refl one) e

    by : (o : Option PartsFields) → object_named given name ≡ o → ((more : PlacedComponents) → IsSound more → with_components_of_lines given more (n + 1) lines ≡ Ok new → IsSound new)
        → and_then (with_found_object all n name o) (λ more. with_components_of_lines given more (n + 1) lines) ≡ Ok new → IsSound new
    by None is go e = absurd cc
    by (Some p) is go e = added p (list_any (same name) (names_of all.placed)) (given_formed given name p formed is) go e

-- ---- all components

pub record ArePicked (all : List PlacedComponentFields) : Type 0 where
  pub order : AreInOrder first_bases all
  pub formed : (p : PlacedComponentFields) → Contains all p → is_well_formed p.parts ≡ true

pub picked_are : (given : NamedObjectsFields) (lines : List BindLine) (all : List PlacedComponentFields) → ((o : PartsFields) → Contains given.objects o → is_well_formed o ≡ true)
    → components_of_lines given lines ≡ Ok all → ArePicked all
unfolding components_of_lines AreFormed InOrderTo
picked_are given lines all formed e =
    let whole = went (with_components_of_lines given no_components 1 lines) (λ a. Ok (components_in a)) all e in
    let none : IsSound no_components = record { order = refl; formed = λ p among. absurd (omega (arith, among.1)) } in
    let sound = picked_sound given no_components whole.0 1 lines formed none whole.1 in
    let is : whole.0.placed ≡ all = list_is whole.0.placed all whole.2 in
    subst ArePicked is (record { order = in_order first_bases whole.0.placed whole.0.next sound.order; formed = sound.formed })
  where
    or : List PlacedComponentFields → Result (List PlacedComponentFields) BindFault → List PlacedComponentFields
    or x (Ok y) = y
    or x (Err told) = x

    list_is : (a b : List PlacedComponentFields) → ◌≡◌ {A = Result (List PlacedComponentFields) BindFault} (Ok a) (Ok b) → a ≡ b
    list_is a b e = ap (λ r. or a r) e
