-- Components by their names, and refusals that are passed on.
use Rattle.std.proofs.Common.{ℕ, ◌≡◌, Bool, false, cond, List, [], ◌∷◌, ◌++◌, Result, sym, ap, subst, ◌∙◌}
use Rattle.std.specs.List.{list_any}
use Rattle.std.proofs.lemmas.List.{map-append}
use Rattle.obj36_parts.specs.Names.{same}
use Rattle.m36_bindfile.specs.declared.fault.BindFault.{BindFault}
use Rattle.m36_bindfile.specs.declared.fault.BindFault.TheVariants as fault
use Rattle.m36_bindfile.specs.BindFile.{IsBindRefusal}
use Rattle.m36_text.specs.Results.{and_then}
use Rattle.m36_bind.specs.Components.{PlacedComponentFields, names_of}

-- the names with one more at the end

pub named_more : (keys new : List (List ℕ)) (items more : List PlacedComponentFields) (p : PlacedComponentFields) (name : List ℕ) → keys ≡ names_of items
    → new ≡ cond (list_any (same name) keys) keys (keys ++ name ∷ []) → name ≡ p.name → more ≡ items ++ p ∷ []
    → list_any (same p.name) (names_of items) ≡ false → new ≡ names_of more
named_more keys new items more p name are grown is longer fresh =
    let none : list_any (same name) keys ≡ false =
    ap (λ (ns : List (List ℕ)). list_any (same name) ns) are ∙ ap (λ (n : List ℕ). list_any (same n) (names_of items)) is ∙ fresh in
    grown ∙ ap (λ (b : Bool). cond b keys (keys ++ name ∷ [])) none
    ∙ ap (λ (ns : List (List ℕ)). ns ++ name ∷ []) are
    ∙ ap (λ (n : List ℕ). names_of items ++ n ∷ []) is
    ∙ sym (map-append (λ (q : PlacedComponentFields). q.name) items (p ∷ []))
    ∙ ap names_of (sym longer)

-- the components with one more

pub named_put : (keys new : List (List ℕ)) (items held more now : List PlacedComponentFields) (p : PlacedComponentFields) (name : List ℕ)
    → keys ≡ names_of items → held ≡ items → more ≡ held ++ p ∷ [] → name ≡ p.name
    → new ≡ cond (list_any (same name) keys) keys (keys ++ name ∷ []) → items ≡ now
    → list_any (same p.name) (names_of now) ≡ false → new ≡ names_of more
named_put keys new items held more now p name are stays put is grown view fresh =
    named_more keys new items more p name are grown is (put ∙ ap (λ (ps : List PlacedComponentFields). ps ++ p ∷ []) stays)
    (ap (λ (ps : List PlacedComponentFields). list_any (same p.name) (names_of ps)) view ∙ fresh)

-- results that are passed on

pub refused_on : {A B : Type 0} (told : BindFault) (d : Result A BindFault) (f : A → Result B BindFault) → IsBindRefusal told d → IsBindRefusal told (and_then d f)
refused_on fault.NoMemory d f r = tt
refused_on (fault.B1 n) d f r = ap (λ x. and_then x f) r
refused_on (fault.B2 n) d f r = ap (λ x. and_then x f) r
refused_on (fault.B3 n) d f r = ap (λ x. and_then x f) r
refused_on (fault.B4 n) d f r = ap (λ x. and_then x f) r
refused_on (fault.B5 n) d f r = ap (λ x. and_then x f) r

pub refused_whole : {A B : Type 0} (told : BindFault) (d : Result A BindFault) (f : A → Result B BindFault) (whole : Result B BindFault)
    → IsBindRefusal told d → and_then d f ≡ whole → IsBindRefusal told whole
refused_whole {A} {B} told d f whole r e =
    let P : Result B BindFault → Type 0 = λ w. IsBindRefusal told w in subst P e (refused_on told d f r)
