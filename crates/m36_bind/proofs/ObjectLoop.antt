-- Objects, one after another.
use Rattle.std.proofs.Common.{ℕ, zero, suc, ◌≡◌, ◌<◌, ◌≤◌, ◌+◌, true, List, [], ◌∷◌, length, get_or, drop, sym, ap, subst, ◌∙◌, arith}
use Rattle.std.proofs.lemmas.List.{drop_more, at_drop_all}
use Rattle.obj36_parts.specs.PartsFields.{PartsFields}
use Rattle.obj36_parts.specs.ObjectSegment.{is_well_formed}
use Rattle.m36_bind.specs.Meaning.{AreObjects}

first_object : (x : PartsFields) (others : List PartsFields) → is_well_formed x ≡ true → AreObjects others → AreObjects (x ∷ others)
first_object x others formed are o (zero, lt, same) = ap is_well_formed (sym same) ∙ formed
first_object x others formed are o (suc k, lt, same) = are o (k, omega (arith, lt), same)

pub object_more : (objects rest others : List PartsFields) (x : PartsFields) → rest ≡ x ∷ others → is_well_formed x ≡ true → (AreObjects rest → AreObjects objects)
    → AreObjects others → AreObjects objects
object_more objects rest others x is formed all are = all (subst AreObjects (sym is) (first_object x others formed are))

pub objects_end : (objects rest : List PartsFields) → rest ≡ [] → (AreObjects rest → AreObjects objects) → AreObjects objects
objects_end objects rest none all = all (subst AreObjects (sym none) (λ o among. absurd (omega (arith, among.1))))

-- the rest of the objects

pub object_left : (objects : List PartsFields) (i : ℕ) (x : PartsFields) → i < length objects → x ≡ get_or objects i x → drop i objects ≡ x ∷ drop (i + 1) objects
object_left objects i x lt is = drop_more objects i x lt ∙ ap (λ (y : PartsFields). y ∷ drop (i + 1) objects) (sym is)

pub no_object_left : (objects : List PartsFields) (i : ℕ) → length objects ≤ i → drop i objects ≡ []
no_object_left objects i le = at_drop_all (λ (os : List PartsFields). os) objects i le
