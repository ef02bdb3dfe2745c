-- Sections that are found by their rings and segments.
use Rattle.std.proofs.Common.{ℕ, zero, suc, ◌≡◌, ◌⊎◌, inl, inr, Bool, true, cond, ◌&&◌, eqb, List, [], ◌∷◌, ◌++◌, slice_get, Option, Some, None, refl, sym, ap, subst, ◌∙◌}
use Rattle.std.specs.Prelude.{find}
use Rattle.std.specs.Option.{option_or}
use Rattle.std.proofs.lemmas.Bool.{eq-eqb}
use Rattle.std.proofs.lemmas.List.Folds.{find-append}
use Rattle.m36_link.specs.Fields.{PlacedSectionFields, NewSectionFields, KnownFields}
use Rattle.m36_link.specs.Known.{is_laid_of, laid_in}
use Rattle.m36_link.specs.Accepted.{placed_section_of, with_section, MayBeLaid}
use Rattle.m36_link.specs.Apart.{AreEachFound}

-- the section at an index is that of its segment in its ring
pub found_there : (laid : List PlacedSectionFields) (i ring seg : ℕ) (l : PlacedSectionFields) → AreEachFound laid → slice_get laid i ≡ Some l → l.ring ≡ ring → l.seg ≡ seg
    → laid_in laid ring seg ≡ Some l
found_there laid i ring seg l apart at of same =
    ap (λ (r : ℕ). laid_in laid r seg) (sym of) ∙ ap (λ (s : ℕ). laid_in laid l.ring s) (sym same) ∙ apart.found i l at

pub none_apart : AreEachFound []
none_apart = record { found = λ (i : ℕ) (l : PlacedSectionFields) (at : slice_get [] i ≡ Some l). absurd cc }

-- ---- one more

found_still : (laid : List PlacedSectionFields) (n l : PlacedSectionFields) (ring seg : ℕ) → laid_in laid ring seg ≡ Some l → laid_in (laid ++ n ∷ []) ring seg ≡ Some l
unfolding laid_in
found_still laid n l ring seg e =
    find-append (is_laid_of ring seg) laid (n ∷ []) ∙ ap (λ (o : Option PlacedSectionFields). option_or o (find (is_laid_of ring seg) (n ∷ []))) e

is_of_itself : (n : PlacedSectionFields) → is_laid_of n.ring n.seg n ≡ true
is_of_itself n = ap (λ (b : Bool). b && eqb n.seg n.seg) (eq-eqb n.ring n.ring refl) ∙ eq-eqb n.seg n.seg refl

found_last : (laid : List PlacedSectionFields) (n : PlacedSectionFields) → laid_in laid n.ring n.seg ≡ None → laid_in (laid ++ n ∷ []) n.ring n.seg ≡ Some n
unfolding laid_in
found_last laid n none =
    find-append (is_laid_of n.ring n.seg) laid (n ∷ [])
    ∙ ap (λ (o : Option PlacedSectionFields). option_or o (find (is_laid_of n.ring n.seg) (n ∷ []))) none
    ∙ ap (λ (b : Bool). cond b (Some n) None) (is_of_itself n)

at_either : (laid : List PlacedSectionFields) (n l : PlacedSectionFields) (i : ℕ) → slice_get (laid ++ n ∷ []) i ≡ Some l → (slice_get laid i ≡ Some l) ⊎ (n ≡ l)
at_either [] n l zero at = inr cc
at_either [] n l (suc i) at = absurd cc
at_either (first ∷ laid) n l zero at = inl at
at_either (first ∷ laid) n l (suc i) at = at_either laid n l i at

apart_more : (laid : List PlacedSectionFields) (n : PlacedSectionFields) → AreEachFound laid → laid_in laid n.ring n.seg ≡ None → AreEachFound (laid ++ n ∷ [])
apart_more laid n apart none = record { found = found }
  where
    by : (l : PlacedSectionFields) (i : ℕ) → (slice_get laid i ≡ Some l) ⊎ (n ≡ l) → laid_in (laid ++ n ∷ []) l.ring l.seg ≡ Some l
    by l i (inl here) = found_still laid n l l.ring l.seg (apart.found i l here)
    by l i (inr is) =
        let P : PlacedSectionFields → Type 0 = λ x. laid_in (laid ++ n ∷ []) x.ring x.seg ≡ Some x in subst P is (found_last laid n none)

    found : (i : ℕ) (l : PlacedSectionFields) → slice_get (laid ++ n ∷ []) i ≡ Some l → laid_in (laid ++ n ∷ []) l.ring l.seg ≡ Some l
    found i l at = by l i (at_either laid n l i at)

-- a section that may be laid is not of the same segment and ring as another
pub apart_laid : (known : KnownFields) (before laid : List PlacedSectionFields) (lay : Option NewSectionFields) → known.laid ≡ before → laid ≡ with_section before lay
    → AreEachFound before → MayBeLaid known lay → AreEachFound laid
unfolding with_section
apart_laid known before laid None same is apart may = subst AreEachFound (sym is) apart
apart_laid known before laid (Some l) same is apart may =
    subst AreEachFound (sym is) (apart_more before (placed_section_of l) apart (ap (λ (x : List PlacedSectionFields). laid_in x l.ring l.seg) (sym same) ∙ may.absent))
