-- The relocations of the bound object are those of its components.
use Rattle.std.proofs.Common.{zero, suc, ◌≡◌, ◌+◌, inl, inr, Bool, true, false, cond, not, List, [], ◌∷◌, ◌++◌, refl, sym, subst, arith}
use Rattle.std.specs.Prelude.{◌⊎◌}
use Rattle.std.specs.List.{Contains}
use Rattle.std.proofs.lemmas.List.Elements.{Contains-append_left, Contains-push, Contains-push_cases}
use Rattle.obj36_parts.specs.Fields.{RelocFields}
use Rattle.obj36_parts.specs.PartsFields.{PartsFields}
use Rattle.obj36_parts.specs.Sections.{is_text_section}
use Rattle.m36_relocate.specs.Fields.{ShapeFields}
use Rattle.m36_relocate.specs.Layout.{shape_of}
use Rattle.m36_relocate.specs.Words.{is_relocation_in}
use Rattle.m36_bind.specs.Components.{PlacedComponentFields, relocation_of}
use Rattle.m36_bind.specs.Bound.{bound_relocation, with_relocation, relocations_onto, relocations_from}
use Rattle.m36_bind.specs.Meaning.{IsRelocationOfSameWord, RelocatedRelocation, RelocationSource}
use Rattle.m36_relocate.specs.declared.layout.Relocation.{Relocation}
use Rattle.m36_bind.proofs.Images.{IsWithin, spot_names}

module _ (m : Relocation) (statics : Bool) where
  onto_keeps : (done rs : List RelocFields) (x : RelocFields) → Contains done x → Contains (relocations_onto m statics done rs) x
  unfolding relocations_onto
  onto_keeps done [] x among = among
  onto_keeps done (r ∷ rs) x among = onto_keeps (with_relocation m statics done r) rs x (by (is_relocation_in statics r))
    where
      by : (b : Bool) → Contains (cond b (done ++ bound_relocation m r ∷ []) done) x
      by true = Contains-append_left done (bound_relocation m r ∷ []) x among
      by false = among

  onto_has : (done rs : List RelocFields) (r : RelocFields) → Contains rs r → is_relocation_in statics r ≡ true → Contains (relocations_onto m statics done rs) (bound_relocation m r)
  unfolding relocations_onto
  onto_has done [] r among stands = absurd (omega (arith, among.1))
  onto_has done (s ∷ rs) r (zero, lt, same) stands =
      onto_keeps (with_relocation m statics done s) rs (bound_relocation m r)
      (subst (λ (x : RelocFields). Contains (with_relocation m statics done x) (bound_relocation m r)) (sym same)
      (subst (λ b. Contains (cond b (done ++ bound_relocation m r ∷ []) done) (bound_relocation m r)) (sym stands) (Contains-push done (bound_relocation m r))))
  onto_has done (s ∷ rs) r (suc k, lt, same) stands = onto_has (with_relocation m statics done s) rs r (k, omega (arith, lt), same) stands

  -- a relocation that was there, or that is one of these after relocation
  IsFrom : List RelocFields → List RelocFields → RelocFields → Type 0
  IsFrom done rs x = Contains done x ⊎ ((r : RelocFields) × Contains rs r × (x ≡ bound_relocation m r))

  onto_only : (done rs : List RelocFields) (x : RelocFields) → Contains (relocations_onto m statics done rs) x → IsFrom done rs x
  unfolding relocations_onto IsFrom
  onto_only done [] x among = inl among
  onto_only done (r ∷ rs) x among = by (onto_only (with_relocation m statics done r) rs x among)
    where
      first : (b : Bool) → Contains (cond b (done ++ bound_relocation m r ∷ []) done) x → IsFrom done (r ∷ rs) x
      first true there = one (Contains-push_cases done (bound_relocation m r) x there)
        where
          one : Contains done x ⊎ (bound_relocation m r ≡ x) → IsFrom done (r ∷ rs) x
          one (inl old) = inl old
          one (inr e) = inr (r, (zero, omega arith, refl), sym e)
      first false there = inl there

      by : IsFrom (with_relocation m statics done r) rs x → IsFrom done (r ∷ rs) x
      by (inl there) = first (is_relocation_in statics r) there
      by (inr (s, (k, lt, e), is)) = inr (s, (suc k, omega (arith, lt), e), is)

module _ (frame : ShapeFields) (statics : Bool) where
  pub from_keeps : (done : List RelocFields) (all : List PlacedComponentFields) (x : RelocFields) → Contains done x → Contains (relocations_from frame statics done all) x
  unfolding relocations_from
  from_keeps done [] x among = among
  from_keeps done (p ∷ all) x among =
      from_keeps (relocations_onto (relocation_of frame p) statics done p.parts.relocations) all x (onto_keeps (relocation_of frame p) statics done p.parts.relocations x among)

  pub from_has : (done : List RelocFields) (all : List PlacedComponentFields) (p : PlacedComponentFields) (r : RelocFields) → Contains all p → Contains p.parts.relocations r → is_relocation_in statics r ≡ true
      → Contains (relocations_from frame statics done all) (bound_relocation (relocation_of frame p) r)
  unfolding relocations_from
  from_has done [] p r there among stands = absurd (omega (arith, there.1))
  from_has done (q ∷ all) p r (zero, lt, same) among stands =
      from_keeps (relocations_onto (relocation_of frame q) statics done q.parts.relocations) all (bound_relocation (relocation_of frame p) r)
      (subst (λ (x : PlacedComponentFields). Contains (relocations_onto (relocation_of frame x) statics done x.parts.relocations) (bound_relocation (relocation_of frame p) r)) (sym same)
      (onto_has (relocation_of frame p) statics done p.parts.relocations r among stands))
  from_has done (q ∷ all) p r (suc k, lt, same) among stands =
      from_has (relocations_onto (relocation_of frame q) statics done q.parts.relocations) all p r (k, omega (arith, lt), same) among stands

  -- a relocation that was there, or that is one of a component after relocation
  pub FromAny : List RelocFields → List PlacedComponentFields → RelocFields → Type 0
  FromAny done all x =
      Contains done x ⊎ ((p : PlacedComponentFields) × Contains all p × ((r : RelocFields) × Contains p.parts.relocations r × (x ≡ bound_relocation (relocation_of frame p) r)))

  pub from_only : (done : List RelocFields) (all : List PlacedComponentFields) (x : RelocFields) → Contains (relocations_from frame statics done all) x → FromAny done all x
  unfolding relocations_from FromAny IsFrom
  from_only done [] x among = inl among
  from_only done (p ∷ all) x among = by (from_only (relocations_onto (relocation_of frame p) statics done p.parts.relocations) all x among)
    where
      first : IsFrom (relocation_of frame p) statics done p.parts.relocations x → FromAny done (p ∷ all) x
      first (inl old) = inl old
      first (inr (r, there, is)) = inr (p, (zero, omega arith, refl), (r, there, is))

      by : FromAny (relocations_onto (relocation_of frame p) statics done p.parts.relocations) all x → FromAny done (p ∷ all) x
      by (inl there) = first (onto_only (relocation_of frame p) statics done p.parts.relocations x there)
      by (inr (q, (k, lt, e), found)) = inr (q, (suc k, omega (arith, lt), e), found)

-- ---- both kinds

stands_one : (r : RelocFields) → (is_relocation_in false r ≡ true) ⊎ (is_relocation_in true r ≡ true)
stands_one r = by (is_text_section r.section)
  where
    by : (b : Bool) → (b ≡ true) ⊎ (not b ≡ true)
    by true = inl refl
    by false = inr refl

moved_is : (bound : PartsFields) (p : PlacedComponentFields) (r : RelocFields) → IsWithin bound p → IsRelocationOfSameWord bound p r (bound_relocation (relocation_of (shape_of bound) p) r)
moved_is bound p r within = record { place = spot_names bound p within r.section r.offset; part = refl; target = refl }

abbrev pub both : ShapeFields → List PlacedComponentFields → List RelocFields
both frame all = relocations_from frame true (relocations_from frame false [] all) all

pub relocation_stands : (bound : PartsFields) (all : List PlacedComponentFields) (p : PlacedComponentFields) (r : RelocFields) → bound.relocations ≡ both (shape_of bound) all → IsWithin bound p
    → Contains all p → Contains p.parts.relocations r → RelocatedRelocation bound p r
relocation_stands bound all p r are within there among = by (stands_one r)
  where
    stands : Contains (both (shape_of bound) all) (bound_relocation (relocation_of (shape_of bound) p) r) → RelocatedRelocation bound p r
    stands has = record {
      new = bound_relocation (relocation_of (shape_of bound) p) r;
      among = subst (λ (xs : List RelocFields). Contains xs (bound_relocation (relocation_of (shape_of bound) p) r)) (sym are) has;
      moved = moved_is bound p r within;
    }

    by : (is_relocation_in false r ≡ true) ⊎ (is_relocation_in true r ≡ true) → RelocatedRelocation bound p r
    by (inl text) =
        stands (from_keeps (shape_of bound) true (relocations_from (shape_of bound) false [] all) all (bound_relocation (relocation_of (shape_of bound) p) r)
        (from_has (shape_of bound) false [] all p r there among text))
    by (inr static) = stands (from_has (shape_of bound) true (relocations_from (shape_of bound) false [] all) all p r there among static)

pub relocation_source : (bound : PartsFields) (all : List PlacedComponentFields) (x : RelocFields) → bound.relocations ≡ both (shape_of bound) all → ((p : PlacedComponentFields) → Contains all p → IsWithin bound p)
    → Contains bound.relocations x → RelocationSource bound all x
unfolding FromAny
relocation_source bound all x are within among =
    by (from_only (shape_of bound) true (relocations_from (shape_of bound) false [] all) all x (subst (λ (xs : List RelocFields). Contains xs x) are among))
  where
    source : (p : PlacedComponentFields) (r : RelocFields) → Contains all p → Contains p.parts.relocations r → x ≡ bound_relocation (relocation_of (shape_of bound) p) r → RelocationSource bound all x
    source p r there old is = record {
      component = p;
      one = there;
      old = r;
      among = old;
      moved = subst (λ (y : RelocFields). IsRelocationOfSameWord bound p r y) (sym is) (moved_is bound p r (within p there));
    }

    first : FromAny (shape_of bound) false [] all x → RelocationSource bound all x
    first (inl none) = absurd (omega (arith, none.1))
    first (inr (p, there, (r, old, is))) = source p r there old is

    by : FromAny (shape_of bound) true (relocations_from (shape_of bound) false [] all) all x → RelocationSource bound all x
    by (inl there) = first (from_only (shape_of bound) false [] all x there)
    by (inr (p, there, (r, old, is))) = source p r there old is
