-- The links of the bound object are those of its components, each at its place.
use Rattle.std.proofs.Common.{ℕ, zero, suc, ◌≡◌, ◌+◌, cond, eqb, List, [], ◌∷◌, ◌++◌, length, Option, Some, None, refl, sym, ap, ◌∙◌, arith}
use Rattle.std.specs.Prelude.{slice_get, position, option_and_then}
use Rattle.std.specs.List.{Contains}
use Rattle.std.proofs.lemmas.List.{length-append}
use Rattle.obj36_parts.specs.Fields.{LinkFields}
use Rattle.obj36_parts.specs.PartsFields.{PartsFields}
use Rattle.obj36_parts.specs.Names.{same}
use Rattle.obj36_parts.specs.Sections.{later_section}
use Rattle.m36_relocate.specs.Fields.{ShapeFields, BasesFields}
use Rattle.m36_relocate.specs.Layout.{shape_of, next_bases, relocated_place}
use Rattle.m36_relocate.specs.Exports.{export_named}
use Rattle.m36_bind.specs.Components.{PlacedComponentFields, relocation_of, names_of, component_named}
use Rattle.m36_bind.specs.Links.{own_link, segment_link, entry_link, outer_link, inner_link, bound_link, links_onto, links_from}
use Rattle.m36_bind.specs.Bound.{links_end}
use Rattle.m36_bind.specs.Meaning.{AreInOrder, ReplacesLink}
use Rattle.m36_bind.proofs.Images.{IsWithin, spot_names}
use Rattle.m36_bind.proofs.PickedOrder.{got}

-- ---- one link, by its type

module _ (frame : ShapeFields) (all : List PlacedComponentFields) (p : PlacedComponentFields) where
  by_kind : ℕ → LinkFields → LinkFields
  by_kind k l =
      cond (eqb k 1) (own_link l (relocated_place (relocation_of frame p) l.section l.expr))
      (cond (eqb k 3) (segment_link l (component_named l.name all))
      (cond (eqb k 4) (outer_link frame l (component_named l.name all))
      (cond (eqb k 5) (inner_link frame p l (export_named l.entry p.entries)) l)))

  moved_by_kind : (l : LinkFields) (k : ℕ) → l.kind ≡ k → bound_link frame all p l ≡ by_kind k l
  unfolding bound_link by_kind
  moved_by_kind l k is = ap (λ n. by_kind n l) is

found_among : (name : List ℕ) (all : List PlacedComponentFields) (q : PlacedComponentFields) → component_named name all ≡ Some q → Contains all q
unfolding component_named
found_among name all q e = by (position (same name) (names_of all)) e
  where
    by : (o : Option ℕ) → option_and_then (slice_get all) o ≡ Some q → Contains all q
    by None e = absurd cc
    by (Some i) e = got all i q e

pub link_means : (bound : PartsFields) (all : List PlacedComponentFields) (p : PlacedComponentFields) (old : LinkFields) → ((q : PlacedComponentFields) → Contains all q → IsWithin bound q) → Contains all p
    → ReplacesLink bound all p old (bound_link (shape_of bound) all p old)
unfolding by_kind
link_means bound all p old within there =
    let frame = shape_of bound in
    record {
      own = λ kind. record {
        place = relocated_place (relocation_of frame p) old.section old.expr;
        names = spot_names bound p (within p there) old.section old.expr;
        is = moved_by_kind frame all p old 1 kind;
      };
      segment = λ q kind found. moved_by_kind frame all p old 3 kind ∙ ap (segment_link old) found;
      outer = λ q e kind found defined. record {
        place = relocated_place (relocation_of frame q) e.def.section e.def.value;
        names = spot_names bound q (within q (found_among old.name all q found)) e.def.section e.def.value;
        is = moved_by_kind frame all p old 4 kind ∙ ap (outer_link frame old) found ∙ ap (entry_link frame old q) defined;
      };
      inner = λ e kind defined. record {
        place = relocated_place (relocation_of frame p) (later_section old.section e.def.section) e.def.value;
        names = spot_names bound p (within p there) (later_section old.section e.def.section) e.def.value;
        is = moved_by_kind frame all p old 5 kind ∙ ap (inner_link frame p old) defined;
      };
      far_segment = λ kind none. moved_by_kind frame all p old 3 kind ∙ ap (segment_link old) none;
      far_entry = λ kind none. moved_by_kind frame all p old 4 kind ∙ far (component_named old.name all) none;
      no_entry = λ kind none. moved_by_kind frame all p old 5 kind ∙ ap (inner_link frame p old) none;
    }
  where
    far : (o : Option PlacedComponentFields) → ((q : PlacedComponentFields) → o ≡ Some q → export_named old.entry q.entries ≡ None) → outer_link (shape_of bound) old o ≡ old
    far None none = refl
    far (Some q) none = ap (entry_link (shape_of bound) old q) (none q refl)

-- ---- each at its place

get_left : {A : Type 0} (xs ys : List A) (i : ℕ) (x : A) → slice_get xs i ≡ Some x → slice_get (xs ++ ys) i ≡ Some x
get_left [] ys i x e = absurd cc
get_left (z ∷ xs) ys zero x e = e
get_left (z ∷ xs) ys (suc i) x e = get_left xs ys i x e

get_last : {A : Type 0} (xs : List A) (x : A) → slice_get (xs ++ x ∷ []) (length xs) ≡ Some x
get_last [] x = refl
get_last (z ∷ xs) x = get_last xs x

module _ (frame : ShapeFields) (all : List PlacedComponentFields) where
  onto_keeps : (p : PlacedComponentFields) (done ls : List LinkFields) (i : ℕ) (x : LinkFields) → slice_get done i ≡ Some x → slice_get (links_onto frame all p done ls) i ≡ Some x
  unfolding links_onto
  onto_keeps p done [] i x e = e
  onto_keeps p done (l ∷ ls) i x e =
      onto_keeps p (done ++ bound_link frame all p l ∷ []) ls i x (get_left done (bound_link frame all p l ∷ []) i x e)

  onto_long : (p : PlacedComponentFields) (done ls : List LinkFields) → length (links_onto frame all p done ls) ≡ length done + length ls
  unfolding links_onto
  onto_long p done [] = omega arith
  onto_long p done (l ∷ ls) =
      let long : length (done ++ bound_link frame all p l ∷ []) ≡ length done + 1 = length-append done (bound_link frame all p l ∷ []) in
      omega (arith, long, onto_long p (done ++ bound_link frame all p l ∷ []) ls)

  onto_at : (p : PlacedComponentFields) (done ls : List LinkFields) (i : ℕ) (l : LinkFields) → slice_get ls i ≡ Some l
      → slice_get (links_onto frame all p done ls) (length done + i) ≡ Some (bound_link frame all p l)
  unfolding links_onto
  onto_at p done [] i l e = absurd cc
  onto_at p done (x ∷ ls) zero l e =
      ap (λ n. slice_get (links_onto frame all p (done ++ bound_link frame all p x ∷ []) ls) n) (let k : length done + 0 ≡ length done = omega arith in k)
      ∙ onto_keeps p (done ++ bound_link frame all p x ∷ []) ls (length done) (bound_link frame all p x) (get_last done (bound_link frame all p x))
      ∙ ap (λ (y : LinkFields). Some (bound_link frame all p y)) (some_is x l e)
    where
      or : LinkFields → Option LinkFields → LinkFields
      or z None = z
      or z (Some w) = w

      some_is : (a b : LinkFields) → Some a ≡ Some b → a ≡ b
      some_is a b e = ap (λ o. or a o) e
  onto_at p done (x ∷ ls) (suc i) l e =
      ap (λ n. slice_get (links_onto frame all p (done ++ bound_link frame all p x ∷ []) ls) n)
      (let long : length (done ++ bound_link frame all p x ∷ []) ≡ length done + 1 = length-append done (bound_link frame all p x ∷ []) in
      let k : length done + suc i ≡ length (done ++ bound_link frame all p x ∷ []) + i = omega (arith, long) in k)
      ∙ onto_at p (done ++ bound_link frame all p x ∷ []) ls i l e

  from_keeps : (done : List LinkFields) (more : List PlacedComponentFields) (i : ℕ) (x : LinkFields) → slice_get done i ≡ Some x → slice_get (links_from frame all done more) i ≡ Some x
  unfolding links_from
  from_keeps done [] i x e = e
  from_keeps done (p ∷ more) i x e = from_keeps (links_onto frame all p done p.parts.links) more i x (onto_keeps p done p.parts.links i x e)

  next_links : (b : BasesFields) (p : PlacedComponentFields) (done : List LinkFields) → length done ≡ b.links → length (links_onto frame all p done p.parts.links) ≡ b.links + length p.parts.links
  next_links b p done starts = onto_long p done p.parts.links ∙ ap (λ n. n + length p.parts.links) starts

  pub links_at : (b : BasesFields) (done : List LinkFields) (more : List PlacedComponentFields) (p : PlacedComponentFields) (i : ℕ) (l : LinkFields) → AreInOrder b more → length done ≡ b.links
      → Contains more p → slice_get p.parts.links i ≡ Some l → slice_get (links_from frame all done more) (p.bases.links + i) ≡ Some (bound_link frame all p l)
  unfolding links_from AreInOrder
  links_at b done [] p i l order starts among e = absurd (omega (arith, among.1))
  links_at b done (q ∷ more) p i l order starts (zero, lt, same) e =
      let at : p.bases.links ≡ length done = ap (λ (x : PlacedComponentFields). x.bases.links) (sym same) ∙ ap (λ (x : BasesFields). x.links) order.0 ∙ sym starts in
      ap (λ (x : PlacedComponentFields). slice_get (links_from frame all (links_onto frame all x done x.parts.links) more) (p.bases.links + i)) same
      ∙ ap (λ n. slice_get (links_from frame all (links_onto frame all p done p.parts.links) more) (n + i)) at
      ∙ from_keeps (links_onto frame all p done p.parts.links) more (length done + i) (bound_link frame all p l) (onto_at p done p.parts.links i l e)
  links_at b done (q ∷ more) p i l order starts (suc k, lt, same) e =
      links_at (next_bases b q.parts) (links_onto frame all q done q.parts.links) more p i l order.2 (next_links b q done starts) (k, omega (arith, lt), same) e

  pub links_long : (b : BasesFields) (done : List LinkFields) (more : List PlacedComponentFields) → AreInOrder b more → length done ≡ b.links
      → length (links_from frame all done more) ≡ links_end (length done) more
  unfolding links_from links_end AreInOrder
  links_long b done [] order starts = refl
  links_long b done (p ∷ more) order starts =
      links_long (next_bases b p.parts) (links_onto frame all p done p.parts.links) more order.2 (next_links b p done starts)
      ∙ ap (λ n. links_end n more) (next_links b p done starts ∙ (λ i. (sym order.0 i).links + (sym order.1 i).links))
