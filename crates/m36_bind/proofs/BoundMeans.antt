-- The bound object has the meaning of its components.
use Rattle.std.proofs.Common.{ℕ, zero, suc, ◌≡◌, ◌+◌, ◌≤◌, Bool, true, false, cond, ◌||◌, eqb, List, [], ◌∷◌, length, Some, Result, Ok, Err, refl, sym, ap, subst, ◌∙◌, arith}
use Rattle.std.specs.Prelude.{slice_index, IfOk}
use Rattle.std.specs.List.{list_any, Contains}
use Rattle.std.proofs.lemmas.Bool.{and_parts}
use Rattle.obj36_parts.specs.PartsFields.{PartsFields}
use Rattle.obj36_parts.specs.ObjectSegment.{version_of, is_well_formed, definition_names, sections_fit}
use Rattle.obj36_parts.specs.declared.definition.Named.{Named}
use Rattle.obj36_parts.proofs.Formed.{is_formed}
use Rattle.obj36_parts.proofs.LengthLaws.{length-words_of, least_size}
use Rattle.m36_bindfile.specs.declared.fault.BindFault.{BindFault}
use Rattle.m36_bindfile.specs.declared.fault.BindFault.TheVariants as fault
use Rattle.m36_bindfile.specs.declared.line.BindLine.{BindLine}
use Rattle.m36_bindfile.specs.BindFile.{bind_lines, has_version_line, retained_names, BindResult}
use Rattle.m36_relocate.specs.Fields.{ShapeFields, BasesFields}
use Rattle.m36_bind.specs.Given.{NamedObjectsFields}
use Rattle.m36_relocate.specs.Layout.{shape_of, first_bases, next_bases}
use Rattle.m36_relocate.specs.Words.{words_in, all_fit}
use Rattle.m36_bind.specs.Components.{PlacedComponentFields, relocation_of, components_of_lines}
use Rattle.m36_bind.specs.Kept.{exports_from, with_retain_lines}
use Rattle.m36_bind.specs.Links.{bound_link}
use Rattle.m36_bind.specs.Bound.{is_newer_component, links_end, bound_shape_of, with_component_words, relocations_from, first_entry_bound, bound_parts, component_fits, components_fit, checked_bound_parts, bound_object_of_components, bound_object_of_lines, bound_object_of}
use Rattle.m36_bind.specs.Meaning.{AreInOrder, IsOutside, start_in, IsRelocatedWord, HasWords, HasLinks, DefinitionSource, BoundMeaning, AreObjects}
use Rattle.m36_bind.proofs.MovedWords.{word_by, word_at}
use Rattle.m36_bind.proofs.ComponentWords.{laid_at, laid_gap, laid_within, statics_long, links_within, words_count}
use Rattle.m36_bind.proofs.Images.{IsWithin}
use Rattle.m36_bind.proofs.WordNames.{word_means}
use Rattle.m36_bind.proofs.MovedRelocations.{relocation_stands, relocation_source}
use Rattle.m36_bind.proofs.MovedLinks.{link_means, links_at, links_long}
use Rattle.m36_bind.proofs.MovedDefinitions.{kept_names, kept_source, defined_means}
use Rattle.m36_bind.proofs.PickedOrder.{went, ArePicked, picked_are}

newer_is : (b : Bool) → b ≡ eqb (cond b 2 1) 2
newer_is true = refl
newer_is false = refl

shaped_in : (b : BasesFields) (all : List PlacedComponentFields) (p : PlacedComponentFields) → AreInOrder b all → Contains all p → p.shape ≡ shape_of p.parts
unfolding AreInOrder
shaped_in b [] p order among = absurd (omega (arith, among.1))
shaped_in b (q ∷ all) p order (zero, lt, same) = subst (λ (x : PlacedComponentFields). x.shape ≡ shape_of x.parts) same order.1
shaped_in b (q ∷ all) p order (suc k, lt, same) = shaped_in (next_bases b q.parts) all p order.2 (k, omega (arith, lt), same)

fits_in : (frame : ShapeFields) (all : List PlacedComponentFields) (p : PlacedComponentFields) → components_fit frame all ≡ true → Contains all p → component_fits frame p ≡ true
unfolding components_fit
fits_in frame [] p e among = absurd (omega (arith, among.1))
fits_in frame (q ∷ all) p e (zero, lt, same) = ap (component_fits frame) (sym same) ∙ first (component_fits frame q) e
  where
    first : (b : Bool) → cond b (components_fit frame all) false ≡ true → b ≡ true
    first true e = refl
    first false e = e
fits_in frame (q ∷ all) p e (suc k, lt, same) = fits_in frame all p (later (component_fits frame q) e) (k, omega (arith, lt), same)
  where
    later : (b : Bool) → cond b (components_fit frame all) false ≡ true → components_fit frame all ≡ true
    later true e = e
    later false e = absurd cc

-- ---- the parts of the bound object

module _ (asked : Bool) (all : List PlacedComponentFields) (kept : List Named) (components_of : ArePicked all) where
  abbrev frame : ShapeFields
  frame = bound_shape_of asked all

  abbrev bound : PartsFields
  bound = bound_parts frame all kept

  frame_is : frame ≡ shape_of bound
  unfolding bound_shape_of bound_parts
  frame_is = λ i. record {
    newer = newer_is (asked || list_any is_newer_component all) i;
    statics = sym (statics_long (bound_shape_of asked all) [] first_bases all components_of.order refl) i;
    links = sym (links_long (bound_shape_of asked all) all first_bases [] all components_of.order refl) i;
  }

  within : is_well_formed bound ≡ true → (p : PlacedComponentFields) → Contains all p → IsWithin bound p
  unfolding bound_parts
  within formed p among =
      let shaped = shaped_in first_bases all p components_of.order among in
      let size = length-words_of bound in
      let small = (is_formed bound formed).fits in
      let least = least_size (eqb bound.version 2) in
      record {
        text = laid_within frame false [] first_bases all p components_of.order refl among;
        statics = subst (λ n. p.bases.statics + n ≤ length bound.statics) (ap (λ (s : ShapeFields). s.statics) (sym shaped)) (laid_within frame true [] first_bases all p components_of.order refl among);
        links = subst (λ n. p.bases.links + p.shape.links ≤ n) (sym (links_long frame all first_bases [] all components_of.order refl)) (links_within first_bases all p components_of.order among);
        few_text = omega (arith, size, small, least);
        few_others = omega (arith, size, small, least);
      }

  fits : components_fit frame all ≡ true → (p : PlacedComponentFields) → Contains all p → (statics : Bool)
      → all_fit (relocation_of (shape_of bound) p) statics (words_in statics p.parts) p.parts.relocations ≡ true
  fits e p among statics =
      let both = and_parts (all_fit (relocation_of frame p) false p.parts.text p.parts.relocations) (all_fit (relocation_of frame p) true p.parts.statics p.parts.relocations)
      (fits_in frame all p e among)
      in
      ap (λ (f : ShapeFields). all_fit (relocation_of f p) statics (words_in statics p.parts) p.parts.relocations) (sym frame_is) ∙ by statics both.0 both.1
    where
      by : (s : Bool) → all_fit (relocation_of frame p) false p.parts.text p.parts.relocations ≡ true → all_fit (relocation_of frame p) true p.parts.statics p.parts.relocations ≡ true
          → all_fit (relocation_of frame p) s (words_in s p.parts) p.parts.relocations ≡ true
      by true text static = static
      by false text static = text

  words_are : (statics : Bool) → words_in statics bound ≡ with_component_words frame statics [] all
  unfolding bound_parts
  words_are true = refl
  words_are false = refl

  starts : (statics : Bool) → 0 ≡ start_in statics first_bases
  starts true = refl
  starts false = refl

  words_stand : is_well_formed bound ≡ true → components_fit frame all ≡ true → (p : PlacedComponentFields) → Contains all p → (statics : Bool) → HasWords bound p statics
  words_stand formed fit p among statics = λ i lt small.
      let rs = p.parts.relocations in
      let old = slice_index (words_in statics p.parts) i in
      let here : slice_index (words_in statics bound) (start_in statics p.bases + i) ≡ word_by (relocation_of (shape_of bound) p) statics i rs old =
      ap (λ (ws : List ℕ). slice_index ws (start_in statics p.bases + i)) (words_are statics)
      ∙ laid_at frame statics [] first_bases all p i components_of.order (starts statics) among lt
      ∙ word_at (relocation_of frame p) statics i rs (words_in statics p.parts) lt
      ∙ ap (λ (f : ShapeFields). word_by (relocation_of f p) statics i rs old) frame_is
      in
      subst (λ w. IsRelocatedWord bound p statics i old w) (sym here)
      (word_means bound p statics i old (within formed p among) (components_of.formed p among) (shaped_in first_bases all p components_of.order among) (fits fit p among statics) refl small)

  links_stand : is_well_formed bound ≡ true → (p : PlacedComponentFields) → Contains all p → HasLinks bound all p
  unfolding bound_parts
  links_stand formed p among = λ i old is. (
    bound_link (shape_of bound) all p old,
    links_at frame all first_bases [] all p i old components_of.order refl among is ∙ ap (λ (f : ShapeFields). Some (bound_link f all p old)) frame_is,
    link_means bound all p old (within formed) among,
  )

  relocations_are : bound.relocations ≡ relocations_from (shape_of bound) true (relocations_from (shape_of bound) false [] all) all
  unfolding bound_parts
  relocations_are = ap (λ (f : ShapeFields). relocations_from f true (relocations_from f false [] all) all) frame_is

  gap_is : (statics : Bool) (j : ℕ) → ((p : PlacedComponentFields) → Contains all p → IsOutside statics p j) → slice_index (words_in statics bound) j ≡ 0
  gap_is statics j outside =
      ap (λ (ws : List ℕ). slice_index ws j) (words_are statics)
      ∙ laid_gap frame statics [] first_bases all j components_of.order (starts statics) (omega arith) outside

  links_count : length bound.links ≡ links_end 0 all
  unfolding bound_parts
  links_count = links_long frame all first_bases [] all components_of.order refl

  retained_are : (lines : List BindLine) → with_retain_lines (exports_from frame [] all) [] 1 lines ≡ Ok kept → definition_names bound.definitions ≡ retained_names lines
  unfolding bound_parts definition_names
  retained_are lines e = kept_names (exports_from frame [] all) [] kept 1 lines e

  definition_means : (lines : List BindLine) → with_retain_lines (exports_from frame [] all) [] 1 lines ≡ Ok kept → is_well_formed bound ≡ true → (d : Named) → Contains bound.definitions d
      → DefinitionSource bound all d.name d.def
  unfolding bound_parts
  definition_means lines e formed d among =
      defined_means (bound_parts frame all kept) frame all d.name d.def frame_is (within formed)
      (kept_source frame all [] kept 1 lines (λ x none. absurd (omega (arith, none.1))) e d among)

  entry_is : bound.entry_bound ≡ first_entry_bound all
  unfolding bound_parts
  entry_is = refl

  version_is : bound.version ≡ version_of (asked || list_any is_newer_component all)
  unfolding bound_parts bound_shape_of
  version_is = refl

-- ---- the bound object

parts_is : (a b : PartsFields) → ◌≡◌ {A = Result PartsFields BindFault} (Ok a) (Ok b) → a ≡ b
parts_is a b e = ap (λ r. or a r) e
  where
    or : PartsFields → Result PartsFields BindFault → PartsFields
    or x (Ok y) = y
    or x (Err told) = x

made_is : (fit formed sections : Bool) (parts o : PartsFields)
    → cond fit (cond formed (cond sections (Ok parts) (Err (fault.B4 0))) (Err (fault.B4 0))) (Err (fault.B4 0)) ≡ Ok o
    → (fit ≡ true) × (formed ≡ true) × (parts ≡ o)
made_is true true true parts o e = (refl, refl, parts_is parts o e)
made_is true true false parts o e = absurd cc
made_is true false sections parts o e = absurd cc
made_is false formed sections parts o e = absurd cc

parts_mean : (text : List ℕ) (names : List (List ℕ)) (objects : List PartsFields) (lines : List BindLine) (all : List PlacedComponentFields) (kept : List Named)
    → bind_lines text ≡ Ok lines → components_of_lines (record { names = names; objects = objects }) lines ≡ Ok all → ArePicked all
    → with_retain_lines (exports_from (bound_shape_of (has_version_line lines) all) [] all) [] 1 lines ≡ Ok kept
    → components_fit (bound_shape_of (has_version_line lines) all) all ≡ true → is_well_formed (bound_parts (bound_shape_of (has_version_line lines) all) all kept) ≡ true
    → BoundMeaning text names objects (bound_parts (bound_shape_of (has_version_line lines) all) all kept)
parts_mean text names objects lines all kept read add_found_object components_of keeps fit formed =
    let asked = has_version_line lines in
    record {
      lines = lines;
      read = read;
      components = all;
      components_of = add_found_object;
      order = components_of.order;
      texts = λ p among. words_stand asked all kept components_of formed fit p among false;
      statics = λ p among. words_stand asked all kept components_of formed fit p among true;
      links = λ p among. links_stand asked all kept components_of formed p among;
      relocations = λ p among r there.
          relocation_stands (bound asked all kept components_of) all p r (relocations_are asked all kept components_of) (within asked all kept components_of formed p among) among there;
      retained = retained_are asked all kept components_of lines keeps;
      definitions = λ d among. definition_means asked all kept components_of lines keeps formed d among;
      text_length = ap (λ (ws : List ℕ). length ws) (words_are asked all kept components_of false) ∙ words_count (bound_shape_of asked all) false [] first_bases all components_of.order refl;
      statics_length = ap (λ (ws : List ℕ). length ws) (words_are asked all kept components_of true) ∙ words_count (bound_shape_of asked all) true [] first_bases all components_of.order refl;
      gaps = λ statics j outside. gap_is asked all kept components_of statics j outside;
      links_length = links_count asked all kept components_of;
      no_other_relocations = λ r among.
          relocation_source (bound asked all kept components_of) all r (relocations_are asked all kept components_of) (within asked all kept components_of formed) among;
      entry_bound = entry_is asked all kept components_of;
      version = version_is asked all kept components_of;
    }

pub bound_means : (text : List ℕ) (names : List (List ℕ)) (objects : List PartsFields) (o : PartsFields) → ((q : PartsFields) → Contains objects q → is_well_formed q ≡ true)
    → bound_object_of text names objects ≡ Ok o → BoundMeaning text names objects o
unfolding bound_object_of
bound_means text names objects o formed e =
    let given : NamedObjectsFields = record { names = names; objects = objects } in
    let a = went (bind_lines text) (λ lines. bound_object_of_lines given lines) o e in
    let lines = a.0 in
    let b = went (components_of_lines given lines) (λ all. bound_object_of_components (bound_shape_of (has_version_line lines) all) all lines) o a.2 in
    let all = b.0 in
    let frame = bound_shape_of (has_version_line lines) all in
    let c = went (with_retain_lines (exports_from frame [] all) [] 1 lines) (λ kept. checked_bound_parts frame all kept) o b.2 in
    let parts = bound_parts frame all c.0 in
    let m = made_is (components_fit frame all) (is_well_formed parts) (sections_fit parts) parts o c.2 in
    subst (λ (x : PartsFields). BoundMeaning text names objects x) m.2
    (parts_mean text names objects lines all c.0 a.1 b.1 (picked_are given lines all formed b.1) c.1 m.0 m.1)

pub means_of : (text : List ℕ) (names : List (List ℕ)) (objects : List PartsFields) (result : Result PartsFields BindFault) → AreObjects objects
    → BindResult result (bound_object_of text names objects) → IfOk result (λ o. BoundMeaning text names objects o)
means_of text names objects (Ok o) are says = bound_means text names objects o are says
means_of text names objects (Err told) are says = tt
