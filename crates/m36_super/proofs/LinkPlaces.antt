-- The place of a link that is snapped: in the linkage segment of its ring, with both of its words.
use Rattle.std.proofs.Common.{◌≡◌, refl, sym, ◌∙◌, ap, subst, arith, length-append}
use Rattle.std.proofs.lemmas.Bool.{eqb-true, leb-true, and_parts}
use Rattle.std.specs.Prelude.{ℕ, suc, ◌+◌, ◌-◌, ◌*◌, ◌/◌, ◌%◌, ◌^◌, ◌<◌, ◌≤◌, Bool, true, false, ◌&&◌, nat_eq, nat_le, if◌then◌else◌, find, List, [], ◌∷◌, length, slice_get, All, Option, Some, None, is_some, option_and_then, Ok}
use Rattle.std.proofs.lemmas.Option.{slice_get_within}
use Rattle.m36_model.specs.Fields.{AtFields}
use Rattle.m36_dir.specs.Catalog.{CatalogFields}
use Rattle.obj36_parts.specs.Fields.{LinkFields}
use Rattle.obj36_parts.specs.PartsFields.{PartsFields}
use Rattle.obj36_parts.specs.ObjectSegment.{inner_statics, outer_statics, linkage_section, first_link}
use Rattle.obj36_parts.proofs.LengthLaws.{length-linkage_part}
use Rattle.m36_link.specs.Fields.{PlacedSectionFields, KnownFields, SnapFields}
use Rattle.m36_link.specs.Known.{linkage_segment, object_in, laid_words}
use Rattle.m36_link.specs.Links.{link_from, link_in, holds_link, section_at}
use Rattle.m36_link.specs.Snap.{snap_of, snap_in}
use Rattle.m36_link.specs.Laws.{IsWholeSection, IsConsistent}

-- an element that is found passes the test, and satisfies what each element does
pub record IsFound {A : Type 0} (p : A → Bool) (P : A → Type 0) (x : A) : Type 0 where
  pub passes : p x ≡ true
  pub holds : P x

found_in : {A : Type 0} (p : A → Bool) (P : A → Type 0) (xs : List A) (y : A) → find p xs ≡ Some y → All P xs → IsFound p P y
found_in p P [] y e all = cc
found_in p P (x ∷ xs) y e all =
    by_test (p x) refl e (λ later. found_in p P xs y later (λ k d lt. all (suc k) d (omega (arith, lt))))
  where
    by_test : (b : Bool) → p x ≡ b → (if b then Some x else find p xs) ≡ Some y → (find p xs ≡ Some y → IsFound p P y) → IsFound p P y
    by_test true test e later =
        let same : x ≡ y = cc in
        subst (IsFound p P) same (record { passes = test; holds = all 0 x (omega arith) })
    by_test false test e later = later e

-- the section of a link that is snapped
pub record IsPlaced (files : List (List ℕ)) (at : AtFields) (l : PlacedSectionFields) : Type 0 where
  pub seg : at.seg ≡ linkage_segment at.ring
  pub link : LinkFields
  pub link_is : link_in files at.word l ≡ Some link

some_of : (v : Option LinkFields) → is_some v ≡ true → (x : LinkFields) × (v ≡ Some x)
some_of (Some x) e = (x, refl)
some_of None e = cc

section_of : (known : KnownFields) (files : List (List ℕ)) (at : AtFields) (l : PlacedSectionFields) (P : PlacedSectionFields → Type 0) → section_at known.laid files at ≡ Some l → All P known.laid → IsPlaced files at l × P l
unfolding section_at
section_of known files at l P e all = by_seg (nat_eq at.seg (linkage_segment at.ring)) refl e
  where
    by_seg : (b : Bool) → nat_eq at.seg (linkage_segment at.ring) ≡ b → (if b then find (holds_link files at.ring at.word) known.laid else None) ≡ Some l → IsPlaced files at l × P l
    by_seg true seg e =
        let f = found_in (holds_link files at.ring at.word) P known.laid l e all in
        let parts = and_parts _ _ f.passes in
        let link = some_of _ parts.1 in
        (record { seg = eqb-true at.seg (linkage_segment at.ring) seg; link = link.0; link_is = link.1 }, f.holds)
    by_seg false seg e = cc

-- both words of a link are in its section
link_low : (first word : ℕ) (links : List LinkFields) (link : LinkFields) → link_from first word links ≡ Some link → word + 1 < first + 2 * length links
unfolding link_from
link_low first word links link e = by_tests (nat_le first word) (nat_eq ((word - first) % 2) 0) refl refl e
  where
    by_tests : (a b : Bool) → nat_le first word ≡ a → nat_eq ((word - first) % 2) 0 ≡ b → (if a && b then slice_get links ((word - first) / 2) else None) ≡ Some link → word + 1 < first + 2 * length links
    by_tests true true low even e =
        let k : first ≤ word = leb-true first word low in
        let m : (word - first) % 2 ≡ 0 = eqb-true ((word - first) % 2) 0 even in
        let w : (word - first) / 2 < length links = slice_get_within links ((word - first) / 2) link e in
        omega arith
    by_tests true false low even e = cc
    by_tests false b low even e = cc

links_inside : (o : PartsFields) → first_link o + 2 * length o.links ≤ length (laid_words o)
unfolding laid_words linkage_section
links_inside o =
    omega (arith, length-append (linkage_section o) (outer_statics o), length-linkage_part (inner_statics o) o.links (2 + 2 * length o.definitions))

in_object : (files : List (List ℕ)) (word : ℕ) (l : PlacedSectionFields) (o : PartsFields) (link : LinkFields) → object_in files l.seg ≡ Some o → link_in files word l ≡ Some link → link_from (l.base + first_link o) word o.links ≡ Some link
unfolding link_in
in_object files word l o link read e =
    sym (ap (option_and_then (λ (x : PartsFields). link_from (l.base + first_link x) word x.links)) read) ∙ e

pub record IsSnapPlace (at : AtFields) : Type 0 where
  pub seg : at.seg ≡ linkage_segment at.ring
  pub pair : at.word + 1 < 2 ^ 18

pub snap_place : (known : KnownFields) (catalog : CatalogFields) (files : List (List ℕ)) (at : AtFields) (s : SnapFields) → IsConsistent catalog files known → snap_of known catalog files at ≡ Ok s → IsSnapPlace at
unfolding snap_of
snap_place known catalog files at s made e = by_section (section_at known.laid files at) refl e
  where
    by_section : (v : Option PlacedSectionFields) → section_at known.laid files at ≡ v → snap_in known catalog files at v ≡ Ok s → IsSnapPlace at
    by_section None found e = cc
    by_section (Some l) found e =
        let k = section_of known files at l (IsWholeSection catalog files) found made.laid in
        let whole = k.1 in
        let size = whole.size in
        let end = whole.end in
        let low = link_low (l.base + first_link whole.object) at.word whole.object.links k.0.link (in_object files at.word l whole.object k.0.link whole.read k.0.link_is) in
        let inside = links_inside whole.object in
        record { seg = k.0.seg; pair = omega arith }
