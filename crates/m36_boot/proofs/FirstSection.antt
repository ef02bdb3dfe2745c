-- The linkage section of a start, by the laws of links: it fits the linkage segment after the LOT.
use Rattle.std.proofs.Common.{ℕ, ◌≡◌, ◌≤◌, List, [], length, All, Option, Some, None, Ok, refl, arith}
use Rattle.std.proofs.lemmas.List.Elements.{All-nil, All-head}
use Rattle.m36_dir.specs.Catalog.{CatalogFields}
use Rattle.m36_link.specs.Fields.{PlacedSectionFields, NewSectionFields, RingNameFields, SnapFields}
use Rattle.m36_link.specs.Known.{nothing_known, next_base_in_ring, next_base, lot_words}
use Rattle.m36_link.specs.Accepted.{placed_section_of, with_section, known_after, MayBeLaid}
use Rattle.m36_link.specs.Laws.{IsOfCatalog, IsWholeSection, IsConsistent, MayBeAcceptedFrom, KeepsConsistentFrom}
use Rattle.m36_boot.specs.Start.{start_link, start_answer}
use Rattle.m36_boot.proofs.Sizes.{IsFirst}

nothing_made : (catalog : CatalogFields) (files : List (List ℕ)) → IsConsistent catalog files nothing_known
nothing_made catalog files = record {
  names = All-nil (λ (e : RingNameFields × ℕ). IsOfCatalog catalog e.1);
  laid = All-nil (λ (l : PlacedSectionFields). IsWholeSection catalog files l);
}

pub base_first : (ring : ℕ) → next_base_in_ring [] ring ≡ lot_words
unfolding next_base
base_first ring = refl

first_by : (catalog : CatalogFields) (files : List (List ℕ)) (lay : Option NewSectionFields) → length catalog.segments ≤ 512
    → All (IsWholeSection catalog files) (with_section [] lay) → MayBeLaid nothing_known lay → IsFirst lay
unfolding with_section
first_by catalog files None few whole next = tt
first_by catalog files (Some l) few whole next =
    let below = (All-head (IsWholeSection catalog files) (placed_section_of l) [] whole).segment.below in
    let base = next.base in
    let first = base_first l.ring in
    let fits = next.fits in
    record { seg = omega (arith, below, few); words = omega (arith, base, first, fits) }

pub first_section : MayBeAcceptedFrom → KeepsConsistentFrom → (catalog : CatalogFields) (files : List (List ℕ)) (s : SnapFields)
    → length catalog.segments ≤ 512 → start_answer catalog files ≡ Ok s → IsFirst s.lay
unfolding start_answer known_after
first_section may keeps catalog files s few e =
    let link = start_link catalog.start in
    first_by catalog files s.lay few
    (keeps nothing_known catalog files catalog.start.ring link catalog.work s (nothing_made catalog files) e).laid
    (may nothing_known catalog files catalog.start.ring link catalog.work s e)
