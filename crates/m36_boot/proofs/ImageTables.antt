-- The page tables of an image: in order, without common words, and one for each segment.
use Rattle.std.proofs.Common.{ℕ, zero, suc, ◌≡◌, ◌+◌, ◌-◌, ◌*◌, ◌<◌, ◌≤◌, true, List, ◌++◌, length, Option, Some, None, refl, sym, ap, subst, inl, inr, ◌∙◌, arith, append_assoc}
use Rattle.std.specs.Prelude.{slice_get, nat_le}
use Rattle.std.specs.List.{list_all}
use Rattle.std.proofs.lemmas.Bool.{le-leb, cases_eq, and_from, or_left}
use Rattle.std.proofs.lemmas.List.{append-nil}
use Rattle.m36_desc.specs.Fields.{SdwFields}
use Rattle.m36_model.specs.BootedCore.{table_at, wired_frames}
use Rattle.m36_dir.specs.Catalog.{CatalogFields}
use Rattle.m36_page.specs.declared.table.PageTable.{PageTable}
use Rattle.m36_page.specs.Given.{is_apart, are_placed}
use Rattle.m36_link.specs.Fields.{NewSectionFields}
use Rattle.m36_boot.specs.Segments.{booted_sdw, booted_words}
use Rattle.m36_model.specs.Place.{page_count}
use Rattle.m36_boot.specs.Image.{table_of_segment, tables_from, booted_tables}
use Rattle.m36_boot.proofs.Sizes.{AreFiles, IsFirst, live, pages_fit}

-- ---- the loop

tables_by : (catalog : CatalogFields) (files : List (List ℕ)) (lay : Option NewSectionFields) (seg m n : ℕ) → m ≡ suc n
    → tables_from catalog files lay seg m
    ≡ table_of_segment seg (booted_sdw catalog files seg) (booted_words files lay seg) ++ tables_from catalog files lay (seg + 1) n
unfolding tables_from
tables_by catalog files lay seg m n e = ap (λ k. tables_from catalog files lay seg k) e

pub tables_more : (catalog : CatalogFields) (files : List (List ℕ)) (lay : Option NewSectionFields) (n seg : ℕ) (tables new total : List PageTable) → seg < n
    → new ≡ tables ++ table_of_segment seg (booted_sdw catalog files seg) (booted_words files lay seg)
    → tables ++ tables_from catalog files lay seg (n - seg) ≡ total → new ++ tables_from catalog files lay (seg + 1) (n - (seg + 1)) ≡ total
tables_more catalog files lay n seg tables new total lt added so_far =
    let rest = tables_from catalog files lay (seg + 1) (n - (seg + 1)) in
    let one = table_of_segment seg (booted_sdw catalog files seg) (booted_words files lay seg) in
    ap (λ (ts : List PageTable). ts ++ rest) added ∙ append_assoc tables one rest
    ∙ ap (λ (ts : List PageTable). tables ++ ts) (sym (tables_by catalog files lay seg (n - seg) (n - (seg + 1)) (omega (arith, lt)))) ∙ so_far

pub tables_all : (catalog : CatalogFields) (files : List (List ℕ)) (lay : Option NewSectionFields) (n seg : ℕ) (tables total : List PageTable) → n ≤ seg
    → tables ++ tables_from catalog files lay seg (n - seg) ≡ total → tables ≡ total
unfolding tables_from
tables_all catalog files lay n seg tables total le so_far =
    let none : n - seg ≡ 0 = omega (arith, le) in
    sym (append-nil tables) ∙ ap (λ m. tables ++ tables_from catalog files lay seg m) (sym none) ∙ so_far

-- ---- without common words

apart_by : (t : PageTable) (o : Option SdwFields) (seg : ℕ) (words : List ℕ) (rest : List PageTable) → t.at + t.pages ≤ table_at seg
    → list_all (is_apart t) rest ≡ true → list_all (is_apart t) (table_of_segment seg o words ++ rest) ≡ true
apart_by t None seg words rest le e = e
apart_by t (Some d) seg words rest le e =
    and_from _ _ (or_left (nat_le (t.at + t.pages) (table_at seg)) _ (le-leb (t.at + t.pages) (table_at seg) le)) e

later_apart : (catalog : CatalogFields) (files : List (List ℕ)) (lay : Option NewSectionFields) (t : PageTable) (seg n : ℕ) → t.at + t.pages ≤ table_at seg
    → list_all (is_apart t) (tables_from catalog files lay seg n) ≡ true
unfolding tables_from
later_apart catalog files lay t seg zero le = refl
later_apart catalog files lay t seg (suc n) le =
    apart_by t (booted_sdw catalog files seg) seg (booted_words files lay seg) (tables_from catalog files lay (seg + 1) n) le
    (later_apart catalog files lay t (seg + 1) n (omega (arith, le)))

-- the page table of a segment
abbrev pub page_table : CatalogFields → List (List ℕ) → Option NewSectionFields → ℕ → SdwFields → PageTable
page_table catalog files lay seg d = record { words = booted_words files lay seg; at = table_at seg; seg = seg; pages = page_count d }

placed_by : (catalog : CatalogFields) (files : List (List ℕ)) (lay : Option NewSectionFields) (o : Option SdwFields) (seg n : ℕ) → AreFiles catalog files → IsFirst lay
    → booted_sdw catalog files seg ≡ o → seg < 576 → are_placed wired_frames (tables_from catalog files lay (seg + 1) n) ≡ true
    → are_placed wired_frames (table_of_segment seg o (booted_words files lay seg) ++ tables_from catalog files lay (seg + 1) n) ≡ true
unfolding are_placed
placed_by catalog files lay None seg n are is e lt rest = rest
placed_by catalog files lay (Some d) seg n are is e lt rest =
    let l = live catalog files seg d are e in
    let bound = l.bound in
    let room = pages_fit catalog files lay seg d is e in
    let low : table_at seg + page_count d ≤ 1024 * wired_frames = omega (arith, bound, lt) in
    let next : table_at seg + page_count d ≤ table_at (seg + 1) = omega (arith, bound) in
    and_from _ _ (and_from _ _
    (and_from _ _ (le-leb (table_at seg + page_count d) (1024 * wired_frames) low) (le-leb (length (booted_words files lay seg)) (1024 * page_count d) room))
    (later_apart catalog files lay (page_table catalog files lay seg d) (seg + 1) n next)) rest

placed_from : (catalog : CatalogFields) (files : List (List ℕ)) (lay : Option NewSectionFields) (seg n : ℕ) → AreFiles catalog files → IsFirst lay → seg + n ≤ 576
    → are_placed wired_frames (tables_from catalog files lay seg n) ≡ true
unfolding are_placed tables_from
placed_from catalog files lay seg zero are is le = refl
placed_from catalog files lay seg (suc n) are is le =
    placed_by catalog files lay (booted_sdw catalog files seg) seg n are is refl (omega (arith, le))
    (placed_from catalog files lay (seg + 1) n are is (omega (arith, le)))

pub tables_placed : (catalog : CatalogFields) (files : List (List ℕ)) (lay : Option NewSectionFields) (tables : List PageTable) → AreFiles catalog files → IsFirst lay
    → length catalog.segments ≤ 512 → tables ≡ booted_tables catalog files lay → are_placed wired_frames tables ≡ true
unfolding booted_tables
tables_placed catalog files lay tables are is few e =
    ap (λ (ts : List PageTable). are_placed wired_frames ts) e
    ∙ placed_from catalog files lay 0 (64 + length catalog.segments) are is (omega (arith, few))

-- ---- one for each segment

HasAt : List PageTable → PageTable → Type 0
HasAt tables t = (j : ℕ) × (slice_get tables j ≡ Some t)

behind : (o : Option SdwFields) (seg : ℕ) (words : List ℕ) (rest : List PageTable) (t : PageTable) → HasAt rest t
    → HasAt (table_of_segment seg o words ++ rest) t
unfolding HasAt
behind None seg words rest t has = has
behind (Some d) seg words rest t has = (suc has.0, has.1)

has_here : (catalog : CatalogFields) (files : List (List ℕ)) (lay : Option NewSectionFields) (o : Option SdwFields) (seg : ℕ) (d : SdwFields) (rest : List PageTable)
    → o ≡ Some d → HasAt (table_of_segment seg o (booted_words files lay seg) ++ rest) (page_table catalog files lay seg d)
unfolding HasAt
has_here catalog files lay o seg d rest e =
    let P : Option SdwFields → Type 0 = λ x. (j : ℕ) × (slice_get (table_of_segment seg x (booted_words files lay seg) ++ rest) j ≡ Some (page_table catalog files lay seg d)) in
    subst P (sym e) (0, refl)

has_from : (catalog : CatalogFields) (files : List (List ℕ)) (lay : Option NewSectionFields) (seg n k : ℕ) (d : SdwFields) → seg ≤ k → k < seg + n
    → booted_sdw catalog files k ≡ Some d → HasAt (tables_from catalog files lay seg n) (page_table catalog files lay k d)
unfolding tables_from
has_from catalog files lay seg zero k d low high e = absurd (omega (arith, low, high))
has_from catalog files lay seg (suc n) k d low high e =
    elim (cases_eq k seg) [
      | inl same ↦
          let P : ℕ → Type 0 = λ m. HasAt (table_of_segment m (booted_sdw catalog files m) (booted_words files lay m) ++ tables_from catalog files lay (m + 1) n) (page_table catalog files lay k d) in
          subst P same (has_here catalog files lay (booted_sdw catalog files k) k d (tables_from catalog files lay (k + 1) n) e)
      | inr other ↦
          behind (booted_sdw catalog files seg) seg (booted_words files lay seg) (tables_from catalog files lay (seg + 1) n) (page_table catalog files lay k d)
          (has_from catalog files lay (seg + 1) n k d (omega (arith, low, other)) (omega (arith, high)) e)
    ]

pub has_table : (catalog : CatalogFields) (files : List (List ℕ)) (lay : Option NewSectionFields) (k : ℕ) (d : SdwFields) → AreFiles catalog files
    → booted_sdw catalog files k ≡ Some d → (j : ℕ) × (slice_get (booted_tables catalog files lay) j ≡ Some (page_table catalog files lay k d))
unfolding HasAt booted_tables
has_table catalog files lay k d are e =
    let last = (live catalog files k d are e).last in
    has_from catalog files lay 0 (64 + length catalog.segments) k d (omega arith) (omega (arith, last)) e

-- a table is the table of a segment
pub record IsOf (catalog : CatalogFields) (files : List (List ℕ)) (lay : Option NewSectionFields) (t : PageTable) : Type 0 where
  pub seg : ℕ
  pub sdw : SdwFields
  pub has : booted_sdw catalog files seg ≡ Some sdw
  pub is : t ≡ page_table catalog files lay seg sdw

same_of : (t u : PageTable) → Some u ≡ Some t → t ≡ u
same_of t u e = cc

of_by : (catalog : CatalogFields) (files : List (List ℕ)) (lay : Option NewSectionFields) (o : Option SdwFields) (seg j : ℕ) (rest : List PageTable) (t : PageTable)
    → booted_sdw catalog files seg ≡ o → ((i : ℕ) → slice_get rest i ≡ Some t → IsOf catalog files lay t)
    → slice_get (table_of_segment seg o (booted_words files lay seg) ++ rest) j ≡ Some t → IsOf catalog files lay t
of_by catalog files lay None seg j rest t e later at = later j at
of_by catalog files lay (Some d) seg zero rest t e later at = record { seg = seg; sdw = d; has = e; is = same_of t (page_table catalog files lay seg d) at }
of_by catalog files lay (Some d) seg (suc j) rest t e later at = later j at

of_from : (catalog : CatalogFields) (files : List (List ℕ)) (lay : Option NewSectionFields) (seg n j : ℕ) (t : PageTable)
    → slice_get (tables_from catalog files lay seg n) j ≡ Some t → IsOf catalog files lay t
unfolding tables_from
of_from catalog files lay seg zero j t at = absurd (cc)
of_from catalog files lay seg (suc n) j t at =
    of_by catalog files lay (booted_sdw catalog files seg) seg j (tables_from catalog files lay (seg + 1) n) t refl
    (λ i there. of_from catalog files lay (seg + 1) n i t there) at

pub table_is : (catalog : CatalogFields) (files : List (List ℕ)) (lay : Option NewSectionFields) (j : ℕ) (t : PageTable)
    → slice_get (booted_tables catalog files lay) j ≡ Some t → IsOf catalog files lay t
unfolding booted_tables
table_is catalog files lay j t at = of_from catalog files lay 0 (64 + length catalog.segments) j t at
