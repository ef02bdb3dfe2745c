-- An image can be run: its core is laid out, and its pager has the pages of its segments.
use Rattle.std.proofs.Common.{ℕ, ◌≡◌, ◌+◌, ◌-◌, ◌*◌, ◌<◌, ◌≤◌, true, false, List, [], ◌∷◌, length, map, replicate, Option, Some, None, refl, sym, ap, subst, ◌∙◌, arith, length-append}
use Rattle.std.specs.Prelude.{nat_lt, nat_le, ◌&&◌, All}
use Rattle.std.specs.List.{list_all}
use Rattle.std.proofs.lemmas.Bool.{lt-ltb, ltb-true, and_parts, leb-true}
use Rattle.std.proofs.lemmas.List.{length-replicate}
use Rattle.std.proofs.lemmas.List.Elements.{All-nil, All-cons}
use Rattle.m36_desc.specs.Fields.{SdwFields}
use Rattle.m36_model.specs.BootedCore.{booted_dbr, wired_frames, table_at}
use Rattle.m36_model.specs.Registers.{RegsFields}
use Rattle.m36_dir.specs.Catalog.{CatalogFields}
use Rattle.m36_link.specs.Fields.{NewSectionFields, SnapFields}
use Rattle.m36_link.specs.Known.{linkage_segment}
use Rattle.m36_page.specs.declared.table.PageTable.{PageTable}
use Rattle.m36_page.specs.Fields.{TableFields, PagerFields}
use Rattle.m36_page.specs.Changes.{AllEmpty}
use Rattle.m36_page.specs.Given.{filled_table, initial_pager, fits_below, is_apart, are_placed}
use Rattle.m36_page.specs.Residence.{table_of, has_page_in, has_page, spot_in, spot_of, IsPager}
use Rattle.m36_boot.specs.Segments.{ring_descriptor, linkage_pages, booted_sdw}
use Rattle.m36_boot.specs.Start.{start_regs}
use Rattle.m36_model.specs.Place.{page_count}
use Rattle.m36_boot.specs.Image.{booted_tables, IsRunnable}
use Rattle.m36_boot.proofs.Sizes.{AreFiles, IsFirst, live}
use Rattle.m36_boot.proofs.SegmentNumbers.{linkage_sdw}
use Rattle.m36_boot.proofs.ImageTables.{tables_placed}
use Rattle.m36_boot.proofs.LaidCore.{IsMade}
use Rattle.m36_boot.proofs.LaidImage.{live_sdw, sdw_live, laid_image}
use Rattle.m36_boot.proofs.Contents.{table_live, table_dead}

-- ---- tables have the words of all their pages

filled : (t : PageTable) (first : ℕ) → fits_below first t ≡ true → length (filled_table t).words ≡ 1024 * (filled_table t).pages
filled t first e =
    let parts = and_parts (nat_le (t.at + t.pages) (1024 * first)) (nat_le (length t.words) (1024 * t.pages)) e in
    let room = leb-true (length t.words) (1024 * t.pages) parts.1 in
    let nought : ℕ = 0 in
    let zeros = length-replicate (1024 * t.pages - length t.words) nought in
    let all = length-append t.words (replicate (1024 * t.pages - length t.words) nought) in
    omega (arith, room, zeros, all)

abbrev IsFilled : TableFields → Type 0
IsFilled t = length t.words ≡ 1024 * t.pages

all_filled : (first : ℕ) (tables : List PageTable) → are_placed first tables ≡ true → All IsFilled (map filled_table tables)
unfolding are_placed
all_filled first [] e = All-nil IsFilled
all_filled first (t ∷ tables) e =
    let parts = and_parts (fits_below first t && list_all (is_apart t) tables) (are_placed first tables) e in
    let here = and_parts (fits_below first t) (list_all (is_apart t) tables) parts.0 in
    All-cons IsFilled (filled_table t) (map filled_table tables) (filled t first here.0) (all_filled first tables parts.1)

-- ---- the pages of the pager are those of the segments

record IsPageOf (catalog : CatalogFields) (files : List (List ℕ)) (seg page : ℕ) : Type 0 where
  sdw : SdwFields
  has : booted_sdw catalog files seg ≡ Some sdw
  inside : page < page_count sdw

never : {P : Type 0} → false ≡ true → P
never e = absurd (cc)

module _ (catalog : CatalogFields) (files : List (List ℕ)) (lay : Option NewSectionFields) (p : PagerFields) (are : AreFiles catalog files) (few : length catalog.segments ≤ 512) (given : p ≡ initial_pager wired_frames catalog.frames (booted_tables catalog files lay)) where
  tables_are : p.tables ≡ map filled_table (booted_tables catalog files lay)
  tables_are = ap (λ (x : PagerFields). x.tables) given

  has_live : (seg page : ℕ) (d : SdwFields) → booted_sdw catalog files seg ≡ Some d → has_page p seg page ≡ nat_lt page (page_count d)
  unfolding has_page
  has_live seg page d has =
      ap (λ (ts : List TableFields). has_page_in (table_of ts seg) page) tables_are ∙ ap (λ o. has_page_in o page) (table_live catalog files lay seg d are has)

  has_dead : (seg page : ℕ) → booted_sdw catalog files seg ≡ None → has_page p seg page ≡ false
  unfolding has_page
  has_dead seg page none =
      ap (λ (ts : List TableFields). has_page_in (table_of ts seg) page) tables_are ∙ ap (λ o. has_page_in o page) (table_dead catalog files lay seg none)

  spot_live : (seg page : ℕ) (d : SdwFields) → booted_sdw catalog files seg ≡ Some d → spot_of p seg page ≡ table_at seg + page
  unfolding spot_of
  spot_live seg page d has =
      ap (λ (ts : List TableFields). spot_in (table_of ts seg) page) tables_are ∙ ap (λ o. spot_in o page) (table_live catalog files lay seg d are has)

  page_by : (seg page : ℕ) (o : Option SdwFields) → booted_sdw catalog files seg ≡ o → has_page p seg page ≡ true → IsPageOf catalog files seg page
  page_by seg page None e has = never (sym (has_dead seg page e) ∙ has)
  page_by seg page (Some d) e has = record { sdw = d; has = e; inside = ltb-true page (page_count d) (sym (has_live seg page d e) ∙ has) }

  page_is : (seg page : ℕ) → has_page p seg page ≡ true → IsPageOf catalog files seg page
  page_is seg page has = page_by seg page (booted_sdw catalog files seg) refl has

  pub spot_is : (seg page : ℕ) → has_page p seg page ≡ true → spot_of p seg page ≡ table_at seg + page
  spot_is seg page has = let is = page_is seg page has in spot_live seg page is.sdw is.has

  spot_below : (seg page : ℕ) → has_page p seg page ≡ true → spot_of p seg page < 1024 * p.first
  spot_below seg page has =
      let is = page_is seg page has in
      let l = live catalog files seg is.sdw are is.has in
      let last = l.last in
      let bound = l.bound in
      let inside = is.inside in
      let spot = spot_live seg page is.sdw is.has in
      let first : p.first ≡ wired_frames = ap (λ (x : PagerFields). x.first) given in
      omega (arith, last, bound, inside, spot, first, few)

  spots_apart : (seg page seg' page' : ℕ) → has_page p seg page ≡ true → has_page p seg' page' ≡ true → spot_of p seg page ≡ spot_of p seg' page'
      → (seg ≡ seg') × (page ≡ page')
  spots_apart seg page seg' page' has has' same =
      let is = page_is seg page has in
      let is' = page_is seg' page' has' in
      let bound = (live catalog files seg is.sdw are is.has).bound in
      let bound' = (live catalog files seg' is'.sdw are is'.has).bound in
      let inside = is.inside in
      let inside' = is'.inside in
      let spot = spot_live seg page is.sdw is.has in
      let spot' = spot_live seg' page' is'.sdw is'.has in
      (omega (arith, bound, bound', inside, inside', spot, spot', same), omega (arith, bound, bound', inside, inside', spot, spot', same))

  pager_is : IsFirst lay → AllEmpty p → IsPager p
  pager_is first empty =
      let P : List TableFields → Type 0 = λ ts. All IsFilled ts in
      record {
        words = subst P (sym tables_are) (all_filled wired_frames (booted_tables catalog files lay) (tables_placed catalog files lay (booted_tables catalog files lay) are first few refl));
        below = spot_below;
        apart = spots_apart;
        held = λ k seg page holds. absurd (empty k seg page holds);
      }

-- ---- all

regs_dbr : (ring : ℕ) (s : SnapFields) → (start_regs ring s).dbr ≡ booted_dbr
unfolding start_regs
regs_dbr ring s = refl

pub runnable : (catalog : CatalogFields) (files : List (List ℕ)) (s : SnapFields) (core : List ℕ) (pager : PagerFields) (regs : RegsFields) (snap : SnapFields)
    → AreFiles catalog files → length catalog.segments ≤ 512 → IsFirst s.lay → 24 ≤ catalog.frames → catalog.frames ≤ 8192
    → IsMade catalog files s.lay (1024 * (wired_frames + catalog.frames)) core
    → pager ≡ initial_pager wired_frames catalog.frames (booted_tables catalog files s.lay) → AllEmpty pager → regs ≡ start_regs catalog.start.ring s
    → IsRunnable catalog.frames (record { core = core; pager = pager; regs = regs; snap = snap })
runnable catalog files s core pager regs snap are few first some most made given empty at =
    let room : 2048 ≤ 1024 * (wired_frames + catalog.frames) = omega arith in
    record {
      dbr = ap (λ (r : RegsFields). r.dbr) at ∙ regs_dbr catalog.start.ring s;
      pages = record {
        some = some;
        laid = laid_image catalog files s.lay (1024 * (wired_frames + catalog.frames)) core are few made room catalog.frames refl (omega (arith, most));
        first = ap (λ (x : PagerFields). x.first) given;
        count = ap (λ (x : PagerFields). length x.holders) given ∙ length-replicate catalog.frames (let o : Option (ℕ × ℕ) = None in o);
        pager = pager_is catalog files s.lay pager are few given first empty;
        serves = λ seg page is.
            let has = sdw_live catalog files s.lay (1024 * (wired_frames + catalog.frames)) core are few made room seg is.sdw is.live in
            let begins = is.begins in
            has_live catalog files s.lay pager are few given seg page is.sdw has ∙ lt-ltb page (page_count is.sdw) (omega (arith, begins));
        exact = λ seg page has.
            let is = page_is catalog files s.lay pager are few given seg page has in
            let inside = is.inside in
            record {
              sdw = is.sdw;
              live = live_sdw catalog files s.lay (1024 * (wired_frames + catalog.frames)) core are few made room seg is.sdw is.has;
              begins = omega (arith, inside);
            };
        at = spot_is catalog files s.lay pager are few given;
      };
      linkage = λ ring lt.
          live_sdw catalog files s.lay (1024 * (wired_frames + catalog.frames)) core are few made room (linkage_segment ring)
          (ring_descriptor (linkage_segment ring) ring linkage_pages) (linkage_sdw catalog files ring lt);
    }
