-- The flat memory that the core of an image and the kept words represent.
use Rattle.std.proofs.Common.{ℕ, zero, suc, ◌≡◌, ◌+◌, ◌-◌, ◌*◌, ◌/◌, ◌<◌, ◌≤◌, Bool, true, false, cond, List, [], ◌∷◌, length, get_or, take, Option, Some, None, Result, refl, sym, ap, inl, inr, ◌∙◌, arith}
use Rattle.std.specs.Prelude.{nat_lt, unwrap_or}
use Rattle.std.proofs.lemmas.Bool.{lt-ltb, leb-true, leb-false, cases_lt}
use Rattle.std.proofs.lemmas.List.{get_or_past}
use Rattle.m36_desc.specs.Fields.{SdwFields}
use Rattle.m36_desc.specs.Access.{has_ordered_brackets}
use Rattle.m36_model.specs.Store.{Spot, is_within_bound, place_within, when_ordered, place_by, place}
use Rattle.m36_model.specs.Place.{core_sdw, core_spot, page_count}
use Rattle.m36_model.specs.BootedCore.{booted_dbr, descriptor_words, wired_frames, IsLaid}
use Rattle.m36_model.specs.Residence.{Paged, word_at, paged_content, flat_of}
use Rattle.m36_model.specs.declared.outcome.Refusal.{Refusal}
use Rattle.m36_isol.proofs.Laid.{page_of_word, absent_spot}
use Rattle.m36_dir.specs.Catalog.{CatalogFields}
use Rattle.m36_link.specs.Fields.{NewSectionFields, SnapFields}
use Rattle.m36_page.specs.Fields.{PagerFields}
use Rattle.m36_page.specs.Given.{initial_pager}
use Rattle.m36_page.specs.Residence.{table_of, kept_in, kept_word}
use Rattle.m36_boot.specs.Segments.{booted_sdw, booted_words}
use Rattle.m36_boot.specs.Image.{booted_word, booted_tables, words_from, booted_flat, booted_content, content_by}
use Rattle.m36_boot.proofs.Sizes.{AreFiles, IsFirst, blocks_fit}
use Rattle.m36_boot.proofs.LaidCore.{IsMade, word_here, size_of}
use Rattle.m36_boot.proofs.LaidImage.{sdw_by, sdw_here, sdw_out, live_sdw, away, laid_image}
use Rattle.m36_boot.proofs.Contents.{table_live, filled_at}

-- ---- the descriptor segment

take_none : (xs : List ℕ) → take 0 xs ≡ []
take_none [] = refl
take_none (x ∷ xs) = refl

take_is : (catalog : CatalogFields) (files : List (List ℕ)) (n a : ℕ) (xs : List ℕ) → n ≤ length xs
    → ((k : ℕ) → k < n → get_or xs k 0 ≡ booted_word catalog files (a + k)) → take n xs ≡ words_from catalog files a n
unfolding words_from
take_is catalog files zero a xs le h = take_none xs
take_is catalog files (suc n) a [] le h = absurd (omega (arith, le))
take_is catalog files (suc n) a (x ∷ xs) le h =
    let here : a + 0 ≡ a = omega arith in
    let head : x ≡ booted_word catalog files a = h 0 (omega arith) ∙ ap (λ m. booted_word catalog files m) here in
    let rest = take_is catalog files n (a + 1) xs (omega (arith, le)) (λ k lt.
    let next : a + suc k ≡ a + 1 + k = omega arith in
    h (suc k) (omega (arith, lt)) ∙ ap (λ m. booted_word catalog files m) next) in
    λ i. head i ∷ rest i

-- ---- a word

place_open : (d : SdwFields) (spot : Result Spot Refusal) (w : ℕ) → has_ordered_brackets d ≡ true
    → when_ordered (has_ordered_brackets d) (place_within (is_within_bound d w) spot) ≡ place_within (is_within_bound d w) spot
place_open d spot w e = ap (λ (b : Bool). when_ordered b (place_within (is_within_bound d w) spot)) e

past_pages : (b : Bool) (v : ℕ) → v ≡ 0 → 0 ≡ unwrap_or (cond b (Some v) None) 0
past_pages true v e = sym e
past_pages false v e = refl

module _ (catalog : CatalogFields) (files : List (List ℕ)) (lay : Option NewSectionFields) (core : List ℕ) (p : PagerFields) (are : AreFiles catalog files) (few : length catalog.segments ≤ 512) (first : IsFirst lay) (most : catalog.frames ≤ 8192) (made : IsMade catalog files lay (1024 * (wired_frames + catalog.frames)) core) (given : p ≡ initial_pager wired_frames catalog.frames (booted_tables catalog files lay)) where
  abbrev memory : Paged
  memory = record { core = core; kept = kept_word p }

  room : 2048 ≤ 1024 * (wired_frames + catalog.frames)
  room = omega arith

  laid : IsLaid core catalog.frames
  laid = laid_image catalog files lay (1024 * (wired_frames + catalog.frames)) core are few made room catalog.frames refl (omega (arith, most))

  kept_live : (seg w : ℕ) (d : SdwFields) → booted_sdw catalog files seg ≡ Some d → kept_word p seg w ≡ get_or (booted_words files lay seg) w 0
  unfolding kept_word
  kept_live seg w d has =
      ap (λ (x : PagerFields). kept_in (table_of x.tables seg) w) given
      ∙ ap (λ o. kept_in o w) (table_live catalog files lay seg d are has)
      ∙ filled_at (booted_words files lay seg) (1024 * page_count d - length (booted_words files lay seg)) w 0

  -- within the bound the page is in no frame; past it words are zero
  word_by : (seg w : ℕ) (d : SdwFields) (inside : Bool) → booted_sdw catalog files seg ≡ Some d → is_within_bound d w ≡ inside
      → word_at memory seg w (place_within (is_within_bound d w) (core_spot core booted_dbr d seg w)) ≡ unwrap_or (content_by (Some d) (booted_words files lay seg) w) 0
  word_by seg w d true has e =
      let live = live_sdw catalog files lay (1024 * (wired_frames + catalog.frames)) core are few made room seg d has in
      let page = page_of_word core catalog.frames laid seg w d live e in
      let none = away catalog files lay (1024 * (wired_frames + catalog.frames)) core are few made room seg (w / 1024) page in
      let block = leb-true (w / 16) d.bound e in
      ap (λ (b : Bool). word_at memory seg w (place_within b (core_spot core booted_dbr d seg w))) e
      ∙ ap (λ (r : Result Spot Refusal). word_at memory seg w r) (absent_spot core catalog.frames laid seg w d live e none)
      ∙ kept_live seg w d has
      ∙ ap (λ b. unwrap_or (cond b (Some (get_or (booted_words files lay seg) w 0)) None) 0) (sym (lt-ltb (w / 1024) (page_count d) (omega (arith, block))))
  word_by seg w d false has e =
      let block = leb-false (w / 16) d.bound e in
      let size = blocks_fit catalog files lay seg d first has in
      ap (λ (b : Bool). word_at memory seg w (place_within b (core_spot core booted_dbr d seg w))) e
      ∙ past_pages (nat_lt (w / 1024) (page_count d)) (get_or (booted_words files lay seg) w 0) (get_or_past (booted_words files lay seg) w 0 (omega (arith, block, size)))

  content_by_sdw : (seg w : ℕ) (o : Option SdwFields) → booted_sdw catalog files seg ≡ o
      → word_at memory seg w (place_by (core_sdw core booted_dbr seg) (λ d. core_spot core booted_dbr d seg w) w) ≡ unwrap_or (content_by o (booted_words files lay seg) w) 0
  content_by_sdw seg w None e =
      elim (cases_lt seg 1024) [
        | inl lt ↦
            ap (λ (r : Result SdwFields Refusal). word_at memory seg w (place_by r (λ d. core_spot core booted_dbr d seg w) w))
            (sdw_here catalog files lay (1024 * (wired_frames + catalog.frames)) core are few made room seg lt ∙ ap sdw_by e)
        | inr le ↦
            ap (λ (r : Result SdwFields Refusal). word_at memory seg w (place_by r (λ d. core_spot core booted_dbr d seg w) w))
            (sdw_out catalog files lay (1024 * (wired_frames + catalog.frames)) core are few made room seg le)
      ]
  content_by_sdw seg w (Some d) e =
      let live = live_sdw catalog files lay (1024 * (wired_frames + catalog.frames)) core are few made room seg d e in
      let ordered = (laid.segments seg d live).ordered in
      ap (λ (r : Result SdwFields Refusal). word_at memory seg w (place_by r (λ x. core_spot core booted_dbr x seg w) w)) live
      ∙ ap (λ (r : Result Spot Refusal). word_at memory seg w r) (place_open d (core_spot core booted_dbr d seg w) w ordered)
      ∙ word_by seg w d (is_within_bound d w) e refl

  content_is : (seg w : ℕ) → paged_content memory seg w ≡ unwrap_or (booted_content catalog files lay seg w) 0
  unfolding paged_content place booted_content
  content_is seg w = content_by_sdw seg w (booted_sdw catalog files seg) refl

  descriptors_are : take descriptor_words core ≡ words_from catalog files 0 descriptor_words
  descriptors_are =
      let size = size_of catalog files lay (1024 * (wired_frames + catalog.frames)) core made in
      take_is catalog files descriptor_words 0 core (omega (arith, size))
      (λ k lt.
      let from : k ≡ 0 + k = omega arith in
      word_here catalog files lay (1024 * (wired_frames + catalog.frames)) k core are made few ∙ ap (λ m. booted_word catalog files m) from)

pub flat_image : (catalog : CatalogFields) (files : List (List ℕ)) (s : SnapFields) (core : List ℕ) (p : PagerFields) → AreFiles catalog files
    → length catalog.segments ≤ 512 → IsFirst s.lay → catalog.frames ≤ 8192 → IsMade catalog files s.lay (1024 * (wired_frames + catalog.frames)) core
    → p ≡ initial_pager wired_frames catalog.frames (booted_tables catalog files s.lay)
    → flat_of (record { core = core; kept = kept_word p }) ≡ booted_flat catalog files s
unfolding flat_of booted_flat
flat_image catalog files s core p are few first most made given =
    let d = descriptors_are catalog files s.lay core p are few first most made given in
    let content = content_is catalog files s.lay core p are few first most made given in
    λ i. record { descriptors = d i; content = λ seg w. content seg w i }
