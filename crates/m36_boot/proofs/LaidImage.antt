-- The core of an image is laid out: each descriptor decodes to what was encoded, and no page is in a frame.
use Rattle.std.proofs.Common.{ℕ, ◌≡◌, ◌≢◌, ◌+◌, ◌*◌, ◌^◌, ◌<◌, ◌≤◌, Bool, true, false, List, length, get_or, Option, Some, None, Result, Ok, Err, refl, sym, ap, inl, inr, ◌∙◌, arith}
use Rattle.std.specs.Prelude.{slice_get, nat_lt, ◌&&◌}
use Rattle.std.proofs.lemmas.Bool.{lt-ltb, le-ltb, cases_lt}
use Rattle.std.proofs.lemmas.Option.{slice_get-get_or}
use Rattle.m36_word.specs.Bits.{is_on}
use Rattle.m36_desc.specs.Fields.{SdwFields}
use Rattle.m36_desc.specs.Descriptors.{sdw_even, sdw_odd}
use Rattle.m36_desc.specs.Violations.{out_of_segment_bounds}
use Rattle.m36_model.specs.Store.{violation}
use Rattle.m36_model.specs.Core.{unmarked}
use Rattle.m36_model.specs.Place.{wrapped_address, directed_refusal, has_descriptor_in_bounds, directory_at, ptw_at, sdw_place_by, sdw_words, sdw_at, live_by, core_sdw}
use Rattle.m36_model.specs.BootedCore.{booted_dbr, wired_frames, absent_ptw, resident_ptw, page_word, IsLaidSegment, IsPage, IsLaid}
use Rattle.m36_model.specs.declared.outcome.Refusal.{Refusal}
use Rattle.m36_dir.specs.Catalog.{CatalogFields}
use Rattle.m36_page.proofs.Frames.{absent_unmarked}
use Rattle.m36_link.specs.Fields.{NewSectionFields}
use Rattle.m36_boot.specs.Segments.{booted_sdw}
use Rattle.m36_boot.specs.Image.{descriptor_word, IsWellFormed}
use Rattle.m36_boot.proofs.Sizes.{AreFiles, live}
use Rattle.m36_boot.proofs.LaidCore.{IsMade, absent_at, descriptor_here, even_of, odd_of, size_of}

-- ---- a descriptor, from its words

abbrev pub sdw_by : Option SdwFields → Result SdwFields Refusal
sdw_by None = Err (directed_refusal 0)
sdw_by (Some d) = Ok d

abbrev Sound : Option SdwFields → Type 0
Sound None = Unit {0}
Sound (Some d) = IsWellFormed d × (d.f ≡ true)

pair_by : (o : Option SdwFields) (e w : ℕ) → e ≡ descriptor_word 0 o → w ≡ descriptor_word 1 o → Sound o → live_by (is_on e 33) e w ≡ sdw_by o
pair_by None e w even odd sound = ap (λ n. live_by (is_on n 33) n w) even
pair_by (Some d) e w even odd sound =
    let on : is_on (sdw_even d) 33 ≡ true = ap (λ (s : SdwFields). s.f) sound.0.back ∙ sound.1 in
    ap (λ n. live_by (is_on n 33) n w) even ∙ ap (λ n. live_by (is_on (sdw_even d) 33) (sdw_even d) n) odd
    ∙ ap (λ (b : Bool). live_by b (sdw_even d) (sdw_odd d)) on ∙ ap (λ (s : SdwFields). Ok s) sound.0.back

in_place : (seg : ℕ) → seg < 1024 → has_descriptor_in_bounds booted_dbr seg ≡ true
in_place seg lt =
    ap (λ (b : Bool). b && nat_lt seg (2 ^ 15)) (lt-ltb (2 * seg) (16 * (127 + 1)) (omega (arith, lt)))
    ∙ lt-ltb seg (2 ^ 15) (omega (arith, lt))

out_of_place : (seg : ℕ) → 1024 ≤ seg → has_descriptor_in_bounds booted_dbr seg ≡ false
out_of_place seg le = ap (λ (b : Bool). b && nat_lt seg (2 ^ 15)) (le-ltb (2 * seg) (16 * (127 + 1)) (omega (arith, le)))

some_by : (o : Option SdwFields) (d : SdwFields) → sdw_by o ≡ Ok d → o ≡ Some d
some_by None d e = absurd (cc)
some_by (Some c) d e = cc

dead_by : (o : Option SdwFields) (why : Refusal) → sdw_by o ≡ Err why → why.number ≢ 17
dead_by None why e = let number = ap (λ (r : Refusal). r.number) (let same : directed_refusal 0 ≡ why = cc in same) in omega (arith, number)
dead_by (Some c) why e = absurd (cc)

abbrev err_of : Refusal → Result SdwFields Refusal
err_of why = Err why

out_by : (why : Refusal) → err_of (violation out_of_segment_bounds) ≡ Err why → why.number ≢ 17
out_by why e = let number = ap (λ (r : Refusal). r.number) (let same : violation out_of_segment_bounds ≡ why = cc in same) in omega (arith, number)

never : {P : Type 0} (why : Refusal) (d : SdwFields) → err_of why ≡ Ok d → P
never why d e = absurd (cc)

module _ (catalog : CatalogFields) (files : List (List ℕ)) (lay : Option NewSectionFields) (n : ℕ) (core : List ℕ) (are : AreFiles catalog files) (few : length catalog.segments ≤ 512) (made : IsMade catalog files lay n core) (room : 2048 ≤ n) where
  sound_of : (seg : ℕ) (o : Option SdwFields) → booted_sdw catalog files seg ≡ o → Sound o
  sound_of seg None e = tt
  sound_of seg (Some d) e =
      let l = live catalog files seg d are e in
      (made.described.whole seg d l.last e, l.on)

  pair_at : (seg : ℕ) → seg < 1024
      → core_sdw core booted_dbr seg ≡ live_by (is_on (get_or core (2 * seg) 0) 33) (get_or core (2 * seg) 0) (get_or core (2 * seg + 1) 0)
  unfolding core_sdw
  pair_at seg lt =
      let size = size_of catalog files lay n core made in
      let a : wrapped_address (0 + 2 * seg) ≡ 2 * seg = omega (arith, lt) in
      let b : wrapped_address (2 * seg + 1) ≡ 2 * seg + 1 = omega (arith, lt) in
      ap (λ (x : Bool). sdw_at core (sdw_place_by x true booted_dbr seg (ptw_at core (directory_at booted_dbr seg)))) (in_place seg lt)
      ∙ ap (λ x. sdw_words (slice_get core x) (slice_get core (wrapped_address (x + 1)))) a
      ∙ ap (λ x. sdw_words (slice_get core (2 * seg)) (slice_get core x)) b
      ∙ ap (λ x. sdw_words x (slice_get core (2 * seg + 1))) (slice_get-get_or core (2 * seg) 0 (omega (arith, size, room, lt)))
      ∙ ap (λ x. sdw_words (Some (get_or core (2 * seg) 0)) x) (slice_get-get_or core (2 * seg + 1) 0 (omega (arith, size, room, lt)))

  pub sdw_here : (seg : ℕ) → seg < 1024 → core_sdw core booted_dbr seg ≡ sdw_by (booted_sdw catalog files seg)
  sdw_here seg lt =
      pair_at seg lt
      ∙ pair_by (booted_sdw catalog files seg) (get_or core (2 * seg) 0) (get_or core (2 * seg + 1) 0)
      (descriptor_here catalog files lay n (2 * seg) core are made (omega (arith, lt)) ∙ even_of catalog files seg)
      (descriptor_here catalog files lay n (2 * seg + 1) core are made (omega (arith, lt)) ∙ odd_of catalog files seg)
      (sound_of seg (booted_sdw catalog files seg) refl)

  pub sdw_out : (seg : ℕ) → 1024 ≤ seg → core_sdw core booted_dbr seg ≡ Err (violation out_of_segment_bounds)
  unfolding core_sdw
  sdw_out seg le = ap (λ (x : Bool). sdw_at core (sdw_place_by x true booted_dbr seg (ptw_at core (directory_at booted_dbr seg)))) (out_of_place seg le)

  pub live_sdw : (seg : ℕ) (d : SdwFields) → booted_sdw catalog files seg ≡ Some d → core_sdw core booted_dbr seg ≡ Ok d
  live_sdw seg d has =
      let last = (live catalog files seg d are has).last in
      sdw_here seg (omega (arith, last, few)) ∙ ap sdw_by has

  pub sdw_live : (seg : ℕ) (d : SdwFields) → core_sdw core booted_dbr seg ≡ Ok d → booted_sdw catalog files seg ≡ Some d
  sdw_live seg d e =
      elim (cases_lt seg 1024) [
        | inl lt ↦ some_by (booted_sdw catalog files seg) d (sym (sdw_here seg lt) ∙ e)
        | inr le ↦ never (violation out_of_segment_bounds) d (sym (sdw_out seg le) ∙ e)
      ]

  pub sdw_dead : (seg : ℕ) (why : Refusal) → core_sdw core booted_dbr seg ≡ Err why → why.number ≢ 17
  sdw_dead seg why e =
      elim (cases_lt seg 1024) [
        | inl lt ↦ dead_by (booted_sdw catalog files seg) why (sym (sdw_here seg lt) ∙ e)
        | inr le ↦ out_by why (sym (sdw_out seg le) ∙ e)
      ]

  pub away : (seg page : ℕ) → IsPage core seg page → page_word core seg page ≡ absent_ptw
  away seg page is =
      let has = sdw_live seg is.sdw is.live in
      let begins = is.begins in
      ap unmarked (absent_at catalog files lay n seg page core is.sdw are made has (omega (arith, begins))) ∙ absent_unmarked

  resident_no : (frame w : ℕ) → w ≡ absent_ptw → w ≡ resident_ptw frame → ⊥
  resident_no frame w e f = absurd (omega (arith, e, f))

  segment_of_image : (seg : ℕ) (d : SdwFields) → core_sdw core booted_dbr seg ≡ Ok d → IsLaidSegment seg d
  segment_of_image seg d e =
      let has = sdw_live seg d e in
      let l = live catalog files seg d are has in
      let last = l.last in
      let bound = l.bound in
      record {
        number = omega (arith, last, few);
        paged = l.paged;
        table = l.table;
        size = omega (arith, bound);
        ordered = (made.described.whole seg d last has).ordered;
      }

  pub laid_image : (frames : ℕ) → n ≡ 1024 * (wired_frames + frames) → wired_frames + frames ≤ 16384 → IsLaid core frames
  laid_image frames count most = record {
    size = size_of catalog files lay n core made ∙ count;
    most = most;
    segments = segment_of_image;
    dead = sdw_dead;
    pages = λ seg page is. inl (away seg page is);
    apart = λ seg page seg' page' frame is is' here there. absurd (resident_no frame (page_word core seg page) (away seg page is) here);
  }
