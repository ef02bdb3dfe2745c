-- The core of a booted image: where its words are, and that table words and segment words are
-- separate.
use Rattle.std.proofs.Common.{◌≡◌, refl, sym, ◌∙◌, ap, inl, inr, ⊎_elim, arith}
use Rattle.std.specs.Prelude.{ℕ, zero, suc, ◌+◌, ◌*◌, ◌/◌, ◌%◌, ◌^◌, ◌<◌, ◌≤◌, ◌⊎◌, Bool, true, false, ◌==◌, List, [], ◌∷◌, length, slice_get, slice_index, Option, Some, option_map, Result, Ok, Err}
use Rattle.std.proofs.lemmas.Bool.{leb-true, ltb-true, lt-ltb, and_parts}
use Rattle.m36_desc.specs.Fields.{SdwFields, PtwFields}
use Rattle.m36_desc.specs.Descriptors.{ptw_of}
use Rattle.m36_word.specs.Bits.{is_on}
use Rattle.m36_desc.specs.Access.{has_ordered_brackets}
use Rattle.m36_model.specs.Store.{Core_word, is_within_bound}
use Rattle.m36_model.specs.Place.{wrapped_address, address_in_frame_by, directory_at, page_at, has_descriptor_in_bounds, address_in_frame, ptw_at, sdw_place_by, spot_in_core, spot_in_core_by, word_place_by, core_sdw, core_spot}
use Rattle.m36_model.specs.Core.{core_store, unmarked}
use Rattle.m36_model.specs.Audit.{Table, Sdws, Directory, Pages, IsWordOfTable, IsSdwWord, IsPageWord, IsSegmentWord, AreApart}
use Rattle.m36_model.specs.BootedCore.{booted_dbr, table_at, resident_ptw, absent_ptw, IsPage, page_word, IsInFrame, IsLaid}
use Rattle.m36_model.specs.Residence.{absence}
use Rattle.m36_model.specs.declared.outcome.Refusal.{Refusal}
use Rattle.m36_isol.proofs.Places.{place_parts}
use Rattle.m36_isol.proofs.CoreTables.{same_frame}

-- a word inside a list
pub get_inside : (xs : List ℕ) (i : ℕ) → i < length xs → slice_get xs i ≡ Some (slice_index xs i)
get_inside [] i h = absurd (omega arith)
get_inside (x ∷ xs) zero h = refl
get_inside (x ∷ xs) (suc i) h = get_inside xs i (omega arith)

-- words of pages that are in a frame, or in none
absent_as : (v offset : ℕ) → unmarked v ≡ absent_ptw → address_in_frame (Some (ptw_of v)) offset ≡ Err absence
unfolding unmarked
absent_as v offset h = same_frame (Some v) (Some absent_ptw) offset (ap (λ (n : ℕ). Some n) h)

frame_by : (n frame offset : ℕ) → n / 4 % 2 ≡ 1 → n / 2 ^ 18 % 2 ^ 18 ≡ 16 * frame → frame < 16384 → offset < 1024 → address_in_frame (Some (ptw_of n)) offset ≡ Ok (frame * 1024 + offset)
frame_by n frame offset f addr h k =
    let on : is_on n 33 ≡ true = ap (λ (x : ℕ). x == 1) f in
    let at : wrapped_address ((16 * frame / 16) * 1024 + offset) ≡ frame * 1024 + offset = omega arith in
    ap (λ (b : Bool). address_in_frame_by b (ptw_of n) offset) on ∙ ap (λ (x : ℕ). Ok (wrapped_address ((x / 16) * 1024 + offset))) addr ∙ ap (λ (x : ℕ). Ok x) at

resident_frame : (frame offset : ℕ) → frame < 16384 → offset < 1024 → address_in_frame (Some (ptw_of (resident_ptw frame))) offset ≡ Ok (frame * 1024 + offset)
resident_frame frame offset h k =
    frame_by (resident_ptw frame) frame offset (omega arith) (omega arith) h k

unmarked_resident : (frame : ℕ) → unmarked (resident_ptw frame) ≡ resident_ptw frame
unfolding unmarked
unmarked_resident frame = omega arith

resident_as : (v frame offset : ℕ) → unmarked v ≡ resident_ptw frame → frame < 16384 → offset < 1024 → address_in_frame (Some (ptw_of v)) offset ≡ Ok (frame * 1024 + offset)
resident_as v frame offset h most k =
    same_frame (Some v) (Some (resident_ptw frame)) offset (ap (λ (n : ℕ). Some n) (h ∙ sym (unmarked_resident frame))) ∙ resident_frame frame offset most k

inside_at : (size a : ℕ) → a < size → spot_in_core size (Ok a) ≡ Ok (Core_word a)
inside_at size a h = ap (λ (b : Bool). spot_in_core_by b a) (lt-ltb a size h)

module _ (core : List ℕ) (frames : ℕ) (laid : IsLaid core frames) where
  -- the page of a word within the bound of a live segment
  pub page_of_word : (seg w : ℕ) (d : SdwFields) → core_sdw core booted_dbr seg ≡ Ok d → is_within_bound d w ≡ true → IsPage core seg (w / 1024)
  page_of_word seg w d live inside =
      let k : w / 16 ≤ d.bound = leb-true (w / 16) d.bound inside in
      record { sdw = d; live = live; begins = omega arith }

  -- the address of the PTW of a page
  pub page_address : (seg page : ℕ) (d : SdwFields) → core_sdw core booted_dbr seg ≡ Ok d → page ≤ d.bound / 64 → page_at d page ≡ table_at seg + page
  page_address seg page d live begins =
      let k = laid.segments seg d live in
      let number : seg < 576 = k.number in
      let size = k.size in
      let small : wrapped_address ((2048 + 256 * seg) + page) ≡ (2048 + 256 * seg) + page = omega arith in
      ap (λ (n : ℕ). wrapped_address (n + page)) k.table ∙ small

  pub table_inside : (seg page : ℕ) → IsPage core seg page → table_at seg + page < length core
  table_inside seg page p =
      let k = laid.segments seg p.sdw p.live in
      let number : seg < 576 = k.number in
      let size = k.size in
      let begins = p.begins in
      let all : length core ≡ 1024 * (146 + frames) = laid.size in
      omega arith

  -- the PTW through which a word is found
  ptw_of_word : (seg w : ℕ) (d : SdwFields) → core_sdw core booted_dbr seg ≡ Ok d → is_within_bound d w ≡ true → ptw_at core (page_at d (w / 1024)) ≡ Some (ptw_of (slice_index core (table_at seg + w / 1024)))
  ptw_of_word seg w d live inside =
      let p = page_of_word seg w d live inside in
      let k : w / 16 ≤ d.bound = leb-true (w / 16) d.bound inside in
      ap (ptw_at core) (page_address seg (w / 1024) d live (omega arith)) ∙ ap (option_map ptw_of) (get_inside core (table_at seg + w / 1024) (table_inside seg (w / 1024) p))

  spot_by : (seg w : ℕ) (d : SdwFields) → core_sdw core booted_dbr seg ≡ Ok d → is_within_bound d w ≡ true → (v : Result ℕ Refusal) → address_in_frame (Some (ptw_of (slice_index core (table_at seg + w / 1024)))) (w % 1024) ≡ v → core_spot core booted_dbr d seg w ≡ spot_in_core (length core) v
  unfolding core_spot
  spot_by seg w d live inside v e =
      let paged = (laid.segments seg d live).paged in
      ap (λ (b : Bool). spot_in_core (length core) (word_place_by b d w (ptw_at core (page_at d (w / 1024))))) paged ∙ ap (λ (p : Option PtwFields). spot_in_core (length core) (address_in_frame p (w % 1024))) (ptw_of_word seg w d live inside) ∙ ap (spot_in_core (length core)) e

  -- a word whose page is in no frame
  pub absent_spot : (seg w : ℕ) (d : SdwFields) → core_sdw core booted_dbr seg ≡ Ok d → is_within_bound d w ≡ true → page_word core seg (w / 1024) ≡ absent_ptw → core_spot core booted_dbr d seg w ≡ Err absence
  absent_spot seg w d live inside h =
      spot_by seg w d live inside (Err absence) (absent_as (slice_index core (table_at seg + w / 1024)) (w % 1024) h)

  -- a word whose page is in a frame
  pub resident_spot : (seg w frame : ℕ) (d : SdwFields) → core_sdw core booted_dbr seg ≡ Ok d → is_within_bound d w ≡ true → IsInFrame core frames seg (w / 1024) frame → core_spot core booted_dbr d seg w ≡ Ok (Core_word (frame * 1024 + w % 1024))
  resident_spot seg w frame d live inside h =
      let all : length core ≡ 1024 * (146 + frames) = laid.size in
      let most : 146 + frames ≤ 16384 = laid.most in
      let high : frame < 146 + frames = h.pageable.1 in
      spot_by seg w d live inside (Ok (frame * 1024 + w % 1024)) (resident_as (slice_index core (table_at seg + w / 1024)) frame (w % 1024) h.word (omega arith) (omega arith)) ∙ inside_at (length core) (frame * 1024 + w % 1024) (omega arith)

  -- the address of a segment word
  pub record LiesIn (seg w a : ℕ) : Type 0 where
    pub frame : ℕ
    pub page : IsPage core seg (w / 1024)
    pub resident : IsInFrame core frames seg (w / 1024) frame
    pub address : a ≡ frame * 1024 + w % 1024

  lies_by : (seg w a : ℕ) (d : SdwFields) → core_sdw core booted_dbr seg ≡ Ok d → is_within_bound d w ≡ true → core_spot core booted_dbr d seg w ≡ Ok (Core_word a) → (page_word core seg (w / 1024) ≡ absent_ptw) ⊎ ((frame : ℕ) × IsInFrame core frames seg (w / 1024) frame) → LiesIn seg w a
  lies_by seg w a d live inside found (inl e) =
      let none = absent_spot seg w d live inside e in
      cc
  lies_by seg w a d live inside found (inr k) =
      let at = resident_spot seg w k.0 d live inside k.1 in
      let same : a ≡ k.0 * 1024 + w % 1024 = cc in
      record { frame = k.0; page = page_of_word seg w d live inside; resident = k.1; address = same }

  pub lies_in : (seg w a : ℕ) → IsSegmentWord core booted_dbr seg w a → LiesIn seg w a
  lies_in seg w a h =
      let k = place_parts core_store core booted_dbr seg w (Core_word a) h in
      let inside = (and_parts (has_ordered_brackets k.sdw) (is_within_bound k.sdw w) k.inside).1 in
      lies_by seg w a k.sdw k.live inside k.found (laid.pages seg (w / 1024) (page_of_word seg w k.sdw k.live inside))

  -- the descriptor words are the first 2,048 words
  sdw_low : (seg even : ℕ) → has_descriptor_in_bounds booted_dbr seg ≡ true → wrapped_address (0 + 2 * seg) ≡ even → even < 2047
  sdw_low seg even bounds e =
      let k : 2 * seg < 16 * (127 + 1) = ltb-true (2 * seg) (16 * (127 + 1)) (and_parts _ _ bounds).0 in
      omega arith

  sdw_found : (seg even : ℕ) (b : Bool) → has_descriptor_in_bounds booted_dbr seg ≡ b → sdw_place_by b true booted_dbr seg (ptw_at core (directory_at booted_dbr seg)) ≡ Ok even → even < 2047
  sdw_found seg even true bounds h = let same : wrapped_address (0 + 2 * seg) ≡ even = cc in sdw_low seg even bounds same
  sdw_found seg even false bounds h = cc

  sdw_word_low : (seg a : ℕ) → IsSdwWord core booted_dbr seg a → a < 2048
  sdw_word_low seg a h =
      let low = sdw_found seg h.even (has_descriptor_in_bounds booted_dbr seg) refl h.found in
      ⊎_elim (λ e. omega arith) (λ e. omega arith) h.half

  -- the page tables follow them, one after another, and the frames follow these
  page_word_at : (seg page a : ℕ) → IsPageWord core booted_dbr seg page a → (2048 + 256 * seg ≤ a) × (a < 2048 + 256 * seg + 256) × (a < 149504)
  page_word_at seg page a h =
      let k = laid.segments seg h.sdw h.live in
      let number : seg < 576 = k.number in
      let size = k.size in
      let begins = h.begins in
      let at : a ≡ (2048 + 256 * seg) + page = h.found ∙ page_address seg page h.sdw h.live begins in
      (omega arith, omega arith, omega arith)

  pub table_word_low : (t : Table) (a : ℕ) → IsWordOfTable core booted_dbr t a → a < 149504
  table_word_low Sdws a h = let k = sdw_word_low h.0 a h.1 in omega arith
  table_word_low Directory a h = let paged = h.1.paged in cc
  table_word_low (Pages seg) a h = (page_word_at seg h.0 a h.1).2

  pub word_high : (seg w a : ℕ) → IsSegmentWord core booted_dbr seg w a → 149504 ≤ a
  word_high seg w a h =
      let k = lies_in seg w a h in
      let low : 146 ≤ k.frame = k.resident.pageable.0 in
      let at = k.address in
      omega arith

  one_table : (seg seg' : ℕ) → seg ≡ seg' → Pages seg ≡ Pages seg'
  one_table seg seg' e = ap Pages e

  same_table : (t u : Table) (a : ℕ) → IsWordOfTable core booted_dbr t a → IsWordOfTable core booted_dbr u a → t ≡ u
  same_table Sdws Sdws a h k = refl
  same_table Sdws Directory a h k = let paged = k.1.paged in cc
  same_table Sdws (Pages seg) a h k =
      let low = sdw_word_low h.0 a h.1 in
      let high = (page_word_at seg k.0 a k.1).0 in
      absurd (omega arith)
  same_table Directory u a h k = let paged = h.1.paged in cc
  same_table (Pages seg) Sdws a h k =
      let low = sdw_word_low k.0 a k.1 in
      let high = (page_word_at seg h.0 a h.1).0 in
      absurd (omega arith)
  same_table (Pages seg) Directory a h k = let paged = k.1.paged in cc
  same_table (Pages seg) (Pages seg') a h k =
      let x = page_word_at seg h.0 a h.1 in
      let y = page_word_at seg' k.0 a k.1 in
      let x0 = x.0 in
      let x1 = x.1 in
      let y0 = y.0 in
      let y1 = y.1 in
      one_table seg seg' (omega arith)

  pub one_word : (seg w seg' w' a : ℕ) → IsSegmentWord core booted_dbr seg w a → IsSegmentWord core booted_dbr seg' w' a → (seg ≡ seg') × (w ≡ w')
  one_word seg w seg' w' a h k =
      let x = lies_in seg w a h in
      let y = lies_in seg' w' a k in
      let at = x.address in
      let at' = y.address in
      let frame : y.frame ≡ x.frame = omega arith in
      let same = laid.apart seg (w / 1024) seg' (w' / 1024) x.frame x.page y.page x.resident.word (y.resident.word ∙ ap resident_ptw frame) in
      let page = same.1 in
      (same.0, omega arith)

  pub laid_apart : AreApart core booted_dbr
  laid_apart =
      record {
        tables = λ a h. h.differ (same_table h.table h.other a h.of h.of_other);
        segments = λ a h. let low = table_word_low h.table a h.of in let high = word_high h.seg h.w a h.word in omega arith;
        words = λ a h. let same = one_word h.seg h.w h.other_seg h.other_w a h.word h.other_word in ⊎_elim (λ e. e same.0) (λ e. e same.1) h.differ;
      }
