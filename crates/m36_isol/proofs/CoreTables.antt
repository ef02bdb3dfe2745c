-- Two cores whose table words are equal except for marks have the same descriptors and places; and
-- equal tables mean equal table words.
use Rattle.std.proofs.Common.{◌≡◌, refl, sym, ◌∙◌, ap, subst, inl, inr, ⊎_elim, arith, eq-or-lt_of_le, le_of_suc-le-suc}
use Rattle.std.specs.Prelude.{ℕ, zero, suc, ◌+◌, ◌*◌, ◌/◌, ◌%◌, ◌≤◌, ◌⊎◌, Bool, true, false, not, ◌&&◌, ◌==◌, if◌then◌else◌, List, [], ◌∷◌, length, slice_get, Option, Some, None, option_map, Result, Ok, Err}
use Rattle.std.proofs.lemmas.Bool.{leb-true}
use Rattle.m36_desc.specs.Fields.{SdwFields, PtwFields, DbrFields}
use Rattle.m36_desc.specs.Descriptors.{ptw_of}
use Rattle.m36_model.specs.Store.{Tables, SegTable, is_within_bound}
use Rattle.m36_model.specs.Place.{wrapped_address, address_in_frame, address_in_frame_by, ptw_at, directory_at, page_at, has_descriptor_in_bounds, sdw_place, sdw_place_by, sdw_at, core_sdw, core_spot, word_place_by}
use Rattle.m36_model.specs.Core.{unmarked, ptw_entry, sdw_entry, sdw_entries, pages_to, page_entries, segment_table, core_tables}
use Rattle.m36_model.specs.Audit.{IsSdwWord, IsPageWord}
use Rattle.m36_model.specs.CoreLaw.{HasTables, IsPtwWord}
use Rattle.m36_model.specs.declared.outcome.Refusal.{Refusal}

-- two cores have the same table words except for marks
pub record Matches (core : List ℕ) (dbr : DbrFields) (now : List ℕ) : Type 0 where
  pub size : length now ≡ length core
  pub descriptors : (seg a : ℕ) → IsSdwWord core dbr seg a → slice_get now a ≡ slice_get core a
  pub ptws : (a : ℕ) → IsPtwWord core dbr a → option_map unmarked (slice_get now a) ≡ option_map unmarked (slice_get core a)

-- the parts of a PTW that marks do not change
unmarked_high : (u v : ℕ) → unmarked u ≡ unmarked v → u / 1024 ≡ v / 1024
unfolding unmarked
unmarked_high u v h = omega arith

unmarked_low : (u v : ℕ) → unmarked u ≡ unmarked v → u % 64 ≡ v % 64
unfolding unmarked
unmarked_low u v h = omega arith

same_addr : (u v : ℕ) → unmarked u ≡ unmarked v → (ptw_of u).addr ≡ (ptw_of v).addr
same_addr u v h = let k = unmarked_high u v h in omega arith

same_fc : (u v : ℕ) → unmarked u ≡ unmarked v → (ptw_of u).fc ≡ (ptw_of v).fc
same_fc u v h = let k = unmarked_low u v h in omega arith

same_f : (u v : ℕ) → unmarked u ≡ unmarked v → (ptw_of u).f ≡ (ptw_of v).f
same_f u v h =
    let k = unmarked_low u v h in
    let e : u / 4 % 2 ≡ v / 4 % 2 = omega arith in
    ap (λ (n : ℕ). n == 1) e

frame_by : (b : Bool) (p q : PtwFields) (offset : ℕ) → p.addr ≡ q.addr → p.fc ≡ q.fc → address_in_frame_by b p offset ≡ address_in_frame_by b q offset
frame_by true p q offset a c = ap (λ (n : ℕ). Ok (wrapped_address ((n / 16) * 1024 + offset))) a
frame_by false p q offset a c = cc

pub same_frame : (x y : Option ℕ) (offset : ℕ) → option_map unmarked x ≡ option_map unmarked y → address_in_frame (option_map ptw_of x) offset ≡ address_in_frame (option_map ptw_of y) offset
same_frame None None offset h = refl
same_frame None (Some v) offset h = cc
same_frame (Some u) None offset h = cc
same_frame (Some u) (Some v) offset h =
    let k : unmarked u ≡ unmarked v = cc in
    frame_by (ptw_of u).f (ptw_of u) (ptw_of v) offset (same_addr u v k) (same_fc u v k) ∙ ap (λ (b : Bool). address_in_frame_by b (ptw_of v) offset) (same_f u v k)

module _ (core : List ℕ) (dbr : DbrFields) (now : List ℕ) (m : Matches core dbr now) where
  place_by : (seg : ℕ) (b u : Bool) → has_descriptor_in_bounds dbr seg ≡ b → dbr.unpaged ≡ u → sdw_place_by b u dbr seg (ptw_at now (directory_at dbr seg)) ≡ sdw_place_by b u dbr seg (ptw_at core (directory_at dbr seg))
  place_by seg false u e f = refl
  place_by seg true true e f = refl
  place_by seg true false e f =
      same_frame _ _ _ (m.ptws (directory_at dbr seg) (inl (seg, record { bounds = e; paged = f; found = refl })))

  pub same_sdw_place : (seg : ℕ) → sdw_place now dbr seg ≡ sdw_place core dbr seg
  same_sdw_place seg = place_by seg (has_descriptor_in_bounds dbr seg) dbr.unpaged refl refl

  sdw_by : (seg : ℕ) (v : Result ℕ Refusal) → sdw_place core dbr seg ≡ v → sdw_at now v ≡ sdw_at core v
  sdw_by seg (Err e) found = refl
  sdw_by seg (Ok a) found =
      let even = m.descriptors seg a (record { even = a; found = found; half = inl refl }) in
      let odd = m.descriptors seg (wrapped_address (a + 1)) (record { even = a; found = found; half = inr refl }) in
      cc

  pub same_sdw : (seg : ℕ) → core_sdw now dbr seg ≡ core_sdw core dbr seg
  unfolding core_sdw
  same_sdw seg = ap (sdw_at now) (same_sdw_place seg) ∙ sdw_by seg (sdw_place core dbr seg) refl

  spot_by : (seg w : ℕ) (d : SdwFields) → core_sdw core dbr seg ≡ Ok d → is_within_bound d w ≡ true → (u : Bool) → d.unpaged ≡ u → word_place_by u d w (ptw_at now (page_at d (w / 1024))) ≡ word_place_by u d w (ptw_at core (page_at d (w / 1024)))
  spot_by seg w d live inside true e = refl
  spot_by seg w d live inside false e =
      let k : w / 16 ≤ d.bound = leb-true (w / 16) d.bound inside in
      same_frame _ _ _ (m.ptws (page_at d (w / 1024)) (inr (seg, w / 1024, record { sdw = d; live = live; paged = e; begins = omega arith; found = refl })))

  pub same_spot_of : (seg w : ℕ) (d : SdwFields) → core_sdw core dbr seg ≡ Ok d → is_within_bound d w ≡ true → core_spot now dbr d seg w ≡ core_spot core dbr d seg w
  unfolding core_spot
  same_spot_of seg w d live inside =
      let e = spot_by seg w d live inside d.unpaged refl in
      let n = m.size in
      cc

  -- the same table words mean the same tables
  entry_by : (a : ℕ) → IsPtwWord core dbr a → ptw_entry now a ≡ ptw_entry core a
  entry_by a h = let e = m.ptws a h in λ i. (a, e i)

  directory_by : (seg : ℕ) (b u : Bool) → has_descriptor_in_bounds dbr seg ≡ b → dbr.unpaged ≡ u → (if b && not u then ptw_entry now (directory_at dbr seg) ∷ [] else []) ≡ (if b && not u then ptw_entry core (directory_at dbr seg) ∷ [] else [])
  directory_by seg false u e f = refl
  directory_by seg true true e f = refl
  directory_by seg true false e f =
      ap (λ (entry : ℕ × Option ℕ). entry ∷ []) (entry_by (directory_at dbr seg) (inl (seg, record { bounds = e; paged = f; found = refl })))

  sdws_by : (seg : ℕ) (v : Result ℕ Refusal) → sdw_place core dbr seg ≡ v → sdw_entries now v ≡ sdw_entries core v
  sdws_by seg (Err e) found = refl
  sdws_by seg (Ok a) found =
      let even = m.descriptors seg a (record { even = a; found = found; half = inl refl }) in
      let odd = m.descriptors seg (wrapped_address (a + 1)) (record { even = a; found = found; half = inr refl }) in
      λ i. (a, even i) ∷ (wrapped_address (a + 1), odd i) ∷ []

  pages_by : (seg : ℕ) (d : SdwFields) → core_sdw core dbr seg ≡ Ok d → d.unpaged ≡ false → (n : ℕ) → n ≤ d.bound / 64 → pages_to now d n ≡ pages_to core d n
  pages_by seg d live paged zero begins =
      ap (λ (entry : ℕ × Option ℕ). entry ∷ []) (entry_by (page_at d zero) (inr (seg, zero, record { sdw = d; live = live; paged = paged; begins = begins; found = refl })))
  pages_by seg d live paged (suc n) begins =
      let here = entry_by (page_at d (suc n)) (inr (seg, suc n, record { sdw = d; live = live; paged = paged; begins = begins; found = refl })) in
      let more = pages_by seg d live paged n (omega arith) in
      λ i. here i ∷ more i

  page_entries_of : (seg : ℕ) (d : SdwFields) → core_sdw core dbr seg ≡ Ok d → (u : Bool) → d.unpaged ≡ u → (if u then [] else pages_to now d (d.bound / 64)) ≡ (if u then [] else pages_to core d (d.bound / 64))
  page_entries_of seg d live true e = refl
  page_entries_of seg d live false e = pages_by seg d live e (d.bound / 64) (omega arith)

  page_entries_by : (seg : ℕ) (v : Result SdwFields Refusal) → core_sdw core dbr seg ≡ v → page_entries now v ≡ page_entries core v
  page_entries_by seg (Err e) live = refl
  page_entries_by seg (Ok d) live = page_entries_of seg d live d.unpaged refl

  pub has_tables : HasTables core dbr now
  unfolding core_tables
  has_tables =
      let size = m.size in
      let directory = λ (seg : ℕ). directory_by seg (has_descriptor_in_bounds dbr seg) dbr.unpaged refl refl in
      let sdws = λ (seg : ℕ). ap (sdw_entries now) (same_sdw_place seg) ∙ sdws_by seg (sdw_place core dbr seg) refl in
      let pages = λ (seg : ℕ). ap (page_entries now) (same_sdw seg) ∙ page_entries_by seg (core_sdw core dbr seg) refl in
      λ i. record { dbr = dbr; size = size i; of = λ seg. record { directory = directory seg i; sdw = sdws seg i; pages = pages seg i } }

-- the same tables mean the same table words
module _ (core : List ℕ) (dbr : DbrFields) (now : List ℕ) (h : HasTables core dbr now) where
  size_of : length now ≡ length core
  unfolding core_tables
  size_of = ap (λ (t : Tables). t.size) h

  table_of : (seg : ℕ) → segment_table now dbr seg ≡ segment_table core dbr seg
  unfolding core_tables
  table_of seg = ap (λ (t : Tables). t.of seg) h

  first_entry : (x y : ℕ × Option ℕ) (xs ys : List (ℕ × Option ℕ)) → x ∷ xs ≡ y ∷ ys → x.1 ≡ y.1
  first_entry x y xs ys e = let f : x ≡ y = cc in ap (λ (p : ℕ × Option ℕ). p.1) f

  directory_of : (seg : ℕ) (b u : Bool) → b ≡ true → u ≡ false → (if b && not u then ptw_entry now (directory_at dbr seg) ∷ [] else []) ≡ (if b && not u then ptw_entry core (directory_at dbr seg) ∷ [] else []) → option_map unmarked (slice_get now (directory_at dbr seg)) ≡ option_map unmarked (slice_get core (directory_at dbr seg))
  directory_of seg false u e f k = cc
  directory_of seg true true e f k = cc
  directory_of seg true false e f k = first_entry _ _ _ _ k

  -- one half of a descriptor
  half_of : (a even place : ℕ) → (a ≡ even) ⊎ (a ≡ wrapped_address (even + 1)) → sdw_entries now (Ok place) ≡ sdw_entries core (Ok even) → slice_get now a ≡ slice_get core a
  half_of a even place half e =
      let first : sdw_entry now place ≡ sdw_entry core even = cc in
      let second : sdw_entry now (wrapped_address (place + 1)) ≡ sdw_entry core (wrapped_address (even + 1)) = cc in
      let at = ap (λ (p : ℕ × Option ℕ). p.0) first in
      let found = ap (λ (p : ℕ × Option ℕ). p.1) first in
      let at_second = ap (λ (p : ℕ × Option ℕ). p.0) second in
      let found_second = ap (λ (p : ℕ × Option ℕ). p.1) second in
      ⊎_elim (λ e1. ap (slice_get now) (e1 ∙ sym at) ∙ found ∙ ap (slice_get core) (sym e1)) (λ e2. ap (slice_get now) (e2 ∙ sym at_second) ∙ found_second ∙ ap (slice_get core) (sym e2)) half

  sdw_half : (seg a even : ℕ) → (a ≡ even) ⊎ (a ≡ wrapped_address (even + 1)) → (v : Result ℕ Refusal) → sdw_entries now v ≡ sdw_entries core (Ok even) → slice_get now a ≡ slice_get core a
  sdw_half seg a even half (Err why) e = cc
  sdw_half seg a even half (Ok place) e = half_of a even place half e

  descriptors_of : (seg a : ℕ) → IsSdwWord core dbr seg a → slice_get now a ≡ slice_get core a
  descriptors_of seg a k =
      let e = ap (λ (t : SegTable). t.sdw) (table_of seg) in
      sdw_half seg a k.even k.half (sdw_place now dbr seg) (e ∙ ap (sdw_entries core) k.found)

  -- descriptors depend only on the table words of the descriptor segment
  directory_word : (seg : ℕ) → has_descriptor_in_bounds dbr seg ≡ true → dbr.unpaged ≡ false → option_map unmarked (slice_get now (directory_at dbr seg)) ≡ option_map unmarked (slice_get core (directory_at dbr seg))
  directory_word seg bounds paged =
      directory_of seg (has_descriptor_in_bounds dbr seg) dbr.unpaged bounds paged (ap (λ (t : SegTable). t.directory) (table_of seg))

  place_of : (seg : ℕ) (b u : Bool) → has_descriptor_in_bounds dbr seg ≡ b → dbr.unpaged ≡ u → sdw_place_by b u dbr seg (ptw_at now (directory_at dbr seg)) ≡ sdw_place_by b u dbr seg (ptw_at core (directory_at dbr seg))
  place_of seg false u e f = refl
  place_of seg true true e f = refl
  place_of seg true false e f = same_frame _ _ _ (directory_word seg e f)

  found_by : (seg : ℕ) (v : Result ℕ Refusal) → sdw_place core dbr seg ≡ v → sdw_at now v ≡ sdw_at core v
  found_by seg (Err e) found = refl
  found_by seg (Ok a) found =
      let even = descriptors_of seg a (record { even = a; found = found; half = inl refl }) in
      let odd = descriptors_of seg (wrapped_address (a + 1)) (record { even = a; found = found; half = inr refl }) in
      cc

  pub descriptor_of : (seg : ℕ) → core_sdw now dbr seg ≡ core_sdw core dbr seg
  unfolding core_sdw
  descriptor_of seg =
      ap (sdw_at now) (place_of seg (has_descriptor_in_bounds dbr seg) dbr.unpaged refl refl) ∙ found_by seg (sdw_place core dbr seg) refl

  page_of : (d : SdwFields) (n page : ℕ) → page ≤ n → pages_to now d n ≡ pages_to core d n → option_map unmarked (slice_get now (page_at d page)) ≡ option_map unmarked (slice_get core (page_at d page))
  page_of d zero page low e =
      let here : page ≡ zero = omega arith in
      subst (λ (k : ℕ). option_map unmarked (slice_get now (page_at d k)) ≡ option_map unmarked (slice_get core (page_at d k))) (sym here) (first_entry _ _ _ _ e)
  page_of d (suc n) page low e =
      let more : pages_to now d n ≡ pages_to core d n = cc in
      ⊎_elim
      (λ here. subst (λ (k : ℕ). option_map unmarked (slice_get now (page_at d k)) ≡ option_map unmarked (slice_get core (page_at d k))) (sym here) (first_entry _ _ _ _ e))
      (λ below. page_of d n page (le_of_suc-le-suc below) more)
      (eq-or-lt_of_le low)

  pages_of : (d : SdwFields) (page : ℕ) → page ≤ d.bound / 64 → (u : Bool) → u ≡ false → (if u then [] else pages_to now d (d.bound / 64)) ≡ (if u then [] else pages_to core d (d.bound / 64)) → option_map unmarked (slice_get now (page_at d page)) ≡ option_map unmarked (slice_get core (page_at d page))
  pages_of d page begins true paged e = cc
  pages_of d page begins false paged e = page_of d (d.bound / 64) page begins e

  page_word : (seg page a : ℕ) → IsPageWord core dbr seg page a → option_map unmarked (slice_get now a) ≡ option_map unmarked (slice_get core a)
  page_word seg page a k =
      let e = ap (λ (t : SegTable). t.pages) (table_of seg) in
      let same = ap (page_entries now) (sym (descriptor_of seg ∙ k.live)) ∙ e ∙ ap (page_entries core) k.live in
      subst (λ (b : ℕ). option_map unmarked (slice_get now b) ≡ option_map unmarked (slice_get core b)) (sym k.found) (pages_of k.sdw page k.begins k.sdw.unpaged k.paged same)

  pub matches : Matches core dbr now
  matches =
      record {
        size = size_of;
        descriptors = descriptors_of;
        ptws = λ a k. ⊎_elim (λ x. subst (λ (b : ℕ). option_map unmarked (slice_get now b) ≡ option_map unmarked (slice_get core b)) (sym x.1.found) (directory_word x.0 x.1.bounds x.1.paged)) (λ x. page_word x.0 x.1 a x.2) k;
      }
