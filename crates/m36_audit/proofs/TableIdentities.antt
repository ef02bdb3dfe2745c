-- The table words of one process are recorded, with the numbers of their tables.
use Rattle.std.proofs.Common.{◌≡◌, ℕ, zero, suc, ◌+◌, ◌*◌, ◌/◌, ◌^◌, ◌<◌, ◌≤◌, refl, sym, ◌∙◌, ap, subst, inl, inr, arith}
use Rattle.std.specs.Prelude.{◌⊎◌, Bool, true, false, List, slice_index, slice_get, Some, Result, Ok, Err}
use Rattle.std.proofs.lemmas.Bool.{lt-ltb, cases_lt}
use Rattle.m36_desc.specs.Fields.{SdwFields, DbrFields}
use Rattle.m36_model.specs.Place.{wrapped_address, has_descriptor_in_bounds, directory_at, page_at, sdw_place, core_sdw}
use Rattle.m36_model.specs.Audit.{IsPageWord, IsWordOfTable, Table, Sdws, Directory, Pages}
use Rattle.m36_model.specs.declared.outcome.Refusal.{Refusal}
use Rattle.m36_audit.specs.TableMarks.{IsMarkedSoFar}
use Rattle.m36_audit.specs.RecordedNumbers.{several, with_number_at, AreRecorded}
use Rattle.m36_audit.specs.WordOwners.{identity, descriptor_recorded, directory_recorded, pages_recorded, page_table_recorded, table_recorded_if_live, segment_recorded, segments_recorded, HasTableNumbered, IsOfProcessBelow}
use Rattle.m36_tables.specs.Tables.{IsSegmentCount}
use Rattle.m36_audit.proofs.Bounds.{live_fits}
use Rattle.m36_audit.proofs.LookupLaws.{all_same, all_more}
use Rattle.m36_audit.proofs.TableWords.{sdw_before, no_sdw_back, With_even, half_old, half_new, odd_here, directory_before, no_directory_back, directory_new, directory_here, pages_past, no_pages_back, whole_has_none, none_past, page_new, page_here, sofar_is, is_sofar, nothing_so_far}

-- the numbers of the tables of earlier processes, and of those tables of process k that were
-- visited
abbrev pub Marked : List ℕ → List DbrFields → List ℕ → ℕ → (Table → ℕ → Type 0) → ℕ → ℕ → Type 0
Marked core dbrs firsts k V a x =
    IsOfProcessBelow (HasTableNumbered core dbrs firsts) k a x ⊎ ((t : Table) × V t a × (x ≡ identity firsts k t))

positive_identity : (firsts : List ℕ) (k : ℕ) (t : Table) → 0 < identity firsts k t
positive_identity firsts k Sdws = omega arith
positive_identity firsts k Directory = omega arith
positive_identity firsts k (Pages seg) = omega arith

small_identity : (firsts : List ℕ) (k : ℕ) (t : Table) → ((i : ℕ) → slice_index firsts i < 2 ^ 18) → k < 8 → identity firsts k t < several
small_identity firsts k Sdws below few = omega arith
small_identity firsts k Directory below few = omega arith
small_identity firsts k (Pages seg) below few = let lt = below (2 ^ 15 * k + seg) in omega arith

module _ (core : List ℕ) (dbrs : List DbrFields) (firsts : List ℕ) (small : (i : ℕ) → slice_index firsts i < 2 ^ 18) (k : ℕ) (few : k < 8) (size : ℕ) where
  IsSameLookup : (Table → ℕ → Type 0) → List ℕ → Type 0
  IsSameLookup V values = AreRecorded (Marked core dbrs firsts k V) size values

  positive : (V : Table → ℕ → Type 0) (a x : ℕ) → Marked core dbrs firsts k V a x → 0 < x
  positive V a x (inl b) =
      let some = positive_identity firsts b.0 b.2.table in
      let is = b.2.is in
      omega arith
  positive V a x (inr m) =
      let some = positive_identity firsts k m.0 in
      let is = m.2 in
      omega arith

  widened : (V W : Table → ℕ → Type 0) → ((t : Table) (a : ℕ) → V t a → W t a) → (a x : ℕ) → Marked core dbrs firsts k V a x → Marked core dbrs firsts k W a x
  widened V W there a x (inl b) = inl b
  widened V W there a x (inr m) = inr (m.0, there m.0 a m.1, m.2)

  same : (V W : Table → ℕ → Type 0) (values : List ℕ) → ((t : Table) (a : ℕ) → V t a → W t a) → ((t : Table) (a : ℕ) → W t a → V t a) → IsSameLookup V values → IsSameLookup W values
  unfolding IsSameLookup
  same V W values there back t = all_same _ _ size values (widened V W there) (widened W V back) t

  more : (V W : Table → ℕ → Type 0) (table : Table) (at : ℕ) (values : List ℕ) → ((t : Table) (a : ℕ) → V t a → W t a) → ((t : Table) (a : ℕ) → W t a → V t a ⊎ ((t ≡ table) × (a ≡ at))) → W table at → IsSameLookup V values → IsSameLookup W (with_number_at values at (identity firsts k table))
  unfolding IsSameLookup
  more V W table at values old new here t =
      all_more _ _ at (identity firsts k table) size values (widened V W old) back (inr (table, here, refl)) (small_identity firsts k table small few) (positive V) t
    where
      new_by : (a x : ℕ) (u : Table) → x ≡ identity firsts k u → V u a ⊎ ((u ≡ table) × (a ≡ at)) → Marked core dbrs firsts k V a x ⊎ ((a ≡ at) × (x ≡ identity firsts k table))
      new_by a x u e (inl v) = inl (inr (u, v, e))
      new_by a x u e (inr h) = inr (h.1, e ∙ ap (identity firsts k) h.0)

      back : (a x : ℕ) → Marked core dbrs firsts k W a x → Marked core dbrs firsts k V a x ⊎ ((a ≡ at) × (x ≡ identity firsts k table))
      back a x (inl b) = inl (inl b)
      back a x (inr m) = new_by a x m.0 m.2 (new m.0 a m.1)

  module _ (dbr : DbrFields) (seg : ℕ) where
    descriptor_by : (d p : ℕ) (v : Result ℕ Refusal) → sdw_place core dbr seg ≡ v → (values : List ℕ) → IsSameLookup (IsMarkedSoFar core dbr seg d p) values → IsSameLookup (IsMarkedSoFar core dbr (seg + 1) d p) (descriptor_recorded (2 * k + 1) v values)
    unfolding With_even
    descriptor_by d p (Err e) place values t =
        same _ _ values (sdw_before core dbr seg d p) (no_sdw_back core dbr seg d p (λ even h. cc)) t
    descriptor_by d p (Ok even) place values t = both
      where
        first : IsSameLookup (With_even core dbr seg d p even place) (with_number_at values even (2 * k + 1))
        first = more (IsMarkedSoFar core dbr seg d p) (With_even core dbr seg d p even place) Sdws even values (λ u a h. inl h) (λ u a w. w) (inr (refl, refl)) t

        both : IsSameLookup (IsMarkedSoFar core dbr (seg + 1) d p) (with_number_at (with_number_at values even (2 * k + 1)) (wrapped_address (even + 1)) (2 * k + 1))
        both = more (With_even core dbr seg d p even place) (IsMarkedSoFar core dbr (seg + 1) d p) Sdws (wrapped_address (even + 1)) (with_number_at values even (2 * k + 1)) (half_old core dbr seg d p even place) (half_new core dbr seg d p even place) (odd_here core dbr seg d p even place) first

    directory_by : (d p : ℕ) (u : Bool) → dbr.unpaged ≡ u → has_descriptor_in_bounds dbr seg ≡ true → (values : List ℕ) → IsSameLookup (IsMarkedSoFar core dbr d seg p) values → IsSameLookup (IsMarkedSoFar core dbr d (seg + 1) p) (directory_recorded (2 * k + 2) u (directory_at dbr seg) values)
    directory_by d p true e bounds values t =
        same _ _ values (directory_before core dbr seg d p) (no_directory_back core dbr seg d p e) t
    directory_by d p false e bounds values t =
        more _ _ Directory (directory_at dbr seg) values (directory_before core dbr seg d p) (directory_new core dbr seg d p bounds e) (directory_here core dbr seg d p bounds e) t

    at_first : (d p : ℕ) (values : List ℕ) → IsSameLookup (IsMarkedSoFar core dbr d p (256 * seg)) values → IsSameLookup (IsMarkedSoFar core dbr d p (256 * seg + 0)) values
    at_first d p values t =
        let e : 256 * seg ≡ 256 * seg + 0 = omega arith in
        subst (λ (n : ℕ). IsSameLookup (IsMarkedSoFar core dbr d p n) values) e t

    no_pages : (d p : ℕ) → ((n a : ℕ) → 0 ≤ n → IsPageWord core dbr seg n a → ⊥) → (values : List ℕ) → IsSameLookup (IsMarkedSoFar core dbr d p (256 * seg)) values → IsSameLookup (IsMarkedSoFar core dbr d p (256 * (seg + 1))) values
    no_pages d p none values t =
        same _ _ values (pages_past core dbr seg d p (256 * seg + 0) (256 * (seg + 1)) (omega arith)) (no_pages_back core dbr seg d p 0 (omega arith) none) (at_first d p values t)

    module _ (sdw : SdwFields) (live : core_sdw core dbr seg ≡ Ok sdw) (d p : ℕ) where
      pages_by : sdw.unpaged ≡ false → (n : ℕ) → n ≤ sdw.bound / 64 + 1 → (values : List ℕ) → IsSameLookup (IsMarkedSoFar core dbr d p (256 * seg)) values → IsSameLookup (IsMarkedSoFar core dbr d p (256 * seg + n)) (pages_recorded (17 + slice_index firsts (2 ^ 15 * k + seg)) sdw n values)
      unfolding pages_recorded
      pages_by paged zero le values t = at_first d p values t
      pages_by paged (suc n) le values t =
          let begins : n ≤ sdw.bound / 64 = omega arith in
          let e : 256 * seg + n + 1 ≡ 256 * seg + suc n = omega arith in
          let before = pages_by paged n (omega arith) values t in
          subst (λ (m : ℕ). IsSameLookup (IsMarkedSoFar core dbr d p m) (with_number_at (pages_recorded (17 + slice_index firsts (2 ^ 15 * k + seg)) sdw n values) (page_at sdw n) (17 + slice_index firsts (2 ^ 15 * k + seg)))) e
          (more (IsMarkedSoFar core dbr d p (256 * seg + n)) (IsMarkedSoFar core dbr d p (256 * seg + n + 1)) (Pages seg) (page_at sdw n) (pages_recorded (17 + slice_index firsts (2 ^ 15 * k + seg)) sdw n values) (pages_past core dbr seg d p (256 * seg + n) (256 * seg + n + 1) (omega arith)) (page_new core dbr seg d p n sdw live paged begins) (page_here core dbr seg d p n sdw live paged begins) before)

      table_by : (u : Bool) → sdw.unpaged ≡ u → (values : List ℕ) → IsSameLookup (IsMarkedSoFar core dbr d p (256 * seg)) values → IsSameLookup (IsMarkedSoFar core dbr d p (256 * (seg + 1))) (page_table_recorded (17 + slice_index firsts (2 ^ 15 * k + seg)) sdw u values)
      table_by true e values t = no_pages d p (λ n a le h. whole_has_none core dbr seg d p sdw live e n a h) values t
      table_by false e values t =
          let bound = (live_fits core dbr seg sdw live).bound in
          let few_pages : sdw.bound / 64 + 1 ≤ 256 = omega arith in
          let past : sdw.bound / 64 < sdw.bound / 64 + 1 = omega arith in
          same _ _ (pages_recorded (17 + slice_index firsts (2 ^ 15 * k + seg)) sdw (sdw.bound / 64 + 1) values) (pages_past core dbr seg d p (256 * seg + (sdw.bound / 64 + 1)) (256 * (seg + 1)) (omega arith)) (no_pages_back core dbr seg d p (sdw.bound / 64 + 1) few_pages (none_past core dbr seg d p sdw live (sdw.bound / 64 + 1) past)) (pages_by e (sdw.bound / 64 + 1) (omega arith) values t)

    live_by : (d p : ℕ) (v : Result SdwFields Refusal) → core_sdw core dbr seg ≡ v → (values : List ℕ) → IsSameLookup (IsMarkedSoFar core dbr d p (256 * seg)) values → IsSameLookup (IsMarkedSoFar core dbr d p (256 * (seg + 1))) (table_recorded_if_live (17 + slice_index firsts (2 ^ 15 * k + seg)) v values)
    live_by d p (Err e) dead values t =
        no_pages d p (λ n a le h. let live = h.live in cc) values t
    live_by d p (Ok sdw) live values t = table_by sdw live d p sdw.unpaged refl values t

    segment_by : has_descriptor_in_bounds dbr seg ≡ true → (values : List ℕ) → IsSameLookup (IsMarkedSoFar core dbr seg seg (256 * seg)) values → IsSameLookup (IsMarkedSoFar core dbr (seg + 1) (seg + 1) (256 * (seg + 1))) (segment_recorded core dbr firsts k seg values)
    unfolding segment_recorded
    segment_by bounds values t =
        live_by (seg + 1) (seg + 1) (core_sdw core dbr seg) refl _
        (directory_by (seg + 1) (256 * seg) dbr.unpaged refl bounds _
        (descriptor_by seg (256 * seg) (sdw_place core dbr seg) refl values t))

  module _ (dbr : DbrFields) (count : ℕ) (counts : IsSegmentCount dbr count) where
    segments_by : (n : ℕ) → n ≤ count → (values : List ℕ) → IsSameLookup (IsMarkedSoFar core dbr 0 0 0) values → IsSameLookup (IsMarkedSoFar core dbr n n (256 * n)) (segments_recorded core dbr firsts k n values)
    unfolding segments_recorded
    segments_by zero le values t = t
    segments_by (suc n) le values t =
        let e : n + 1 ≡ suc n = omega arith in
        let bounds : has_descriptor_in_bounds dbr n ≡ true = counts.is n ∙ lt-ltb n count (omega arith) in
        subst (λ (m : ℕ). IsSameLookup (IsMarkedSoFar core dbr m m (256 * m)) (segment_recorded core dbr firsts k n (segments_recorded core dbr firsts k n values))) e
        (segment_by dbr n bounds (segments_recorded core dbr firsts k n values) (segments_by n (omega arith) values t))

    -- all table words of process k are recorded
    pub process_told : slice_get dbrs k ≡ Some dbr → (values after : List ℕ) → after ≡ segments_recorded core dbr firsts k count values → AreRecorded (IsOfProcessBelow (HasTableNumbered core dbrs firsts) k) size values → AreRecorded (IsOfProcessBelow (HasTableNumbered core dbrs firsts) (k + 1)) size after
    unfolding IsSameLookup
    process_told process values after is t =
        subst (AreRecorded (IsOfProcessBelow (HasTableNumbered core dbrs firsts) (k + 1)) size) (sym is)
        (all_same _ _ size (segments_recorded core dbr firsts k count values) there back
        (same (IsMarkedSoFar core dbr count count (256 * count)) (IsWordOfTable core dbr) (segments_recorded core dbr firsts k count values) (sofar_is core dbr count count counts.is (omega arith)) (is_sofar core dbr count count counts.is (omega arith))
        (segments_by count (omega arith) values (all_same _ _ size values (λ a x b. inl b) none t))))
      where
        none : (a x : ℕ) → Marked core dbrs firsts k (IsMarkedSoFar core dbr 0 0 0) a x → IsOfProcessBelow (HasTableNumbered core dbrs firsts) k a x
        none a x (inl b) = b
        none a x (inr m) = absurd (nothing_so_far core dbr m.0 a m.1)

        there : (a x : ℕ) → Marked core dbrs firsts k (IsWordOfTable core dbr) a x → IsOfProcessBelow (HasTableNumbered core dbrs firsts) (k + 1) a x
        there a x (inl b) = let lt = b.1 in (b.0, omega arith, b.2)
        there a x (inr m) =
            let lt : k < k + 1 = omega arith in
            (k, lt, record { dbr = dbr; process = process; table = m.0; of = m.1; is = m.2 })

        here : (j a x : ℕ) → j ≡ k → HasTableNumbered core dbrs firsts j a x → Marked core dbrs firsts k (IsWordOfTable core dbr) a x
        here j a x e h =
            let at : slice_get dbrs k ≡ Some h.dbr = ap (slice_get dbrs) (sym e) ∙ h.process in
            let one : h.dbr ≡ dbr = cc in
            inr (h.table, subst (λ (d : DbrFields). IsWordOfTable core d h.table a) one h.of, h.is ∙ ap (λ (n : ℕ). identity firsts n h.table) e)

        back : (a x : ℕ) → IsOfProcessBelow (HasTableNumbered core dbrs firsts) (k + 1) a x → Marked core dbrs firsts k (IsWordOfTable core dbr) a x
        back a x b = at (cases_lt b.0 k)
          where
            at : (b.0 < k) ⊎ (k ≤ b.0) → Marked core dbrs firsts k (IsWordOfTable core dbr) a x
            at (inl lt) = inl (b.0, lt, b.2)
            at (inr le) = let lt = b.1 in here b.0 a x (omega arith) b.2
