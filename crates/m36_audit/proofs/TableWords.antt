-- Marking the table words of one more segment.
use Rattle.std.proofs.Common.{◌≡◌, ℕ, ◌+◌, ◌*◌, ◌/◌, ◌<◌, ◌≤◌, refl, sym, ◌∙◌, ap, subst, inl, inr, arith}
use Rattle.std.specs.Prelude.{◌⊎◌, true, false, nat_lt, List, length, replicate, slice_index, Option, Ok}
use Rattle.std.proofs.lemmas.Bool.{cases_lt, ltb-true}
use Rattle.std.proofs.lemmas.List.{length-replicate, get_or-replicate, get_or_past}
use Rattle.m36_desc.specs.Fields.{SdwFields, DbrFields}
use Rattle.m36_desc.specs.Widths.{IsSdw}
use Rattle.m36_model.specs.Place.{wrapped_address, has_descriptor_in_bounds, directory_at, page_at, sdw_place, core_sdw}
use Rattle.m36_model.specs.Audit.{IsSdwWord, IsPageWord, IsWordOfTable, Table, Sdws, Directory, Pages, IsInTwo}
use Rattle.m36_audit.specs.TableMarks.{tables_marked, least_marked, AreMarked, IsMarkedSoFar}
use Rattle.m36_audit.proofs.Bounds.{live_fits, live_in_bounds, sdw_place_in_bounds}
use Rattle.m36_audit.proofs.Marking.{marked_more, finds_same}

-- marks that mean the same words
pub marked_same : (V W : Table → ℕ → Type 0) (size : ℕ) (tables : List ℕ) (least : Option ℕ) → ((t : Table) (a : ℕ) → V t a → W t a) → ((t : Table) (a : ℕ) → W t a → V t a) → AreMarked V size tables least → AreMarked W size tables least
marked_same V W size tables least there back m =
    record {
      len = m.len;
      none = λ a inside e t w. m.none a inside e t (back t a w);
      some = λ a some. let k = m.some a some in record { table = k.table; of = there k.table a k.of; numbered = k.numbered };
      least_two = finds_same (IsInTwo V size) (IsInTwo W size) least
          (λ a k. record { inside = k.inside; table = k.table; other = k.other; of = there k.table a k.of; of_other = there k.other a k.of_other; differ = k.differ })
          (λ a k. record { inside = k.inside; table = k.table; other = k.other; of = back k.table a k.of; of_other = back k.other a k.of_other; differ = k.differ })
          m.least_two;
    }

-- the marks after a call are those with one more mark
pub marked_by : (V : Table → ℕ → Type 0) (size : ℕ) (tables : List ℕ) (least : Option ℕ) (table b a : ℕ) → b ≡ a → (after : List ℕ) (then : Option ℕ) → after ≡ tables_marked tables table b → then ≡ least_marked tables least table b → AreMarked V size (tables_marked tables table a) (least_marked tables least table a) → AreMarked V size after then
marked_by V size tables least table b a same after then e f m =
    let there : after ≡ tables_marked tables table a = e ∙ ap (tables_marked tables table) same in
    let least_there : then ≡ least_marked tables least table a = f ∙ ap (least_marked tables least table) same in
    subst (λ (l : List ℕ). AreMarked V size l then) (sym there) (subst (λ (o : Option ℕ). AreMarked V size (tables_marked tables table a) o) (sym least_there) m)

module _ (core : List ℕ) (dbr : DbrFields) (seg : ℕ) where
  -- the words of one descriptor
  module _ (directories pages : ℕ) where
    pub sdw_before : (t : Table) (a : ℕ) → IsMarkedSoFar core dbr seg directories pages t a → IsMarkedSoFar core dbr (seg + 1) directories pages t a
    sdw_before Sdws a k = (k.0, omega arith, k.2)
    sdw_before Directory a k = k
    sdw_before (Pages s) a k = k

    pub no_sdw_back : ((even : ℕ) → sdw_place core dbr seg ≡ Ok even → ⊥) → (t : Table) (a : ℕ) → IsMarkedSoFar core dbr (seg + 1) directories pages t a → IsMarkedSoFar core dbr seg directories pages t a
    no_sdw_back none = back
      where
        here : (s a : ℕ) → s ≡ seg → IsSdwWord core dbr s a → ⊥
        here s a e k = none k.even (ap (λ (n : ℕ). sdw_place core dbr n) (sym e) ∙ k.found)

        back : (t : Table) (a : ℕ) → IsMarkedSoFar core dbr (seg + 1) directories pages t a → IsMarkedSoFar core dbr seg directories pages t a
        back Sdws a k = at (cases_lt k.0 seg)
          where
            at : (k.0 < seg) ⊎ (seg ≤ k.0) → IsMarkedSoFar core dbr seg directories pages Sdws a
            at (inl lt) = (k.0, lt, k.2)
            at (inr le) = absurd (here k.0 a (omega arith) k.2)
        back Directory a k = k
        back (Pages s) a k = k

    pub no_sdw : ((even : ℕ) → sdw_place core dbr seg ≡ Ok even → ⊥) → (size : ℕ) (tables : List ℕ) (least : Option ℕ) → AreMarked (IsMarkedSoFar core dbr seg directories pages) size tables least → AreMarked (IsMarkedSoFar core dbr (seg + 1) directories pages) size tables least
    no_sdw none size tables least m =
        marked_same (IsMarkedSoFar core dbr seg directories pages) (IsMarkedSoFar core dbr (seg + 1) directories pages) size tables least sdw_before (no_sdw_back none) m

    module _ (even : ℕ) (found : sdw_place core dbr seg ≡ Ok even) where
      unfoldable pub With_even : Table → ℕ → Type 0
      With_even t a = IsMarkedSoFar core dbr seg directories pages t a ⊎ ((t ≡ Sdws) × (a ≡ even))

      pub half_old : (t : Table) (a : ℕ) → With_even t a → IsMarkedSoFar core dbr (seg + 1) directories pages t a
      unfolding With_even
      half_old t a (inl k) = sdw_before t a k
      half_old t a (inr k) =
          let lt : seg < seg + 1 = omega arith in
          let here : IsMarkedSoFar core dbr (seg + 1) directories pages Sdws a = (seg, lt, record { even = even; found = found; half = inl k.1 }) in
          subst (λ (u : Table). IsMarkedSoFar core dbr (seg + 1) directories pages u a) (sym k.0) here

      same_even : (s a : ℕ) → s ≡ seg → (k : IsSdwWord core dbr s a) → k.even ≡ even
      same_even s a e k =
          let there : sdw_place core dbr seg ≡ Ok k.even = ap (λ (n : ℕ). sdw_place core dbr n) (sym e) ∙ k.found in
          cc

      new_half : (a e : ℕ) → e ≡ even → (a ≡ e) ⊎ (a ≡ wrapped_address (e + 1)) → With_even Sdws a ⊎ ((Sdws ≡ Sdws) × (a ≡ wrapped_address (even + 1)))
      unfolding With_even
      new_half a e same (inl h) = inl (inr (refl, h ∙ same))
      new_half a e same (inr h) = inr (refl, h ∙ ap (λ (n : ℕ). wrapped_address (n + 1)) same)

      pub half_new : (t : Table) (a : ℕ) → IsMarkedSoFar core dbr (seg + 1) directories pages t a → With_even t a ⊎ ((t ≡ Sdws) × (a ≡ wrapped_address (even + 1)))
      unfolding With_even
      half_new Sdws a k = at (cases_lt k.0 seg)
        where
          at : (k.0 < seg) ⊎ (seg ≤ k.0) → With_even Sdws a ⊎ ((Sdws ≡ Sdws) × (a ≡ wrapped_address (even + 1)))
          at (inl lt) = inl (inl (k.0, lt, k.2))
          at (inr le) = new_half a k.2.even (same_even k.0 a (omega arith) k.2) k.2.half
      half_new Directory a k = inl (inl k)
      half_new (Pages s) a k = inl (inl k)

      pub odd_here : IsMarkedSoFar core dbr (seg + 1) directories pages Sdws (wrapped_address (even + 1))
      odd_here =
          let lt : seg < seg + 1 = omega arith in
          (seg, lt, record { even = even; found = found; half = inr refl })

      -- the two words of a descriptor are marked
      pub sdw_more : (size : ℕ) (tables : List ℕ) (least : Option ℕ) (after : List ℕ) (then : Option ℕ) → after ≡ tables_marked tables 1 even → then ≡ least_marked tables least 1 even → AreMarked (IsMarkedSoFar core dbr seg directories pages) size tables least → AreMarked (IsMarkedSoFar core dbr (seg + 1) directories pages) size (tables_marked after 1 (wrapped_address (even + 1))) (least_marked after then 1 (wrapped_address (even + 1)))
      unfolding With_even
      sdw_more size tables least after then e f m =
          let first : AreMarked With_even size (tables_marked tables 1 even) (least_marked tables least 1 even) = marked_more (IsMarkedSoFar core dbr seg directories pages) With_even Sdws even (λ t a k. inl k) (λ t a w. w) (inr (refl, refl)) size tables least m in
          let there : AreMarked With_even size after then = subst (λ (l : List ℕ). AreMarked With_even size l then) (sym e) (subst (λ (o : Option ℕ). AreMarked With_even size (tables_marked tables 1 even) o) (sym f) first) in
          marked_more With_even (IsMarkedSoFar core dbr (seg + 1) directories pages) Sdws (wrapped_address (even + 1)) half_old half_new odd_here size after then there

  -- the word of the descriptor segment's page table for one segment
  module _ (sdws pages : ℕ) where
    pub directory_before : (t : Table) (a : ℕ) → IsMarkedSoFar core dbr sdws seg pages t a → IsMarkedSoFar core dbr sdws (seg + 1) pages t a
    directory_before Sdws a k = k
    directory_before Directory a k = (k.0, omega arith, k.2)
    directory_before (Pages s) a k = k

    pub no_directory_back : dbr.unpaged ≡ true → (t : Table) (a : ℕ) → IsMarkedSoFar core dbr sdws (seg + 1) pages t a → IsMarkedSoFar core dbr sdws seg pages t a
    no_directory_back whole Sdws a k = k
    no_directory_back whole Directory a k = let p = k.2.paged in cc
    no_directory_back whole (Pages s) a k = k

    pub no_directory : dbr.unpaged ≡ true → (size : ℕ) (tables : List ℕ) (least : Option ℕ) → AreMarked (IsMarkedSoFar core dbr sdws seg pages) size tables least → AreMarked (IsMarkedSoFar core dbr sdws (seg + 1) pages) size tables least
    no_directory whole size tables least m =
        marked_same (IsMarkedSoFar core dbr sdws seg pages) (IsMarkedSoFar core dbr sdws (seg + 1) pages) size tables least directory_before (no_directory_back whole) m

    module _ (bounds : has_descriptor_in_bounds dbr seg ≡ true) (paged : dbr.unpaged ≡ false) where
      pub directory_new : (t : Table) (a : ℕ) → IsMarkedSoFar core dbr sdws (seg + 1) pages t a → IsMarkedSoFar core dbr sdws seg pages t a ⊎ ((t ≡ Directory) × (a ≡ directory_at dbr seg))
      directory_new Sdws a k = inl k
      directory_new Directory a k = at (cases_lt k.0 seg)
        where
          at : (k.0 < seg) ⊎ (seg ≤ k.0) → IsMarkedSoFar core dbr sdws seg pages Directory a ⊎ ((Directory ≡ Directory) × (a ≡ directory_at dbr seg))
          at (inl lt) = inl (k.0, lt, k.2)
          at (inr le) =
              let same : k.0 ≡ seg = omega arith in
              inr (refl, k.2.found ∙ ap (λ (n : ℕ). directory_at dbr n) same)
      directory_new (Pages s) a k = inl k

      pub directory_here : IsMarkedSoFar core dbr sdws (seg + 1) pages Directory (directory_at dbr seg)
      directory_here =
          let lt : seg < seg + 1 = omega arith in
          (seg, lt, record { bounds = bounds; paged = paged; found = refl })

      pub directory_more : (size : ℕ) (tables : List ℕ) (least : Option ℕ) → AreMarked (IsMarkedSoFar core dbr sdws seg pages) size tables least → AreMarked (IsMarkedSoFar core dbr sdws (seg + 1) pages) size (tables_marked tables 2 (directory_at dbr seg)) (least_marked tables least 2 (directory_at dbr seg))
      directory_more size tables least m =
          marked_more (IsMarkedSoFar core dbr sdws seg pages) (IsMarkedSoFar core dbr sdws (seg + 1) pages) Directory (directory_at dbr seg) directory_before directory_new directory_here size tables least m

  -- the words of the page table of one segment
  module _ (sdws directories : ℕ) where
    -- a segment has at most 256 pages
    few_pages : (s page a : ℕ) → IsPageWord core dbr s page a → page < 256
    few_pages s page a k =
        let fits : IsSdw k.sdw = live_fits core dbr s k.sdw k.live in
        let begins = k.begins in
        omega arith

    pub pages_past : (p q : ℕ) → p ≤ q → (t : Table) (a : ℕ) → IsMarkedSoFar core dbr sdws directories p t a → IsMarkedSoFar core dbr sdws directories q t a
    pages_past p q le Sdws a k = k
    pages_past p q le Directory a k = k
    pages_past p q le (Pages s) a k = (k.0, omega arith, k.2)

    pub no_pages_back : (page : ℕ) → page ≤ 256 → ((n a : ℕ) → page ≤ n → IsPageWord core dbr seg n a → ⊥) → (t : Table) (a : ℕ) → IsMarkedSoFar core dbr sdws directories (256 * (seg + 1)) t a → IsMarkedSoFar core dbr sdws directories (256 * seg + page) t a
    no_pages_back page few none = back
      where
        here : (s n a : ℕ) → s ≡ seg → page ≤ n → IsPageWord core dbr s n a → ⊥
        here s n a e le k = none n a le (subst (λ (x : ℕ). IsPageWord core dbr x n a) e k)

        back : (t : Table) (a : ℕ) → IsMarkedSoFar core dbr sdws directories (256 * (seg + 1)) t a → IsMarkedSoFar core dbr sdws directories (256 * seg + page) t a
        back Sdws a k = k
        back Directory a k = k
        back (Pages s) a k = at (cases_lt (256 * s + k.0) (256 * seg + page))
          where
            at : (256 * s + k.0 < 256 * seg + page) ⊎ (256 * seg + page ≤ 256 * s + k.0) → IsMarkedSoFar core dbr sdws directories (256 * seg + page) (Pages s) a
            at (inl lt) = (k.0, lt, k.2)
            at (inr le) =
                let small = few_pages s k.0 a k.2 in
                let below = k.1 in
                let same : s ≡ seg = omega arith in
                let far : page ≤ k.0 = omega arith in
                absurd (here s k.0 a same far k.2)

    -- a segment has no pages from this one on
    pub no_pages : (page : ℕ) → page ≤ 256 → ((n a : ℕ) → page ≤ n → IsPageWord core dbr seg n a → ⊥) → (size : ℕ) (tables : List ℕ) (least : Option ℕ) → AreMarked (IsMarkedSoFar core dbr sdws directories (256 * seg + page)) size tables least → AreMarked (IsMarkedSoFar core dbr sdws directories (256 * (seg + 1))) size tables least
    no_pages page few none size tables least m =
        marked_same (IsMarkedSoFar core dbr sdws directories (256 * seg + page)) (IsMarkedSoFar core dbr sdws directories (256 * (seg + 1))) size tables least (pages_past (256 * seg + page) (256 * (seg + 1)) (omega arith)) (no_pages_back page few none) m

    -- a segment has no pages
    no_page_table : ((n a : ℕ) → IsPageWord core dbr seg n a → ⊥) → (size : ℕ) (tables : List ℕ) (least : Option ℕ) → AreMarked (IsMarkedSoFar core dbr sdws directories (256 * seg)) size tables least → AreMarked (IsMarkedSoFar core dbr sdws directories (256 * (seg + 1))) size tables least
    no_page_table none size tables least m =
        let e : 256 * seg ≡ 256 * seg + 0 = omega arith in
        no_pages 0 (omega arith) (λ n a le k. none n a k) size tables least (subst (λ (p : ℕ). AreMarked (IsMarkedSoFar core dbr sdws directories p) size tables least) e m)

    pub not_live : ((d : SdwFields) → core_sdw core dbr seg ≡ Ok d → ⊥) → (size : ℕ) (tables : List ℕ) (least : Option ℕ) → AreMarked (IsMarkedSoFar core dbr sdws directories (256 * seg)) size tables least → AreMarked (IsMarkedSoFar core dbr sdws directories (256 * (seg + 1))) size tables least
    not_live dead size tables least m = no_page_table (λ n a k. dead k.sdw k.live) size tables least m

    pub whole_has_none : (d : SdwFields) → core_sdw core dbr seg ≡ Ok d → d.unpaged ≡ true → (n a : ℕ) → IsPageWord core dbr seg n a → ⊥
    whole_has_none d live whole n a k =
        let there = k.live in
        let paged = k.paged in
        let same : k.sdw ≡ d = cc in
        let says : k.sdw.unpaged ≡ true = ap (λ (x : SdwFields). x.unpaged) same ∙ whole in
        cc

    pub not_paged : (d : SdwFields) → core_sdw core dbr seg ≡ Ok d → d.unpaged ≡ true → (size : ℕ) (tables : List ℕ) (least : Option ℕ) → AreMarked (IsMarkedSoFar core dbr sdws directories (256 * seg)) size tables least → AreMarked (IsMarkedSoFar core dbr sdws directories (256 * (seg + 1))) size tables least
    not_paged d live whole size tables least m = no_page_table (whole_has_none d live whole) size tables least m

    pub none_past : (d : SdwFields) → core_sdw core dbr seg ≡ Ok d → (page : ℕ) → d.bound / 64 < page → (n a : ℕ) → page ≤ n → IsPageWord core dbr seg n a → ⊥
    none_past d live page past n a le k =
        let there = k.live in
        let begins = k.begins in
        let same : k.sdw ≡ d = cc in
        let bounds : k.sdw.bound ≡ d.bound = ap (λ (x : SdwFields). x.bound) same in
        omega arith

    -- a segment has no pages after those that begin within the bound
    pub pages_done : (d : SdwFields) → core_sdw core dbr seg ≡ Ok d → (page : ℕ) → page ≤ 256 → d.bound / 64 < page → (size : ℕ) (tables : List ℕ) (least : Option ℕ) → AreMarked (IsMarkedSoFar core dbr sdws directories (256 * seg + page)) size tables least → AreMarked (IsMarkedSoFar core dbr sdws directories (256 * (seg + 1))) size tables least
    pages_done d live page few past size tables least m = no_pages page few (none_past d live page past) size tables least m

    module _ (page : ℕ) (d : SdwFields) (live : core_sdw core dbr seg ≡ Ok d) (paged : d.unpaged ≡ false) (begins : page ≤ d.bound / 64) where
      page_small : page < 256
      page_small = few_pages seg page (page_at d page) (record { sdw = d; live = live; paged = paged; begins = begins; found = refl })

      found_there : (s n a : ℕ) → s ≡ seg → n ≡ page → IsPageWord core dbr s n a → a ≡ page_at d page
      found_there s n a e f k =
          let there : core_sdw core dbr seg ≡ Ok k.sdw = ap (λ (x : ℕ). core_sdw core dbr x) (sym e) ∙ k.live in
          let same : k.sdw ≡ d = cc in
          k.found ∙ ap (λ (x : SdwFields). page_at x n) same ∙ ap (page_at d) f

      pub page_new : (t : Table) (a : ℕ) → IsMarkedSoFar core dbr sdws directories (256 * seg + page + 1) t a → IsMarkedSoFar core dbr sdws directories (256 * seg + page) t a ⊎ ((t ≡ Pages seg) × (a ≡ page_at d page))
      page_new Sdws a k = inl k
      page_new Directory a k = inl k
      page_new (Pages s) a k = at (cases_lt (256 * s + k.0) (256 * seg + page))
        where
          at : (256 * s + k.0 < 256 * seg + page) ⊎ (256 * seg + page ≤ 256 * s + k.0) → IsMarkedSoFar core dbr sdws directories (256 * seg + page) (Pages s) a ⊎ ((Pages s ≡ Pages seg) × (a ≡ page_at d page))
          at (inl lt) = inl (k.0, lt, k.2)
          at (inr le) =
              let small = few_pages s k.0 a k.2 in
              let small_too = page_small in
              let below = k.1 in
              let same : s ≡ seg = omega arith in
              let same_page : k.0 ≡ page = omega arith in
              inr (ap (λ (n : ℕ). Pages n) same, found_there s k.0 a same same_page k.2)

      pub page_here : IsMarkedSoFar core dbr sdws directories (256 * seg + page + 1) (Pages seg) (page_at d page)
      page_here =
          let lt : 256 * seg + page < 256 * seg + page + 1 = omega arith in
          (page, lt, record { sdw = d; live = live; paged = paged; begins = begins; found = refl })

      pub page_more : (size : ℕ) (tables : List ℕ) (least : Option ℕ) → AreMarked (IsMarkedSoFar core dbr sdws directories (256 * seg + page)) size tables least → AreMarked (IsMarkedSoFar core dbr sdws directories (256 * seg + page + 1)) size (tables_marked tables (seg + 3) (page_at d page)) (least_marked tables least (seg + 3) (page_at d page))
      page_more size tables least m =
          marked_more (IsMarkedSoFar core dbr sdws directories (256 * seg + page)) (IsMarkedSoFar core dbr sdws directories (256 * seg + page + 1)) (Pages seg) (page_at d page) (pages_past (256 * seg + page) (256 * seg + page + 1) (omega arith)) page_new page_here size tables least m

-- once every segment in bounds was visited, every table word is marked
module _ (core : List ℕ) (dbr : DbrFields) (n m : ℕ) (bounds : (q : ℕ) → has_descriptor_in_bounds dbr q ≡ nat_lt q n) (enough : n ≤ m) where
  below : (q : ℕ) → has_descriptor_in_bounds dbr q ≡ true → q < m
  below q h =
      let lt : q < n = ltb-true q n (sym (bounds q) ∙ h) in
      omega arith

  pub sofar_is : (t : Table) (a : ℕ) → IsMarkedSoFar core dbr m m (256 * m) t a → IsWordOfTable core dbr t a
  sofar_is Sdws a k = (k.0, k.2)
  sofar_is Directory a k = (k.0, k.2)
  sofar_is (Pages s) a k = (k.0, k.2)

  pub is_sofar : (t : Table) (a : ℕ) → IsWordOfTable core dbr t a → IsMarkedSoFar core dbr m m (256 * m) t a
  is_sofar Sdws a k = (k.0, below k.0 (sdw_place_in_bounds core dbr k.0 k.1.even k.1.found), k.1)
  is_sofar Directory a k = (k.0, below k.0 k.1.bounds, k.1)
  is_sofar (Pages s) a k =
      let small = few_pages core dbr s m m s k.0 a k.1 in
      let lt = below s (live_in_bounds core dbr s k.1.sdw k.1.live) in
      (k.0, omega arith, k.1)

  pub all_marked : (size : ℕ) (tables : List ℕ) (least : Option ℕ) → AreMarked (IsMarkedSoFar core dbr m m (256 * m)) size tables least → AreMarked (IsWordOfTable core dbr) size tables least
  all_marked size tables least k = marked_same (IsMarkedSoFar core dbr m m (256 * m)) (IsWordOfTable core dbr) size tables least sofar_is is_sofar k

pub nothing_so_far : (core : List ℕ) (dbr : DbrFields) (t : Table) (a : ℕ) → IsMarkedSoFar core dbr 0 0 0 t a → ⊥
nothing_so_far core dbr Sdws a k = let lt = k.1 in omega arith
nothing_so_far core dbr Directory a k = let lt = k.1 in omega arith
nothing_so_far core dbr (Pages s) a k = let lt = k.1 in omega arith

pub zeros : (size a : ℕ) → (a < size) ⊎ (size ≤ a) → slice_index (replicate size 0) a ≡ 0
zeros size a (inl lt) = get_or-replicate size a 0 0 lt
zeros size a (inr le) =
    let past : length (replicate size 0) ≤ a = rw (length-replicate {A = ℕ} size 0) le in
    get_or_past (replicate size 0) a 0 past
