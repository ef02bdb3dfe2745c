-- What is kept is still right after writes to core.
use Rattle.std.proofs.Common.{ℕ, zero, suc, ◌≡◌, ◌≢◌, ◌+◌, ◌*◌, ◌/◌, ◌%◌, ◌^◌, Bool, true, false, List, [], ◌∷◌, length, slice_get, slice_set, slice_index, Option, Some, None, option_map, Result, Ok, Err, ◌==◌, Contains, refl, sym, ap, subst, ◌∙◌, arith, length-set, eqb-true}
use Rattle.std.proofs.lemmas.Bool.{eqb-false}
use Rattle.std.proofs.lemmas.List.{get_or-set_other}
use Rattle.m36_word.proofs.Lists.{set_same, get_set_past, index_of_get}
use Rattle.m36_desc.specs.Fields.{SdwFields, PtwFields, DbrFields}
use Rattle.m36_desc.specs.Descriptors.{ptw_of}
use Rattle.m36_model.specs.Place.{wrapped_address, address_in_frame, address_in_frame_by, ptw_at, directory_at, page_at, has_descriptor_in_bounds, sdw_place, sdw_place_by, sdw_at, core_sdw, word_place_by, with_used, with_modified, marked_word, with_mark}
use Rattle.m36_model.specs.declared.outcome.Refusal.{Refusal}
use Rattle.m36_associative.specs.Watched.{is_watched}
use Rattle.m36_associative.specs.Right.{IsMarked, IsWatched, IsKeptDescriptor, IsKeptTableWord, DescribesPage, IsFetching, AreCoherent}
use Rattle.m36_associative.specs.declared.front.Fetching.{Fetching}
use Rattle.m36_associative.specs.declared.front.Page.{Page}
use Rattle.m36_associative.specs.declared.memories.Memories.{Memories}
use Rattle.m36_associative.proofs.Watching.{differs}

-- another core has the same watched words; the PTWs among them are equal except for marks
pub record AreAlike (core now words tables : List ℕ) : Type 0 where
  pub size : length now ≡ length core
  pub word : (b : ℕ) → is_watched words b ≡ true → slice_get now b ≡ slice_get core b
  pub frame : (b : ℕ) → is_watched tables b ≡ true → (offset : ℕ) → address_in_frame (ptw_at now b) offset ≡ address_in_frame (ptw_at core b) offset

module _ (core now words tables : List ℕ) (dbr : DbrFields) (alike : AreAlike core now words tables) where
  place_by : (seg : ℕ) → IsWatched core dbr words tables seg → (b u : Bool) → dbr.unpaged ≡ u → sdw_place_by b u dbr seg (ptw_at now (directory_at dbr seg)) ≡ sdw_place_by b u dbr seg (ptw_at core (directory_at dbr seg))
  place_by seg h false u e = refl
  place_by seg h true true e = refl
  place_by seg h true false e = alike.frame (directory_at dbr seg) (h.directory e) ((2 * seg) % 1024)

  same_place : (seg : ℕ) → IsWatched core dbr words tables seg → sdw_place now dbr seg ≡ sdw_place core dbr seg
  same_place seg h = place_by seg h (has_descriptor_in_bounds dbr seg) dbr.unpaged refl

  sdw_by : (seg : ℕ) → IsWatched core dbr words tables seg → (v : Result ℕ Refusal) → sdw_place core dbr seg ≡ v → sdw_at now v ≡ sdw_at core v
  sdw_by seg h (Err e) found = refl
  sdw_by seg h (Ok a) found =
      let even = alike.word a (h.even a found) in
      let odd = alike.word (wrapped_address (a + 1)) (h.odd a found) in
      cc

  same_sdw : (seg : ℕ) → IsWatched core dbr words tables seg → core_sdw now dbr seg ≡ core_sdw core dbr seg
  unfolding core_sdw
  same_sdw seg h = ap (sdw_at now) (same_place seg h) ∙ sdw_by seg h (sdw_place core dbr seg) refl

  still_watched : (seg : ℕ) → IsWatched core dbr words tables seg → IsWatched now dbr words tables seg
  still_watched seg h = record { even = λ a e. h.even a (sym (same_place seg h) ∙ e); odd = λ a e. h.odd a (sym (same_place seg h) ∙ e); directory = h.directory }

  pub descriptor_alike : (seg : ℕ) (d : SdwFields) → IsKeptDescriptor core dbr words tables seg d → IsKeptDescriptor now dbr words tables seg d
  descriptor_alike seg d h = record { found = same_sdw seg h.watches ∙ h.found; watches = still_watched seg h.watches }

  pub table_word_alike : (a : ℕ) (p : PtwFields) → IsKeptTableWord core dbr words tables a p → IsKeptTableWord now dbr words tables a p
  table_word_alike a p h = record { inside = rw alike.size h.inside; finds = λ o. alike.frame a h.watches o ∙ h.finds o; watches = h.watches }

  word_place_alike : (d : SdwFields) (w a : ℕ) (u : Bool) → d.unpaged ≡ u → (d.unpaged ≡ false → is_watched tables a ≡ true) → word_place_by u d w (ptw_at now a) ≡ word_place_by u d w (ptw_at core a)
  word_place_alike d w a true e h = refl
  word_place_alike d w a false e h = alike.frame a (h e) (w % 1024)

  mark_alike : ((b : ℕ) → is_watched tables b ≡ true → slice_index now b ≡ slice_index core b) → (b : ℕ) (m : Bool) → is_watched tables b ≡ true → IsMarked core b m → IsMarked now b m
  mark_alike same b m w h = subst (λ (x : ℕ). marked_word m x ≡ x) (sym (same b w)) h

  module _ (same : (b : ℕ) → is_watched tables b ≡ true → slice_index now b ≡ slice_index core b) where
    pub page_alike : (p : Page) (seg page : ℕ) → DescribesPage core dbr words tables p seg page → DescribesPage now dbr words tables p seg page
    page_alike p seg page k =
        record {
          sdw = k.sdw;
          found = same_sdw seg k.watches ∙ k.found;
          watches = still_watched seg k.watches;
          table = k.table;
          low = k.low;
          place = λ w f. word_place_alike k.sdw w (page_at k.sdw page) k.sdw.unpaged refl k.table ∙ k.place w f;
          passed = λ u. mark_alike same _ false (k.watches.directory u) (k.passed u);
          used = λ u. mark_alike same _ false (k.table u) (k.used u);
          modified = λ v u. mark_alike same _ true (k.table u) (k.modified v u);
          page_rights = rw alike.size k.page_rights;
        }

    pub fetching_alike : (f : Fetching) → IsFetching core dbr words tables f → IsFetching now dbr words tables f
    fetching_alike f k =
        record { page = k.page; is = page_alike k.page f.seg (f.first / 1024) k.is; first = k.first; low = k.low; base = k.base; len = k.len; above = k.above; below = k.below; privileged = k.privileged }

-- one word is written
get_set_other : (xs : List ℕ) (i j v : ℕ) → j ≢ i → slice_get (slice_set xs i v) j ≡ slice_get xs j
get_set_other [] i j v h = refl
get_set_other (x ∷ xs) zero zero v h = absurd (h refl)
get_set_other (x ∷ xs) zero (suc j) v h = refl
get_set_other (x ∷ xs) (suc i) zero v h = refl
get_set_other (x ∷ xs) (suc i) (suc j) v h = get_set_other xs i j v (λ e. h (ap suc e))

-- a word that is not watched
pub alike_written : (core words tables : List ℕ) (a v : ℕ) → is_watched words a ≡ false → is_watched tables a ≡ false → AreAlike core (slice_set core a v) words tables
alike_written core words tables a v h k =
    record {
      size = length-set core a v;
      word = λ b e. get_set_other core a b v (differs words a b e h);
      frame = λ b e o. ap (λ x. address_in_frame (option_map ptw_of x) o) (get_set_other core a b v (differs tables a b e k));
    }

pub right_written : (core : List ℕ) (dbr : DbrFields) (m : Memories) (a v : ℕ) → is_watched m.words a ≡ false → is_watched m.tables a ≡ false → AreCoherent core dbr m → AreCoherent (slice_set core a v) dbr m
right_written core dbr m a v h k r =
    let alike = alike_written core m.words m.tables a v h k in
    let same = λ (b : ℕ) (e : is_watched m.tables b ≡ true). get_or-set_other core a b v 0 (differs m.tables a b e k) in
    record {
      descriptors = λ e seg c n. descriptor_alike core (slice_set core a v) m.words m.tables dbr alike seg e.sdw (r.descriptors e seg c n);
      table_words = λ e b c n. table_word_alike core (slice_set core a v) m.words m.tables dbr alike b e.ptw (r.table_words e b c n);
      pages = λ p c seg page b e. page_alike core (slice_set core a v) m.words m.tables dbr alike same p seg page (r.pages p c seg page b e);
      fetching = λ n. fetching_alike core (slice_set core a v) m.words m.tables dbr alike same m.fetching (r.fetching n);
    }

-- marks do not change how a page is found
used_high : (w : ℕ) → with_used w / 2 ^ 18 ≡ w / 2 ^ 18
unfolding with_used
used_high w = omega arith

used_low : (w : ℕ) → with_used w % 64 ≡ w % 64
unfolding with_used
used_low w = omega arith

modified_high : (w : ℕ) → with_modified w / 2 ^ 18 ≡ w / 2 ^ 18
unfolding with_modified
modified_high w = omega arith

modified_low : (w : ℕ) → with_modified w % 64 ≡ w % 64
unfolding with_modified
modified_low w = omega arith

marked_high : (m : Bool) (w : ℕ) → marked_word m w / 2 ^ 18 ≡ w / 2 ^ 18
marked_high true w = modified_high (with_used w) ∙ used_high w
marked_high false w = used_high w

marked_low : (m : Bool) (w : ℕ) → marked_word m w % 64 ≡ w % 64
marked_low true w = modified_low (with_used w) ∙ used_low w
marked_low false w = used_low w

same_addr : (u v : ℕ) → u / 2 ^ 18 ≡ v / 2 ^ 18 → (ptw_of u).addr ≡ (ptw_of v).addr
same_addr u v h = omega arith

same_fc : (u v : ℕ) → u % 64 ≡ v % 64 → (ptw_of u).fc ≡ (ptw_of v).fc
same_fc u v h = omega arith

same_f : (u v : ℕ) → u % 64 ≡ v % 64 → (ptw_of u).f ≡ (ptw_of v).f
same_f u v h =
    let e : u / 4 % 2 ≡ v / 4 % 2 = omega arith in
    ap (λ (n : ℕ). n == 1) e

frame_by : (b : Bool) (p q : PtwFields) (offset : ℕ) → p.addr ≡ q.addr → p.fc ≡ q.fc → address_in_frame_by b p offset ≡ address_in_frame_by b q offset
frame_by true p q offset a c = ap (λ (n : ℕ). Ok (wrapped_address ((n / 16) * 1024 + offset))) a
frame_by false p q offset a c = cc

frame_marked : (m : Bool) (w offset : ℕ) → address_in_frame (Some (ptw_of (marked_word m w))) offset ≡ address_in_frame (Some (ptw_of w)) offset
frame_marked m w offset =
    let u = marked_word m w in
    frame_by (ptw_of u).f (ptw_of u) (ptw_of w) offset (same_addr u w (marked_high m w)) (same_fc u w (marked_low m w)) ∙ ap (λ (b : Bool). address_in_frame_by b (ptw_of w) offset) (same_f u w (marked_low m w))

module _ (core : List ℕ) (a : ℕ) (m : Bool) (offset : ℕ) where
  abbrev marked : List ℕ
  marked = with_mark core (record { address = a; modified = m })

  frame_here : (found : Option ℕ) → slice_get core a ≡ found → address_in_frame (ptw_at marked a) offset ≡ address_in_frame (ptw_at core a) offset
  frame_here None e = ap (λ (l : List ℕ). address_in_frame (ptw_at l a) offset) (get_set_past core a (marked_word m (slice_index core a)) e)
  frame_here (Some x) e =
      let at : slice_index core a ≡ x = index_of_get core a x e in
      let new : slice_get marked a ≡ Some (marked_word m x) = set_same core a (marked_word m (slice_index core a)) x e ∙ ap (λ (n : ℕ). Some (marked_word m n)) at in
      ap (λ (o : Option ℕ). address_in_frame (option_map ptw_of o) offset) new ∙ frame_marked m x offset ∙ ap (λ (o : Option ℕ). address_in_frame (option_map ptw_of o) offset) (sym e)

  frame_at_by : (b : ℕ) (t : Bool) → (b == a) ≡ t → address_in_frame (ptw_at marked b) offset ≡ address_in_frame (ptw_at core b) offset
  frame_at_by b true e =
      subst (λ (c : ℕ). address_in_frame (ptw_at marked c) offset ≡ address_in_frame (ptw_at core c) offset) (sym (eqb-true b a e)) (frame_here (slice_get core a) refl)
  frame_at_by b false e =
      ap (λ (o : Option ℕ). address_in_frame (option_map ptw_of o) offset) (get_set_other core a b (marked_word m (slice_index core a)) (eqb-false b a e))

-- a mark on a page table word from which no descriptor was read
pub right_marked : (core : List ℕ) (dbr : DbrFields) (m : Memories) (a : ℕ) (modified : Bool) → is_watched m.words a ≡ false → ((p : Page) → Contains m.pages p → p.key ≡ 0) → m.fetching.len ≡ 0 → AreCoherent core dbr m → AreCoherent (with_mark core (record { address = a; modified = modified })) dbr m
right_marked core dbr m a modified h none z r =
    let now = with_mark core (record { address = a; modified = modified }) in
    let alike : AreAlike core now m.words m.tables = record {
      size = length-set core a (marked_word modified (slice_index core a));
      word = λ b e. get_set_other core a b (marked_word modified (slice_index core a)) (differs m.words a b e h);
      frame = λ b e o. frame_at_by core a modified o b (b == a) refl;
    } in
    record {
      descriptors = λ e seg c n. descriptor_alike core now m.words m.tables dbr alike seg e.sdw (r.descriptors e seg c n);
      table_words = λ e b c n. table_word_alike core now m.words m.tables dbr alike b e.ptw (r.table_words e b c n);
      pages = λ p c seg page b e. absurd (let zero_key = none p c in omega arith);
      fetching = λ n. absurd (omega arith);
    }
