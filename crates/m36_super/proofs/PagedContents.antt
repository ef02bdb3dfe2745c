-- A word of the flat memory, from what the pager finds; and how setting a word changes it.
use Rattle.std.proofs.Common.{◌≡◌, refl, sym, ◌∙◌, ap, subst, inl, inr, arith}
use Rattle.std.proofs.lemmas.Bool.{eqb-true, le-leb}
use Rattle.std.specs.Prelude.{ℕ, ◌+◌, ◌*◌, ◌/◌, ◌^◌, ◌<◌, ◌≤◌, ◌%◌, ◌⊎◌, Bool, true, false, ◌&&◌, ◌==◌, if◌then◌else◌, List, [], ◌∷◌, length, take, slice_index, slice_set, Option, Some, None, Result, Ok, Err}
use Rattle.m36_desc.specs.Fields.{SdwFields}
use Rattle.m36_desc.specs.Access.{has_ordered_brackets}
use Rattle.m36_model.specs.Store.{Core_word, is_within_bound, place, place_by, place_within, when_ordered}
use Rattle.m36_model.specs.Place.{core_sdw, core_spot}
use Rattle.m36_model.specs.Act.{Whole}
use Rattle.m36_model.specs.Core.{core_store}
use Rattle.m36_model.specs.Flat.{content_with, flat_put}
use Rattle.m36_model.specs.BootedCore.{descriptor_words, booted_dbr, IsPage}
use Rattle.m36_model.specs.Residence.{absence, ptw_of_page, Paged, word_at, paged_content, flat_of, IsResidence, resident_word}
use Rattle.m36_model.specs.declared.outcome.Refusal.{Refusal}
use Rattle.m36_isol.proofs.Laid.{page_of_word, absent_spot, resident_spot}
use Rattle.m36_isol.proofs.Moved.{same_descriptors}
use Rattle.m36_page.specs.Fields.{PagerFields}
use Rattle.std.specs.Bool.{then_some}
use Rattle.m36_page.specs.Residence.{has_page, frame_in, frame_of, kept_word, paged_by, word_in, content_of, HasFrames, IsPager, AgreesWithCore}
use Rattle.m36_page.specs.Residence as pages
use Rattle.m36_page.specs.Changes.{IsSet}
use Rattle.m36_page.proofs.Parts.{content_kept}
use Rattle.m36_link.specs.Known.{linkage_segment}
use Rattle.m36_super.specs.Laying.{written_from}
use Rattle.m36_super.specs.PagedPut.{put_at, paged_put}
use Rattle.m36_super.specs.SuperFields.{IsLinkageSegment, IsManaged, frame_in_pager}
use Rattle.m36_super.specs.Writing.{memory_by, flat_by, ArePut}
use Rattle.m36_super.proofs.Paging.{frame_true, residence, now_managed, descriptors}

-- a word that a pager finds
abbrev pub found_word : Option ℕ → ℕ
found_word None = 0
found_word (Some v) = v

-- the word of the flat memory, if it is within the bound of a live segment
abbrev pub shown_by : Bool → Bool → Option ℕ → ℕ
shown_by true true found = found_word found
shown_by true false found = 0
shown_by false b found = 0

abbrev pub shown : Result SdwFields Refusal → Option ℕ → ℕ → ℕ
shown (Err why) found w = 0
shown (Ok d) found w = shown_by (has_ordered_brackets d) (is_within_bound d w) found

found_at : (b : Bool) (v : ℕ) → b ≡ true → found_word (then_some b v) ≡ v
found_at true v e = refl
found_at false v e = cc

-- the core has the pageable frames
pub has_frames : (core : List ℕ) (p : PagerFields) → IsManaged (length p.holders) core p → HasFrames p core
has_frames core p m =
    let first : p.first ≡ 146 = m.pages.first in
    let size : length core ≡ 1024 * (146 + length p.holders) = m.pages.laid.size in
    omega arith

module _ (frames : ℕ) (core : List ℕ) (p : PagerFields) (m : IsManaged frames core p) where
  abbrev memory : Paged
  memory = record { core = core; kept = kept_word p }

  pub here : IsResidence core frames (frame_in_pager p core)
  here = residence frames core p m.pages.laid.most m.pages.first m.pages.count m.pages.pager m.reads m.pages.serves m.pages.at

  -- a word within the bound of a live segment is in a page
  pub page_there : (seg w : ℕ) (d : SdwFields) → core_sdw core booted_dbr seg ≡ Ok d → is_within_bound d w ≡ true → has_page p seg (w / 1024) ≡ true
  page_there seg w d live inside =
      m.pages.serves seg (w / 1024) (page_of_word core frames m.pages.laid seg w d live inside)

  spot_word : (seg w : ℕ) (d : SdwFields) → core_sdw core booted_dbr seg ≡ Ok d → is_within_bound d w ≡ true → (v : Option ℕ) → frame_in_pager p core seg (w / 1024) ≡ v → word_at memory seg w (core_spot core booted_dbr d seg w) ≡ resident_word memory v seg w
  spot_word seg w d live inside None e =
      let is = page_of_word core frames m.pages.laid seg w d live inside in
      ap (word_at memory seg w) (absent_spot core frames m.pages.laid seg w d live inside (here.words seg (w / 1024) is ∙ ap ptw_of_page e))
  spot_word seg w d live inside (Some frame) e =
      let is = page_of_word core frames m.pages.laid seg w d live inside in
      let k = here.range seg (w / 1024) frame e in
      let same : frame * 1024 + w % 1024 ≡ 1024 * frame + w % 1024 = omega arith in
      ap (word_at memory seg w) (resident_spot core frames m.pages.laid seg w frame d live inside (record { word = here.words seg (w / 1024) is ∙ ap ptw_of_page e; pageable = k }))
      ∙ ap (slice_index core) same

  found_of : (seg w : ℕ) → has_page p seg (w / 1024) ≡ true → found_word (content_of p core seg w) ≡ word_in (frame_of p core seg (w / 1024)) core w (kept_word p seg w)
  unfolding content_of pages.page_word
  found_of seg w has = found_at _ _ has

  word_there : (seg w : ℕ) (d : SdwFields) → core_sdw core booted_dbr seg ≡ Ok d → is_within_bound d w ≡ true → word_at memory seg w (core_spot core booted_dbr d seg w) ≡ found_word (content_of p core seg w)
  word_there seg w d live inside =
      let has = page_there seg w d live inside in
      spot_word seg w d live inside (frame_in_pager p core seg (w / 1024)) refl
      ∙ ap (λ (v : Option ℕ). resident_word memory v seg w) (frame_true _ (frame_of p core seg (w / 1024)) has)
      ∙ sym (found_of seg w has)

  dead_word : (seg w : ℕ) (why : Refusal) → (why.number ≡ 17 → ⊥) → (b : Bool) → (why.number == 17) ≡ b → word_at memory seg w (Err why) ≡ 0
  dead_word seg w why other true e = absurd (other (eqb-true why.number 17 e))
  dead_word seg w why other false e = ap (λ (b : Bool). if b then memory.kept seg w else 0) e

  by_parts : (seg w : ℕ) (d : SdwFields) → core_sdw core booted_dbr seg ≡ Ok d → (a b : Bool) → is_within_bound d w ≡ b → word_at memory seg w (when_ordered a (place_within b (core_spot core booted_dbr d seg w))) ≡ shown_by a b (content_of p core seg w)
  by_parts seg w d live true true inside = word_there seg w d live inside
  by_parts seg w d live true false inside = refl
  by_parts seg w d live false b inside = refl

  by_sdw : (seg w : ℕ) (v : Result SdwFields Refusal) → core_sdw core booted_dbr seg ≡ v → word_at memory seg w (place_by v (λ d. core_spot core booted_dbr d seg w) w) ≡ shown v (content_of p core seg w) w
  by_sdw seg w (Err why) live = dead_word seg w why (m.pages.laid.dead seg why live) _ refl
  by_sdw seg w (Ok d) live = by_parts seg w d live (has_ordered_brackets d) (is_within_bound d w) refl

  pub content_shown : (seg w : ℕ) → paged_content memory seg w ≡ shown (core_sdw core booted_dbr seg) (content_of p core seg w) w
  unfolding paged_content place
  content_shown seg w = by_sdw seg w (core_sdw core booted_dbr seg) refl

-- ---- a word of a linkage segment is set

pair_cases : (a b x y : ℕ) → ((a ≡ x) × (b ≡ y)) ⊎ (((a == x) && (b == y)) ≡ false)
pair_cases a b x y = by_tests (a == x) (b == y) refl refl
  where
    by_tests : (s t : Bool) → (a == x) ≡ s → (b == y) ≡ t → ((a ≡ x) × (b ≡ y)) ⊎ (((a == x) && (b == y)) ≡ false)
    by_tests true true e f = inl (eqb-true a x e, eqb-true b y f)
    by_tests false t e f = inr (ap (λ (s : Bool). s && (b == y)) e)
    by_tests true false e f = inr (ap (λ (s : Bool). s && (b == y)) e ∙ f)

pub same_test : (a : ℕ) → (a == a) ≡ true
same_test a = grind arith

pub both_same : (a b : ℕ) → ((a == a) && (b == b)) ≡ true
both_same a b = ap (λ (s : Bool). s && (b == b)) (same_test a) ∙ same_test b

not_both : (a b x y : ℕ) → ((a == x) && (b == y)) ≡ false → (x ≡ a) × (y ≡ b) → ⊥
not_both a b x y apart e =
    let k : ((x == x) && (y == y)) ≡ false = subst (λ (n : ℕ). ((n == x) && (y == y)) ≡ false) (sym e.0) (subst (λ (n : ℕ). ((a == x) && (n == y)) ≡ false) (sym e.1) apart) in
    let l = both_same x y in
    cc

module _ (frames : ℕ) (core now : List ℕ) (p q : PagerFields) (ring word v : ℕ) (m : IsManaged frames core p) (low : ring < 8) (fits : word < 2 ^ 18) (s : IsSet p core q now (linkage_segment ring) word v) (reads : AgreesWithCore q now) (pager : IsPager q) where
  abbrev seg : ℕ
  seg = linkage_segment ring

  managed : IsManaged frames now q
  managed = now_managed frames core now p q m pager reads s.shape s.size s.others

  low_words : take descriptor_words now ≡ take descriptor_words core
  low_words = descriptors frames core now p q m pager reads s.shape s.size s.others

  shown_now : (seg' w' : ℕ) → shown (core_sdw now booted_dbr seg') (content_of q now seg' w') w' ≡ shown (core_sdw core booted_dbr seg') (content_of q now seg' w') w'
  shown_now seg' w' =
      ap (λ (x : Result SdwFields Refusal). shown x (content_of q now seg' w') w') (same_descriptors core now low_words seg')

  within_whole : (d : SdwFields) → d.bound ≡ 16383 → is_within_bound d word ≡ true
  within_whole d e =
      let k : word / 16 ≤ d.bound = omega arith in
      le-leb (word / 16) d.bound k

  link : IsLinkageSegment core seg
  link = m.linkage ring low

  ordered : has_ordered_brackets link.sdw ≡ true
  ordered = (m.pages.laid.segments seg link.sdw link.live).ordered

  inside : is_within_bound link.sdw word ≡ true
  inside = within_whole link.sdw link.whole

  shown_here : shown (core_sdw core booted_dbr seg) (content_of q now seg word) word ≡ v
  shown_here =
      ap (λ (x : Result SdwFields Refusal). shown x (content_of q now seg word) word) link.live
      ∙ (λ i. shown_by (ordered i) (inside i) (s.here i))

  -- the content of each word
  new_content : (seg' w' : ℕ) → paged_content (record { core = now; kept = kept_word q }) seg' w' ≡ (if (seg == seg') && (word == w') then v else paged_content (record { core = core; kept = kept_word p }) seg' w')
  new_content seg' w' = by_cases (pair_cases seg word seg' w')
    where
      by_cases : (((seg ≡ seg') × (word ≡ w')) ⊎ (((seg == seg') && (word == w')) ≡ false)) → paged_content (record { core = now; kept = kept_word q }) seg' w' ≡ (if (seg == seg') && (word == w') then v else paged_content (record { core = core; kept = kept_word p }) seg' w')
      by_cases (inl e) =
          let P : ℕ → ℕ → Type 0 = λ a b. paged_content (record { core = now; kept = kept_word q }) a b ≡ (if (seg == a) && (word == b) then v else paged_content (record { core = core; kept = kept_word p }) a b) in
          let at : P seg word = content_shown frames now q managed seg word ∙ shown_now seg word ∙ shown_here ∙ sym (ap (λ (b : Bool). if b then v else paged_content (record { core = core; kept = kept_word p }) seg word) (both_same seg word)) in
          subst (λ (a : ℕ). P a w') e.0 (subst (P seg) e.1 at)
      by_cases (inr apart) =
          content_shown frames now q managed seg' w' ∙ shown_now seg' w'
          ∙ ap (λ (c : Option ℕ). shown (core_sdw core booted_dbr seg') c w') (s.content seg' w' (not_both seg word seg' w' apart))
          ∙ sym (content_shown frames core p m seg' w')
          ∙ sym (ap (λ (b : Bool). if b then v else paged_content (record { core = core; kept = kept_word p }) seg' w') apart)

  new_flat : flat_by now q ≡ flat_put (flat_by core p) (written_from seg word (v ∷ []))
  unfolding flat_of flat_put written_from
  new_flat =
      let content = new_content in
      let words = low_words in
      λ i. record { descriptors = words i; content = λ a b. content a b i }

  -- ---- the memory

  has : has_page p seg (word / 1024) ≡ true
  has = page_there frames core p m seg word link.sdw link.live inside

  is_page : IsPage core seg (word / 1024)
  is_page = m.pages.exact seg (word / 1024) has

  held : frame_in_pager p core seg (word / 1024) ≡ frame_of p core seg (word / 1024)
  held = frame_true _ (frame_of p core seg (word / 1024)) has

  placed : place core_store core booted_dbr seg word ≡ core_spot core booted_dbr link.sdw seg word
  unfolding place
  placed =
      let a = ordered in
      let b = inside in
      ap (λ (x : Result SdwFields Refusal). place_by x (λ d. core_spot core booted_dbr d seg word) word) link.live
      ∙ (λ i. when_ordered (a i) (place_within (b i) (core_spot core booted_dbr link.sdw seg word)))

  some_word : (x y : ℕ) → Some x ≡ Some y → x ≡ y
  some_word x y e = cc

  kept_here : frame_of p core seg (word / 1024) ≡ None → kept_word q seg word ≡ v
  unfolding frame_of
  kept_here none =
      let same = s.in_none none in
      let spots = s.shape.spots seg (word / 1024) in
      let out : frame_of q now seg (word / 1024) ≡ None = (λ i. frame_in (slice_index (same i) (spots i))) ∙ none in
      some_word (kept_word q seg word) v (sym (content_kept q now seg word (s.shape.pages seg (word / 1024) ∙ has) out) ∙ s.here)

  new_kept : frame_of p core seg (word / 1024) ≡ None → (a b : ℕ) → kept_word q a b ≡ content_with (kept_word p) seg word Whole v a b
  new_kept none a b = by_cases (pair_cases seg word a b)
    where
      by_cases : (((seg ≡ a) × (word ≡ b)) ⊎ (((seg == a) && (word == b)) ≡ false)) → kept_word q a b ≡ content_with (kept_word p) seg word Whole v a b
      by_cases (inl e) =
          let P : ℕ → ℕ → Type 0 = λ x y. kept_word q x y ≡ content_with (kept_word p) seg word Whole v x y in
          let at : P seg word = kept_here none ∙ sym (ap (λ (t : Bool). if t then v else kept_word p seg word) (both_same seg word)) in
          subst (λ (x : ℕ). P x b) e.0 (subst (P seg) e.1 at)
      by_cases (inr apart) =
          s.kept a b (not_both seg word a b apart) ∙ sym (ap (λ (t : Bool). if t then v else kept_word p a b) apart)

  put_by : (o : Option ℕ) → frame_of p core seg (word / 1024) ≡ o → paged_by now q ≡ put_at (paged_by core p) seg word Whole v (place core_store core booted_dbr seg word)
  put_by None e =
      let at : place core_store core booted_dbr seg word ≡ Err absence = placed ∙ absent_spot core frames m.pages.laid seg word link.sdw link.live inside ((here frames core p m).words seg (word / 1024) is_page ∙ ap ptw_of_page (held ∙ e)) in
      let same = s.in_none e in
      let kept = new_kept e in
      let made : paged_by now q ≡ put_at (paged_by core p) seg word Whole v (Err absence) = λ i. record { core = same i; kept = λ a b. kept a b i } in
      made ∙ sym (ap (put_at (paged_by core p) seg word Whole v) at)
  put_by (Some frame) e =
      let in_it = held ∙ e in
      let at : place core_store core booted_dbr seg word ≡ Ok (Core_word (frame * 1024 + word % 1024)) = placed ∙ resident_spot core frames m.pages.laid seg word frame link.sdw link.live inside (record { word = (here frames core p m).words seg (word / 1024) is_page ∙ ap ptw_of_page in_it; pageable = (here frames core p m).range seg (word / 1024) frame in_it }) in
      let both = s.in_frame frame e in
      let pager_same = both.0 in
      let same : 1024 * frame + word % 1024 ≡ frame * 1024 + word % 1024 = omega arith in
      let core_is : now ≡ slice_set core (frame * 1024 + word % 1024) v = both.1 ∙ ap (λ (a : ℕ). slice_set core a v) same in
      let made : paged_by now q ≡ put_at (paged_by core p) seg word Whole v (Ok (Core_word (frame * 1024 + word % 1024))) = λ i. record { core = core_is i; kept = kept_word (pager_same i) } in
      made ∙ sym (ap (put_at (paged_by core p) seg word Whole v) at)

  new_paged : memory_by now q ≡ paged_put (memory_by core p) (written_from seg word (v ∷ []))
  unfolding memory_by paged_put written_from
  new_paged = put_by (frame_of p core seg (word / 1024)) refl

pub word_put : (core now : List ℕ) (p q : PagerFields) (ring word v : ℕ) → IsManaged (length p.holders) core p → ring < 8 → word < 2 ^ 18 → IsSet p core q now (linkage_segment ring) word v → AgreesWithCore q now → IsPager q → ArePut core p now q (written_from (linkage_segment ring) word (v ∷ []))
word_put core now p q ring word v m low fits s reads pager =
    let count = s.shape.frames in
    record {
      put = new_paged (length p.holders) core now p q ring word v m low fits s reads pager;
      flat = new_flat (length p.holders) core now p q ring word v m low fits s reads pager;
      frames = count;
      managed = subst (λ (n : ℕ). IsManaged n now q) (sym count) (managed (length p.holders) core now p q ring word v m low fits s reads pager);
    }

-- a word of a linkage segment is in a page
pub linkage_page : (core : List ℕ) (p : PagerFields) (ring word : ℕ) → IsManaged (length p.holders) core p → ring < 8 → word < 2 ^ 18 → has_page p (linkage_segment ring) (word / 1024) ≡ true
linkage_page core p ring word m low fits =
    let l = m.linkage ring low in
    let whole = l.whole in
    let begins : word / 1024 ≤ l.sdw.bound / 64 = omega arith in
    m.pages.serves (linkage_segment ring) (word / 1024) (record { sdw = l.sdw; live = l.live; begins = begins })

pub ruleset words_put = (word_put, linkage_page, has_frames)

pub ruleset found = (has_frames, page_there)

none_by : (b : Bool) (v : ℕ) → b ≡ true → then_some b v ≡ None → ⊥
none_by true v e h = cc
none_by false v e h = cc

-- a word of a page is found
pub not_none : (core : List ℕ) (p : PagerFields) (seg w : ℕ) → has_page p seg (w / 1024) ≡ true → (v : Option ℕ) → v ≡ content_of p core seg w → v ≡ None → ⊥
unfolding content_of
not_none core p seg w has v e none = none_by (has_page p seg (w / 1024)) _ has (sym e ∙ none)
