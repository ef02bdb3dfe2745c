-- A call of the pager moves pages of the booted image; and a step keeps `IsManaged`.
use Rattle.std.proofs.Common.{◌≡◌, refl, sym, ◌∙◌, ap, subst, inl, inr, arith}
use Rattle.std.specs.Prelude.{ℕ, zero, suc, ◌+◌, ◌*◌, ◌/◌, ◌<◌, ◌≤◌, ◌⊎◌, Bool, true, false, List, [], ◌∷◌, length, take, slice_index, slice_index_or, Option, Some, None}
use Rattle.m36_model.specs.Core.{core_store, unmarked}
use Rattle.m36_model.specs.Place.{core_sdw}
use Rattle.m36_model.specs.Step.{state_after}
use Rattle.m36_model.specs.BootedCore.{descriptor_words, booted_dbr, table_at, wired_frames, absent_ptw, resident_ptw, IsPage, page_word, IsPageable, IsLaid}
use Rattle.m36_model.specs.Residence.{ptw_of_page, IsResidence, resident_word}
use Rattle.m36_isol.proofs.PagedStep.{paged_step_law}
use Rattle.m36_isol.proofs.Moved.{same_descriptors, laid_by}
use Rattle.m36_page.specs.Fields.{PagerFields}
use Rattle.std.specs.Bool.{then_some}
use Rattle.m36_page.specs.Residence.{has_page, spot_of, frame_of, kept_word, word_in, content_of, Holds, IsPager, NamesFrame, AgreesWithCore}
use Rattle.m36_page.specs.Residence as pages
use Rattle.m36_page.specs.Changes.{IsChangeable, IsSameShape}
use Rattle.m36_page.proofs.Frames.{frame_absent, frame_resident}
use Rattle.m36_link.specs.Known.{linkage_segment}
use Rattle.m36_super.specs.SuperFields.{IsLinkageSegment, IsManaged, frame_by, frame_in_pager, IsPaging, PagingLaw, StepManagedLaw}

-- lists with the same first words
take_same : (n : ℕ) (xs ys : List ℕ) → length xs ≡ length ys → ((a : ℕ) → a < n → slice_index xs a ≡ slice_index ys a) → take n xs ≡ take n ys
take_same zero [] ys size h = take_none ys
  where
    take_none : (l : List ℕ) → [] ≡ take zero l
    take_none [] = refl
    take_none (x ∷ l) = refl
take_same zero (x ∷ xs) [] size h = cc
take_same zero (x ∷ xs) (y ∷ ys) size h = refl
take_same (suc n) [] [] size h = refl
take_same (suc n) [] (y ∷ ys) size h = cc
take_same (suc n) (x ∷ xs) [] size h = cc
take_same (suc n) (x ∷ xs) (y ∷ ys) size h =
    let more : length xs ≡ length ys = cc in
    let head : x ≡ y = h 0 (omega arith) in
    let rest = take_same n xs ys more (λ a k. h (suc a) (omega arith)) in
    λ i. head i ∷ rest i

-- an index at which a list has a page is within it
get_within : (holders : List (Option (ℕ × ℕ))) (k : ℕ) (held : ℕ × ℕ) → slice_index_or holders k None ≡ Some held → k < length holders
get_within [] k held h = cc
get_within (x ∷ holders) zero held h = omega arith
get_within (x ∷ holders) (suc k) held h = let more = get_within holders k held h in omega arith

true_false : (b : Bool) → b ≡ true → b ≡ false → ⊥
true_false b e f = cc

one_some : (v : Option (ℕ × ℕ)) (a b : ℕ × ℕ) → v ≡ Some a → v ≡ Some b → a ≡ b
one_some v a b e f = cc

some_in : (v : Option ℕ) (a b : ℕ) → v ≡ Some a → v ≡ Some b → a ≡ b
some_in v a b e f = cc

module _ (frames : ℕ) (core : List ℕ) (p : PagerFields) (most : wired_frames + frames ≤ 16384) (first : p.first ≡ wired_frames) (frames_are : length p.holders ≡ frames) (pager : IsPager p) (reads : AgreesWithCore p core) (serves : (seg page : ℕ) → IsPage core seg page → has_page p seg page ≡ true) (at : (seg page : ℕ) → has_page p seg page ≡ true → spot_of p seg page ≡ table_at seg + page) where
  -- the page that a frame holds
  record IsNoStep (seg page frame : ℕ) : Type 0 where
    k : ℕ
    holds : Holds p k seg page
    frame_is : frame ≡ p.first + k
    word : unmarked (slice_index core (spot_of p seg page)) ≡ resident_ptw frame

  tells : (seg page : ℕ) → has_page p seg page ≡ true → NamesFrame p seg page (slice_index core (spot_of p seg page)) → ((frame_of p core seg page ≡ None) × (unmarked (slice_index core (spot_of p seg page)) ≡ absent_ptw)) ⊎ ((frame : ℕ) × (frame_of p core seg page ≡ Some frame) × IsNoStep seg page frame)
  unfolding frame_of
  tells seg page has (inl e) = inl (frame_absent _ e, e)
  tells seg page has (inr h) =
      let within = get_within p.holders h.0 (seg, page) h.1 in
      let low : p.first ≡ 146 = first in
      let all : 146 + frames ≤ 16384 = most in
      let small : p.first + h.0 < 16384 = omega arith in
      inr (p.first + h.0, frame_resident _ (p.first + h.0) small h.2, record { k = h.0; holds = h.1; frame_is = refl; word = h.2 })

  -- if a page is in a frame, the frame holds it
  held_by : (seg page frame : ℕ) (b : Bool) → has_page p seg page ≡ b → frame_by b (frame_of p core seg page) ≡ Some frame → IsNoStep seg page frame
  held_by seg page frame true has e = by_tells (tells seg page has (reads.pages seg page has))
    where
      by_tells : ((frame_of p core seg page ≡ None) × (unmarked (slice_index core (spot_of p seg page)) ≡ absent_ptw)) ⊎ ((f : ℕ) × (frame_of p core seg page ≡ Some f) × IsNoStep seg page f) → IsNoStep seg page frame
      by_tells (inl h) = let none = h.0 in cc
      by_tells (inr h) = subst (IsNoStep seg page) (some_in _ h.0 frame h.1 e) h.2
  held_by seg page frame false has e = cc

  word_by : (seg page : ℕ) → IsPage core seg page → (b : Bool) → has_page p seg page ≡ b → page_word core seg page ≡ ptw_of_page (frame_by b (frame_of p core seg page))
  word_by seg page is true has = by_tells (tells seg page has (reads.pages seg page has))
    where
      here : page_word core seg page ≡ unmarked (slice_index core (spot_of p seg page))
      here = ap (λ (n : ℕ). unmarked (slice_index core n)) (sym (at seg page has))

      by_tells : ((frame_of p core seg page ≡ None) × (unmarked (slice_index core (spot_of p seg page)) ≡ absent_ptw)) ⊎ ((f : ℕ) × (frame_of p core seg page ≡ Some f) × IsNoStep seg page f) → page_word core seg page ≡ ptw_of_page (frame_of p core seg page)
      by_tells (inl h) = here ∙ h.1 ∙ sym (ap ptw_of_page h.0)
      by_tells (inr h) = here ∙ h.2.word ∙ sym (ap ptw_of_page h.1)
  word_by seg page is false has = absurd (true_false _ (serves seg page is) has)

  pub residence : IsResidence core frames (frame_in_pager p core)
  residence =
      record {
        words = λ seg page is. word_by seg page is _ refl;
        range = λ seg page frame e. range_of frame (held_by seg page frame _ refl e);
        one = λ seg page seg' page' frame e f. one_of frame (held_by seg page frame _ refl e) (held_by seg' page' frame _ refl f);
      }
    where
      range_of : {seg page : ℕ} (frame : ℕ) → IsNoStep seg page frame → IsPageable frames frame
      range_of {seg = seg} {page = page} frame h =
          let within = get_within p.holders h.k (seg, page) h.holds in
          let low : p.first ≡ 146 = first in
          let is = h.frame_is in
          let x : 146 ≤ frame = omega arith in
          let y : frame < 146 + frames = omega arith in
          (x, y)

      one_of : {seg page seg' page' : ℕ} (frame : ℕ) → IsNoStep seg page frame → IsNoStep seg' page' frame → (seg ≡ seg') × (page ≡ page')
      one_of {seg = seg} {page = page} {seg' = seg'} {page' = page'} frame h k =
          let is = h.frame_is in
          let other = k.frame_is in
          let same : h.k ≡ k.k = omega arith in
          let pair = one_some _ (seg, page) (seg', page') (subst (λ (n : ℕ). Holds p n seg page) same h.holds) k.holds in
          (ap (λ (x : ℕ × ℕ). x.0) pair, ap (λ (x : ℕ × ℕ). x.1) pair)

content_parts : (a b : Bool) (x y : ℕ) → a ≡ true → b ≡ true → then_some a x ≡ then_some b y → x ≡ y
content_parts true true x y e f h = cc
content_parts true false x y e f h = cc
content_parts false b x y e f h = cc

same_content : (p q : PagerFields) (core now : List ℕ) (seg w : ℕ) → has_page p seg (w / 1024) ≡ true → has_page q seg (w / 1024) ≡ true → content_of q now seg w ≡ content_of p core seg w → word_in (frame_of q now seg (w / 1024)) now w (kept_word q seg w) ≡ word_in (frame_of p core seg (w / 1024)) core w (kept_word p seg w)
unfolding content_of pages.page_word
same_content p q core now seg w has other h =
    content_parts (has_page q seg (w / 1024)) (has_page p seg (w / 1024)) _ _ other has h

pub frame_true : (b : Bool) (v : Option ℕ) → b ≡ true → frame_by b v ≡ v
frame_true true v e = refl
frame_true false v e = cc

linkage_kept : (core now : List ℕ) → ((seg : ℕ) → core_sdw now booted_dbr seg ≡ core_sdw core booted_dbr seg) → (seg : ℕ) → IsLinkageSegment core seg → IsLinkageSegment now seg
linkage_kept core now same seg h = record { sdw = h.sdw; live = same seg ∙ h.live; whole = h.whole }

module _ (frames : ℕ) (core now : List ℕ) (p q : PagerFields) (m : IsManaged frames core p) (pager : IsPager q) (reads : AgreesWithCore q now) (shape : IsSameShape p q) (size : length now ≡ length core) (others : (a : ℕ) → (IsChangeable p a → ⊥) → slice_index now a ≡ slice_index core a) where
  -- the descriptors are unchanged
  not_paged : (a : ℕ) → a < 2048 → IsChangeable p a → ⊥
  not_paged a low (inl h) =
      let at : spot_of p h.seg h.page ≡ (2048 + 256 * h.seg) + h.page = m.pages.at h.seg h.page h.has in
      let is = h.is in
      omega arith
  not_paged a low (inr h) =
      let first : p.first ≡ 146 = m.pages.first in
      let from = h.0 in
      omega arith

  pub descriptors : take descriptor_words now ≡ take descriptor_words core
  descriptors = take_same 2048 now core size (λ a low. others a (not_paged a low))

  page_now : (seg page : ℕ) → IsPage core seg page → IsPage now seg page
  page_now seg page h =
      record { sdw = h.sdw; live = same_descriptors core now descriptors seg ∙ h.live; begins = h.begins }

  page_before : (seg page : ℕ) → IsPage now seg page → IsPage core seg page
  page_before seg page h =
      record { sdw = h.sdw; live = sym (same_descriptors core now descriptors seg) ∙ h.live; begins = h.begins }

  serves : (seg page : ℕ) → IsPage now seg page → has_page q seg page ≡ true
  serves seg page h = shape.pages seg page ∙ m.pages.serves seg page (page_before seg page h)

  has_before : (seg page : ℕ) → has_page q seg page ≡ true → has_page p seg page ≡ true
  has_before seg page h = sym (shape.pages seg page) ∙ h

  at : (seg page : ℕ) → has_page q seg page ≡ true → spot_of q seg page ≡ table_at seg + page
  at seg page h = shape.spots seg page ∙ m.pages.at seg page (has_before seg page h)

  first : q.first ≡ wired_frames
  first = shape.first ∙ m.pages.first

  frames_are : length q.holders ≡ frames
  frames_are = shape.frames ∙ m.pages.count

  before_residence : IsResidence core frames (frame_in_pager p core)
  before_residence = residence frames core p m.pages.laid.most m.pages.first m.pages.count m.pages.pager m.reads m.pages.serves m.pages.at

  after_residence : IsResidence now frames (frame_in_pager q now)
  after_residence = residence frames now q m.pages.laid.most first frames_are pager reads serves at

  now_laid : IsLaid now frames
  now_laid = laid_by core frames m.pages.laid now size descriptors (frame_in_pager q now) after_residence

  pub now_managed : IsManaged frames now q
  now_managed =
      record {
        pages =
            record {
              some = m.pages.some;
              laid = now_laid;
              first = first;
              count = frames_are;
              pager = pager;
              serves = serves;
              exact = λ seg page h. page_now seg page (m.pages.exact seg page (has_before seg page h));
              at = at;
            };
        reads = reads;
        linkage = λ ring low. linkage_kept core now (same_descriptors core now descriptors) (linkage_segment ring) (m.linkage ring low);
      }

  module _ (content : (seg w : ℕ) → content_of q now seg w ≡ content_of p core seg w) where
    words : (seg w : ℕ) → IsPage core seg (w / 1024) → resident_word (record { core = now; kept = kept_word q }) (frame_in_pager q now seg (w / 1024)) seg w ≡ resident_word (record { core = core; kept = kept_word p }) (frame_in_pager p core seg (w / 1024)) seg w
    words seg w is =
        let has = m.pages.serves seg (w / 1024) is in
        let other = shape.pages seg (w / 1024) ∙ has in
        let here = frame_true _ (frame_of q now seg (w / 1024)) other in
        let there = frame_true _ (frame_of p core seg (w / 1024)) has in
        ap (λ (v : Option ℕ). resident_word (record { core = now; kept = kept_word q }) v seg w) here
        ∙ same_content p q core now seg w has other (content seg w)
        ∙ sym (ap (λ (v : Option ℕ). resident_word (record { core = core; kept = kept_word p }) v seg w) there)

    paging : IsPaging frames core now p q
    paging =
        record {
          moved =
              record {
                size = size;
                descriptors = descriptors;
                before = frame_in_pager p core;
                residence_before = before_residence;
                after = frame_in_pager q now;
                residence_after = after_residence;
                words = words;
              };
          before_is = λ seg page. refl;
          after_is = λ seg page. refl;
          manages = now_managed;
        }

pub paging_law : PagingLaw
paging_law frames core now p q m pager reads kept =
    paging frames core now p q m pager reads kept.shape kept.size kept.others kept.content

-- ---- a step

tells_as : (p : PagerFields) (seg page x y : ℕ) → unmarked y ≡ unmarked x → NamesFrame p seg page x → NamesFrame p seg page y
tells_as p seg page x y same (inl e) = inl (same ∙ e)
tells_as p seg page x y same (inr h) = inr (h.0, h.1, same ∙ h.2)

pub step_managed : StepManagedLaw
step_managed frames s p dbr m =
    let now = (state_after core_store s).store in
    let step = paged_step_law frames (kept_word p) s dbr m.pages.laid in
    let live : (seg : ℕ) → core_sdw now booted_dbr seg ≡ core_sdw s.store booted_dbr seg = same_descriptors s.store now step.descriptors in
    let same : (seg page : ℕ) → has_page p seg page ≡ true → unmarked (slice_index now (spot_of p seg page)) ≡ unmarked (slice_index s.store (spot_of p seg page)) = λ seg page has. let at = m.pages.at seg page has in ap (λ (n : ℕ). unmarked (slice_index now n)) at ∙ step.pages seg page (m.pages.exact seg page has) ∙ sym (ap (λ (n : ℕ). unmarked (slice_index s.store n)) at) in
    record {
      pages =
          record {
            some = m.pages.some;
            laid = step.laid;
            first = m.pages.first;
            count = m.pages.count;
            pager = m.pages.pager;
            serves = λ seg page h. m.pages.serves seg page (record { sdw = h.sdw; live = sym (live seg) ∙ h.live; begins = h.begins });
            exact = λ seg page has. let h = m.pages.exact seg page has in record { sdw = h.sdw; live = live seg ∙ h.live; begins = h.begins };
            at = m.pages.at;
          };
      reads = record { pages = λ seg page has. tells_as p seg page _ _ (same seg page has) (m.reads.pages seg page has); frames = λ k seg page holds. same seg page (m.pages.pager.held k seg page holds) ∙ m.reads.frames k seg page holds };
      linkage = λ ring low. linkage_kept s.store now live (linkage_segment ring) (m.linkage ring low);
    }
