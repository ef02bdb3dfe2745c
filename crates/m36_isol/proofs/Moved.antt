-- After pages have moved between frames and the kept words, core is that of the same booted image,
-- and represents the same flat memory.
use Rattle.std.proofs.Common.{◌≡◌, refl, sym, ◌∙◌, ap, inl, inr, arith, eqb-true}
use Rattle.std.specs.Prelude.{ℕ, ◌+◌, ◌*◌, ◌/◌, ◌%◌, ◌⊎◌, Bool, true, false, ◌==◌, if◌then◌else◌, List, length, take, slice_index, Option, Some, None, Result, Ok, Err}
use Rattle.m36_desc.specs.Fields.{SdwFields}
use Rattle.m36_desc.specs.Access.{has_ordered_brackets}
use Rattle.m36_model.specs.Store.{Spot, is_within_bound, place, place_by, place_within, when_ordered}
use Rattle.m36_model.specs.Place.{core_sdw, core_spot}
use Rattle.m36_model.specs.Flat.{Flat}
use Rattle.m36_model.specs.BootedCore.{descriptor_words, booted_dbr, resident_ptw, absent_ptw, IsPage, page_word, IsInFrame, IsLaid}
use Rattle.m36_model.specs.Residence.{Paged, word_at, paged_content, flat_of, ptw_of_page, IsResidence, resident_word, IsMoved}
use Rattle.m36_model.specs.PagedStep.{IsSameImage, MovedLaw}
use Rattle.m36_model.specs.declared.outcome.Refusal.{Refusal}
use Rattle.m36_isol.proofs.Laid.{page_of_word, absent_spot, resident_spot}
use Rattle.m36_isol.proofs.Booted.{flat_descriptor}

-- the descriptors are in the first words of core
pub same_descriptors : (core now : List ℕ) → take descriptor_words now ≡ take descriptor_words core → (seg : ℕ) → core_sdw now booted_dbr seg ≡ core_sdw core booted_dbr seg
same_descriptors core now e seg =
    let f : Flat = record { descriptors = take descriptor_words core; content = λ s w. 0 } in
    flat_descriptor now f (sym e) seg ∙ sym (flat_descriptor core f refl seg)

not_resident : (frame : ℕ) → absent_ptw ≡ resident_ptw frame → ⊥
not_resident frame h = omega arith

one_frame : (f k : ℕ) → resident_ptw f ≡ resident_ptw k → f ≡ k
one_frame f k h = omega arith

-- the frame of a page, as its PTW says
frame_as : (core : List ℕ) (frames : ℕ) (frame_of : ℕ → ℕ → Option ℕ) → IsResidence core frames frame_of → (seg page : ℕ) → IsPage core seg page → (v : Option ℕ) → frame_of seg page ≡ v → page_word core seg page ≡ ptw_of_page v
frame_as core frames frame_of r seg page p v e = r.words seg page p ∙ ap ptw_of_page e

holder : (core : List ℕ) (frames : ℕ) (frame_of : ℕ → ℕ → Option ℕ) → IsResidence core frames frame_of → (seg page frame : ℕ) → IsPage core seg page → page_word core seg page ≡ resident_ptw frame → (v : Option ℕ) → frame_of seg page ≡ v → frame_of seg page ≡ Some frame
holder core frames frame_of r seg page frame p h None e =
    absurd (not_resident frame (sym (frame_as core frames frame_of r seg page p None e) ∙ h))
holder core frames frame_of r seg page frame p h (Some k) e =
    e ∙ ap Some (one_frame k frame (sym (frame_as core frames frame_of r seg page p (Some k) e) ∙ h))

-- a core with these descriptors and this residence is that of the image
pub laid_by : (core : List ℕ) (frames : ℕ) → IsLaid core frames → (now : List ℕ) → length now ≡ length core → take descriptor_words now ≡ take descriptor_words core → (frame_of : ℕ → ℕ → Option ℕ) → IsResidence now frames frame_of → IsLaid now frames
laid_by core frames laid now size low frame_of r =
    record {
      size = size ∙ laid.size;
      most = laid.most;
      segments = λ seg d live. laid.segments seg d (sym (same_descriptors core now low seg) ∙ live);
      dead = λ seg why e. laid.dead seg why (sym (same_descriptors core now low seg) ∙ e);
      pages = λ seg page p. by_frame seg page p (frame_of seg page) refl;
      apart = λ seg page seg' page' frame p q e f. r.one seg page seg' page' frame (holder now frames frame_of r seg page frame p e (frame_of seg page) refl) (holder now frames frame_of r seg' page' frame q f (frame_of seg' page') refl);
    }
  where
    by_frame : (seg page : ℕ) → IsPage now seg page → (v : Option ℕ) → frame_of seg page ≡ v → (page_word now seg page ≡ absent_ptw) ⊎ ((frame : ℕ) × IsInFrame now frames seg page frame)
    by_frame seg page p None e = inl (frame_as now frames frame_of r seg page p None e)
    by_frame seg page p (Some frame) e =
        let k = r.range seg page frame e in
        inr (frame, record { word = frame_as now frames frame_of r seg page p (Some frame) e; pageable = k })

module _ (m : Paged) (frames : ℕ) (laid : IsLaid m.core frames) (frame_of : ℕ → ℕ → Option ℕ) (r : IsResidence m.core frames frame_of) where
  spot_word : (seg w : ℕ) (d : SdwFields) → core_sdw m.core booted_dbr seg ≡ Ok d → is_within_bound d w ≡ true → (v : Option ℕ) → frame_of seg (w / 1024) ≡ v → word_at m seg w (core_spot m.core booted_dbr d seg w) ≡ resident_word m v seg w
  spot_word seg w d live inside None e =
      let p = page_of_word m.core frames laid seg w d live inside in
      ap (word_at m seg w) (absent_spot m.core frames laid seg w d live inside (frame_as m.core frames frame_of r seg (w / 1024) p None e))
  spot_word seg w d live inside (Some frame) e =
      let p = page_of_word m.core frames laid seg w d live inside in
      let k = r.range seg (w / 1024) frame e in
      let same : frame * 1024 + w % 1024 ≡ 1024 * frame + w % 1024 = omega arith in
      ap (word_at m seg w) (resident_spot m.core frames laid seg w frame d live inside (record { word = frame_as m.core frames frame_of r seg (w / 1024) p (Some frame) e; pageable = k }))
      ∙ ap (slice_index m.core) same

-- the word at a place, by the descriptor
word_by : (m n : Paged) (seg w : ℕ) (a b : Bool) (x y : Result Spot Refusal) → ((a ≡ true) → (b ≡ true) → word_at m seg w x ≡ word_at n seg w y) → word_at m seg w (when_ordered a (place_within b x)) ≡ word_at n seg w (when_ordered a (place_within b y))
word_by m n seg w true true x y h = h refl refl
word_by m n seg w true false x y h = refl
word_by m n seg w false b x y h = refl

module _ (frames : ℕ) (old new : Paged) (laid : IsLaid old.core frames) (moved : IsMoved frames old new) where
  now_laid : IsLaid new.core frames
  now_laid =
      laid_by old.core frames laid new.core moved.size moved.descriptors moved.after moved.residence_after

  content_by : (seg w : ℕ) (v : Result SdwFields Refusal) → core_sdw old.core booted_dbr seg ≡ v → core_sdw new.core booted_dbr seg ≡ v → word_at new seg w (place_by v (λ d. core_spot new.core booted_dbr d seg w) w) ≡ word_at old seg w (place_by v (λ d. core_spot old.core booted_dbr d seg w) w)
  content_by seg w (Err why) live now = dead_word why (laid.dead seg why live) (why.number == 17) refl
    where
      dead_word : (why : Refusal) → (why.number ≡ 17 → ⊥) → (b : Bool) → (why.number == 17) ≡ b → word_at new seg w (Err why) ≡ word_at old seg w (Err why)
      dead_word why other true e = absurd (other (eqb-true why.number 17 e))
      dead_word why other false e =
          ap (λ (b : Bool). if b then new.kept seg w else 0) e ∙ sym (ap (λ (b : Bool). if b then old.kept seg w else 0) e)
  content_by seg w (Ok d) live now =
      word_by new old seg w (has_ordered_brackets d) (is_within_bound d w) _ _ (λ ordered inside. spot_word new frames now_laid moved.after moved.residence_after seg w d now inside (moved.after seg (w / 1024)) refl ∙ moved.words seg w (page_of_word old.core frames laid seg w d live inside) ∙ sym (spot_word old frames laid moved.before moved.residence_before seg w d live inside (moved.before seg (w / 1024)) refl))

  same_content : (seg w : ℕ) → paged_content new seg w ≡ paged_content old seg w
  unfolding paged_content place
  same_content seg w =
      let same = same_descriptors old.core new.core moved.descriptors seg in
      ap (λ (v : Result SdwFields Refusal). word_at new seg w (place_by v (λ d. core_spot new.core booted_dbr d seg w) w)) same ∙ content_by seg w (core_sdw old.core booted_dbr seg) refl same ∙ refl

  same_flat : flat_of new ≡ flat_of old
  unfolding flat_of
  same_flat =
      let d = moved.descriptors in
      let content = same_content in
      λ i. record { descriptors = d i; content = λ seg w. content seg w i }

  same_image : IsSameImage frames old new
  same_image = record { laid = now_laid; flat = same_flat }

pub moved_law : MovedLaw
moved_law frames old new laid moved = same_image frames old new laid moved
