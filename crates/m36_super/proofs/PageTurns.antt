-- Steps with page services, over a processor and its pager.
use Rattle.std.proofs.Common.{◌≡◌, refl, sym, ◌∙◌, ap, subst, inl, inr, arith, eq-eqb}
use Rattle.std.proofs.lemmas.Bool.{and_from}
use Rattle.std.proofs.lemmas.List.Folds.{list_any_at}
use Rattle.std.specs.List.{list_any}
use Rattle.std.specs.Prelude.{ℕ, suc, ◌+◌, ◌/◌, ◌≤◌, ◌⊎◌, Bool, true, false, List, [], ◌∷◌, length, slice_index, slice_index_or, All, Option, Some, None, Result, Ok, Err}
use Rattle.m36_desc.specs.Fields.{SdwFields}
use Rattle.m36_desc.specs.Access.{has_ordered_brackets}
use Rattle.m36_desc.specs.Violations.{out_of_segment_bounds, illegal_ring_order}
use Rattle.m36_model.specs.Fields.{AtFields}
use Rattle.m36_model.specs.Registers.{RegsFields}
use Rattle.m36_model.specs.Store.{Spot, State, violation, is_within_bound, place, place_by, place_within, when_ordered}
use Rattle.m36_model.specs.StoreLaw.{Each}
use Rattle.m36_model.specs.Core.{core_store, unmarked}
use Rattle.m36_model.specs.Place.{core_sdw, core_spot, without_used}
use Rattle.m36_model.specs.Step.{record_of, state_after}
use Rattle.m36_model.specs.Flat.{Flat}
use Rattle.m36_model.specs.BootedCore.{booted_dbr, table_at, resident_ptw, absent_ptw, IsPage, page_word, IsInFrame, IsLaid}
use Rattle.m36_model.specs.Residence.{PageIsAbsent, absence, ptw_of_page, StaysIn}
use Rattle.m36_model.specs.PagedStep.{IsNoPageFault, IsFlatStep, IsPageFault, IsAbsaStep}
use Rattle.m36_model.specs.declared.outcome.Fault.{Fault}
use Rattle.m36_model.specs.declared.outcome.Outcome.{Outcome}
use Rattle.m36_model.specs.declared.outcome.Outcome.TheVariants.{Next, Faulted}
use Rattle.m36_model.specs.declared.outcome.Refusal.{Refusal}
use Rattle.m36_model.specs.declared.place.Reference.{Reference}
use Rattle.m36_model.specs.declared.record.StepRecord.{StepRecord}
use Rattle.m36_isol.specs.PageServices.{Occupies, IsUnreferenced, MayLoseUsedBit, IsOutsideFrame}
use Rattle.m36_isol.specs.References.{references_of_a_step}
use Rattle.m36_isol.proofs.Laid.{page_of_word, resident_spot}
use Rattle.m36_isol.proofs.PagedStep.{paged_step_law}
use Rattle.m36_isol.proofs.Pages.{few_references}
use Rattle.m36_page.specs.Fields.{PagerFields}
use Rattle.m36_page.specs.Residence.{has_page, spot_of, frame_of, kept_word, Holds, IsPager, NamesFrame, AgreesWithCore}
use Rattle.m36_page.specs.Changes.{refers_to_page, is_pinned, Stays, IsUnpinnedPtwPlace, OnlyMarkCleared, IsBrought}
use Rattle.m36_page.proofs.Frames.{frame_absent, resident_unmarked}
use Rattle.m36_super.specs.SuperFields.{IsManaged, IsRunning, frame_by, IsPaging}
use Rattle.m36_super.specs.Stepping.{IsAbsentWord, HasBroughtPage, IsFullStep}
use Rattle.m36_super.proofs.Paging.{frame_true, paging_law, step_managed}

-- ---- the page that a step lacked

abbrev number_of : Result Spot Refusal → ℕ
number_of (Ok spot) = 0
number_of (Err why) = why.number

not_absence : (v : Result Spot Refusal) (n : ℕ) → v ≡ Err absence → number_of v ≡ n → n ≡ 20 → ⊥
not_absence v n e f g =
    let k : number_of v ≡ 17 = ap number_of e in
    omega arith

-- a page that is in no frame
pub record IsAbsent (core : List ℕ) (seg page : ℕ) : Type 0 where
  pub is : IsPage core seg page
  pub word : page_word core seg page ≡ absent_ptw

pub lacking_page : (core : List ℕ) (frames seg w : ℕ) → IsLaid core frames → PageIsAbsent core seg w → IsAbsent core seg (w / 1024)
unfolding place
lacking_page core frames seg w laid lacks = by_sdw (core_sdw core booted_dbr seg) refl lacks
  where
    by_page : (d : SdwFields) → core_sdw core booted_dbr seg ≡ Ok d → is_within_bound d w ≡ true → core_spot core booted_dbr d seg w ≡ Err absence → (page_word core seg (w / 1024) ≡ absent_ptw) ⊎ ((frame : ℕ) × IsInFrame core frames seg (w / 1024) frame) → page_word core seg (w / 1024) ≡ absent_ptw
    by_page d live inside e (inl word) = word
    by_page d live inside e (inr k) =
        let found = resident_spot core frames laid seg w k.0 d live inside k.1 in
        cc

    by_parts : (d : SdwFields) → core_sdw core booted_dbr seg ≡ Ok d → (a b : Bool) → is_within_bound d w ≡ b → when_ordered a (place_within b (core_spot core booted_dbr d seg w)) ≡ Err absence → IsAbsent core seg (w / 1024)
    by_parts d live true true inside e =
        let is = page_of_word core frames laid seg w d live inside in
        record { is = is; word = by_page d live inside e (laid.pages seg (w / 1024) is) }
    by_parts d live true false inside e = absurd (not_absence (Err (violation out_of_segment_bounds)) 20 e refl refl)
    by_parts d live false b inside e = absurd (not_absence (Err (violation illegal_ring_order)) 20 e refl refl)

    by_sdw : (v : Result SdwFields Refusal) → core_sdw core booted_dbr seg ≡ v → place_by v (λ d. core_spot core booted_dbr d seg w) w ≡ Err absence → IsAbsent core seg (w / 1024)
    by_sdw (Err why) live e = absurd (laid.dead seg why live (ap number_of e))
    by_sdw (Ok d) live e = by_parts d live (has_ordered_brackets d) (is_within_bound d w) refl e

-- ---- a page fault

one_fault : (o : Outcome) (a b : Fault) → o ≡ Faulted a → o ≡ Faulted b → a ≡ b
one_fault o a b e f = cc

fault_apart : (o : Outcome) (f : Fault) → o ≡ Faulted f → o ≡ Next → ⊥
fault_apart o f e g = cc

-- the step ends at a page that is in no frame, and reports its word
pub record IsFaultAt (kept : ℕ → ℕ → ℕ) (s : State (List ℕ)) (at : AtFields) : Type 0 where
  pub fault : IsPageFault kept s
  pub at_is : at ≡ fault.fault.at

pub page_fault : (frames : ℕ) (kept : ℕ → ℕ → ℕ) (s : State (List ℕ)) (at : AtFields) → s.regs.dbr ≡ booted_dbr → IsLaid s.store frames → IsAbsentWord (record_of core_store s).outcome at → IsFaultAt kept s at
page_fault frames kept s at dbr laid lacked = by_cases (paged_step_law frames kept s dbr laid).cases
  where
    by_cases : (IsFlatStep kept s ⊎ IsPageFault kept s ⊎ IsAbsaStep kept s) → IsFaultAt kept s at
    by_cases (inl h) = absurd (subst IsNoPageFault lacked.outcome_is h.present lacked.number)
    by_cases (inr (inl h)) =
        record { fault = h; at_is = lacked.at_is ∙ ap (λ (f : Fault). f.at) (one_fault _ lacked.fault h.fault lacked.outcome_is h.outcome) }
    by_cases (inr (inr h)) =
        absurd (fault_apart _ lacked.fault lacked.outcome_is h.executes.next)

-- ---- a page was brought in

-- the frame that a page table word names
named_frame : (frame : ℕ) (v : Option ℕ) → resident_ptw frame ≡ ptw_of_page v → v ≡ Some frame
named_frame frame None e = absurd (omega (arith, e))
named_frame frame (Some f) e = let same : f ≡ frame = omega (arith, e) in ap Some same

-- a page that is in a frame
held_page : (b : Bool) (v : Option ℕ) (frame : ℕ) → frame_by b v ≡ Some frame → (b ≡ true) × (v ≡ Some frame)
held_page true v frame e = (refl, e)
held_page false v frame e = cc

each_of_all : {A : Type 0} (P Q : A → Type 0) → ((e : A) → P e → Q e) → (xs : List A) → All P xs → Each Q xs
each_of_all P Q f [] h = tt
each_of_all P Q f (x ∷ xs) h =
    (f x (h 0 x (omega arith)), each_of_all P Q f xs (λ k d lt. h (suc k) d (omega (arith, lt))))

-- no reference is to a page that is not pinned
unreferenced : (refs : List Reference) (seg page : ℕ) → is_pinned refs (Some (seg, page)) ≡ false → IsUnreferenced refs seg page
unreferenced refs seg page free =
    let P : Reference → Type 0 = λ e. (e.at.seg ≡ seg) × (e.at.word / 1024 ≡ page) → ⊥ in
    each_of_all P P (λ e h. h) refs
    (λ i d below same.
    let e : Reference = slice_index_or refs i d in
    let here : refers_to_page (seg, page) e ≡ true = and_from _ _ (eq-eqb e.at.seg seg same.0) (eq-eqb (e.at.word / 1024) page same.1) in
    let any : list_any (refers_to_page (seg, page)) refs ≡ true = list_any_at (refers_to_page (seg, page)) refs i d below here in
    absurd (cc))

module _ (old : State (List ℕ)) (p q : PagerFields) (now : List ℕ) (runs : IsRunning (length p.holders) old.regs old.store p) (fault : IsPageFault (kept_word p) old) where
  abbrev frames : ℕ
  frames = length p.holders

  abbrev mid : List ℕ
  mid = (state_after core_store old).store

  abbrev refs : List Reference
  refs = (record_of core_store old).refs.items

  abbrev seg : ℕ
  seg = fault.fault.at.seg

  abbrev page : ℕ
  page = fault.fault.at.word / 1024

  managed_mid : IsManaged frames mid p
  managed_mid = step_managed frames old p runs.dbr runs.managed

  lacked : IsAbsent old.store seg page
  lacked = lacking_page old.store frames seg fault.fault.at.word runs.managed.pages.laid fault.lacks

  has : has_page p seg page ≡ true
  has = runs.managed.pages.serves seg page lacked.is

  -- the places of page table words
  spot_at : (s n : ℕ) → has_page p s n ≡ true → spot_of p s n ≡ table_at s + n
  spot_at = managed_mid.pages.at

  -- the page is in no frame after the step either
  out : frame_of p mid seg page ≡ None
  unfolding frame_of
  out =
      let step = paged_step_law frames (kept_word p) old runs.dbr runs.managed.pages.laid in
      frame_absent _ (ap (λ (a : ℕ). unmarked (slice_index mid a)) (spot_at seg page has) ∙ step.pages seg page lacked.is ∙ lacked.word)

  -- a frame holds a page if and only if core has the page there
  occupies : (k s n : ℕ) → Holds p k s n → Occupies mid s n (p.first + k)
  occupies k s n holds =
      let here = managed_mid.pages.pager.held k s n holds in
      record {
        is = managed_mid.pages.exact s n here;
        word = ap (λ (a : ℕ). unmarked (slice_index mid a)) (sym (spot_at s n here)) ∙ managed_mid.reads.frames k s n holds;
      }

  held_by : (k s n w : ℕ) → unmarked w ≡ resident_ptw (p.first + k) → NamesFrame p s n w → Holds p k s n
  held_by k s n w e (inl absent) = absurd (omega (arith, e, absent))
  held_by k s n w e (inr there) =
      let word = there.2 in
      let same : there.0 ≡ k = omega (arith, e, word) in
      subst (λ (j : ℕ). Holds p j s n) same there.1

  holds_it : (k s n : ℕ) → Occupies mid s n (p.first + k) → Holds p k s n
  holds_it k s n h =
      let here = managed_mid.pages.serves s n h.is in
      held_by k s n (slice_index mid (spot_of p s n)) (ap (λ (a : ℕ). unmarked (slice_index mid a)) (spot_at s n here) ∙ h.word) (managed_mid.reads.pages s n here)

  may_lose_used : (a : ℕ) → IsUnpinnedPtwPlace p refs a → MayLoseUsedBit mid refs a
  may_lose_used a f =
      record {
        seg = f.seg;
        page = f.page;
        frame = p.first + f.k;
        occupies = occupies f.k f.seg f.page f.holds;
        free = unreferenced refs f.seg f.page f.free;
        is = sym (spot_at f.seg f.page (managed_mid.pages.pager.held f.k f.seg f.page f.holds)) ∙ f.is;
      }

  module _ (brought : IsBrought p mid q now seg page refs) (reads : AgreesWithCore q now) (pager : IsPager q) where
    paging : IsPaging frames mid now p q
    paging = paging_law frames mid now p q managed_mid pager reads brought.kept

    abbrev frame : ℕ
    frame = p.first + brought.k

    comes : slice_index now (table_at seg + page) ≡ resident_ptw frame
    comes = ap (slice_index now) (sym (spot_at seg page has)) ∙ brought.spot out

    in_frame : paging.moved.after seg page ≡ Some frame
    in_frame =
        let is = paging.manages.pages.exact seg page (brought.kept.shape.pages seg page ∙ has) in
        named_frame frame (paging.moved.after seg page) (sym (resident_unmarked frame) ∙ sym (ap unmarked comes) ∙ paging.moved.residence_after.words seg page is)

    goes : (s n : ℕ) → Occupies mid s n frame → slice_index now (table_at s + n) ≡ absent_ptw
    goes s n h =
        ap (slice_index now) (sym (spot_at s n (managed_mid.pages.serves s n h.is))) ∙ brought.away s n out (holds_it brought.k s n h)

    passed : (a : ℕ) → OnlyMarkCleared (IsUnpinnedPtwPlace p refs) mid now a → (slice_index now a ≡ slice_index mid a) ⊎ (MayLoseUsedBit mid refs a × (slice_index now a ≡ without_used (slice_index mid a)))
    passed a (inl e) = inl e
    passed a (inr e) = inr (may_lose_used a e.0, e.1)

    words : (a : ℕ) → ((a ≡ table_at seg + page) → ⊥) → ((s n : ℕ) → Occupies mid s n frame → (a ≡ table_at s + n) → ⊥) → IsOutsideFrame frame a → (slice_index now a ≡ slice_index mid a) ⊎ (MayLoseUsedBit mid refs a × (slice_index now a ≡ without_used (slice_index mid a)))
    words a other others range =
        passed a
        (brought.words a (λ e. other (e ∙ spot_at seg page has))
        (λ s n holds e. others s n (occupies brought.k s n holds) (e ∙ spot_at s n (managed_mid.pages.pager.held brought.k s n holds)))
        range)

    kept : (s w : ℕ) → (Occupies mid s (w / 1024) frame → ⊥) → kept_word q s w ≡ kept_word p s w
    kept s w free = brought.others_kept s w (λ holds. free (occupies brought.k s (w / 1024) holds))

    stays_in : (e : Reference) → Stays p mid q now e → StaysIn paging.moved.before paging.moved.after e
    stays_in e stays frame before =
        let held = held_page _ _ frame (sym (paging.before_is e.at.seg (e.at.word / 1024)) ∙ before) in
        paging.after_is e.at.seg (e.at.word / 1024)
        ∙ frame_true _ (frame_of q now e.at.seg (e.at.word / 1024)) (brought.kept.shape.pages e.at.seg (e.at.word / 1024) ∙ held.0)
        ∙ stays held.0 frame held.1

    tried_at : (regs : RegsFields) → regs ≡ (state_after core_store old).regs → HasBroughtPage old p (record { regs = regs; store = now }) q
    tried_at regs same =
        let back : (state_after core_store old).regs ≡ old.regs = ap (λ (s : State Flat). s.regs) fault.state in
        let count = brought.kept.shape.frames in
        record {
          served =
              record {
                fault = fault;
                regs = same ∙ back;
                service =
                    record {
                      moved = paging.moved;
                      stay = each_of_all (Stays p mid q now) (StaysIn paging.moved.before paging.moved.after) stays_in refs brought.stays;
                      frame = frame;
                      brought = in_frame;
                      comes = comes;
                      goes = goes;
                      words = words;
                      kept = kept;
                    };
              };
          frames = count;
          runs =
              record {
                dbr = ap (λ (r : RegsFields). r.dbr) (same ∙ back) ∙ runs.dbr;
                managed = subst (λ (n : ℕ). IsManaged n now q) (sym count) paging.manages;
              };
        }

-- ---- the parts of an attempt

pub bring_managed : (old later : State (List ℕ)) (p : PagerFields) → later ≡ state_after core_store old → IsRunning (length p.holders) old.regs old.store p → IsManaged (length p.holders) later.store p
bring_managed old later p mid_is runs =
    subst (λ (s : State (List ℕ)). IsManaged (length p.holders) s.store p) (sym mid_is) (step_managed (length p.holders) old p runs.dbr runs.managed)

pub bring_few : (old : State (List ℕ)) (told : StepRecord) → told ≡ record_of core_store old → length told.refs.items ≤ references_of_a_step
bring_few old told told_is =
    subst (λ (e : StepRecord). length e.refs.items ≤ references_of_a_step) (sym told_is) (few_references old)

fault_at : (old : State (List ℕ)) (p : PagerFields) (told : StepRecord) (at : AtFields) → told ≡ record_of core_store old → IsRunning (length p.holders) old.regs old.store p → IsAbsentWord told.outcome at → IsFaultAt (kept_word p) old at
fault_at old p told at told_is runs lacked =
    page_fault (length p.holders) (kept_word p) old at runs.dbr runs.managed.pages.laid (subst (λ (e : StepRecord). IsAbsentWord e.outcome at) told_is lacked)

pub bring_page : (old : State (List ℕ)) (p : PagerFields) (told : StepRecord) (at : AtFields) → told ≡ record_of core_store old → IsRunning (length p.holders) old.regs old.store p → IsAbsentWord told.outcome at → has_page p at.seg (at.word / 1024) ≡ true
bring_page old p told at told_is runs lacked =
    let f = fault_at old p told at told_is runs lacked in
    subst (λ (a : AtFields). has_page p a.seg (a.word / 1024) ≡ true) (sym f.at_is) (has old p p old.store runs f.fault)

pub tried : (old mid new : State (List ℕ)) (p q : PagerFields) (told : StepRecord) (at : AtFields) → told ≡ record_of core_store old → mid ≡ state_after core_store old → IsRunning (length p.holders) old.regs old.store p → IsAbsentWord told.outcome at → new.regs ≡ mid.regs → IsBrought p mid.store q new.store at.seg (at.word / 1024) told.refs.items → AgreesWithCore q new.store → IsPager q → HasBroughtPage old p new q
tried old mid new p q told at told_is mid_is runs lacked regs brought reads pager =
    let f = fault_at old p told at told_is runs lacked in
    let b1 = subst (λ (e : StepRecord). IsBrought p mid.store q new.store at.seg (at.word / 1024) e.refs.items) told_is brought in
    let b2 = subst (λ (s : State (List ℕ)). IsBrought p s.store q new.store at.seg (at.word / 1024) (record_of core_store old).refs.items) mid_is b1 in
    let b3 = subst (λ (a : AtFields). IsBrought p (state_after core_store old).store q new.store a.seg (a.word / 1024) (record_of core_store old).refs.items) f.at_is b2 in
    tried_at old p q new.store runs f.fault b3 reads pager new.regs (regs ∙ ap (λ (s : State (List ℕ)). s.regs) mid_is)

pub taken : (old new : State (List ℕ)) (p q : PagerFields) (told : StepRecord) → told ≡ record_of core_store old → new ≡ state_after core_store old → IsNoPageFault told.outcome → q ≡ p → IsFullStep old p new q told
taken old new p q told told_is state present same =
    record { step = record { told_is = told_is; state = state; pager = same }; present = present }

pub ruleset attempts = (bring_managed, bring_few, bring_page, tried, taken)
