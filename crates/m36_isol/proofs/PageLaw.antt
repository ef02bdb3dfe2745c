-- Consecutive page services: each attempt reaches one page more, and after 18 services there is no
-- page fault.
use Rattle.std.proofs.Common.{◌≡◌, refl, sym, ◌∙◌, ap, subst, arith}
use Rattle.std.specs.Prelude.{ℕ, zero, suc, ◌+◌, ◌/◌, ◌≢◌, ◌⊎◌, List, [], ◌∷◌, Option, Some, None}
use Rattle.std.proofs.Common.{inl, inr}
use Rattle.m36_model.specs.Registers.{RegsFields}
use Rattle.m36_model.specs.Store.{Midstep, State, run}
use Rattle.m36_model.specs.StoreLaw.{Each}
use Rattle.m36_model.specs.Core.{core_store}
use Rattle.m36_model.specs.Step.{Ending, program, record_of}
use Rattle.m36_model.specs.Flat.{Flat}
use Rattle.m36_model.specs.BootedCore.{booted_dbr, resident_ptw, absent_ptw, IsPage, IsLaid}
use Rattle.m36_model.specs.Residence.{Paged, flat_of, ptw_of_page, IsMoved, StaysIn}
use Rattle.m36_model.specs.PagedStep.{IsNoPageFault}
use Rattle.m36_model.specs.declared.outcome.Fault.{Fault}
use Rattle.m36_model.specs.declared.outcome.Outcome.{Outcome}
use Rattle.m36_model.specs.declared.outcome.Outcome.TheVariants.{Faulted}
use Rattle.m36_isol.specs.PageServices.{PagedState, core_state, stepped_memory, IsPageFaultServed, ArePageFaultsServed, PagesLaw}
use Rattle.m36_isol.proofs.MirrorStep.{EndsSo, StopsSo, EndPlaced, present_at, program_asks}
use Rattle.m36_isol.proofs.Booted.{StandsFor, stands_first}
use Rattle.m36_isol.proofs.PagedStep.{paged_step_law}
use Rattle.m36_isol.proofs.Moved.{same_descriptors, moved_law}
use Rattle.m36_isol.proofs.Plan.{program_plan}
use Rattle.m36_isol.proofs.Pages.{On}
use Rattle.m36_isol.proofs.Retry.{Holds, HoldsAt, Stand}
use Rattle.m36_isol.proofs.Tries.{Reaches, IsCut, EndsCut, cut_or}
use Rattle.m36_isol.proofs.Attempts.{no_cut, held_run, gets}

resident_apart : (frame : ℕ) → resident_ptw frame ≡ absent_ptw → ⊥
resident_apart frame h = omega arith

none_apart : (v : Option ℕ) (frame : ℕ) → v ≡ None → v ≡ Some frame → ⊥
none_apart v frame e f = cc

-- two facts about each element of a list give a third
each_two : {A : Type 0} (P Q R : A → Type 0) → ((x : A) → P x → Q x → R x) → (xs : List A) → Each P xs → Each Q xs → Each R xs
each_two P Q R f [] h k = tt
each_two P Q R f (x ∷ xs) h k = (f x h.0 k.0, each_two P Q R f xs h.1 k.1)

-- ---- after pages have moved
module _ (frames : ℕ) (old new : Paged) (moved : IsMoved frames old new) where
  page_before : (seg page : ℕ) → IsPage new.core seg page → IsPage old.core seg page
  page_before seg page p =
      record { sdw = p.sdw; live = sym (same_descriptors old.core new.core moved.descriptors seg) ∙ p.live; begins = p.begins }

  brought_by : (seg page : ℕ) (v : Option ℕ) → moved.after seg page ≡ v → v ≢ None → Holds new.core seg page
  brought_by seg page None e some p absent = some refl
  brought_by seg page (Some frame) e some p absent =
      resident_apart frame (sym (moved.residence_after.words seg page p ∙ ap ptw_of_page e) ∙ absent)

  stayed_by : (seg page : ℕ) (v w : Option ℕ) → moved.after seg page ≡ v → moved.before seg page ≡ w → ((frame : ℕ) → moved.before seg page ≡ Some frame → moved.after seg page ≡ Some frame) → Holds old.core seg page → Holds new.core seg page
  stayed_by seg page (Some frame) w e f stay holds p absent =
      resident_apart frame (sym (moved.residence_after.words seg page p ∙ ap ptw_of_page e) ∙ absent)
  stayed_by seg page None (Some frame) e f stay holds p absent =
      none_apart (moved.after seg page) frame e (stay frame f)
  stayed_by seg page None None e f stay holds p absent =
      let before = page_before seg page p in
      holds before (moved.residence_before.words seg page before ∙ ap ptw_of_page f)

  stayed : (seg page : ℕ) → ((frame : ℕ) → moved.before seg page ≡ Some frame → moved.after seg page ≡ Some frame) → Holds old.core seg page → Holds new.core seg page
  stayed seg page stay holds =
      stayed_by seg page (moved.after seg page) (moved.before seg page) refl refl stay holds

-- ---- one service
abbrev Any : ℕ → ℕ → Ending → Type 0
Any n k e = Unit {0}

module _ (frames : ℕ) where
  abbrev ReachesState : ℕ → RegsFields → List ℕ → Type 0
  ReachesState k g core =
      Reaches g k None (program g) (record { store = core; claims = []; refs = [] })

  -- core is that of the booted image, and the step from here reaches k new pages
  record IsReady (k : ℕ) (s : PagedState) : Type 0 where
    dbr : s.regs.dbr ≡ booted_dbr
    laid : IsLaid s.memory.core frames
    reaches : ReachesState k s.regs s.memory.core

  abbrev begin : {S : Type 0} → S → Midstep S
  begin s = record { store = s; claims = []; refs = [] }

  -- the beginning of two steps over one flat memory
  first_stands : (g : RegsFields) (dbr : g.dbr ≡ booted_dbr) (core : List ℕ) (laid : IsLaid core frames) (kept : ℕ → ℕ → ℕ) (f : Flat) → flat_of (record { core = core; kept = kept }) ≡ f → Stand core frames laid kept g dbr f (begin core) (begin f)
  first_stands g dbr core laid kept f e =
      record { mirrors = subst (λ (x : Flat). StandsFor core frames laid kept core x) e (stands_first core frames laid kept); still = refl; claims = tt; refs = refl }

  -- a step that ends with a page fault ends at this page
  cut_from : (g : RegsFields) (core : List ℕ) (fault : Fault) → (record_of core_store (record { regs = g; store = core })).outcome ≡ Faulted fault → fault.number ≡ 17 → IsCut g fault (program g) (begin core)
  unfolding record_of
  cut_from g core fault outcome number =
      by_end (cut_or g (EndsSo g) (StopsSo g) (EndPlaced g) (present_at g) (program g) (begin core) (program_asks g))
    where
      one_fault : (o : Outcome) (a b : Fault) → o ≡ Faulted a → o ≡ Faulted b → a ≡ b
      one_fault o a b e f = cc

      by_end : EndsSo g (run core_store g (program g) (begin core)).value ⊎ EndsCut g (EndsSo g) (StopsSo g) (EndPlaced g) (present_at g) (program g) (begin core) → IsCut g fault (program g) (begin core)
      by_end (inl h) = absurd (subst IsNoPageFault outcome h.present number)
      by_end (inr k) =
          subst (λ (f : Fault). IsCut g f (program g) (begin core)) (one_fault _ k.fault fault k.stops.outcome outcome) k.is_cut

  -- the pages that a step has referenced are in frames
  all_held : (g : RegsFields) (dbr : g.dbr ≡ booted_dbr) (core : List ℕ) (laid : IsLaid core frames) (kept : ℕ → ℕ → ℕ) → Each (On (Holds core)) (record_of core_store (record { regs = g; store = core })).refs.items
  unfolding record_of
  all_held g dbr core laid kept =
      held_run g dbr (flat_of (record { core = core; kept = kept })) (EndsSo g) (StopsSo g) (EndPlaced g) (present_at g) Any core frames laid kept (program g) 18 20 None (begin core) _ (program_plan g) (program_asks g) (first_stands g dbr core laid kept _ refl) tt

  next_reaches : (k : ℕ) (g : RegsFields) (dbr : g.dbr ≡ booted_dbr) (core : List ℕ) (laid : IsLaid core frames) (kept : ℕ → ℕ → ℕ) (now : List ℕ) (now_laid : IsLaid now frames) (now_kept : ℕ → ℕ → ℕ) → flat_of (record { core = now; kept = now_kept }) ≡ flat_of (record { core = core; kept = kept }) → (fault : Fault) → (record_of core_store (record { regs = g; store = core })).outcome ≡ Faulted fault → fault.number ≡ 17 → Each (On (Holds now)) (record_of core_store (record { regs = g; store = core })).refs.items → HoldsAt now fault.at → ReachesState k g core → ReachesState (suc k) g now
  unfolding record_of
  next_reaches k g dbr core laid kept now now_laid now_kept same fault outcome number refs at r =
      gets g dbr (flat_of (record { core = core; kept = kept })) (EndsSo g) (StopsSo g) (EndPlaced g) (present_at g) Any frames core laid kept now now_laid now_kept (program g) k 18 20 None (begin core) (begin now) _ fault (program_plan g) (program_asks g) (first_stands g dbr core laid kept _ refl) (first_stands g dbr now now_laid now_kept _ same) tt tt r (cut_from g core fault outcome number) refs at

  one_service : (k : ℕ) (old new : PagedState) → IsReady k old → IsPageFaultServed frames old new → IsReady (suc k) new
  one_service k old new ready served =
      let g = old.regs in
      let core = old.memory.core in
      let step = paged_step_law frames old.memory.kept (core_state old) ready.dbr ready.laid in
      let service = served.service in
      let moved = service.moved in
      let image = moved_law frames (stepped_memory old) new.memory step.laid moved in
      let fault = served.fault in
      let flat : flat_of new.memory ≡ flat_of old.memory = image.flat ∙ ap (λ (s : State Flat). s.store) fault.state in
      let here = fault.fault in
      -- a page of the core before the step is one of the core after it
      let after : (seg page : ℕ) → Holds core seg page → Holds (stepped_memory old).core seg page = λ seg page holds p absent. let before : IsPage core seg page = record { sdw = p.sdw; live = sym (same_descriptors core (stepped_memory old).core step.descriptors seg) ∙ p.live; begins = p.begins } in holds before (sym (step.pages seg page before) ∙ absent) in
      let refs : Each (On (Holds new.memory.core)) (record_of core_store (core_state old)).refs.items = each_two (On (Holds core)) (StaysIn moved.before moved.after) (On (Holds new.memory.core)) (λ e holds stay. stayed frames (stepped_memory old) new.memory moved e.at.seg (e.at.word / 1024) stay (after e.at.seg (e.at.word / 1024) holds)) _ (all_held g ready.dbr core ready.laid old.memory.kept) service.stay in
      let at : HoldsAt new.memory.core here.at = brought_by frames (stepped_memory old) new.memory moved here.at.seg (here.at.word / 1024) _ refl (λ none. none_apart _ service.frame none service.brought) in
      let reaches = next_reaches k g ready.dbr core ready.laid old.memory.kept new.memory.core image.laid new.memory.kept flat here fault.outcome fault.number refs at ready.reaches in
      record {
        dbr = ap (λ (r : RegsFields). r.dbr) served.regs ∙ ready.dbr;
        laid = image.laid;
        reaches = subst (λ (r : RegsFields). ReachesState (suc k) r new.memory.core) (sym served.regs) reaches;
      }

  all_services : (n k : ℕ) (old new : PagedState) → IsReady k old → ArePageFaultsServed frames n old new → IsReady (k + n) new
  unfolding ArePageFaultsServed
  all_services zero k old new ready same =
      let m : k ≡ k + 0 = omega arith in
      subst (λ (i : ℕ). IsReady i new) m (subst (IsReady k) (sym same) ready)
  all_services (suc n) k old new ready served =
      let m : suc k + n ≡ k + suc n = omega arith in
      subst (λ (i : ℕ). IsReady i new) m (all_services n (suc k) served.0 new (one_service k old served.0 ready served.1) served.2)

  -- a step that reaches 18 new pages has no page fault
  ends_present : (g : RegsFields) (dbr : g.dbr ≡ booted_dbr) (core : List ℕ) (laid : IsLaid core frames) (kept : ℕ → ℕ → ℕ) → ReachesState 18 g core → IsNoPageFault (record_of core_store (record { regs = g; store = core })).outcome
  unfolding record_of
  ends_present g dbr core laid kept reaches =
      by_end (cut_or g (EndsSo g) (StopsSo g) (EndPlaced g) (present_at g) (program g) (begin core) (program_asks g))
    where
      by_end : EndsSo g (run core_store g (program g) (begin core)).value ⊎ EndsCut g (EndsSo g) (StopsSo g) (EndPlaced g) (present_at g) (program g) (begin core) → IsNoPageFault (run core_store g (program g) (begin core)).value.outcome
      by_end (inl h) = h.present
      by_end (inr k) =
          absurd (no_cut g dbr (flat_of (record { core = core; kept = kept })) (EndsSo g) (StopsSo g) (EndPlaced g) (present_at g) Any core frames laid kept (program g) 18 20 18 None (begin core) _ k.fault (program_plan g) (program_asks g) (first_stands g dbr core laid kept _ refl) tt (omega arith) reaches k.is_cut)

pub pages_law : PagesLaw
pages_law frames old new dbr laid served =
    let ready = all_services frames 18 0 old new (record { dbr = dbr; laid = laid; reaches = tt }) served in
    ends_present frames new.regs ready.dbr new.memory.core ready.laid new.memory.kept ready.reaches
