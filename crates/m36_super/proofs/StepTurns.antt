-- A step with its page services is a turn of the booted run, and keeps `IsManaged`.
use Rattle.std.proofs.Common.{◌≡◌, refl, sym, ◌∙◌, ap, subst, inl, inr, arith}
use Rattle.std.specs.Prelude.{ℕ, zero, suc, ◌+◌, ◌-◌, ◌<◌, ◌≤◌, ◌⊎◌, Bool, true, false, List, length}
use Rattle.m36_model.specs.Store.{State}
use Rattle.m36_model.specs.Core.{core_store}
use Rattle.m36_model.specs.Laws.{ExecutesLdbr}
use Rattle.m36_model.specs.Step.{record_of, state_after}
use Rattle.m36_model.specs.BootedCore.{booted_dbr}
use Rattle.m36_model.specs.PagedStep.{IsNoPageFault, IsFlatStep, IsPageFault, IsAbsaStep}
use Rattle.m36_model.specs.declared.record.StepRecord.{StepRecord}
use Rattle.m36_isol.specs.PageServices.{PagedState, IsPageFaultServed, ArePageFaultsServed}
use Rattle.m36_isol.proofs.PagedStep.{paged_step_law}
use Rattle.m36_isol.proofs.PageLaw.{pages_law}
use Rattle.m36_link.specs.Fields.{KnownFields}
use Rattle.m36_page.specs.Fields.{PagerFields}
use Rattle.m36_page.specs.Residence.{kept_word}
use Rattle.m36_step.specs.declared.turns.Turn.TheVariants.{Stepped}
use Rattle.m36_super.specs.NextEvent.{NextEvent, event_after_outcome, loaded_after}
use Rattle.m36_super.specs.BootedRun.{IsStepTurn}
use Rattle.m36_super.specs.SuperFields.{paged_of, run_of, IsRunning, RunningUntilLdbr}
use Rattle.m36_super.specs.Stepping.{HasBroughtPage, IsFullStep, IsStepped, StepContract}
use Rattle.m36_super.proofs.Paging.{step_managed}
use Rattle.m36_super.proofs.Turns.{not_loaded}
use Rattle.m36_super.proofs.SystemTurns.{due_after}

-- ---- services one after another

served_more : (frames n : ℕ) (old mid new : PagedState) → ArePageFaultsServed frames n old mid → IsPageFaultServed frames mid new → ArePageFaultsServed frames (suc n) old new
unfolding ArePageFaultsServed
served_more frames zero old mid new so_far one =
    let P : PagedState → Type 0 = λ s. IsPageFaultServed frames s new in
    (new, subst P so_far one, refl)
served_more frames (suc n) old mid new so_far one =
    (so_far.0, so_far.1, served_more frames n so_far.0 mid new so_far.2 one)

-- `left` services may still follow.
pub record IsServing (old : State (List ℕ)) (p : PagerFields) (now : State (List ℕ)) (q : PagerFields) (left : ℕ) : Type 0 where
  pub services : ℕ
  pub count : services + left ≡ 18
  pub served : ArePageFaultsServed (length p.holders) services (paged_of old p) (paged_of now q)
  pub frames : length q.holders ≡ length p.holders
  pub runs : IsRunning (length q.holders) now.regs now.store q
  pub first : IsRunning (length p.holders) old.regs old.store p

pub serving_first : (old : State (List ℕ)) (p : PagerFields) → IsRunning (length p.holders) old.regs old.store p → IsServing old p old p 18
unfolding ArePageFaultsServed
serving_first old p runs =
    record { services = 0; count = refl; served = refl; frames = refl; runs = runs; first = runs }

pub serving_more : (old mid now : State (List ℕ)) (p q r : PagerFields) (left : ℕ) → 0 < left → IsServing old p mid q left → HasBroughtPage mid q now r → IsServing old p now r (left - 1)
serving_more old mid now p q r left some h t =
    let count = h.count in
    let more : suc h.services + (left - 1) ≡ 18 = omega arith in
    record {
      services = suc h.services;
      count = more;
      served = served_more (length p.holders) h.services (paged_of old p) (paged_of mid q) (paged_of now r) h.served (subst (λ (n : ℕ). IsPageFaultServed n (paged_of mid q) (paged_of now r)) h.frames t.served);
      frames = t.frames ∙ h.frames;
      runs = t.runs;
      first = h.first;
    }

taken_again : (mid now : State (List ℕ)) (q r : PagerFields) (told : StepRecord) → IsFullStep mid q now r told → IsFullStep mid r now r told
taken_again mid now q r told t =
    record { step = record { told_is = t.step.told_is; state = t.step.state; pager = refl }; present = t.present }

pub serving_done : (old mid now : State (List ℕ)) (p q r : PagerFields) (told : StepRecord) (left : ℕ) → IsServing old p mid q left → IsFullStep mid q now r told → IsStepped old p now r told
serving_done old mid now p q r told left h t =
    let count = h.count in
    let same = sym t.step.pager in
    record {
      last = mid;
      services = h.services;
      few = omega arith;
      served = subst (λ (x : PagerFields). ArePageFaultsServed (length p.holders) h.services (paged_of old p) (paged_of mid x)) same h.served;
      frames = subst (λ (x : PagerFields). length x.holders ≡ length p.holders) same h.frames;
      runs = subst (λ (x : PagerFields). IsRunning (length x.holders) mid.regs mid.store x) same h.runs;
      taken = taken_again mid now q r told t;
    }

-- after the last of them no page is missing
pub serving_last : (old mid now : State (List ℕ)) (p q r : PagerFields) (told : StepRecord) (left : ℕ) → left ≤ 0 → IsServing old p mid q left → told ≡ record_of core_store mid → now ≡ state_after core_store mid → r ≡ q → IsStepped old p now r told
serving_last old mid now p q r told left none h told_is state same =
    let count = h.count in
    let all : h.services ≡ 18 = omega arith in
    let served = subst (λ (n : ℕ). ArePageFaultsServed (length p.holders) n (paged_of old p) (paged_of mid q)) all h.served in
    let present : IsNoPageFault (record_of core_store mid).outcome = pages_law (length p.holders) (paged_of old p) (paged_of mid q) h.first.dbr h.first.managed.pages.laid served in
    serving_done old mid now p q r told left h (record {
      step = record { told_is = told_is; state = state; pager = same };
      present = subst (λ (e : StepRecord). IsNoPageFault e.outcome) (sym told_is) present;
    })

-- ---- the turn

pub frames_kept : (loaded : Bool) (old new : State (List ℕ)) (p q : PagerFields) (told : StepRecord) → StepContract loaded old p new q told → length q.holders ≡ length p.holders
frames_kept false old new p q told h = h.frames
frames_kept true old new p q told h = ap (λ (x : PagerFields). length x.holders) h.pager

pub step_turn : (loaded after : Bool) (old new : State (List ℕ)) (p q : PagerFields) (told : StepRecord) (known : KnownFields) (next_event next : NextEvent) → StepContract loaded old p new q told → after ≡ loaded_after loaded told → next ≡ event_after_outcome after told.ppr.prr told.outcome → IsStepTurn loaded (length p.holders) (run_of old p known next_event loaded) (Stepped told) (run_of new q known next after)
step_turn false after old new p q told known next_event next h after_is next_is =
    let e = h.taken.step.told_is in
    let s = h.taken.step.state in
    let loaded : after ≡ loaded_after false (record_of core_store h.last) = after_is ∙ ap (loaded_after false) e in
    let comes : next ≡ event_after_outcome (loaded_after false (record_of core_store h.last)) (record_of core_store h.last).ppr.prr (record_of core_store h.last).outcome = next_is ∙ (λ i. event_after_outcome (loaded i) (e i).ppr.prr (e i).outcome) in
    record {
      services = h.services;
      few = h.few;
      last = paged_of h.last q;
      served = h.served;
      present = subst (λ (x : StepRecord). IsNoPageFault x.outcome) e h.taken.present;
      takes = record {
        told = ap Stepped e;
        after_is = λ i. record {
          state = record { regs = (s i).regs; memory = record { core = (s i).store; kept = kept_word q } };
          known = known;
          next_event = comes i;
          loaded = loaded i;
        };
      };
    }
step_turn true after old new p q told known next_event next h after_is next_is =
    let e = h.told_is in
    let s = h.state in
    let same = h.pager in
    let loaded : after ≡ loaded_after true (record_of core_store old) = after_is ∙ ap (loaded_after true) e in
    let comes : next ≡ event_after_outcome (loaded_after true (record_of core_store old)) (record_of core_store old).ppr.prr (record_of core_store old).outcome = next_is ∙ (λ i. event_after_outcome (loaded i) (e i).ppr.prr (e i).outcome) in
    record {
      told = ap Stepped e;
      after_is = λ i. record {
        state = record { regs = (s i).regs; memory = record { core = (s i).store; kept = kept_word (same i) } };
        known = known;
        next_event = comes i;
        loaded = loaded i;
      };
    }

-- ---- the invariant after it

running_after : (last : State (List ℕ)) (q : PagerFields) (told : StepRecord) → IsRunning (length q.holders) last.regs last.store q → told ≡ record_of core_store last → IsNoPageFault told.outcome → loaded_after false told ≡ false → (state_after core_store last).regs.dbr ≡ booted_dbr
running_after last q told runs told_is present none =
    by_cases (paged_step_law (length q.holders) (kept_word q) last runs.dbr runs.managed.pages.laid).cases
  where
    by_dbr : ((state_after core_store last).regs.dbr ≡ booted_dbr) ⊎ ExecutesLdbr (record_of core_store last) → (state_after core_store last).regs.dbr ≡ booted_dbr
    by_dbr (inl same) = same
    by_dbr (inr executed_ldbr) =
        absurd (not_loaded (record_of core_store last) (subst (λ (e : StepRecord). loaded_after false e ≡ false) told_is none) executed_ldbr)

    by_cases : (IsFlatStep (kept_word q) last ⊎ IsPageFault (kept_word q) last ⊎ IsAbsaStep (kept_word q) last) → (state_after core_store last).regs.dbr ≡ booted_dbr
    by_cases (inl h) = by_dbr h.dbr
    by_cases (inr (inl h)) =
        absurd (subst IsNoPageFault h.outcome (subst (λ (e : StepRecord). IsNoPageFault e.outcome) told_is present) h.number)
    by_cases (inr (inr h)) = h.dbr

manages_by : (after : Bool) (new : State (List ℕ)) (q : PagerFields) (told : StepRecord) (last : State (List ℕ)) → loaded_after false told ≡ after → IsRunning (length q.holders) last.regs last.store q → IsFullStep last q new q told → RunningUntilLdbr after (length q.holders) new.regs new.store q
manages_by true new q told last e runs t = tt
manages_by false new q told last e runs t =
    let dbr = running_after last q told runs t.step.told_is t.present e in
    subst (λ (s : State (List ℕ)). IsRunning (length q.holders) s.regs s.store q) (sym t.step.state) (record { dbr = dbr; managed = step_managed (length q.holders) last q runs.dbr runs.managed })

pub step_manages : (loaded after : Bool) (old new : State (List ℕ)) (p q : PagerFields) (told : StepRecord) → StepContract loaded old p new q told → after ≡ loaded_after loaded told → RunningUntilLdbr after (length q.holders) new.regs new.store q
step_manages false after old new p q told h after_is =
    manages_by after new q told h.last (sym after_is) h.runs h.taken
step_manages true after old new p q told h after_is =
    subst (λ (b : Bool). RunningUntilLdbr b (length q.holders) new.regs new.store q) (sym after_is) tt

pub ruleset services = (serving_first, serving_more, serving_done, serving_last)

pub ruleset turns = (step_turn, step_manages, frames_kept, due_after)
