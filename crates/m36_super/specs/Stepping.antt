-- A step with its page services, over a processor and its pager.
use Rattle.std.specs.Prelude.{◌≡◌, ℕ, ◌≤◌, Bool, true, false, List, length, Option, Some, None}
use Rattle.m36_model.specs.Faults.{missing_page}
use Rattle.m36_model.specs.Fields.{AtFields}
use Rattle.m36_model.specs.Store.{State}
use Rattle.m36_model.specs.Core.{core_store}
use Rattle.m36_model.specs.Step.{record_of, state_after}
use Rattle.m36_model.specs.PagedStep.{IsNoPageFault}
use Rattle.m36_model.specs.declared.outcome.Fault.{Fault}
use Rattle.m36_model.specs.declared.outcome.Outcome.{Outcome}
use Rattle.m36_model.specs.declared.outcome.Outcome.TheVariants.{Faulted}
use Rattle.m36_model.specs.declared.record.StepRecord.{StepRecord}
use Rattle.m36_isol.specs.PageServices.{IsPageFaultServed, ArePageFaultsServed}
use Rattle.m36_isol.specs.PageServices.{pages_of_an_instruction}
use Rattle.m36_page.specs.Fields.{PagerFields}
use Rattle.m36_super.specs.SuperFields.{paged_of, IsRunning}

-- the step lacked the page of the word at `at`
pub record IsAbsentWord (outcome : Outcome) (at : AtFields) : Type 0 where
  pub fault : Fault
  pub outcome_is : outcome ≡ Faulted fault
  pub number : fault.number ≡ missing_page
  pub at_is : at ≡ fault.at

-- The step lacked the page of this word, or it lacked none.
abbrev pub AbsentWordResult : Outcome → Option AtFields → Type 0
AbsentWordResult outcome None = IsNoPageFault outcome
AbsentWordResult outcome (Some at) = IsAbsentWord outcome at

-- A step lacked a page, and the page was brought in.
pub record HasBroughtPage
    (old : State (List ℕ)) (p : PagerFields) (new : State (List ℕ)) (q : PagerFields) : Type 0
  where
    pub served : IsPageFaultServed (length p.holders) (paged_of old p) (paged_of new q)
    pub frames : length q.holders ≡ length p.holders
    pub runs : IsRunning (length q.holders) new.regs new.store q

-- A step over the current core, without page services, as after an LDBR.
pub record IsBareStep
    (old : State (List ℕ)) (p : PagerFields) (new : State (List ℕ)) (q : PagerFields)
    (told : StepRecord) : Type 0 where
  pub told_is : told ≡ record_of core_store old
  pub state : new ≡ state_after core_store old
  pub pager : q ≡ p

-- A step that lacked no page.
pub record IsFullStep
    (old : State (List ℕ)) (p : PagerFields) (new : State (List ℕ)) (q : PagerFields)
    (told : StepRecord) : Type 0 where
  pub step : IsBareStep old p new q told
  pub present : IsNoPageFault told.outcome

-- A try of a step: a page was brought in (true), or the step was taken (false).
abbrev pub AttemptResult :
    Bool → State (List ℕ) → PagerFields → State (List ℕ) → PagerFields → StepRecord → Type 0
AttemptResult true old p new q told = HasBroughtPage old p new q
AttemptResult false old p new q told = IsFullStep old p new q told

-- The pages that a step lacked were brought in, and then it was taken.
pub record IsStepped
    (old : State (List ℕ)) (p : PagerFields) (new : State (List ℕ)) (q : PagerFields)
    (told : StepRecord) : Type 0 where
  pub last : State (List ℕ)
  pub services : ℕ
  pub few : services ≤ pages_of_an_instruction
  pub served : ArePageFaultsServed (length p.holders) services (paged_of old p) (paged_of last q)
  pub frames : length q.holders ≡ length p.holders
  pub runs : IsRunning (length q.holders) last.regs last.store q
  pub taken : IsFullStep last q new q told

-- A step: with page services until an LDBR has been executed (false), and without them after that
-- (true).
abbrev pub StepContract :
    Bool → State (List ℕ) → PagerFields → State (List ℕ) → PagerFields → StepRecord → Type 0
StepContract false old p new q told = IsStepped old p new q told
StepContract true old p new q told = IsBareStep old p new q told
