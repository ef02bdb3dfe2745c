-- What is recorded of a step by `Shown` is part of its record.
use Rattle.std.proofs.Common.{◌≡◌, ℕ, List, [], sym, ap, ◌∙◌}
use Rattle.m36_model.specs.Core.{core_store}
use Rattle.m36_model.specs.Registers.{RegsFields}
use Rattle.m36_model.specs.Shown.{shown_of}
use Rattle.m36_model.specs.Step.{record_of, state_after}
use Rattle.m36_model.specs.Store.{State}
use Rattle.m36_model.specs.declared.record.Shown.{Shown}
use Rattle.m36_model.specs.declared.record.StepRecord.{StepRecord}
use Rattle.m36_step.specs.Ended.{code_end}
use Rattle.m36_step.specs.Quick.{Steps}
use Rattle.m36_step.specs.Shown.{shown_end, EndsShown}
use Rattle.m36_step.specs.declared.ended.Ended.{Ended}
use Rattle.m36_step.proofs.Ends.{step_told, step_left}

-- a quick step
pub shown_on :
    (g : RegsFields) (core core' : List ℕ) (after : RegsFields) (shown : Shown)
    → Steps (λ _. Unit {0}) (λ _ e. shown_end shown ≡ e) g core core' after
    → EndsShown g core core' after (shown_end shown)
shown_on g core core' after shown steps =
    let t = steps.goes [] tt in record {
      refs = t.refs;
      ends = t.ends ∙ ap (λ (e : Ended). code_end core' t.refs after e) (sym t.tells);
    }

module _ (s : State (List ℕ)) (core : List ℕ) (after : RegsFields) (shown : Shown) (ends : EndsShown s.regs s.store core after (shown_end shown)) where
  pub step_shown : shown.ppr ≡ s.regs.ppr → shown ≡ shown_of (record_of core_store s)
  step_shown place =
      (λ i. record { word = shown.word; at = shown.at; outcome = shown.outcome; ppr = place i })
      ∙ sym (ap (λ (r : StepRecord). shown_of r) (step_told s core ends.refs after (shown_end shown) ends.ends))

  pub shown_after : after ≡ (record_of core_store s).after
  shown_after = sym (ap (λ (r : StepRecord). r.after) (step_told s core ends.refs after (shown_end shown) ends.ends))

  pub shown_left : record { regs = after; store = core } ≡ state_after core_store s
  shown_left = sym (step_left s core ends.refs after (shown_end shown) ends.ends)
