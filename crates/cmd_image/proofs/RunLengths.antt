-- A run that did not end used up its limit of steps.
use Rattle.std.proofs.Common.{◌≡◌, ℕ, zero, suc, List, ◌∷◌, length, refl, sym, ap, ◌∙◌}
use Rattle.m36_model.specs.Store.{State}
use Rattle.m36_model.specs.Run.{is_next, only_if}
use Rattle.m36_model.specs.declared.outcome.Outcome.{Outcome}
use Rattle.m36_model.specs.declared.outcome.Outcome.TheVariants.{Next, Faulted, Stopped}
use Rattle.m36_model.specs.declared.record.StepRecord.{StepRecord}
use Rattle.cmd_image.specs.Machine.{step_record, after}
use Rattle.cmd_image.specs.Run.{run, last_outcome}
use Rattle.cmd_image.specs.RunLaws.{LimitIsMet}
use Rattle.cmd_image.proofs.RunLaws.{run_more, run_none, last_after_next}

-- a run of at least one step, by the outcome of the first
abbrev pub run_by : Outcome → ℕ → State (List ℕ) → List StepRecord
run_by o left s = step_record s ∷ only_if (is_next o) (run left (after s))

met_by :
    (o : Outcome) (left : ℕ) (s : State (List ℕ))
    → (step_record s).outcome ≡ o
    → (last_outcome (run left (after s)) ≡ Next → length (run left (after s)) ≡ left)
    → last_outcome (run_by o left s) ≡ Next → length (run_by o left s) ≡ suc left
met_by Next left s is rest last =
    ap suc (rest (sym (last_after_next (step_record s) (run left (after s)) is) ∙ last))
met_by (Faulted fault) left s is rest last =
    let no : Faulted fault ≡ Next = sym is ∙ last in
    absurd (cc)
met_by (Stopped stop) left s is rest last =
    let no : Stopped stop ≡ Next = sym is ∙ last in
    absurd (cc)

met : (steps : ℕ) (s : State (List ℕ)) → last_outcome (run steps s) ≡ Next → length (run steps s) ≡ steps
met zero s last = ap length (run_none s)
met (suc left) s last =
    ap length (run_more left s)
    ∙ met_by (step_record s).outcome left s refl (met left (after s)) (sym (ap last_outcome (run_more left s)) ∙ last)

pub limit_is_met : LimitIsMet
limit_is_met steps state last = met steps state last
