-- The end of a step, as the code gives it and as the program of the step gives it over core; and
-- an empty record.
use Rattle.std.specs.Prelude.{ℕ, ◌≡◌, Bool, List, [], Option, Some, None}
use Rattle.m36_model.specs.Fields.{FinalFields}
use Rattle.m36_model.specs.Registers.{RegsFields}
use Rattle.m36_model.specs.Act.{Act}
use Rattle.m36_model.specs.Store.{ProgramResult, run}
use Rattle.m36_model.specs.Core.{core_store}
use Rattle.m36_model.specs.Step.{Ending, state_after_run, outcome_of, outcome_after}
use Rattle.m36_model.specs.declared.effects.Formed.{Formed}
use Rattle.m36_model.specs.declared.outcome.Halt.{Halt}
use Rattle.m36_model.specs.declared.outcome.Outcome.{Outcome}
use Rattle.m36_model.specs.declared.outcome.Outcome.TheVariants.{Next}
use Rattle.m36_model.specs.declared.place.Reference.{Reference}
use Rattle.m36_model.specs.declared.record.StepRecord.{StepRecord}
use Rattle.m36_walk.specs.Served.{midstep_with}
use Rattle.m36_ea.specs.Formed.{midstep_after_address}
use Rattle.m36_step.specs.declared.ended.Ended.{Ended}

-- the end of a step, with its references, and the registers and core after it
pub record StepEndState : Type 0 where
  pub word : Option ℕ
  pub at : Option FinalFields
  pub after : RegsFields
  pub outcome : Outcome
  pub refs : List Reference
  pub core : List ℕ

-- the end of a run of the program, after which the words are written together
abbrev pub end_of_run : ProgramResult Ending (List ℕ) → StepEndState
end_of_run t =
    record {
      word = t.value.word;
      at = t.value.at;
      after = t.value.after;
      outcome = t.value.outcome;
      refs = t.mid.refs;
      core = (state_after_run core_store t).store;
    }

-- the end that the code gives, with core, the references and the registers that it leaves
abbrev pub code_end : List ℕ → List Reference → RegsFields → Ended → StepEndState
code_end core refs after e =
    record {
      word = e.word;
      at = e.at;
      after = after;
      outcome = e.outcome;
      refs = refs;
      core = core;
    }

-- the end of a step that is refused
abbrev pub halted_end : Option ℕ → Option FinalFields → Halt → Ended
halted_end word at h = record { word = word; at = at; outcome = outcome_of h }

-- the end of a step whose effect is complete
abbrev pub completed_end : ℕ → FinalFields → Bool → Bool → RegsFields → Ended
completed_end word last overflow mask g =
    record { word = Some word; at = Some last; outcome = outcome_after overflow mask g }

-- the end in a record
abbrev pub end_in_record : StepRecord → Ended
end_in_record told = record { word = told.word; at = told.at; outcome = told.outcome }

-- an empty record with these registers
abbrev pub empty_record_of : RegsFields → StepRecord
empty_record_of g =
    record {
      refs = record { items = [] };
      after = g;
      word = None;
      at = None;
      outcome = Next;
      ppr = g.ppr;
    }

-- The program, run over core in a step that has completed these references and claimed no write,
-- ends as the code does.
abbrev pub EndsAs :
    RegsFields → Act Ending → List ℕ → List Reference → List ℕ → List Reference → RegsFields → Ended
    → Type 0
EndsAs g program core refs core' refs' g' e =
    end_of_run (run core_store g program (midstep_with core [] refs)) ≡ code_end core' refs' g' e

-- As `EndsAs`, once the address is formed: the step has claimed the tally word, if there is one.
abbrev pub EndsFormed :
    RegsFields → Act Ending → List ℕ → Formed → List Reference → List ℕ → List Reference
    → RegsFields → Ended → Type 0
EndsFormed g program core f refs core' refs' g' e =
    end_of_run (run core_store g program (midstep_after_address core f refs))
    ≡ code_end core' refs' g' e
