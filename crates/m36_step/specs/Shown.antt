-- Steps of which only what a trace line shows is recorded.
use Rattle.std.specs.Prelude.{ℕ, List, [], None}
use Rattle.m36_model.specs.Registers.{RegsFields}
use Rattle.m36_model.specs.Step.{program}
use Rattle.m36_model.specs.declared.outcome.Outcome.TheVariants.{Next}
use Rattle.m36_model.specs.declared.place.Reference.{Reference}
use Rattle.m36_model.specs.declared.record.Shown.{Shown}
use Rattle.m36_step.specs.Ended.{EndsAs}
use Rattle.m36_step.specs.declared.ended.Ended.{Ended}

-- the end that is recorded
abbrev pub shown_end : Shown → Ended
shown_end shown = record { word = shown.word; at = shown.at; outcome = shown.outcome }

-- an empty value, to be overwritten by a step, with the place of the current instruction
abbrev pub empty_shown : RegsFields → Shown
empty_shown g = record { word = None; at = None; outcome = Next; ppr = g.ppr }

-- The step ends in this way, with some references.
pub record EndsShown (g : RegsFields) (core core' : List ℕ) (after : RegsFields) (e : Ended)
    : Type 0 where
  pub refs : List Reference
  pub ends : EndsAs g (program g) core [] core' refs after e
