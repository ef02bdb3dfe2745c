-- What the line of a step shows of it.
use Rattle.m36_model.specs.declared.record.StepRecord.{StepRecord}
use Rattle.m36_model.specs.declared.record.Shown.{Shown}

-- what a record shows, besides the registers after the step
abbrev pub shown_of : StepRecord → Shown
shown_of r = record { word = r.word; at = r.at; outcome = r.outcome; ppr = r.ppr }
