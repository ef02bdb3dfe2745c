-- What the next turn of a booted run is, given the steps before it.
use Rattle.std.specs.Prelude.{ℕ, Bool, true, false, ◌&&◌, nat_eq, Option, None, Some}
use Rattle.m36_inst.specs.declared.effect.Effect.{Effect}
use Rattle.m36_inst.specs.declared.effect.Effect.TheVariants as effect
use Rattle.m36_model.specs.Faults.{master_mode_entry, fault_tag_2}
use Rattle.m36_model.specs.Step.{decode}
use Rattle.m36_model.specs.declared.endings.End.TheVariants as end
use Rattle.m36_model.specs.declared.outcome.Fault.{Fault}
use Rattle.m36_model.specs.declared.outcome.Outcome.{Outcome}
use Rattle.m36_model.specs.declared.outcome.Outcome.TheVariants.{Next, Faulted, Stopped}
use Rattle.m36_model.specs.declared.record.StepRecord.{StepRecord}
pub use Rattle.m36_super.specs.declared.next_event.NextEvent.{NextEvent}
pub use Rattle.m36_super.specs.declared.next_event.NextEvent.TheVariants.{Step, Link, Print, Over}

-- The next turn after a fault, if no LDBR has been executed: a link service if it is that of fault
-- tag 2 (first flag), which a link to be snapped has; a console service if it is MME in ring 0
-- (second flag); the end of the run otherwise.
abbrev pub event_after_known_fault : Bool → Bool → Fault → NextEvent
event_after_known_fault true console f = Link f.at
event_after_known_fault false true f = Print
event_after_known_fault false false f = Over (end.Fault f)

-- the next turn after a fault in a ring; once an LDBR has been executed (true), the end
abbrev pub event_after_fault : Bool → ℕ → Fault → NextEvent
event_after_fault true ring f = Over (end.Fault f)
event_after_fault false ring f =
    event_after_known_fault (nat_eq f.number fault_tag_2)
    (nat_eq f.number master_mode_entry && nat_eq ring 0) f

-- the next turn after a step in a ring with this outcome; every stop ends the run
abbrev pub event_after_outcome : Bool → ℕ → Outcome → NextEvent
event_after_outcome loaded ring Next = Step
event_after_outcome loaded ring (Faulted f) = event_after_fault loaded ring f
event_after_outcome loaded ring (Stopped s) = Over (end.Stop s)

-- ---- whether an LDBR has been executed

-- the instruction is LDBR
abbrev pub is_ldbr : Option (Effect × ℕ) → Bool
is_ldbr None = false
is_ldbr (Some (effect.Ldbr, n)) = true
is_ldbr (Some (e, n)) = false

-- a step with this word and this outcome has executed an LDBR
abbrev pub executed_ldbr : Option ℕ → Outcome → Bool
executed_ldbr None outcome = false
executed_ldbr (Some w) Next = is_ldbr (decode w)
executed_ldbr (Some w) (Faulted f) = false
executed_ldbr (Some w) (Stopped s) = false

-- whether an LDBR has been executed, in this step or before it
abbrev pub loaded_after : Bool → StepRecord → Bool
loaded_after true e = true
loaded_after false e = executed_ldbr e.word e.outcome

-- the next turn after a step with this record; the flag is whether an LDBR was executed before it
abbrev pub next_event_after : Bool → StepRecord → NextEvent
next_event_after loaded e = event_after_outcome (loaded_after loaded e) e.ppr.prr e.outcome
