-- What holds for every booted run until an LDBR is executed: the core stays laid out as that of
-- the image, and each turn that executes no ABSA and does not run out of memory is the turn of the
-- flat run.
use Rattle.std.specs.Prelude.{◌≡◌, ◌⊎◌, ◌↔◌, true, false, List, length}
use Rattle.m36_model.specs.StoreLaw.{Each}
use Rattle.m36_model.specs.Audit.{IsAudited}
use Rattle.m36_model.specs.Laws.{ExecutesLdbr}
use Rattle.m36_model.specs.BootedCore.{booted_dbr}
use Rattle.m36_model.specs.PagedStep.{ExecutesAbsa}
use Rattle.m36_model.specs.declared.record.StepRecord.{StepRecord}
use Rattle.m36_step.specs.declared.turns.Turn.{Turn}
use Rattle.m36_step.specs.declared.turns.Turn.TheVariants.{Stepped, Linked, Console, Ended, Full}
use Rattle.m36_step.specs.declared.turns.Turn.TheVariants.{NoMemory}
use Rattle.m36_super.specs.Library.{Library}
use Rattle.m36_super.specs.NextEvent.{executed_ldbr, loaded_after}
use Rattle.m36_super.specs.FlatRun.{flat_turn, flat_turns}
use Rattle.m36_super.specs.BootedRun.{Booted, IsTurn, AreTurns, LaidOutUntilLdbr, flat_run_of}

-- A step counts as loading the DBR exactly if it executes an LDBR.
abbrev pub LoadsLaw : Type 0
LoadsLaw = (e : StepRecord) → (executed_ldbr e.word e.outcome ≡ true) ↔ ExecutesLdbr e

-- the turn executes ABSA
abbrev pub TurnExecutesAbsa : Turn → Type 0
TurnExecutesAbsa (Stepped e) = ExecutesAbsa e
TurnExecutesAbsa (Linked note) = ⊥
TurnExecutesAbsa (Console text) = ⊥
TurnExecutesAbsa (Ended e) = ⊥
TurnExecutesAbsa Full = ⊥
TurnExecutesAbsa NoMemory = ⊥

-- the turn and the state after it are those of the flat run
pub record IsFlatTurn (lib : Library) (before : Booted) (turn : Turn)
    (after : Booted) : Type 0 where
  pub turn_is : turn ≡ (flat_turn lib (flat_run_of before)).turn
  pub after_is : flat_run_of after ≡ (flat_turn lib (flat_run_of before)).after

-- Until an LDBR is executed, a turn is that of the flat run, or runs out of memory, or executes
-- ABSA, and then the turn of the flat run does too. The core stays laid out as that of the image.
pub record ObeysTurnLaw (lib : Library) (before : Booted) (turn : Turn)
    (after : Booted) : Type 0 where
  pub cases :
      IsFlatTurn lib before turn after ⊎ ((turn ≡ NoMemory) × (after ≡ before))
      ⊎ TurnExecutesAbsa turn
  pub locates : TurnExecutesAbsa turn → TurnExecutesAbsa (flat_turn lib (flat_run_of before)).turn
  pub stands : LaidOutUntilLdbr after.loaded lib.catalog.frames after.state

-- Each turn before an LDBR is executed satisfies `ObeysTurnLaw`.
abbrev pub TurnLaw : Type 0
TurnLaw =
    (lib : Library) (before : Booted) (turn : Turn) (after : Booted) → before.loaded ≡ false
    → LaidOutUntilLdbr false lib.catalog.frames before.state → IsTurn lib before turn after
    → ObeysTurnLaw lib before turn after

-- A turn keeps the audit conditions until an LDBR is executed.
abbrev pub TurnAuditLaw : Type 0
TurnAuditLaw =
    (lib : Library) (before : Booted) (turn : Turn) (after : Booted) → before.loaded ≡ false
    → LaidOutUntilLdbr false lib.catalog.frames before.state
    → IsAudited before.state.memory.core booted_dbr → IsTurn lib before turn after
    → after.loaded ≡ false → IsAudited after.state.memory.core booted_dbr

-- the turn executes no ABSA and no LDBR, and does not run out of memory
abbrev pub IsPlainTurn : Turn → Type 0
IsPlainTurn (Stepped e) = (ExecutesAbsa e → ⊥) × (loaded_after false e ≡ false)
IsPlainTurn (Linked note) = Unit {0}
IsPlainTurn (Console text) = Unit {0}
IsPlainTurn (Ended e) = Unit {0}
IsPlainTurn Full = Unit {0}
IsPlainTurn NoMemory = ⊥

-- If all turns of a booted run are plain, they are those of the flat run, which has no frames.
abbrev pub PlainTurnsLaw : Type 0
PlainTurnsLaw =
    (lib : Library) (turns : List Turn) (r last : Booted) → r.loaded ≡ false
    → LaidOutUntilLdbr false lib.catalog.frames r.state → AreTurns lib r turns last
    → Each IsPlainTurn turns
    → turns ≡ flat_turns lib (flat_run_of r) (length turns)
