-- What `audit yes` promises of a booted system.
use Rattle.std.specs.Prelude.{◌≡◌, false, List}
use Rattle.m36_model.specs.Flat.{flat_store, flat_tables}
use Rattle.m36_model.specs.Residence.{flat_of}
use Rattle.m36_model.specs.BootedCore.{booted_dbr}
use Rattle.m36_model.specs.Audit.{IsAudited}
use Rattle.m36_model.specs.Isolation.{Isolated}
use Rattle.m36_step.specs.declared.turns.Turn.{Turn}
use Rattle.m36_super.specs.Library.{Library}
use Rattle.m36_super.specs.BootedRun.{Booted, AreTurns}
use Rattle.m36_super.specs.SuperFields.{SuperFields, booted_of}
use Rattle.m36_super.specs.BootResult.{IsBooted}
use Rattle.cmd_image.specs.ImageAudit.{IsIsolated}

-- The state is reached by turns of a booted run in which no LDBR has been executed.
pub record IsReached (lib : Library) (now : Booted) : Type 0 where
  pub system : SuperFields
  pub booted : IsBooted lib system
  pub turns : List Turn
  pub turns_are : AreTurns lib (booted_of system) turns now
  pub unloaded : now.loaded ≡ false

-- In every such state, the booted one too, whatever pages are in frames: all six conditions of the
-- audit hold of core; the tables in core isolate each ring from 1; and so do those of the flat
-- memory that core and the words of absent pages represent. The steps over the flat memory are
-- those of the run, absent pages included.
pub record PassesFolderAudit (lib : Library) : Type 0 where
  pub conditions : (now : Booted) → IsReached lib now → IsAudited now.state.memory.core booted_dbr
  pub isolates : (now : Booted) → IsReached lib now → IsIsolated now.state.memory.core booted_dbr
  pub flat :
      (now : Booted) → IsReached lib now
      → Isolated flat_store (flat_tables (flat_of now.state.memory) booted_dbr)
