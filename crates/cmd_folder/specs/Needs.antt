-- What `audit`, `run` and `trace` of a folder need, besides accepted files, to end with Done.
use Rattle.std.specs.Prelude.{ℕ, ◌≡◌, List}
use Rattle.m36_model.specs.Audit.{IsAudited}
use Rattle.m36_model.specs.BootedCore.{booted_dbr}
use Rattle.m36_model.specs.StoreLaw.{Each}
use Rattle.m36_model.specs.declared.endings.End.TheVariants as end
use Rattle.m36_model.specs.declared.outcome.Stop.TheVariants.{Dis}
use Rattle.m36_step.specs.declared.turns.Turn.{Turn}
use Rattle.m36_super.specs.Library.{Library}
use Rattle.m36_super.specs.BootedRun.{Booted}
use Rattle.m36_super.specs.SuperFields.{SuperFields, booted_of}
use Rattle.m36_super.specs.TurnLaws.{IsPlainTurn}
use Rattle.m36_super.specs.BootResult.{IsBooted}
use Rattle.cmd_image.specs.Needs.{MayRun}
use Rattle.cmd_folder.specs.declared.command.FolderCommand.{FolderCommand}
use Rattle.cmd_folder.specs.declared.command.FolderCommand.TheVariants.{Audit, Run, Trace}
use Rattle.cmd_folder.specs.declared.command.FolderRun.{FolderRun}
use Rattle.cmd_folder.specs.declared.finish.Finish.{Finish}
use Rattle.cmd_folder.specs.declared.finish.Finish.TheVariants.{Over}
use Rattle.cmd_folder.specs.Folder.{FolderFields}
use Rattle.cmd_folder.specs.Runs.{Goes, Finishes}

-- Each run of at most `limit` steps ends with DIS.
abbrev pub EndsWithDis : Library → ℕ → Booted → Type 0
EndsWithDis lib limit first =
    (turns : List Turn) (last : Booted) (how : Finish)
    → Goes lib limit first turns last → Finishes how lib limit turns last
    → how ≡ Over (end.Stop Dis)

-- If one run ends with DIS and executes no ABSA and no LDBR, each run ends with DIS.
abbrev pub OneEndsWithDis : Type 0
OneEndsWithDis =
    (lib : Library) (limit : ℕ) (system : SuperFields) (turns : List Turn) (last : Booted)
    → IsBooted lib system → Goes lib limit (booted_of system) turns last
    → Finishes (Over (end.Stop Dis)) lib limit turns last → Each IsPlainTurn turns
    → EndsWithDis lib limit (booted_of system)

-- what `run` and `trace` need: the run is allowed, and each run of the system ends with DIS
abbrev pub RunNeeds : FolderRun → Library → SuperFields → Type 0
RunNeeds run lib system =
    MayRun (IsAudited system.core booted_dbr) run.unaudited
    × EndsWithDis lib run.steps (booted_of system)

-- what a command needs of the system that the folder boots to
abbrev pub SystemNeeds : FolderCommand → Library → SuperFields → Type 0
SystemNeeds Audit lib system = IsAudited system.core booted_dbr
SystemNeeds (Run run) lib system = RunNeeds run lib system
SystemNeeds (Trace run) lib system = RunNeeds run lib system

-- what a command needs of a folder: each system that it boots to has what the command needs
abbrev pub FolderNeeds : FolderCommand → FolderFields → Type 0
FolderNeeds command given =
    (system : SuperFields) → IsBooted given.lib system → SystemNeeds command given.lib system
