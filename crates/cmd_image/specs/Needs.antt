-- What `bare FILE` and `audit FILE` need of an image to end with Done.
use Rattle.std.specs.Prelude.{ℕ, ◌≡◌, ◌⊎◌, Bool, true, List}
use Rattle.m36_model.specs.Store.{State}
use Rattle.m36_model.specs.Audit.{IsAudited}
use Rattle.m36_model.specs.declared.outcome.Outcome.TheVariants.{Stopped}
use Rattle.m36_model.specs.declared.outcome.Stop.TheVariants.{Dis}
use Rattle.cmd_image.specs.declared.command.ImageCommand.{ImageCommand}
use Rattle.cmd_image.specs.declared.command.ImageCommand.TheVariants as image
use Rattle.cmd_image.specs.Run.{run, last_outcome}

-- The audit passes (`Passes`), or `--unaudited` is given.
abbrev pub MayRun : Type 0 → Bool → Type 0
MayRun Passes unaudited = Passes ⊎ (unaudited ≡ true)

-- `bare FILE` needs that the run is allowed and ends with DIS within its limit of steps.
-- `audit FILE` needs that the audit passes.
abbrev pub ImageNeeds : ImageCommand → State (List ℕ) → Type 0
ImageNeeds (image.Bare bare) state =
    MayRun (IsAudited state.store state.regs.dbr) bare.unaudited
    × (last_outcome (run bare.steps state) ≡ Stopped Dis)
ImageNeeds image.Audit state = IsAudited state.store state.regs.dbr
