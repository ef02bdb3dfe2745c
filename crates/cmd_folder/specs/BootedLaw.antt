-- What holds of booted systems and of their runs: segments boot at most one system, and runs that
-- execute no ABSA and no LDBR are the same however many pageable frames there are.
use Rattle.std.specs.Prelude.{◌≡◌, ◌≢◌, ℕ, List, length}
use Rattle.m36_model.specs.StoreLaw.{Each}
use Rattle.m36_step.specs.declared.turns.Turn.{Turn}
use Rattle.m36_step.specs.declared.turns.Turn.TheVariants.{NoMemory}
use Rattle.m36_super.specs.Library.{Library}
use Rattle.m36_super.specs.BootedRun.{Booted, AreTurns, flat_run_of}
use Rattle.m36_super.specs.SuperFields.{SuperFields, booted_of}
use Rattle.m36_super.specs.TurnLaws.{IsPlainTurn}
use Rattle.m36_super.specs.BootResult.{IsBooted}
use Rattle.cmd_folder.specs.declared.finish.Finish.{Finish}
use Rattle.cmd_folder.specs.Runs.{Goes, Finishes}

-- the same segments, with another count of pageable frames
abbrev pub with_frames : Library → ℕ → Library
with_frames lib frames =
    record { catalog = record lib.catalog { frames = frames }; files = lib.files }

-- Memory did not run out in the turn.
abbrev pub HasMemory : Turn → Type 0
HasMemory turn = turn ≢ NoMemory

-- Two runs make the same turns, end the same way, and leave the same registers and content.
pub record AreOneRun
    (turns same : List Turn) (last end : Booted) (how how_other : Finish) : Type 0 where
  pub turns_are : turns ≡ same
  pub end_is : how ≡ how_other
  pub left_is : flat_run_of last ≡ flat_run_of end

-- The laws of booted systems:
--
-- - `system`: segments boot at most one system.
-- - `turns`: take turns that execute no ABSA and no LDBR. Whatever the counts of pageable frames
--   are, as many other turns in which memory does not run out are the same turns.
-- - `runs`: if such turns are a run that finishes, each run that finishes is this one.
pub record BootedLaw : Type 0 where
  pub system :
      (lib : Library) (system same : SuperFields)
      → IsBooted lib system → IsBooted lib same → system ≡ same
  pub turns :
      (lib : Library) (frames : ℕ) (system other : SuperFields) (turns same : List Turn)
      (last end : Booted)
      → IsBooted lib system → IsBooted (with_frames lib frames) other
      → AreTurns lib (booted_of system) turns last
      → AreTurns (with_frames lib frames) (booted_of other) same end
      → Each IsPlainTurn turns → Each HasMemory same → length turns ≡ length same → turns ≡ same
  pub runs :
      (lib : Library) (frames limit : ℕ) (system other : SuperFields) (turns same : List Turn)
      (last end : Booted) (how how_other : Finish)
      → IsBooted lib system → IsBooted (with_frames lib frames) other
      → Goes lib limit (booted_of system) turns last
      → Goes (with_frames lib frames) limit (booted_of other) same end
      → Finishes how lib limit turns last
      → Finishes how_other (with_frames lib frames) limit same end
      → Each IsPlainTurn turns → AreOneRun turns same last end how how_other
