-- Laws of `make`, by what the files boot to and by the conditions of the audit: what is written and
-- put by a call that ends by itself (`IsEnd`), and that there is one.
use Rattle.std.specs.Prelude.{ℕ, ◌≡◌, List, [], ◌∷◌, ◌++◌, map, Some, Result, Ok, Err}
use Rattle.m36_model.specs.Audit.{IsAudited}
use Rattle.m36_model.specs.BootedCore.{booted_dbr}
use Rattle.m36_model.specs.StoreLaw.{Each}
use Rattle.m36_outside.specs.declared.folder.WriteAnswer.TheVariants.{Written}
use Rattle.m36_step.specs.declared.turns.Turn.{Turn}
use Rattle.m36_super.specs.Library.{Library}
use Rattle.m36_super.specs.BootedRun.{Booted}
use Rattle.m36_super.specs.SuperFields.{SuperFields, booted_of}
use Rattle.m36_super.specs.TurnLaws.{IsPlainTurn}
use Rattle.m36_super.specs.BootResult.{IsBooted}
use Rattle.m36_world.specs.Follow.{outputs}
use Rattle.m36_world.specs.declared.event.Event.{Event}
use Rattle.m36_world.specs.declared.event.Event.TheVariants.{FileWrite}
use Rattle.m36_status.specs.declared.refusal.Refusal.{Refusal}
use Rattle.m36_status.specs.declared.setting.Set.{Set}
use Rattle.m36_status.specs.declared.status.Status.{Status}
use Rattle.m36_status.specs.declared.status.Status.TheVariants.{AuditNo}
use Rattle.m36_status.specs.Refusing.{status_of}
use Rattle.m36_program.specs.Alike.{IsEnd}
use Rattle.m36_program.specs.Early.{result_of_status}
use Rattle.m36_program.specs.Ended.{HasEnd}
use Rattle.m36_program.specs.Goes.{Goes}
use Rattle.m36_program.specs.Program.{May, Program}
use Rattle.cmd_folder.specs.declared.finish.Finish.{Finish}
use Rattle.cmd_folder.specs.Folder.{FolderFields}
use Rattle.cmd_folder.specs.RunText.{turns_step_count, finish_status}
use Rattle.cmd_folder.specs.Runs.{Finishes}
use Rattle.cmd_folder.specs.Runs as runs
use Rattle.cmd_make.specs.Making.{files_of_seed}
use Rattle.cmd_make.specs.Made.{boot_outcome}
use Rattle.cmd_make.specs.MakeProgram.{write_and_boot, make_program}
use Rattle.cmd_make.specs.Summary.{run_limit, segment_count, head_pieces, end_pieces}

-- ---- ends

-- A call of the program has these events and this result, and ends by itself: nothing fails, and
-- memory does not run out.
pub record GoesToEnd {may : May} (program : Program may (Unit {0})) (events : List Event)
    (result : Result (Unit {0}) Status) : Type 0 where
  pub goes : Goes program events result
  pub is_end : IsEnd result

-- All calls of the program that end by themselves have the same events and the same result.
abbrev pub HasOneEnd : {may : May} → Program may (Unit {0}) → Type 0
HasOneEnd program =
    (events others : List Event) (result other : Result (Unit {0}) Status)
    → GoesToEnd program events result → GoesToEnd program others other
    → (events ≡ others) × (result ≡ other)

-- ---- what is written and put

-- each of these files is written, one after another
abbrev pub all_written : List Set → List Event
all_written sets = map (λ (set : Set). FileWrite set.name set.content Written) sets

-- All files are written, then these pieces are put, and nothing else happens. The call has this
-- status.
pub record WritesAndPuts (sets : List Set) (pieces : List (List ℕ)) (status : Status)
    (events : List Event) (result : Result (Unit {0}) Status) : Type 0 where
  pub events_are : events ≡ all_written sets ++ outputs pieces
  pub result_is : result ≡ result_of_status status

-- The lines are those without findings, and those of a run of the system that ended.
pub record PutsRun (sets : List Set) (lib : Library) (first : Booted) (events : List Event)
    (result : Result (Unit {0}) Status) : Type 0 where
  pub turns : List Turn
  pub last : Booted
  pub how : Finish
  pub goes : runs.Goes lib run_limit first turns last
  pub finishes : Finishes how lib run_limit turns last
  pub puts :
      WritesAndPuts sets
      (head_pieces (segment_count lib) []
      ++ end_pieces (Some how) (turns_step_count turns) last.state.regs)
      (finish_status (Some how)) events result

-- The lines are those of some findings, at least one. There is no run.
pub record PutsFindings (sets : List Set) (lib : Library) (events : List Event)
    (result : Result (Unit {0}) Status) : Type 0 where
  pub first : ℕ × ℕ
  pub others : List (ℕ × ℕ)
  pub puts :
      WritesAndPuts sets (head_pieces (segment_count lib) (first ∷ others)) AuditNo events result

-- The files boot to this system.
pub record BootsTo (sets : List Set) (given : FolderFields) (system : SuperFields) : Type 0 where
  pub boots : boot_outcome sets ≡ Some (Ok given)
  pub booted : IsBooted given.lib system

-- ---- the law

-- The laws of `make`. In them `sets` are the files of a seed.
pub record MadeLaw : Type 0 where
  -- If a source is refused, nothing happens, and the status is that of the refusal.
  pub unmade :
      (seed : ℕ) (refusal : Refusal) (events : List Event) (result : Result (Unit {0}) Status)
      → files_of_seed seed ≡ Err refusal → GoesToEnd (make_program seed) events result
      → (events ≡ []) × (result ≡ Err (status_of refusal))
  -- A call of `make` ends as `write_and_boot` does with the files of the seed.
  pub made :
      (seed : ℕ) (sets : List Set) (events : List Event) (result : Result (Unit {0}) Status)
      → files_of_seed seed ≡ Ok sets → GoesToEnd (make_program seed) events result
      → GoesToEnd (write_and_boot sets) events result
  -- If some call of the one ends, some call of the other does.
  pub some_made :
      (seed : ℕ) (sets : List Set) → files_of_seed seed ≡ Ok sets → HasEnd (write_and_boot sets)
      → HasEnd (make_program seed)
  -- If the folder of the files is refused, they are written, no line is put, and the status is that
  -- of the refusal.
  pub refused :
      (sets : List Set) (status : Status) (events : List Event) (result : Result (Unit {0}) Status)
      → boot_outcome sets ≡ Some (Err status) → GoesToEnd (write_and_boot sets) events result
      → (events ≡ all_written sets) × (result ≡ Err status)
  -- If all conditions of the audit hold of the booted core, the lines are those without findings,
  -- and those of a run.
  pub passed :
      (sets : List Set) (given : FolderFields) (system : SuperFields) (events : List Event)
      (result : Result (Unit {0}) Status)
      → BootsTo sets given system → IsAudited system.core booted_dbr
      → GoesToEnd (write_and_boot sets) events result
      → PutsRun sets given.lib (booted_of system) events result
  -- If some condition fails, the lines are those of findings, and there is no run.
  pub failed :
      (sets : List Set) (given : FolderFields) (system : SuperFields) (events : List Event)
      (result : Result (Unit {0}) Status)
      → BootsTo sets given system → ¬ IsAudited system.core booted_dbr
      → GoesToEnd (write_and_boot sets) events result → PutsFindings sets given.lib events result
  -- If some condition fails, all calls that end are the same.
  pub one_failed :
      (sets : List Set) (given : FolderFields) (system : SuperFields)
      → BootsTo sets given system → ¬ IsAudited system.core booted_dbr
      → HasOneEnd (write_and_boot sets)
  -- The same if some run of the system ends and executes no ABSA and no LDBR.
  pub one_plain :
      (sets : List Set) (given : FolderFields) (system : SuperFields) (turns : List Turn)
      (last : Booted) (how : Finish)
      → BootsTo sets given system → runs.Goes given.lib run_limit (booted_of system) turns last
      → Finishes how given.lib run_limit turns last → Each IsPlainTurn turns
      → HasOneEnd (write_and_boot sets)
  -- If the folder of the files is refused, it cannot be that no call ends.
  pub some_refused :
      (sets : List Set) (status : Status) → boot_outcome sets ≡ Some (Err status)
      → HasEnd (write_and_boot sets)
  -- The same if some condition of the audit fails.
  pub some_failed :
      (sets : List Set) (given : FolderFields) (system : SuperFields)
      → BootsTo sets given system → ¬ IsAudited system.core booted_dbr
      → HasEnd (write_and_boot sets)
  -- The same if some turns of the system are a run that ends.
  pub some_run :
      (sets : List Set) (given : FolderFields) (system : SuperFields) (turns : List Turn)
      (last : Booted) (how : Finish)
      → BootsTo sets given system → runs.Goes given.lib run_limit (booted_of system) turns last
      → Finishes how given.lib run_limit turns last → HasEnd (write_and_boot sets)
