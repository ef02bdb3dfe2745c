-- How `audit`, `run` and `trace` of a folder end: with which findings, by the conditions of the
-- audit; that some call ends; that the program of a run is the booted runs; and that run and trace
-- have one text up to the first ABSA or LDBR.
use Rattle.std.specs.Prelude.{ℕ, ◌≡◌, ◌⊎◌, Bool, true, false, List, [], ◌∷◌, ◌++◌, Option, Some}
use Rattle.std.specs.Prelude.{Result, Ok, Err}
use Rattle.m36_outside.specs.Files.{Files}
use Rattle.m36_world.specs.Follow.{outputs}
use Rattle.m36_world.specs.Seen.{Seen}
use Rattle.m36_world.specs.declared.event.Event.{Event}
use Rattle.m36_model.specs.Audit.{AreFindings, IsAudited}
use Rattle.m36_model.specs.BootedCore.{booted_dbr}
use Rattle.m36_model.specs.StoreLaw.{Each}
use Rattle.m36_step.specs.declared.turns.Turn.{Turn}
use Rattle.m36_super.specs.BootedRun.{Booted}
use Rattle.m36_super.specs.SuperFields.{SuperFields, booted_of}
use Rattle.m36_super.specs.TurnLaws.{IsPlainTurn}
use Rattle.m36_super.specs.BootResult.{IsBooted}
use Rattle.m36_super.specs.declared.next_event.NextEvent.TheVariants.{Step}
use Rattle.m36_status.specs.declared.status.Status.{Status}
use Rattle.m36_status.specs.declared.status.Status.TheVariants.{NoMemory}
use Rattle.m36_program.specs.Alike.{IsEnd, OneText}
use Rattle.m36_program.specs.Early.{result_of_status}
use Rattle.m36_program.specs.Ended.{HasEnd}
use Rattle.m36_program.specs.Goes.{Ends, Goes}
use Rattle.m36_program.specs.OneText.{HasOneText}
use Rattle.m36_program.specs.Performs.{Performs}
use Rattle.m36_program.specs.Program.{quiet}
use Rattle.m36_program.specs.Reader.{reader_result}
use Rattle.m36_program.specs.MayHappen.{pieces_of}
use Rattle.cmd_image.specs.AuditText.{audit_pieces}
use Rattle.cmd_image.specs.ImageAudit.{passes, is_run_allowed, audit_status}
use Rattle.cmd_folder.specs.declared.command.FolderCommand.{FolderCommand}
use Rattle.cmd_folder.specs.declared.command.FolderCommand.TheVariants.{Audit, Run, Trace}
use Rattle.cmd_folder.specs.declared.command.FolderRun.{FolderRun}
use Rattle.cmd_folder.specs.declared.command.RunOutput.{RunOutput}
use Rattle.cmd_folder.specs.declared.command.RunOutput.TheVariants as output
use Rattle.cmd_folder.specs.declared.finish.Finish.{Finish}
use Rattle.cmd_folder.specs.Folder.{FolderFields}
use Rattle.cmd_folder.specs.RunText.{pieces_of_turns, run_pieces, finish_status}
use Rattle.cmd_folder.specs.Runs.{Finishes}
use Rattle.cmd_folder.specs.Runs as runs
use Rattle.cmd_folder.specs.FolderProgram.{folder_given, folder_program}
use Rattle.cmd_folder.specs.Needs.{OneEndsWithDis}
use Rattle.cmd_folder.specs.OnFolder.{command_after_audit, on_folder}
use Rattle.cmd_folder.specs.IsBootedRun.{IsBootedRun}
use Rattle.cmd_folder.specs.RunProgram.{RunContext, run_from}

-- ---- commands

-- the command that runs a folder with this output: `run` or `trace`
abbrev pub run_command : RunOutput → FolderRun → FolderCommand
run_command output.Console run = Run run
run_command output.Trace run = Trace run

-- Is the system run even if its audit fails?
abbrev pub is_unaudited : FolderCommand → Bool
is_unaudited Audit = false
is_unaudited (Run run) = run.unaudited
is_unaudited (Trace run) = run.unaudited

-- ---- by the findings

-- The call is what the command does with some findings, at least one.
pub record GoesByFindings (command : FolderCommand) (given : FolderFields) (system : SuperFields)
    (events : List Event) (result : Result (Unit {0}) Status) : Type 0 where
  pub first : ℕ × ℕ
  pub others : List (ℕ × ℕ)
  pub found : AreFindings system.core booted_dbr (first ∷ others)
  pub goes : Goes (command_after_audit command given (booted_of system) (first ∷ others)) events
      result

-- ---- the one text of a run

-- The first list of pieces is a prefix of the second.
pub record IsPrefix (first all : List (List ℕ)) : Type 0 where
  pub left : List (List ℕ)
  pub is : all ≡ first ++ left

-- Both are prefixes of one list.
abbrev pub OneIsPrefix : List (List ℕ) → List (List ℕ) → Type 0
OneIsPrefix one other = IsPrefix one other ⊎ IsPrefix other one

-- Turns of the system that a folder boots to, within the limit of the command, of which none
-- executes an ABSA or an LDBR; and the findings of the audit of the system.
pub record ArePlainTurns (run : FolderRun) (given : FolderFields) (findings : List (ℕ × ℕ))
    (turns : List Turn) (last : Booted) : Type 0 where
  pub system : SuperFields
  pub booted : IsBooted given.lib system
  pub found : AreFindings system.core booted_dbr findings
  pub goes : runs.Goes given.lib run.steps (booted_of system) turns last
  pub plain : Each IsPlainTurn turns

-- what a command puts by the time that these turns are made, if it runs the system
abbrev pub plain_pieces : RunOutput → List (ℕ × ℕ) → List Turn → List (List ℕ)
plain_pieces output findings turns = audit_pieces findings ++ pieces_of_turns output 0 turns

-- all that a command puts if these turns are a run that finishes; the Boolean is whether it runs
-- the system
abbrev pub whole_pieces :
    Bool → RunOutput → List (List ℕ) → List (ℕ × ℕ) → List Turn → Finish → List (List ℕ)
whole_pieces true output denied findings turns how =
    audit_pieces findings ++ run_pieces denied output turns (Some how)
whole_pieces false output denied findings turns how = audit_pieces findings

-- the status of a command whose run finishes in this way; the Boolean is whether it runs the system
abbrev pub whole_status : Bool → List (ℕ × ℕ) → Finish → Status
whole_status true findings how = finish_status (Some how)
whole_status false findings how = audit_status (passes findings)

-- The call has the one text of the run that these turns are: what it puts is a prefix of that text.
-- If the call ended, it is all of it, and the call has the status of the run.
abbrev pub HasTextOf :
    FolderRun → RunOutput → FolderFields → List (ℕ × ℕ) → List Turn → Finish → List Event
    → Result (Unit {0}) Status → Type 0
HasTextOf run output given findings turns how events result =
    OneText (pieces_of events)
    (whole_pieces (is_run_allowed findings run.unaudited) output given.denied findings turns how)
    result (result_of_status (whole_status (is_run_allowed findings run.unaudited) findings how))

-- ---- the law

-- The laws of `audit`, `run` and `trace` of a folder.
pub record FolderLaw : Type 0 where
  -- `audit` has one text over the same files. On a folder that boots, all calls of it that end put
  -- the same pieces and have the same result, and some call ends.
  pub audit : (user : Option (List ℕ)) → HasOneText (folder_program Audit user)
  pub one_audit :
      (given : FolderFields) (events others : List Event)
      (result other : Result (Unit {0}) Status)
      → Goes (on_folder Audit given) events result → IsEnd result
      → Goes (on_folder Audit given) others other → IsEnd other
      → (events ≡ others) × (result ≡ other)
  pub some_audit :
      (given : FolderFields) (system : SuperFields) → IsBooted given.lib system
      → HasEnd (on_folder Audit given)
  -- So does some call of `run` or `trace` if a condition of the audit fails and `--unaudited` is
  -- not given; or if some turns are a run that finishes.
  pub some_failed :
      (command : FolderCommand) (given : FolderFields) (system : SuperFields)
      → IsBooted given.lib system → ¬ IsAudited system.core booted_dbr
      → is_unaudited command ≡ false → HasEnd (on_folder command given)
  pub some_run :
      (run : FolderRun) (output : RunOutput) (given : FolderFields) (system : SuperFields)
      (turns : List Turn) (last : Booted) (how : Finish)
      → IsBooted given.lib system
      → runs.Goes given.lib run.steps (booted_of system) turns last
      → Finishes how given.lib run.steps turns last
      → HasEnd (on_folder (run_command output run) given)
  -- If all conditions of the audit hold of the core of the system, a call has no findings, and
  -- otherwise it has some; unless memory runs out before it puts anything.
  pub passed :
      (command : FolderCommand) (given : FolderFields) (system : SuperFields) (events : List Event)
      (result : Result (Unit {0}) Status)
      → IsBooted given.lib system → IsAudited system.core booted_dbr
      → Goes (on_folder command given) events result
      → Goes (command_after_audit command given (booted_of system) []) events result
      ⊎ Ends (Err NoMemory) events result
  pub failed :
      (command : FolderCommand) (given : FolderFields) (system : SuperFields) (events : List Event)
      (result : Result (Unit {0}) Status)
      → IsBooted given.lib system → ¬ IsAudited system.core booted_dbr
      → Goes (on_folder command given) events result
      → GoesByFindings command given system events result ⊎ Ends (Err NoMemory) events result
  -- Each call of the program of a run is a booted run; and each booted run that finishes is a call
  -- of it, which puts all pieces of the run and has its status.
  pub run :
      (run : RunContext) (limit : ℕ) (first : Booted) (events : List Event)
      (result : Result (Unit {0}) Status)
      → first.next_event ≡ Step → Goes (run_from run 0 limit first) events result
      → IsBootedRun run limit first events result
  pub some_call :
      (run : RunContext) (limit : ℕ) (first : Booted) (turns : List Turn) (last : Booted)
      (how : Finish)
      → first.next_event ≡ Step → runs.Goes run.lib limit first turns last
      → Finishes how run.lib limit turns last
      → Goes (run_from run 0 limit first)
      (outputs (run_pieces run.denied run.output turns (Some how)))
      (result_of_status (finish_status (Some how)))
  -- Take turns that execute no ABSA and no LDBR. What any call of `run` or `trace` puts agrees with
  -- what is put by the time that these turns are made: one is a prefix of the other. If the turns
  -- are a run that finishes, every call has the one text of that run.
  pub plain :
      (run : FolderRun) (output : RunOutput) (given : FolderFields) (findings : List (ℕ × ℕ))
      (turns : List Turn) (last : Booted) (events : List Event) (result : Result (Unit {0}) Status)
      → ArePlainTurns run given findings turns last
      → Goes (on_folder (run_command output run) given) events result
      → OneIsPrefix (pieces_of events) (plain_pieces output findings turns)
  pub plain_run :
      (run : FolderRun) (output : RunOutput) (given : FolderFields) (findings : List (ℕ × ℕ))
      (turns : List Turn) (last : Booted) (how : Finish) (events : List Event)
      (result : Result (Unit {0}) Status)
      → ArePlainTurns run given findings turns last → Finishes how given.lib run.steps turns last
      → Goes (on_folder (run_command output run) given) events result
      → HasTextOf run output given findings turns how events result
  -- The same of whole calls, over files from which the reader gives the folder.
  pub plain_call :
      (run : FolderRun) (output : RunOutput) (user : Option (List ℕ)) (files : Files)
      (given : FolderFields) (findings : List (ℕ × ℕ)) (turns : List Turn) (last : Booted)
      (result : Result (Unit {0}) Status) (old new : Seen)
      → old.files ≡ Some files
      → reader_result files (folder_given {may = quiet} user) ≡ Some (Ok given)
      → ArePlainTurns run given findings turns last
      → (performs : Performs (folder_program (run_command output run) user) result old new)
      → OneIsPrefix (pieces_of performs.events) (plain_pieces output findings turns)
  pub plain_run_call :
      (run : FolderRun) (output : RunOutput) (user : Option (List ℕ)) (files : Files)
      (given : FolderFields) (findings : List (ℕ × ℕ)) (turns : List Turn) (last : Booted)
      (how : Finish) (result : Result (Unit {0}) Status) (old new : Seen)
      → old.files ≡ Some files
      → reader_result files (folder_given {may = quiet} user) ≡ Some (Ok given)
      → ArePlainTurns run given findings turns last → Finishes how given.lib run.steps turns last
      → (performs : Performs (folder_program (run_command output run) user) result old new)
      → HasTextOf run output given findings turns how performs.events result
  -- If one run ends with DIS and executes no ABSA and no LDBR, each run ends with DIS.
  pub ends_with_dis : OneEndsWithDis
