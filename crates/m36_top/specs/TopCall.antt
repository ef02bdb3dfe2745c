-- What the top call promises, by the command that its words ask for (None: no command) and by what
-- the folder, the input and the output record before the call and after it.
use Rattle.std.specs.Prelude.{ℕ, ◌≡◌, ◌≢◌, ◌⊎◌, ⊤, false, Option, Some, None, Ok}
use Rattle.m36_outside.specs.Files.{Files}
use Rattle.m36_world.specs.Seen.{Seen}
use Rattle.m36_status.specs.declared.status.Status.{Status}
use Rattle.m36_status.specs.declared.status.Status.TheVariants.{Done, ReadFault, WriteFault}
use Rattle.m36_status.specs.declared.status.Status.TheVariants.{NoMemory}
use Rattle.m36_program.specs.Early.{result_of_status}
use Rattle.m36_program.specs.Ended.{NoneRose, OutputStartsWith, HasAuditedValue}
use Rattle.m36_program.specs.Performs.{Performs}
use Rattle.m36_program.specs.Program.{May, quiet}
use Rattle.m36_program.specs.Reader.{reader_result}
use Rattle.m36_program.specs.MayHappen.{HasCause, FilesKept, InputKept}
use Rattle.cmd_image.specs.AuditText.{yes_line}
use Rattle.m36_top.specs.declared.command.Command.{Command}
use Rattle.m36_top.specs.Commands.{may_of, Subject, reader_of, Needs, Promised, yes_text}
use Rattle.m36_top.specs.Programs.{program, TopPerforms}

-- what the command may do; without one, nothing
abbrev pub may_of_any : Option Command → May
may_of_any None = quiet
may_of_any (Some command) = may_of command

-- A call over a world performs the program of the command. Without a command nothing happens.
abbrev pub WorldPerforms : Option Command → Status → Seen → Seen → Type 0
WorldPerforms None result old new = new ≡ old
WorldPerforms (Some command) result old new =
    Performs (program command) (result_of_status result) old new

-- If the folder shows its files, the command accepts them, what it needs holds, and nothing fails
-- outside, then the status is Done, or memory ran out.
abbrev pub EndsDone : Option Command → Status → Seen → Seen → Type 0
EndsDone None result old new = ⊤
EndsDone (Some command) result old new =
    (files : Files) (subject : Subject command)
    → old.files ≡ Some files → reader_result files (reader_of command) ≡ Some (Ok subject)
    → Needs command old.left subject → NoneRose old new
    → (result ≡ Done) ⊎ (result ≡ NoMemory)

-- If the output of the call begins with the text that ends with the line `audit yes`, the command
-- read its subject in this call, and what it audits of it passes. Without a command there is no
-- such output.
abbrev pub YesPasses : Option Command → Seen → Seen → Type 0
YesPasses None old new = ¬ OutputStartsWith yes_line old.written new.written
YesPasses (Some command) old new =
    OutputStartsWith (yes_text command) old.written new.written
    → HasAuditedValue (reader_of command) (Promised command) old new

-- What the top call promises, in six parts. `command` is what the words ask for, `result` the
-- status of the call, `old` and `new` what was recorded before the call and after it.
pub record TopCall (command : Option Command) (result : Status) (old new : Seen) : Type 0 where
  -- The command does what its program says: what the folder, the input and the output each record
  -- of the call are, in some common order, events by which the program goes to this status.
  pub performs : TopPerforms command result old new
  -- With ReadFault a read of a file or of the input failed, and with WriteFault a write of a file
  -- or of the output: the count of exactly one of the four rose. With any other status none rose.
  pub cause : HasCause (result_of_status result) old new
  -- Accepted files and met needs lead to Done, if nothing fails outside and memory suffices.
  pub done : EndsDone command result old new
  -- `audit yes` is only printed if all conditions of the audit hold.
  pub isolated : YesPasses command old new
  -- Only `alm`, `bind` and `make` write files.
  pub files : (may_of_any command).writes ≡ false → FilesKept old new
  -- Only a session takes input.
  pub input : (may_of_any command).takes ≡ false → InputKept old new

-- ---- objects that never fail

-- Every folder, input and sink of these types has 0 as each count of faults, whatever was called.
pub record NeverFail {F L S : Type 0} (reads writes : F → ℕ) (lines : L → ℕ) (puts : S → ℕ)
    : Type 0 where
  pub read_faults : (f : F) → reads f ≡ 0
  pub write_faults : (f : F) → writes f ≡ 0
  pub input_faults : (l : L) → lines l ≡ 0
  pub put_faults : (s : S) → puts s ≡ 0

-- The status is neither ReadFault nor WriteFault.
abbrev pub IsNoFault : Status → Type 0
IsNoFault result = (result ≢ ReadFault) × (result ≢ WriteFault)
