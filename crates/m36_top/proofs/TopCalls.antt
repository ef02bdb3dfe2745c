-- What the top call promises follows from the program that its command performs.
use Rattle.std.proofs.Common.{◌≡◌, ℕ, ◌<◌, ◌⊎◌, List, ◌++◌, length, Option, Some, None, Result, Ok, Err, inl, inr, refl}
use Rattle.std.proofs.Common.{sym, ap, subst, ◌∙◌, arith, length-append}
use Rattle.std.specs.Prelude.{◌↔◌}
use Rattle.m36_outside.specs.Counts.{Rose}
use Rattle.m36_outside.proofs.Risen.{rose_never}
use Rattle.m36_world.specs.Seen.{Seen}
use Rattle.m36_world.proofs.Following.{follow_logs}
use Rattle.m36_status.specs.declared.status.Status.{Status}
use Rattle.m36_status.specs.declared.status.Status.TheVariants as status
use Rattle.m36_program.specs.Early.{IsProgramResult, result_of_status, status_of_result}
use Rattle.m36_program.specs.Ended.{IsDoneOrNoMemory, OutputStartsWith, HasAuditedValue}
use Rattle.m36_program.specs.Performs.{Performs}
use Rattle.m36_program.specs.Program.{then_with}
use Rattle.m36_program.specs.Reader.{ReadBy}
use Rattle.m36_program.specs.MayHappen.{HasCause}
use Rattle.m36_program.proofs.Objects.{SameObjects, performs_over, world_before, world_after, over_performs, over_cause}
use Rattle.m36_program.proofs.Objects.{over_files, over_input}
use Rattle.m36_program.proofs.ProgramLaws.{performs_given, performs_early}
use Rattle.m36_program.proofs.ReaderLaws.{reader_comes_done, reader_says_yes}
use Rattle.cmd_image.specs.AuditText.{yes_line}
use Rattle.cmd_make.specs.Making.{files_of_seed}
use Rattle.m36_top.specs.declared.command.Command.{Command}
use Rattle.m36_top.specs.declared.command.Command.TheVariants.{Make}
use Rattle.m36_top.specs.Commands.{Subject, reader_of, Promised, yes_text}
use Rattle.m36_top.specs.Programs.{program, CommandPerforms}
use Rattle.m36_top.specs.TopCall.{WorldPerforms, EndsDone, YesPasses, TopCall, IsNoFault}
use Rattle.m36_top.proofs.Subjects.{work_of, parts, reads_only, works_done, decides_value, IsSubject, yes_filled}
use Rattle.m36_top.proofs.Subjects.{yes_promised}

-- ---- statuses

is_done : (s : Status) → result_of_status s ≡ Ok tt → s ≡ status.Done
is_done status.Done e = refl
is_done status.Usage e = absurd (cc)
is_done status.ReadFault e = absurd (cc)
is_done status.WriteFault e = absurd (cc)
is_done (status.BadFile bad) e = absurd (cc)
is_done status.AuditNo e = absurd (cc)
is_done (status.MachineStop end) e = absurd (cc)
is_done status.Steps e = absurd (cc)
is_done status.NoMemory e = absurd (cc)

is_no_memory : (s : Status) → result_of_status s ≡ Err status.NoMemory → s ≡ status.NoMemory
is_no_memory status.Done e = absurd (cc)
is_no_memory status.Usage e = absurd (cc)
is_no_memory status.ReadFault e = absurd (cc)
is_no_memory status.WriteFault e = absurd (cc)
is_no_memory (status.BadFile bad) e = absurd (cc)
is_no_memory status.AuditNo e = absurd (cc)
is_no_memory (status.MachineStop end) e = absurd (cc)
is_no_memory status.Steps e = absurd (cc)
is_no_memory status.NoMemory e = refl

by_status : (s : Status) → IsDoneOrNoMemory (result_of_status s) → (s ≡ status.Done) ⊎ (s ≡ status.NoMemory)
by_status s (inl e) = inl (is_done s e)
by_status s (inr e) = inr (is_no_memory s e)

-- ---- a command

-- A call of a command is one of its two parts.
in_parts :
    (command : Command) (result : Status) (old new : Seen) (over : CommandPerforms command result old new)
    → Performs (then_with (reader_of command) (work_of command)) (result_of_status result) (world_before over) (world_after over)
in_parts command result old new over =
    subst (λ p. Performs p (result_of_status result) (world_before over) (world_after over)) (parts command) (over_performs over)

command_done :
    (command : Command) (result : Status) (old new : Seen)
    → CommandPerforms command result old new → EndsDone (Some command) result old new
command_done command result old new over = λ files subject shows accepts needs none.
    by_status result
    (reader_comes_done (reader_of command) (work_of command) files subject (result_of_status result)
    (world_before over) (world_after over) (reads_only command) shows accepts
    (record { reads = none.reads; writes = none.writes; outputs = none.outputs; inputs = none.inputs })
    (λ between same left performs complete_given.
    works_done command subject old.left (result_of_status result) between (world_after over) needs left performs complete_given)
    (in_parts command result old new over))

-- What was read is the subject of the command, and it passes.
as_promised :
    (command : Command) (old new : Seen) (value : Subject command)
    → ReadBy (reader_of command) value old new → (IsSubject command value → Promised command value)
    → HasAuditedValue (reader_of command) (Promised command) old new
as_promised (Make seed) old new value read passes =
    record { value = value; read = read; passes = passes (decides_value (files_of_seed seed) read.first value read.goes) }
as_promised _ old new value read passes = record { value = value; read = read; passes = passes tt }

command_passes :
    (command : Command) (result : Status) (old new : Seen)
    → CommandPerforms command result old new → YesPasses (Some command) old new
command_passes command result old new over = λ told.
    let audited =
    reader_says_yes (reader_of command) (work_of command)
    (λ subject. IsSubject command subject → Promised command subject) (yes_text command) (result_of_status result) (world_before over)
    (world_after over) (reads_only command) (yes_filled command) told
    (λ subject events goes starts is. yes_promised command subject events (result_of_status result) goes starts is)
    (in_parts command result old new over) in
    as_promised command old new audited.value
    (record {
      first = audited.read.first;
      goes = audited.read.goes;
      later = audited.read.later;
      logged = audited.read.logged;
      by_files = audited.read.by_files;
    }) audited.passes

command_call :
    (command : Command) (result : Status) (old new : Seen)
    → CommandPerforms command result old new → TopCall (Some command) result old new
command_call command result old new over = record {
  performs = over;
  cause = over_cause (program command) (result_of_status result) old new over;
  done = command_done command result old new over;
  isolated = command_passes command result old new over;
  files = λ never. over_files (program command) (result_of_status result) old new never over;
  input = λ never. over_input (program command) (result_of_status result) old new never over;
}

-- ---- no command

longer : (before opening rest : List ℕ) → 0 < length opening → before ≡ before ++ (opening ++ rest) → ⊥
longer before opening rest filled e =
    absurd (omega (arith, ap length e, length-append before (opening ++ rest), length-append opening rest, filled))

same_list : (one other : List ℕ) → Some one ≡ Some other → one ≡ other
same_list one other is = cc

-- If nothing is printed, nothing begins with `audit yes`.
says_nothing : (old new : Option (List ℕ)) → new ≡ old → OutputStartsWith yes_line old new → ⊥
says_nothing old new same told =
    longer told.before yes_line told.rest (omega arith)
    (same_list told.before (told.before ++ (yes_line ++ told.rest)) (sym told.was ∙ sym same ∙ told.is))

-- ---- a call over three objects, by the call over their world

status_again : (s : Status) → s ≡ status_of_result (result_of_status s)
status_again status.Done = refl
status_again status.Usage = refl
status_again status.ReadFault = refl
status_again status.WriteFault = refl
status_again (status.BadFile bad) = refl
status_again status.AuditNo = refl
status_again (status.MachineStop end) = refl
status_again status.Steps = refl
status_again status.NoMemory = refl

-- The objects record after the call what they recorded before it.
idle_call :
    (seen old new : Seen) → SameObjects seen old → SameObjects seen new → TopCall None status.Usage old new
idle_call seen old new was is = record {
  performs = tt;
  cause = record {
    reads = sym is.read_faults ∙ was.read_faults;
    writes = sym is.write_faults ∙ was.write_faults;
    outputs = sym is.output_faults ∙ was.output_faults;
    inputs = sym is.input_faults ∙ was.input_faults;
  };
  done = tt;
  isolated = λ told. says_nothing old.written new.written (sym is.written ∙ was.written) told;
  files = λ never. record {
    files = sym is.files ∙ was.files;
    writes = sym is.writes ∙ was.writes;
    faults = sym is.write_faults ∙ was.write_faults;
  };
  input = λ never. record {
    left = sym is.left ∙ was.left;
    inputs = sym is.inputs ∙ was.inputs;
    faults = sym is.input_faults ∙ was.input_faults;
  };
}

pub call_over :
    (asked : Option Command) (s : Status) (old new old' new' : Seen)
    → old.events ≡ old'.events → SameObjects old old' → SameObjects new new'
    → (s ≡ status.Usage) ↔ (asked ≡ None) → WorldPerforms asked s old new → TopCall asked s old' new'
call_over None s old new old' new' none same_old same_new usage same =
    subst (λ r. TopCall None r old' new') (sym (usage.1 refl))
    (idle_call old old' new' same_old (subst (λ (seen : Seen). SameObjects seen new') same same_new))
call_over (Some command) s old new old' new' none same_old same_new usage performs =
    command_call command s old' new'
    (performs_over (program command) (result_of_status s) s old new old' new' (status_again s) none same_old same_new performs)

-- The world still holds the same references.
pub same_references :
    (asked : Option Command) (s : Status) (old new : Seen) → WorldPerforms asked s old new
    → new.references ≡ old.references
same_references None s old new same = ap (λ (seen : Seen). seen.references) same
same_references (Some command) s old new performs = (follow_logs performs.events old new performs.follow).references

-- ---- by the command of the words

pub some_performs :
    (asked : Option Command) (command : Command) (result : Result (Unit {0}) Status) (s : Status) (old new : Seen)
    → Some command ≡ asked → s ≡ status_of_result result → Performs (program command) result old new
    → WorldPerforms asked s old new
some_performs asked command result s old new is ends performs =
    subst (λ a. WorldPerforms a s old new) is
    (subst (λ r. Performs (program command) (result_of_status r) old new) (sym ends)
    (performs_early (program command) result old new performs))

pub none_performs : (asked : Option Command) (s : Status) (old : Seen) → None ≡ asked → WorldPerforms asked s old old
none_performs asked s old is = subst (λ a. WorldPerforms a s old old) is refl

-- A command never ends with Usage.
not_usage : (result : Result (Unit {0}) Status) → IsProgramResult result → status_of_result result ≡ status.Usage → ⊥
not_usage (Ok u) given is = absurd (cc)
not_usage (Err status.Done) given is = absurd (cc)
not_usage (Err status.Usage) given is = given
not_usage (Err status.ReadFault) given is = absurd (cc)
not_usage (Err status.WriteFault) given is = absurd (cc)
not_usage (Err (status.BadFile bad)) given is = absurd (cc)
not_usage (Err status.AuditNo) given is = absurd (cc)
not_usage (Err (status.MachineStop end)) given is = absurd (cc)
not_usage (Err status.Steps) given is = absurd (cc)
not_usage (Err status.NoMemory) given is = absurd (cc)

pub some_usage :
    (asked : Option Command) (command : Command) (result : Result (Unit {0}) Status) (s : Status) (old new : Seen)
    → Some command ≡ asked → s ≡ status_of_result result → Performs (program command) result old new
    → (s ≡ status.Usage) ↔ (asked ≡ None)
some_usage asked command result s old new is ends performs = (
  λ usage. absurd (not_usage result (performs_given (program command) result old new performs) (sym ends ∙ usage)),
  λ none. let e : Some command ≡ None = is ∙ none in absurd (cc),
)

pub ruleset in_world = (some_performs, none_performs, some_usage)

-- ---- objects that never fail

-- Every count is 0, before and after.
pub record AllZero (old new : Seen) : Type 0 where
  pub reads : (old.read_faults ≡ 0) × (new.read_faults ≡ 0)
  pub writes : (old.write_faults ≡ 0) × (new.write_faults ≡ 0)
  pub outputs : (old.output_faults ≡ 0) × (new.output_faults ≡ 0)
  pub inputs : (old.input_faults ≡ 0) × (new.input_faults ≡ 0)

zero_rose : (old new : ℕ) → (old ≡ 0) × (new ≡ 0) → Rose old new → ⊥
zero_rose old new zero rose = rose_never (subst (λ n. Rose n 0) zero.0 (subst (λ n. Rose old n) zero.1 rose))

pub no_fault : (result : Status) (old new : Seen) → HasCause (result_of_status result) old new → AllZero old new → IsNoFault result
no_fault result old new cause zero = (
  λ is. elim (subst (λ r. HasCause (result_of_status r) old new) is cause) [
    | inl c ↦ zero_rose old.read_faults new.read_faults zero.reads c.reads
    | inr c ↦ zero_rose old.input_faults new.input_faults zero.inputs c.inputs
  ],
  λ is. elim (subst (λ r. HasCause (result_of_status r) old new) is cause) [
    | inl c ↦ zero_rose old.write_faults new.write_faults zero.writes c.writes
    | inr c ↦ zero_rose old.output_faults new.output_faults zero.outputs c.outputs
  ],
)
