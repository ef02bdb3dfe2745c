-- A call that performs a program over a world of three references performs it over the three objects.
use Rattle.std.proofs.Common.{◌≡◌, ℕ, false, List, ◌++◌, Option, Result, Ok, Err, sym, ap, subst, ◌∙◌, refl, inl, inr}
use Rattle.m36_outside.specs.Counts.{Rose}
use Rattle.m36_outside.specs.Files.{Files}
use Rattle.m36_outside.specs.FolderCalls.{Asked, Wrote}
use Rattle.m36_world.specs.declared.event.Event.{Event}
use Rattle.m36_world.specs.Follow.{Follow}
use Rattle.m36_world.specs.Seen.{Seen}
use Rattle.m36_world.proofs.Following.{follow_logs}
use Rattle.m36_status.specs.declared.status.Status.{Status}
use Rattle.m36_status.specs.declared.status.Status.TheVariants as status
use Rattle.m36_program.specs.Early.{result_of_status, status_of_result}
use Rattle.m36_program.specs.Goes.{Goes}
use Rattle.m36_program.specs.Performs.{Performs}
use Rattle.m36_program.specs.Program.{May, Program}
use Rattle.m36_program.specs.MayHappen.{NoneFailed, HasCause, FilesKept, InputKept}
use Rattle.m36_program.proofs.ProgramLaws.{early_given, performs_given, performs_cause, performs_files, performs_input}
use Rattle.m36_program.specs.Objects.{objects_as_world, PerformsOver}

-- The two states have the same records of the objects.
pub record SameObjects (seen other : Seen) : Type 0 where
  pub reads : seen.reads ≡ other.reads
  pub writes : seen.writes ≡ other.writes
  pub outputs : seen.outputs ≡ other.outputs
  pub inputs : seen.inputs ≡ other.inputs
  pub files : seen.files ≡ other.files
  pub written : seen.written ≡ other.written
  pub left : seen.left ≡ other.left
  pub read_faults : seen.read_faults ≡ other.read_faults
  pub write_faults : seen.write_faults ≡ other.write_faults
  pub output_faults : seen.output_faults ≡ other.output_faults
  pub input_faults : seen.input_faults ≡ other.input_faults

same_seen :
    (seen other : Seen) → SameObjects seen other
    → seen ≡ record other { events = seen.events; references = seen.references }
same_seen seen other same =
    let reads = same.reads in let writes = same.writes in let outputs = same.outputs in
    let inputs = same.inputs in let files = same.files in let written = same.written in
    let left = same.left in let read_faults = same.read_faults in let write_faults = same.write_faults in
    let output_faults = same.output_faults in let input_faults = same.input_faults in
    rw (sym reads, sym writes, sym outputs, sym inputs, sym files, sym written, sym left, sym read_faults, sym write_faults, sym output_faults, sym input_faults)
    refl

-- The records of a world of three references are those of its objects.
pub same_now :
    {F L S : Type 0} (asked : F → List Asked) (wrote : F → List Wrote) (files : F → Option Files)
    (read_faults write_faults : F → ℕ) (given : L → List (List ℕ)) (left : L → Option (List ℕ)) (input_faults : L → ℕ)
    (taken : S → List (List ℕ)) (written : S → Option (List ℕ)) (faults : S → ℕ)
    (folder folder' : F) (lines lines' : L) (out out' : S) (events : List Event) (references : List ℕ)
    → folder ≡ folder' → lines ≡ lines' → out ≡ out'
    → SameObjects
    (record (objects_as_world asked wrote files read_faults write_faults given left input_faults taken written faults folder lines out) { events = events; references = references })
    (objects_as_world asked wrote files read_faults write_faults given left input_faults taken written faults folder' lines' out')
same_now asked wrote files read_faults write_faults given left input_faults taken written faults folder folder' lines lines' out out' events references f l s = record {
  reads = ap asked f;
  writes = ap wrote f;
  outputs = ap taken s;
  inputs = ap given l;
  files = ap files f;
  written = ap written s;
  left = ap left l;
  read_faults = ap read_faults f;
  write_faults = ap write_faults f;
  output_faults = ap faults s;
  input_faults = ap input_faults l;
}

pub performs_over :
    {may : May} (program : Program may (Unit {0})) (result : Result (Unit {0}) Status) (status : Status)
    (old new old' new' : Seen)
    → status ≡ status_of_result result → old.events ≡ old'.events → SameObjects old old' → SameObjects new new'
    → Performs program result old new → PerformsOver program (result_of_status status) old' new'
performs_over program result status old new old' new' status_is none same_old same_new performs =
    let logs = follow_logs performs.events old new performs.follow in
    let old_is : old ≡ record old' { references = old.references } =
    same_seen old old' same_old ∙ ap (λ e. record old' { events = e; references = old.references }) none in
    let new_is : new ≡ record new' { events = old'.events ++ performs.events; references = old.references } =
    same_seen new new' same_new
    ∙ ap (λ e. record new' { events = e; references = new.references }) (logs.all ∙ ap (λ e. e ++ performs.events) none)
    ∙ ap (λ (l : List ℕ). record new' { events = old'.events ++ performs.events; references = l }) logs.references in
    record {
      events = performs.events;
      references = old.references;
      follow =
          subst (λ s. Follow performs.events s (record new' { events = old'.events ++ performs.events; references = old.references })) old_is
          (subst (λ s. Follow performs.events old s) new_is performs.follow);
      goes =
          subst (λ r. Goes program performs.events r)
          (sym (ap result_of_status status_is ∙ early_given result (performs_given program result old new performs))) performs.goes;
    }

-- ---- what a call over the three objects does, as a call over a world

-- the two states of a world that has these objects
abbrev pub world_before :
    {may : May} {A : Type 0} {program : Program may A} {result : Result A Status} {old new : Seen}
    → PerformsOver program result old new → Seen
world_before {old = old} over = record old { references = over.references }

abbrev pub world_after :
    {may : May} {A : Type 0} {program : Program may A} {result : Result A Status} {old new : Seen}
    → PerformsOver program result old new → Seen
world_after {old = old} {new = new} over =
    record new { events = old.events ++ over.events; references = over.references }

pub over_performs :
    {may : May} {A : Type 0} {program : Program may A} {result : Result A Status} {old new : Seen}
    (over : PerformsOver program result old new)
    → Performs program result (world_before over) (world_after over)
over_performs over = record { events = over.events; follow = over.follow; goes = over.goes }

-- The counts of faults of two pairs of states are the same.
record SameCounts (old new old' new' : Seen) : Type 0 where
  read : old.read_faults ≡ old'.read_faults
  read' : new.read_faults ≡ new'.read_faults
  write : old.write_faults ≡ old'.write_faults
  write' : new.write_faults ≡ new'.write_faults
  output : old.output_faults ≡ old'.output_faults
  output' : new.output_faults ≡ new'.output_faults
  input : old.input_faults ≡ old'.input_faults
  input' : new.input_faults ≡ new'.input_faults

rose_same : (old new old' new' : ℕ) → old ≡ old' → new ≡ new' → Rose old new → Rose old' new'
rose_same old new old' new' same same' rose = subst (λ n. Rose n new') same (subst (λ n. Rose old n) same' rose)

stood_same : (old new old' new' : ℕ) → old ≡ old' → new ≡ new' → new ≡ old → new' ≡ old'
stood_same old new old' new' same same' stood = sym same' ∙ stood ∙ same

none_same : (old new old' new' : Seen) → SameCounts old new old' new' → NoneFailed old new → NoneFailed old' new'
none_same old new old' new' same none = record {
  reads = stood_same _ _ _ _ same.read same.read' none.reads;
  writes = stood_same _ _ _ _ same.write same.write' none.writes;
  outputs = stood_same _ _ _ _ same.output same.output' none.outputs;
  inputs = stood_same _ _ _ _ same.input same.input' none.inputs;
}

cause_same :
    {A : Type 0} (result : Result A Status) (old new old' new' : Seen) → SameCounts old new old' new'
    → HasCause result old new → HasCause result old' new'
cause_same (Err status.ReadFault) old new old' new' same (inl failed) = inl (record {
  reads = rose_same _ _ _ _ same.read same.read' failed.reads;
  writes = stood_same _ _ _ _ same.write same.write' failed.writes;
  outputs = stood_same _ _ _ _ same.output same.output' failed.outputs;
  inputs = stood_same _ _ _ _ same.input same.input' failed.inputs;
})
cause_same (Err status.ReadFault) old new old' new' same (inr failed) = inr (record {
  reads = stood_same _ _ _ _ same.read same.read' failed.reads;
  writes = stood_same _ _ _ _ same.write same.write' failed.writes;
  outputs = stood_same _ _ _ _ same.output same.output' failed.outputs;
  inputs = rose_same _ _ _ _ same.input same.input' failed.inputs;
})
cause_same (Err status.WriteFault) old new old' new' same (inl failed) = inl (record {
  reads = stood_same _ _ _ _ same.read same.read' failed.reads;
  writes = rose_same _ _ _ _ same.write same.write' failed.writes;
  outputs = stood_same _ _ _ _ same.output same.output' failed.outputs;
  inputs = stood_same _ _ _ _ same.input same.input' failed.inputs;
})
cause_same (Err status.WriteFault) old new old' new' same (inr failed) = inr (record {
  reads = stood_same _ _ _ _ same.read same.read' failed.reads;
  writes = stood_same _ _ _ _ same.write same.write' failed.writes;
  outputs = rose_same _ _ _ _ same.output same.output' failed.outputs;
  inputs = stood_same _ _ _ _ same.input same.input' failed.inputs;
})
cause_same (Ok a) old new old' new' same none = none_same old new old' new' same none
cause_same (Err status.Done) old new old' new' same none = none_same old new old' new' same none
cause_same (Err status.Usage) old new old' new' same none = none_same old new old' new' same none
cause_same (Err (status.BadFile bad)) old new old' new' same none = none_same old new old' new' same none
cause_same (Err status.AuditNo) old new old' new' same none = none_same old new old' new' same none
cause_same (Err (status.MachineStop end)) old new old' new' same none = none_same old new old' new' same none
cause_same (Err status.Steps) old new old' new' same none = none_same old new old' new' same none
cause_same (Err status.NoMemory) old new old' new' same none = none_same old new old' new' same none

pub over_cause :
    {may : May} {A : Type 0} (program : Program may A) (result : Result A Status) (old new : Seen)
    → PerformsOver program result old new → HasCause result old new
over_cause program result old new over =
    cause_same result (world_before over) (world_after over) old new (record {
      read = refl;
      read' = refl;
      write = refl;
      write' = refl;
      output = refl;
      output' = refl;
      input = refl;
      input' = refl;
    }) (performs_cause program result (world_before over) (world_after over) (over_performs over))

pub over_files :
    {may : May} {A : Type 0} (program : Program may A) (result : Result A Status) (old new : Seen)
    → may.writes ≡ false → PerformsOver program result old new → FilesKept old new
over_files program result old new never over =
    let kept = performs_files program result (world_before over) (world_after over) never (over_performs over) in
    record { files = kept.files; writes = kept.writes; faults = kept.faults }

pub over_input :
    {may : May} {A : Type 0} (program : Program may A) (result : Result A Status) (old new : Seen)
    → may.takes ≡ false → PerformsOver program result old new → InputKept old new
over_input program result old new never over =
    let kept = performs_input program result (world_before over) (world_after over) never (over_performs over) in
    record { left = kept.left; inputs = kept.inputs; faults = kept.faults }
