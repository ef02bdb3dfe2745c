-- The causes of results in the counts of faults, by the events of a program.
use Rattle.std.proofs.Common.{◌≡◌, ℕ, List, [], ◌∷◌, Result, Err, sym, ap, subst, ◌∙◌, inl, inr}
use Rattle.m36_outside.specs.Counts.{Rose}
use Rattle.m36_outside.specs.declared.folder.ReadAnswer.{ReadAnswer}
use Rattle.m36_outside.specs.declared.folder.ReadAnswer.TheVariants as read
use Rattle.m36_outside.specs.declared.folder.WriteAnswer.{WriteAnswer}
use Rattle.m36_outside.specs.declared.folder.WriteAnswer.TheVariants as write
use Rattle.m36_world.specs.declared.event.Event.{Event}
use Rattle.m36_world.specs.declared.event.Event.TheVariants.{FileRead, FileWrite, Output, OutputFailed, Input}
use Rattle.m36_world.specs.declared.event.Event.TheVariants.{InputFailed}
use Rattle.m36_world.specs.Seen.{Seen}
use Rattle.m36_world.specs.Happened.{IsFileRead, IsFileWrite, IsOutput, IsOutputFailed, IsInput, IsInputFailed}
use Rattle.m36_world.specs.Follow.{Follow}
use Rattle.m36_status.specs.declared.status.Status.{Status}
use Rattle.m36_status.specs.declared.status.Status.TheVariants as status
use Rattle.m36_program.specs.Program.{May}
use Rattle.m36_program.specs.Goes.{Ends, AfterRead, AfterWrite}
use Rattle.m36_program.specs.MayHappen.{IsWithoutFailure, MayHappen, NoneFailed, ReadFailed, WriteFailed, PutFailed, TakeFailed}
use Rattle.m36_program.specs.MayHappen.{HasCause}

-- ---- counts of faults

none_failed : (old new : Seen) → new ≡ old → NoneFailed old new
none_failed old new same = record {
  reads = ap (λ s. s.read_faults) same;
  writes = ap (λ s. s.write_faults) same;
  outputs = ap (λ s. s.output_faults) same;
  inputs = ap (λ s. s.input_faults) same;
}

-- if no call failed
unfailed_cause :
    {A : Type 0} (result : Result A Status) (old new : Seen) → IsWithoutFailure result → NoneFailed old new
    → HasCause result old new
unfailed_cause (Err status.ReadFault) old new is none = absurd is
unfailed_cause (Err status.WriteFault) old new is none = absurd is
unfailed_cause _ old new is none = none

none_after : (old between new : Seen) → NoneFailed old between → NoneFailed between new → NoneFailed old new
none_after old between new first rest = record {
  reads = rest.reads ∙ first.reads;
  writes = rest.writes ∙ first.writes;
  outputs = rest.outputs ∙ first.outputs;
  inputs = rest.inputs ∙ first.inputs;
}

read_after : (old between new : Seen) → NoneFailed old between → ReadFailed between new → ReadFailed old new
read_after old between new first rest = record {
  reads = subst (λ n. Rose n new.read_faults) first.reads rest.reads;
  writes = rest.writes ∙ first.writes;
  outputs = rest.outputs ∙ first.outputs;
  inputs = rest.inputs ∙ first.inputs;
}

write_after : (old between new : Seen) → NoneFailed old between → WriteFailed between new → WriteFailed old new
write_after old between new first rest = record {
  reads = rest.reads ∙ first.reads;
  writes = subst (λ n. Rose n new.write_faults) first.writes rest.writes;
  outputs = rest.outputs ∙ first.outputs;
  inputs = rest.inputs ∙ first.inputs;
}

put_after : (old between new : Seen) → NoneFailed old between → PutFailed between new → PutFailed old new
put_after old between new first rest = record {
  reads = rest.reads ∙ first.reads;
  writes = rest.writes ∙ first.writes;
  outputs = subst (λ n. Rose n new.output_faults) first.outputs rest.outputs;
  inputs = rest.inputs ∙ first.inputs;
}

take_after : (old between new : Seen) → NoneFailed old between → TakeFailed between new → TakeFailed old new
take_after old between new first rest = record {
  reads = rest.reads ∙ first.reads;
  writes = rest.writes ∙ first.writes;
  outputs = rest.outputs ∙ first.outputs;
  inputs = subst (λ n. Rose n new.input_faults) first.inputs rest.inputs;
}

-- a call that did not fail, and then others
cause_after :
    {A : Type 0} (result : Result A Status) (old between new : Seen) → NoneFailed old between
    → HasCause result between new → HasCause result old new
cause_after (Err status.ReadFault) old between new first (inl rest) = inl (read_after old between new first rest)
cause_after (Err status.ReadFault) old between new first (inr rest) = inr (take_after old between new first rest)
cause_after (Err status.WriteFault) old between new first (inl rest) = inl (write_after old between new first rest)
cause_after (Err status.WriteFault) old between new first (inr rest) = inr (put_after old between new first rest)
cause_after _ old between new first rest = none_after old between new first rest

-- the last call failed
last_cause :
    {A : Type 0} (value : Result A Status) (more : List Event) (result : Result A Status) (old between new : Seen)
    → Ends value more result → Follow more between new → HasCause value old between → HasCause result old new
unfolding Follow
last_cause value more result old between new ends follow cause =
    let same : Follow [] between new = subst (λ events. Follow events between new) ends.none follow in
    subst (λ (r : Result _ Status). HasCause r old new) (sym ends.result_is)
    (subst (λ s. HasCause value old s) (sym same) cause)

file_read :
    (name : List ℕ) (answer : ReadAnswer) (old new : Seen) → IsFileRead name answer old new
    → new.read_faults ≡ old.read_faults → NoneFailed old new
file_read name answer old new did same = record {
  reads = same;
  writes = ap (λ s. s.write_faults) did.rest;
  outputs = ap (λ s. s.output_faults) did.rest;
  inputs = ap (λ s. s.input_faults) did.rest;
}

file_written :
    (name content : List ℕ) (answer : WriteAnswer) (old new : Seen) → IsFileWrite name content answer old new
    → new.write_faults ≡ old.write_faults → NoneFailed old new
file_written name content answer old new did same = record {
  reads = ap (λ s. s.read_faults) did.rest;
  writes = same;
  outputs = ap (λ s. s.output_faults) did.rest;
  inputs = ap (λ s. s.input_faults) did.rest;
}

read_cause :
    {A : Type 0} (may : May) (name : List ℕ) (answer : ReadAnswer) (more : List Event) (result : Result A Status)
    (old between new : Seen)
    → IsFileRead name answer old between → Follow more between new
    → (MayHappen may more result → HasCause result between new)
    → AfterRead answer (λ found events. MayHappen may more result) more result → HasCause result old new
read_cause may name (read.Read bytes) more result old between new did follow rest after =
    cause_after result old between new (file_read name (read.Read bytes) old between did did.cause) (rest after)
read_cause may name read.Absent more result old between new did follow rest after =
    cause_after result old between new (file_read name read.Absent old between did did.cause) (rest after)
read_cause may name read.TooLarge more result old between new did follow rest after =
    cause_after result old between new (file_read name read.TooLarge old between did did.cause) (rest after)
read_cause {A = A} may name read.Failed more result old between new did follow rest after =
    last_cause {A = A} (Err status.ReadFault) more result old between new after follow (inl (record {
      reads = did.cause;
      writes = ap (λ s. s.write_faults) did.rest;
      outputs = ap (λ s. s.output_faults) did.rest;
      inputs = ap (λ s. s.input_faults) did.rest;
    }))
read_cause {A = A} may name read.NoMemory more result old between new did follow rest after =
    last_cause {A = A} (Err status.NoMemory) more result old between new after follow
    (file_read name read.NoMemory old between did did.cause)

write_cause :
    {A : Type 0} (may : May) (name content : List ℕ) (answer : WriteAnswer) (more : List Event)
    (result : Result A Status) (old between new : Seen)
    → IsFileWrite name content answer old between → Follow more between new
    → (MayHappen may more result → HasCause result between new)
    → AfterWrite answer (λ events. MayHappen may more result) more result → HasCause result old new
write_cause may name content write.Written more result old between new did follow rest after =
    cause_after result old between new (file_written name content write.Written old between did did.cause) (rest after)
write_cause {A = A} may name content write.Failed more result old between new did follow rest after =
    last_cause {A = A} (Err status.WriteFault) more result old between new after follow (inl (record {
      reads = ap (λ s. s.read_faults) did.rest;
      writes = did.cause;
      outputs = ap (λ s. s.output_faults) did.rest;
      inputs = ap (λ s. s.input_faults) did.rest;
    }))
write_cause {A = A} may name content write.NoMemory more result old between new did follow rest after =
    last_cause {A = A} (Err status.NoMemory) more result old between new after follow
    (file_written name content write.NoMemory old between did did.cause)

-- each result has its cause
pub trail_cause :
    {A : Type 0} (may : May) (events : List Event) (result : Result A Status) (old new : Seen)
    → MayHappen may events result → Follow events old new → HasCause result old new
unfolding Follow
trail_cause may [] result old new trail same = unfailed_cause result old new trail (none_failed old new same)
trail_cause may (FileRead name answer ∷ more) result old new trail follow =
    read_cause may name answer more result old follow.between new follow.begins follow.goes_on
    (λ on. trail_cause may more result follow.between new on follow.goes_on) trail
trail_cause may (FileWrite name content answer ∷ more) result old new trail follow =
    write_cause may name content answer more result old follow.between new follow.begins follow.goes_on
    (λ on. trail_cause may more result follow.between new on follow.goes_on) trail.1
trail_cause may (Output piece ∷ more) result old new trail follow =
    let did : IsOutput piece old follow.between = follow.begins in
    cause_after result old follow.between new (record {
      reads = ap (λ s. s.read_faults) did.rest;
      writes = ap (λ s. s.write_faults) did.rest;
      outputs = ap (λ s. s.output_faults) did.rest;
      inputs = ap (λ s. s.input_faults) did.rest;
    }) (trail_cause may more result follow.between new trail follow.goes_on)
trail_cause {A = A} may (OutputFailed pieces ∷ more) result old new trail follow =
    let did : IsOutputFailed pieces old follow.between = follow.begins in
    last_cause {A = A} (Err status.WriteFault) more result old follow.between new trail follow.goes_on (inr (record {
      reads = ap (λ s. s.read_faults) did.rest;
      writes = ap (λ s. s.write_faults) did.rest;
      outputs = did.cause;
      inputs = ap (λ s. s.input_faults) did.rest;
    }))
trail_cause may (Input piece ∷ more) result old new trail follow =
    let did : IsInput piece old follow.between = follow.begins in
    cause_after result old follow.between new (record {
      reads = ap (λ s. s.read_faults) did.rest;
      writes = ap (λ s. s.write_faults) did.rest;
      outputs = ap (λ s. s.output_faults) did.rest;
      inputs = ap (λ s. s.input_faults) did.rest;
    }) (trail_cause may more result follow.between new trail.1 follow.goes_on)
trail_cause {A = A} may (InputFailed ∷ more) result old new trail follow =
    let did : IsInputFailed old follow.between = follow.begins in
    last_cause {A = A} (Err status.ReadFault) more result old follow.between new trail.1 follow.goes_on (inr (record {
      reads = ap (λ s. s.read_faults) did.rest;
      writes = ap (λ s. s.write_faults) did.rest;
      outputs = ap (λ s. s.output_faults) did.rest;
      inputs = did.cause;
    }))
