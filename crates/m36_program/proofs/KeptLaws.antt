-- A program that may not write keeps all files, and one that may not take input leaves the input as it is.
use Rattle.std.proofs.Common.{◌≡◌, ℕ, Bool, true, false, List, [], ◌∷◌, Result, ap, subst, ◌∙◌}
use Rattle.m36_outside.specs.declared.folder.ReadAnswer.{ReadAnswer}
use Rattle.m36_outside.specs.declared.folder.ReadAnswer.TheVariants as read
use Rattle.m36_outside.specs.declared.folder.WriteAnswer.{WriteAnswer}
use Rattle.m36_outside.specs.declared.folder.WriteAnswer.TheVariants as write
use Rattle.m36_world.specs.declared.event.Event.{Event}
use Rattle.m36_world.specs.declared.event.Event.TheVariants.{FileRead, FileWrite, Output, OutputFailed, Input}
use Rattle.m36_world.specs.declared.event.Event.TheVariants.{InputFailed}
use Rattle.m36_world.specs.Seen.{Seen}
use Rattle.m36_world.specs.Happened.{IsFileRead, IsFileWrite, IsOutput, IsOutputFailed, IsInput, IsInputFailed}
use Rattle.m36_world.specs.Follow.{Follow}
use Rattle.m36_status.specs.declared.status.Status.{Status}
use Rattle.m36_program.specs.Program.{May}
use Rattle.m36_program.specs.Goes.{AfterRead, AfterWrite}
use Rattle.m36_program.specs.MayHappen.{MayHappen, FilesKept, InputKept}

-- P holds for every answer if it holds when the program ends and when it continues
pub after_read :
    {A P : Type 0} (answer : ReadAnswer) (goes : Type 0) (more : List Event) (result : Result A Status)
    → (more ≡ [] → P) → (goes → P) → AfterRead answer (λ found events. goes) more result → P
after_read (read.Read bytes) goes more result none on after = on after
after_read read.Absent goes more result none on after = on after
after_read read.TooLarge goes more result none on after = on after
after_read read.Failed goes more result none on after = none after.none
after_read read.NoMemory goes more result none on after = none after.none

pub after_write :
    {A P : Type 0} (answer : WriteAnswer) (goes : Type 0) (more : List Event) (result : Result A Status)
    → (more ≡ [] → P) → (goes → P) → AfterWrite answer (λ events. goes) more result → P
after_write write.Written goes more result none on after = on after
after_write write.Failed goes more result none on after = none after.none
after_write write.NoMemory goes more result none on after = none after.none

-- no more events
pub passed_none : (more : List Event) (old new : Seen) → more ≡ [] → Follow more old new → new ≡ old
unfolding Follow
passed_none more old new none follow =
    let same : Follow [] old new = subst (λ events. Follow events old new) none follow in same

pub false_true : {P : Type 0} (b : Bool) → b ≡ false → b ≡ true → P
false_true b never holds = absurd (cc)

-- ---- files

files_kept : (old new : Seen) → new ≡ old → FilesKept old new
files_kept old new same = record {
  files = ap (λ s. s.files) same;
  writes = ap (λ s. s.writes) same;
  faults = ap (λ s. s.write_faults) same;
}

files_after : (old between new : Seen) → FilesKept old between → FilesKept between new → FilesKept old new
files_after old between new first rest = record {
  files = rest.files ∙ first.files;
  writes = rest.writes ∙ first.writes;
  faults = rest.faults ∙ first.faults;
}

read_keeps_files :
    (name : List ℕ) (answer : ReadAnswer) (old new : Seen) → IsFileRead name answer old new → FilesKept old new
read_keeps_files name answer old new did = record {
  files = ap (λ s. s.files) did.rest;
  writes = ap (λ s. s.writes) did.rest;
  faults = ap (λ s. s.write_faults) did.rest;
}

pub trail_files :
    {A : Type 0} (may : May) (events : List Event) (result : Result A Status) (old new : Seen)
    → may.writes ≡ false → MayHappen may events result → Follow events old new → FilesKept old new
unfolding Follow
trail_files may [] result old new never trail same = files_kept old new same
trail_files may (FileRead name answer ∷ more) result old new never trail follow =
    files_after old follow.between new (read_keeps_files name answer old follow.between follow.begins)
    (after_read answer (MayHappen may more result) more result
    (λ none. files_kept follow.between new (passed_none more follow.between new none follow.goes_on))
    (λ on. trail_files may more result follow.between new never on follow.goes_on) trail)
trail_files may (FileWrite name content answer ∷ more) result old new never trail follow =
    false_true may.writes never trail.0
trail_files may (Output piece ∷ more) result old new never trail follow =
    let did : IsOutput piece old follow.between = follow.begins in
    files_after old follow.between new (record {
      files = ap (λ s. s.files) did.rest;
      writes = ap (λ s. s.writes) did.rest;
      faults = ap (λ s. s.write_faults) did.rest;
    }) (trail_files may more result follow.between new never trail follow.goes_on)
trail_files may (OutputFailed pieces ∷ more) result old new never trail follow =
    let did : IsOutputFailed pieces old follow.between = follow.begins in
    files_after old follow.between new (record {
      files = ap (λ s. s.files) did.rest;
      writes = ap (λ s. s.writes) did.rest;
      faults = ap (λ s. s.write_faults) did.rest;
    }) (files_kept follow.between new (passed_none more follow.between new trail.none follow.goes_on))
trail_files may (Input piece ∷ more) result old new never trail follow =
    let did : IsInput piece old follow.between = follow.begins in
    files_after old follow.between new (record {
      files = ap (λ s. s.files) did.rest;
      writes = ap (λ s. s.writes) did.rest;
      faults = ap (λ s. s.write_faults) did.rest;
    }) (trail_files may more result follow.between new never trail.1 follow.goes_on)
trail_files may (InputFailed ∷ more) result old new never trail follow =
    let did : IsInputFailed old follow.between = follow.begins in
    files_after old follow.between new (record {
      files = ap (λ s. s.files) did.rest;
      writes = ap (λ s. s.writes) did.rest;
      faults = ap (λ s. s.write_faults) did.rest;
    }) (files_kept follow.between new (passed_none more follow.between new trail.1.none follow.goes_on))

-- ---- input

input_kept : (old new : Seen) → new ≡ old → InputKept old new
input_kept old new same = record {
  left = ap (λ s. s.left) same;
  inputs = ap (λ s. s.inputs) same;
  faults = ap (λ s. s.input_faults) same;
}

input_after : (old between new : Seen) → InputKept old between → InputKept between new → InputKept old new
input_after old between new first rest = record {
  left = rest.left ∙ first.left;
  inputs = rest.inputs ∙ first.inputs;
  faults = rest.faults ∙ first.faults;
}

pub trail_input :
    {A : Type 0} (may : May) (events : List Event) (result : Result A Status) (old new : Seen)
    → may.takes ≡ false → MayHappen may events result → Follow events old new → InputKept old new
unfolding Follow
trail_input may [] result old new never trail same = input_kept old new same
trail_input may (FileRead name answer ∷ more) result old new never trail follow =
    let did : IsFileRead name answer old follow.between = follow.begins in
    input_after old follow.between new (record {
      left = ap (λ s. s.left) did.rest;
      inputs = ap (λ s. s.inputs) did.rest;
      faults = ap (λ s. s.input_faults) did.rest;
    })
    (after_read answer (MayHappen may more result) more result
    (λ none. input_kept follow.between new (passed_none more follow.between new none follow.goes_on))
    (λ on. trail_input may more result follow.between new never on follow.goes_on) trail)
trail_input may (FileWrite name content answer ∷ more) result old new never trail follow =
    let did : IsFileWrite name content answer old follow.between = follow.begins in
    input_after old follow.between new (record {
      left = ap (λ s. s.left) did.rest;
      inputs = ap (λ s. s.inputs) did.rest;
      faults = ap (λ s. s.input_faults) did.rest;
    })
    (after_write answer (MayHappen may more result) more result
    (λ none. input_kept follow.between new (passed_none more follow.between new none follow.goes_on))
    (λ on. trail_input may more result follow.between new never on follow.goes_on) trail.1)
trail_input may (Output piece ∷ more) result old new never trail follow =
    let did : IsOutput piece old follow.between = follow.begins in
    input_after old follow.between new (record {
      left = ap (λ s. s.left) did.rest;
      inputs = ap (λ s. s.inputs) did.rest;
      faults = ap (λ s. s.input_faults) did.rest;
    }) (trail_input may more result follow.between new never trail follow.goes_on)
trail_input may (OutputFailed pieces ∷ more) result old new never trail follow =
    let did : IsOutputFailed pieces old follow.between = follow.begins in
    input_after old follow.between new (record {
      left = ap (λ s. s.left) did.rest;
      inputs = ap (λ s. s.inputs) did.rest;
      faults = ap (λ s. s.input_faults) did.rest;
    }) (input_kept follow.between new (passed_none more follow.between new trail.none follow.goes_on))
trail_input may (Input piece ∷ more) result old new never trail follow = false_true may.takes never trail.0
trail_input may (InputFailed ∷ more) result old new never trail follow = false_true may.takes never trail.0
