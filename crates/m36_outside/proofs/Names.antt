-- A name that names no file is not one that may name a file.
use Rattle.std.proofs.Common.{◌≡◌, ℕ, List}
use Rattle.m36_outside.specs.System.{NamesFile, NamesNoFile}
use Rattle.m36_outside.specs.declared.folder.ReadAnswer.{ReadAnswer}
use Rattle.m36_outside.specs.declared.folder.ReadAnswer.TheVariants as read
use Rattle.m36_outside.specs.declared.name_calls.NameCall.{NameCall}
use Rattle.m36_outside.specs.declared.sink.Put.{Put}
use Rattle.m36_outside.specs.declared.sink.Put.TheVariants as put

pub never_both : (name : List ℕ) → NamesFile name → NamesNoFile name → ⊥
never_both name file none = file.no_slash (none file.text)

pub not_read : (name : List ℕ) (answer : ReadAnswer) → NamesFile name → NamesNoFile name → answer ≡ read.Absent
not_read name answer file none = absurd (never_both name file none)

pub not_written :
    (name : List ℕ) (answer : Put) (old new : List (List ℕ)) (calls calls' : List NameCall)
    → NamesFile name → NamesNoFile name → (answer ≡ put.Failed) × (new ≡ old) × (calls' ≡ calls)
not_written name answer old new calls calls' file none = absurd (never_both name file none)
