-- The logged calls of the system that change the names of a directory, and how they replace a
-- file.
use Rattle.std.specs.Prelude.{ℕ, zero, suc, ◌≡◌, ◌+◌, ◌/◌, ◌%◌, ◌⊎◌, Bool, true, false, List, []}
use Rattle.std.specs.Prelude.{◌∷◌, ◌++◌}
use Rattle.std.specs.Prelude.{replicate, codes}
use Rattle.std.specs.declared.io.ErrorKind.{ErrorKind}
use Rattle.std.specs.declared.io.ErrorKind.TheVariants.{AlreadyExists}
use Rattle.m36_outside.specs.Signals.{Signals, GivesUp}
use Rattle.m36_outside.specs.declared.name_calls.NameCall.{NameCall}
use Rattle.m36_outside.specs.declared.name_calls.NameCall.TheVariants.{Make, Rename, Remove}
use Rattle.m36_outside.specs.declared.sink.Put.{Put}
use Rattle.m36_outside.specs.declared.sink.Put.TheVariants.{Done, Failed}

-- one error was logged, unless the call was done; then none was
abbrev pub ErrorUnless : Bool → List ErrorKind → List ErrorKind → Type 0
ErrorUnless true old new = new ≡ old
ErrorUnless false old new = (kind : ErrorKind) × (new ≡ old ++ kind ∷ [])

-- the spare name with this number, which is below 1000: `.m36-` and three digits
unfoldable pub spare_name : ℕ → List ℕ
spare_name number =
    codes ".m36-" ++ (48 + number / 100) ∷ (48 + number / 10 % 10) ∷ (48 + number % 10) ∷ []

-- the calls that tried each of the first `n` spare names in order, all of which the system refused
unfoldable pub refused_tries : ℕ → List NameCall
refused_tries zero = []
refused_tries (suc n) = refused_tries n ++ Make (spare_name n) false ∷ []

-- A file was created under the first spare name that was free; each before it existed already.
pub record MakesSpare (spare : List ℕ) (calls calls' : List NameCall)
    (errors errors' : List ErrorKind) : Type 0 where
  pub count : ℕ
  pub name : spare ≡ spare_name count
  pub noted : calls' ≡ calls ++ refused_tries count ++ Make spare true ∷ []
  pub refused : errors' ≡ errors ++ replicate count AlreadyExists

-- No file could be created under a spare name. The last try was refused with error `kind`.
pub record MakesNone (calls calls' : List NameCall) (errors errors' : List ErrorKind)
    : Type 0 where
  pub count : ℕ
  pub noted : calls' ≡ calls ++ refused_tries count
  pub before : ℕ
  pub kind : ErrorKind
  pub refused : errors' ≡ errors ++ replicate before AlreadyExists ++ kind ∷ []

-- What was done with the spare file. Done: it was renamed to the name, and replaced the file that
-- had the name before. Failed: a removal was tried, and no file was renamed.
abbrev pub SpareUsed : Put → List ℕ → List ℕ → List NameCall → List NameCall → Type 0
SpareUsed Done spare name old new = new ≡ old ++ Rename spare name true ∷ []
SpareUsed Failed spare name old new =
    (done : Bool)
    × ((new ≡ old ++ Remove spare done ∷ [])
    ⊎ (new ≡ old ++ Rename spare name false ∷ [] ++ Remove spare done ∷ []))

-- The errors logged by a failure: those of a call that gave up or was refused, and after them at
-- most the error of the removal of the spare file.
pub record LogsFailure (old new : List ErrorKind) : Type 0 where
  pub failed : List ErrorKind
  pub cause : GivesUp old failed
      ⊎ ((before : List ErrorKind) × Signals old before × ErrorUnless false before failed)
  pub removal : (done : Bool) × ErrorUnless done failed new

-- The errors of writing and renaming the spare file. Done: only interruptions by signals.
abbrev pub SpareErrors : Put → List ErrorKind → List ErrorKind → Type 0
SpareErrors Done old new = Signals old new
SpareErrors Failed old new = LogsFailure old new

-- The calls that replace a file as a whole: tries of spare names, the creation of the spare file,
-- and its renaming.
pub record IsFileReplaced (name : List ℕ) (old new : List NameCall) : Type 0 where
  pub count : ℕ
  pub noted : new
      ≡ old ++ refused_tries count ++ Make (spare_name count) true ∷ []
      ++ Rename (spare_name count) name true ∷ []

-- No file was renamed: no spare file was created, or one was and its removal was tried.
pub record NoFileIsRenamed (name : List ℕ) (old new : List NameCall) : Type 0 where
  pub count : ℕ
  pub noted : (new ≡ old ++ refused_tries count)
      ⊎ SpareUsed Failed (spare_name count) name
      (old ++ refused_tries count ++ Make (spare_name count) true ∷ []) new

-- what the answer to the writing of a file implies for the calls that change names: a file is
-- replaced whole or not at all
abbrev pub ReplaceCalls : Put → List ℕ → List NameCall → List NameCall → Type 0
ReplaceCalls Done name old new = IsFileReplaced name old new
ReplaceCalls Failed name old new = NoFileIsRenamed name old new
