-- What the answer to a read implies.
use Rattle.std.specs.Prelude.{ℕ, ◌≡◌, ◌≤◌, ◌<◌, List, length, Option, Some, None, ⊤}
use Rattle.m36_outside.specs.Counts.{Rose}
use Rattle.m36_outside.specs.declared.folder.ReadAnswer.{ReadAnswer}
use Rattle.m36_outside.specs.declared.folder.ReadAnswer.TheVariants.{Read, Absent, TooLarge, Failed}
use Rattle.m36_outside.specs.declared.folder.ReadAnswer.TheVariants.{NoMemory}

-- the maximum length of a file that can be read: 16 MiB
abbrev pub file_limit : ℕ
file_limit = 16777216

-- what the answer implies for the named file, if the files of the folder are known
abbrev pub ReadResult : ReadAnswer → Option (List ℕ) → Type 0
ReadResult (Read bytes) file = file ≡ Some bytes
ReadResult Absent file = file ≡ None
ReadResult TooLarge file = (bytes : List ℕ) × (file ≡ Some bytes) × (file_limit < length bytes)
ReadResult Failed file = ⊤
ReadResult NoMemory file = ⊤

-- what is read is within the limit
abbrev pub IsWithinLimit : ReadAnswer → Type 0
IsWithinLimit (Read bytes) = length bytes ≤ file_limit
IsWithinLimit Absent = ⊤
IsWithinLimit TooLarge = ⊤
IsWithinLimit Failed = ⊤
IsWithinLimit NoMemory = ⊤

-- A failed read raised the count of faults; every other read left it unchanged.
abbrev pub ReadHasCause : ReadAnswer → ℕ → ℕ → Type 0
ReadHasCause (Read bytes) old new = new ≡ old
ReadHasCause Absent old new = new ≡ old
ReadHasCause TooLarge old new = new ≡ old
ReadHasCause Failed old new = Rose old new
ReadHasCause NoMemory old new = new ≡ old

-- the answer is not Failed
abbrev pub IsNoFault : ReadAnswer → Type 0
IsNoFault (Read bytes) = ⊤
IsNoFault Absent = ⊤
IsNoFault TooLarge = ⊤
IsNoFault Failed = ⊥
IsNoFault NoMemory = ⊤
