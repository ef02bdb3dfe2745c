-- What the answer to a write implies.
use Rattle.std.specs.Prelude.{ℕ, ◌≡◌, List, Option, Some}
use Rattle.m36_outside.specs.Counts.{Rose}
use Rattle.m36_outside.specs.Files.{Files, with_known_file}
use Rattle.m36_outside.specs.declared.folder.WriteAnswer.{WriteAnswer}
use Rattle.m36_outside.specs.declared.folder.WriteAnswer.TheVariants.{Written, Failed, NoMemory}

-- what the answer implies for the files, before and after
abbrev pub WriteResult : WriteAnswer → Option Files → Option Files → List ℕ → List ℕ → Type 0
WriteResult Written old new name content = new ≡ with_known_file name (Some content) old
WriteResult Failed old new name content = new ≡ old
WriteResult NoMemory old new name content = new ≡ old

-- A failed write raised the count of faults; every other write left it unchanged.
abbrev pub WriteHasCause : WriteAnswer → ℕ → ℕ → Type 0
WriteHasCause Written old new = new ≡ old
WriteHasCause Failed old new = Rose old new
WriteHasCause NoMemory old new = new ≡ old
