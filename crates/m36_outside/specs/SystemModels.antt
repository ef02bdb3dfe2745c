-- What contracts know of the files, the input and the output of the system: counts of faults and
-- logs.
use Rattle.std.specs.Prelude.{ℕ, List}
use Rattle.std.specs.declared.io.ErrorKind.{ErrorKind}
use Rattle.m36_outside.specs.FolderCalls.{Asked, Wrote}
use Rattle.m36_outside.specs.declared.name_calls.NameCall.{NameCall}

-- A folder: `reads` and `writes` count the calls that failed. Then its calls, the pieces that its
-- files gave, the bytes that each file took when it was made, the calls that change names, and the
-- errors of the system.
pub record FolderModel : Type 0 where
  pub reads : ℕ
  pub writes : ℕ
  pub asked : List Asked
  pub wrote : List Wrote
  pub given : List (List ℕ)
  pub taken : List (List ℕ)
  pub names : List NameCall
  pub errors : List ErrorKind

-- an input: the count of calls that failed, the pieces that it gave, and the errors of the system
pub record InputModel : Type 0 where
  pub faults : ℕ
  pub given : List (List ℕ)
  pub errors : List ErrorKind

-- an output: the count of puts that failed, the pieces that it took, and the errors of the system
pub record OutputModel : Type 0 where
  pub faults : ℕ
  pub taken : List (List ℕ)
  pub errors : List ErrorKind
