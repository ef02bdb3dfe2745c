-- The contract of putting a text into a sink, in pieces.
use Rattle.std.specs.Prelude.{ℕ, List}
use Rattle.m36_outside.specs.Passing.{joined, TakesLines}
use Rattle.m36_outside.specs.Put.{PutResult, PutHasCause}
use Rattle.m36_outside.specs.SinkState.{SinkState}
use Rattle.m36_outside.specs.declared.sink.Put.{Put}

-- The text is put as a whole; or, if a put failed, some first pieces of it and a prefix of the
-- next.
pub record PutsText
    (answer : Put) (bytes : List ℕ) (due : List (List ℕ)) (old new : SinkState)
    : Type 0 where
  pub text : PutResult answer old.written new.written bytes
  pub pieces : TakesLines answer old.taken new.taken due
  pub faults : PutHasCause answer old.faults new.faults

-- as `PutsText`, for the text of these pieces
abbrev pub PutsPieces : Put → List (List ℕ) → SinkState → SinkState → Type 0
PutsPieces answer pieces old new = PutsText answer (joined pieces) pieces old new
