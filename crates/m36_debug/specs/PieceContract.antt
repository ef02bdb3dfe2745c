-- What the answer to a piece of input implies.
use Rattle.std.specs.Prelude.{ℕ, List}
use Rattle.m36_outside.specs.declared.sink.Put.TheVariants.{Done}
use Rattle.m36_debug.specs.Putting.{Pending}
use Rattle.m36_debug.specs.declared.machine_relations.LineResult.{LineResult}
use Rattle.m36_debug.specs.declared.machine_relations.LineResult.TheVariants as ends
use Rattle.m36_debug.specs.LinesTaken.{IsLines, IsUnbroken}
use Rattle.m36_debug.specs.Parts.{SessionPart, FailedPart}
use Rattle.m36_debug.specs.Session.{MachineRelations, Waiting, Over, SessionPoint, standing}
use Rattle.m36_debug.specs.SessionState.{SessionStateFields}

-- All whole lines of a text were answered, and the bytes after them are kept.
pub record AnsweredAll {M : Type 0} (o : MachineRelations M) (s : SessionPoint) (m : M)
    (text kept : List ℕ)
    (sitting : SessionStateFields) (m' : M) (old new : Pending) : Type 0 where
  pub lines : List (List ℕ)
  pub is : IsLines text lines kept
  pub unbroken : IsUnbroken kept
  pub part : SessionPart o s m lines (standing sitting Waiting) m' Done old new

-- The first lines of a text were answered; the last of these is `quit`.
pub record AnsweredQuit {M : Type 0} (o : MachineRelations M) (s : SessionPoint) (m : M)
    (text : List ℕ)
    (sitting : SessionStateFields) (m' : M) (old new : Pending) : Type 0 where
  pub lines : List (List ℕ)
  pub rest : List ℕ
  pub is : IsLines text lines rest
  pub part : SessionPart o s m lines (standing sitting Over) m' Done old new

-- The first lines of a text were answered, and then memory ran out.
pub record AnsweredSome {M : Type 0} (o : MachineRelations M) (s : SessionPoint) (m : M)
    (text : List ℕ)
    (m' : M) (old new : Pending) : Type 0 where
  pub lines : List (List ℕ)
  pub rest : List ℕ
  pub is : IsLines text lines rest
  pub stands : SessionPoint
  pub part : SessionPart o s m lines stands m' Done old new

-- The first lines of a text were answered, and then the output could not be written.
pub record AnsweredCut {M : Type 0} (o : MachineRelations M) (s : SessionPoint) (m : M)
    (text : List ℕ)
    (m' : M) (old new : Pending) : Type 0 where
  pub lines : List (List ℕ)
  pub rest : List ℕ
  pub is : IsLines text lines rest
  pub part : FailedPart o s m lines m' old new

-- The contract of answering the whole lines of a text, by how they ended: which lines were
-- answered, and which bytes are kept as the beginning of a line.
abbrev pub PieceContract :
    {M : Type 0} → MachineRelations M → LineResult → SessionPoint → M → List ℕ → List ℕ
    → SessionStateFields → M → Pending
    → Pending → Type 0
PieceContract o ends.Line s m text kept sitting m' old new =
    AnsweredAll o s m text kept sitting m' old new
PieceContract o ends.Quit s m text kept sitting m' old new =
    AnsweredQuit o s m text sitting m' old new
PieceContract o ends.Starved s m text kept sitting m' old new = AnsweredSome o s m text m' old new
PieceContract o ends.Cut s m text kept sitting m' old new = AnsweredCut o s m text m' old new
