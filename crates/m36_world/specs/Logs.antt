-- What events mean for the logs that the objects keep of their own calls.
use Rattle.std.specs.Prelude.{ℕ, ◌≡◌, List, [], ◌∷◌, ◌++◌}
use Rattle.std.specs.List.{flat_map}
use Rattle.m36_outside.specs.FolderCalls.{Asked, Wrote}
use Rattle.m36_outside.specs.Passing.{TakesSome}
use Rattle.m36_world.specs.Seen.{Seen}
use Rattle.m36_world.specs.declared.event.Event.{Event}
use Rattle.m36_world.specs.declared.event.Event.TheVariants.{FileRead, FileWrite, Output}
use Rattle.m36_world.specs.declared.event.Event.TheVariants.{OutputFailed, Input, InputFailed}

-- the entry of an event in the log of reads, if it is a read
abbrev pub read_of : Event → List Asked
read_of (FileRead name answer) = (name, answer) ∷ []
read_of (FileWrite name content answer) = []
read_of (Output piece) = []
read_of (OutputFailed pieces) = []
read_of (Input piece) = []
read_of InputFailed = []

-- the entry of an event in the log of writes, if it is a write
abbrev pub write_of : Event → List Wrote
write_of (FileRead name answer) = []
write_of (FileWrite name content answer) = (name, content, answer) ∷ []
write_of (Output piece) = []
write_of (OutputFailed pieces) = []
write_of (Input piece) = []
write_of InputFailed = []

-- the entry of an event in the log of pieces of input, if it is one
abbrev pub input_of : Event → List (List ℕ)
input_of (FileRead name answer) = []
input_of (FileWrite name content answer) = []
input_of (Output piece) = []
input_of (OutputFailed pieces) = []
input_of (Input piece) = piece ∷ []
input_of InputFailed = []

-- what an event adds to the log of the output: the piece or pieces that it put, and nothing if it
-- is no output
abbrev pub AddsOutput : Event → List (List ℕ) → List (List ℕ) → Type 0
AddsOutput (FileRead name answer) old new = new ≡ old
AddsOutput (FileWrite name content answer) old new = new ≡ old
AddsOutput (Output piece) old new = new ≡ old ++ piece ∷ []
AddsOutput (OutputFailed pieces) old new = TakesSome old new pieces
AddsOutput (Input piece) old new = new ≡ old
AddsOutput InputFailed old new = new ≡ old

-- The log of the output grew by what `event` put, and then as `rest` says.
pub record AddsOutputFirst (event : Event) (rest : List (List ℕ) → List (List ℕ) → Type 0)
    (old new : List (List ℕ)) : Type 0 where
  pub between : List (List ℕ)
  pub begins : AddsOutput event old between
  pub goes_on : rest between new

-- the log of the output grew by what these events put, in order
unfoldable pub AddsOutputs : List Event → List (List ℕ) → List (List ℕ) → Type 0
AddsOutputs [] old new = new ≡ old
AddsOutputs (event ∷ events) old new = AddsOutputFirst event (AddsOutputs events) old new

-- All events were appended, and each object logged its calls among them. The world holds the same
-- references.
pub record Logs (events : List Event) (old new : Seen) : Type 0 where
  pub all : new.events ≡ old.events ++ events
  pub reads : new.reads ≡ old.reads ++ flat_map read_of events
  pub writes : new.writes ≡ old.writes ++ flat_map write_of events
  pub inputs : new.inputs ≡ old.inputs ++ flat_map input_of events
  pub outputs : AddsOutputs events old.outputs new.outputs
  pub references : new.references ≡ old.references
