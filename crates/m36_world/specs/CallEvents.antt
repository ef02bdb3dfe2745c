-- The events that each call logs, by its answer.
use Rattle.std.specs.Prelude.{ℕ, List, [], ◌∷◌, take}
use Rattle.m36_outside.specs.declared.lines.Piece.{Piece}
use Rattle.m36_outside.specs.declared.lines.Piece.TheVariants as piece
use Rattle.m36_outside.specs.declared.sink.Put.{Put}
use Rattle.m36_outside.specs.declared.sink.Put.TheVariants as put
use Rattle.m36_world.specs.Follow.{outputs}
use Rattle.m36_world.specs.declared.event.Event.{Event}
use Rattle.m36_world.specs.declared.event.Event.TheVariants as event

-- the event of a put of one piece, by its answer
abbrev pub put_events : Put → List ℕ → List Event
put_events put.Done piece = event.Output piece ∷ []
put_events put.Failed piece = event.OutputFailed (piece ∷ []) ∷ []

-- the events of a put of a block: one for each piece, or one for all pieces if it failed
abbrev pub block_events : Put → List (List ℕ) → List Event
block_events put.Done pieces = outputs pieces
block_events put.Failed pieces = event.OutputFailed pieces ∷ []

-- the event of a call for the next piece of input, by its answer and the buffer after the call
abbrev pub input_events : Piece → List ℕ → List Event
input_events (piece.Got count) into = event.Input (take count into) ∷ []
input_events piece.End into = event.Input [] ∷ []
input_events piece.Failed into = event.InputFailed ∷ []
