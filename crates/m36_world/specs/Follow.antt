-- Events, one after another.
use Rattle.std.specs.Prelude.{ℕ, ◌≡◌, List, [], ◌∷◌, map}
use Rattle.m36_world.specs.Happened.{Happened}
use Rattle.m36_world.specs.Seen.{Seen}
use Rattle.m36_world.specs.declared.event.Event.{Event}
use Rattle.m36_world.specs.declared.event.Event.TheVariants.{Output}

-- First `first` happened, and then `rest`: `first` relates the state before to one between, and
-- `rest` that to the state after.
pub record InSequence (first rest : Seen → Seen → Type 0) (old new : Seen) : Type 0 where
  pub between : Seen
  pub begins : first old between
  pub goes_on : rest between new

-- These events happened, one after another, and nothing else.
unfoldable pub Follow : List Event → Seen → Seen → Type 0
Follow [] old new = new ≡ old
Follow (event ∷ events) old new = InSequence (Happened event) (Follow events) old new

-- the events of output of these pieces, each written whole
abbrev pub outputs : List (List ℕ) → List Event
outputs pieces = map (λ piece. Output piece) pieces
