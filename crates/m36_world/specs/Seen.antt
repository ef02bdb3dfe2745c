-- All that is observed of the outside.
use Rattle.std.specs.Prelude.{ℕ, List, [], ◌∷◌, ◌++◌, Option}
use Rattle.m36_outside.specs.Files.{Files}
use Rattle.m36_outside.specs.FolderCalls.{Asked, Wrote}
use Rattle.m36_world.specs.declared.event.Event.{Event}

-- `events`: all events, in order. `reads`, `writes`, `outputs`, `inputs`: what the folder, the
-- output and the input each logged of their own calls, in order. `files`, `written`, `left`: the
-- files, all that is written and the input that is left, each if it is known. The four counts: how
-- many reads, writes, puts and calls for input failed. `references`: the names of the references
-- by which the world holds its objects; a world that owns them has none.
pub record Seen : Type 0 where
  pub events : List Event
  pub reads : List Asked
  pub writes : List Wrote
  pub outputs : List (List ℕ)
  pub inputs : List (List ℕ)
  pub files : Option Files
  pub written : Option (List ℕ)
  pub left : Option (List ℕ)
  pub read_faults : ℕ
  pub write_faults : ℕ
  pub output_faults : ℕ
  pub input_faults : ℕ
  pub references : List ℕ

-- the record with one more event
abbrev pub with_event : Event → Seen → Seen
with_event event seen = record seen { events = seen.events ++ event ∷ [] }
