-- What it means that a call over a folder, an input and an output performs a program.
use Rattle.std.specs.Prelude.{ℕ, List, [], ◌++◌, Option, Result}
use Rattle.m36_outside.specs.Files.{Files}
use Rattle.m36_outside.specs.FolderCalls.{Asked, Wrote}
use Rattle.m36_world.specs.declared.event.Event.{Event}
use Rattle.m36_world.specs.Seen.{Seen}
use Rattle.m36_world.specs.Follow.{Follow}
use Rattle.m36_status.specs.declared.status.Status.{Status}
use Rattle.m36_program.specs.Goes.{Goes}
use Rattle.m36_program.specs.Program.{May, Program}

-- The three objects as the state of a world, by what each recorded of its own calls. The list of
-- events is empty.
abbrev pub objects_as_world :
    {F L S : Type 0} → (F → List Asked) → (F → List Wrote) → (F → Option Files) → (F → ℕ) → (F → ℕ)
    → (L → List (List ℕ)) → (L → Option (List ℕ)) → (L → ℕ)
    → (S → List (List ℕ)) → (S → Option (List ℕ)) → (S → ℕ) → F → L → S → Seen
objects_as_world asked wrote files read_faults write_faults given left input_faults taken written
    faults
    folder input output = record {
      events = [];
      reads = asked folder;
      writes = wrote folder;
      outputs = taken output;
      inputs = given input;
      files = files folder;
      written = written output;
      left = left input;
      read_faults = read_faults folder;
      write_faults = write_faults folder;
      output_faults = faults output;
      input_faults = input_faults input;
      references = [];
    }

-- There is a list of events with which the program goes to the result, and of which each of the
-- three objects recorded its part in the call. The objects have no common clock: that the events of
-- two objects happened in the order of this list is not said. `Performs` over a world says it.
pub record PerformsOver {may : May} {A : Type 0} (program : Program may A)
    (result : Result A Status) (old new : Seen) : Type 0 where
  pub events : List Event
  -- any list: the objects have none
  pub references : List ℕ
  -- Each object's record grows by its part of the events.
  pub follow :
      Follow events (record old { references = references })
      (record new { events = old.events ++ events; references = references })
  pub goes : Goes program events result
