-- The contract of a call that performs a program, and the invariant of a loop that has a part
-- left.
use Rattle.std.specs.Prelude.{List, ◌++◌, Result}
use Rattle.m36_world.specs.declared.event.Event.{Event}
use Rattle.m36_world.specs.Seen.{Seen}
use Rattle.m36_world.specs.Follow.{Follow}
use Rattle.m36_status.specs.declared.status.Status.{Status}
use Rattle.m36_program.specs.Program.{May, Program}
use Rattle.m36_program.specs.Goes.{Goes}

-- Some events happened, one after another, and with them the program goes to the result.
pub record Performs {may : May} {A : Type 0} (program : Program may A) (result : Result A Status)
    (old new : Seen) : Type 0 where
  pub events : List Event
  pub follow : Follow events old new
  pub goes : Goes program events result

-- Some events happened, and `now` is what is left of the program: whenever `now` goes by some
-- events to a result, `first` goes by these events and then those to the same result.
pub record Leads {may : May} {A : Type 0} (now first : Program may A) (old new : Seen)
    : Type 0 where
  pub events : List Event
  pub follow : Follow events old new
  pub leads :
      (more : List Event) (result : Result A Status) → Goes now more result
      → Goes first (events ++ more) result
