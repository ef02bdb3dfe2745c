-- An output, with lines that wait in a block to be put.
use Rattle.std.specs.Prelude.{ℕ, List}
use Rattle.m36_outside.specs.declared.sink.Put.{Put}
use Rattle.m36_world.specs.Seen.{Seen}
use Rattle.m36_program.specs.Gathered.{Adds}

-- the lines that wait, and all that is observed of the outside
pub record Pending : Type 0 where
  pub block : List (List ℕ)
  pub world : Seen

-- the same, from its parts
abbrev pub pending : List (List ℕ) → Seen → Pending
pending block world = record { block = block; world = world }

-- Lines are put after those that wait. The last ones may wait in the block. If the output failed, a
-- prefix of all of them is put.
abbrev pub PutsPieces : Put → List (List ℕ) → Pending → Pending → Type 0
PutsPieces answer lines old new = Adds answer old.block new.block lines old.world new.world
