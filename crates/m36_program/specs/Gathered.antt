-- Pieces that are gathered in a block before they are put. The pieces of the block are put first,
-- and then those that were added to it.
use Rattle.std.specs.Prelude.{ℕ, ◌≡◌, List, ◌++◌}
use Rattle.m36_outside.specs.declared.sink.Put.{Put}
use Rattle.m36_outside.specs.declared.sink.Put.TheVariants.{Done, Failed}
use Rattle.m36_world.specs.Seen.{Seen}
use Rattle.m36_world.specs.Follow.{Follow, outputs}
use Rattle.m36_world.specs.Happened.{IsOutputFailed}

-- Pieces were added to a block. The first pieces (`handed`) were put, and the others are in the
-- block.
pub record Gathers (old new more : List (List ℕ)) (before after : Seen) : Type 0 where
  pub handed : List (List ℕ)
  pub is : old ++ more ≡ handed ++ new
  pub follow : Follow (outputs handed) before after

-- The pieces were put in one or more calls, and the last of these calls failed.
pub record Loses (pieces : List (List ℕ)) (before after : Seen) : Type 0 where
  pub handed : List (List ℕ)
  pub failed : List (List ℕ)
  pub left : List (List ℕ)
  pub is : pieces ≡ (handed ++ failed) ++ left
  pub between : Seen
  pub follow : Follow (outputs handed) before between
  pub fails : IsOutputFailed failed between after

-- what adding pieces to a block did, by its answer
abbrev pub Adds : Put → List (List ℕ) → List (List ℕ) → List (List ℕ) → Seen → Seen → Type 0
Adds Done old new more before after = Gathers old new more before after
Adds Failed old new more before after = Loses (old ++ more) before after

-- what putting all of these pieces did, by its answer
abbrev pub Puts : Put → List (List ℕ) → Seen → Seen → Type 0
Puts Done pieces before after = Follow (outputs pieces) before after
Puts Failed pieces before after = Loses pieces before after
