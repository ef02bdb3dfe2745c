-- The state of a sink as contracts see it.
use Rattle.std.specs.Prelude.{ℕ, List, Option}

-- what is written, if it is known, the pieces that were taken, and the count of faults
pub record SinkState : Type 0 where
  pub written : Option (List ℕ)
  pub taken : List (List ℕ)
  pub faults : ℕ
