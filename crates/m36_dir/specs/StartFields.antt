-- The fields of `Start`: the place where the machine starts.
use Rattle.std.specs.Prelude.{ℕ, List}

-- The names of the segment and of its entry, and the ring, below 8.
pub record StartFields : Type 0 where
  pub name : List ℕ
  pub entry : List ℕ
  pub ring : ℕ
