-- Places as contracts see them: their fields as numbers. The types keep each within its width: a
-- ring has 3 bits, a bit number 6, a segment number 15, a word number 18.
use Rattle.std.specs.Prelude.{ℕ, Option}

-- the procedure pointer register
pub record PprFields : Type 0 where
  pub psr : ℕ
  pub prr : ℕ
  pub ic : ℕ

-- a word of a segment, and the ring of the reference to it
pub record AtFields : Type 0 where
  pub seg : ℕ
  pub word : ℕ
  pub ring : ℕ

-- the end of an address chain
pub record FinalFields : Type 0 where
  pub at : AtFields
  pub bit : ℕ
  pub direct : Option ℕ
