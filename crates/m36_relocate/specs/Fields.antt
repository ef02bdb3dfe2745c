-- The fields of `Shape` and `Bases`: how many words of each kind an object has, and where those of
-- a component begin.
use Rattle.std.specs.Prelude.{ℕ, Bool}

-- the numbers by which the words of an object are laid out
pub record ShapeFields : Type 0 where
  pub newer : Bool
  pub statics : ℕ
  pub links : ℕ

-- Where the words of a component begin in the bound object: the offset of its text, the number of
-- its first static word, and the number of links before its own.
pub record BasesFields : Type 0 where
  pub text : ℕ
  pub statics : ℕ
  pub links : ℕ
