-- The fields of a term, and of a segment with its terms.
use Rattle.std.specs.Prelude.{ℕ, Bool, List}

-- the fields of a term
pub record TermFields : Type 0 where
  pub text : List ℕ
  pub readable : Bool
  pub executable : Bool
  pub writable : Bool

-- a `segment` line with its number, counted from 1, and the terms of the lines after it
pub record AclSegmentFields : Type 0 where
  pub line : ℕ
  pub dir : List ℕ
  pub name : List ℕ
  pub terms : List TermFields
