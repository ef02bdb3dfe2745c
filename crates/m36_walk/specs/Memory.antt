-- A walk as contracts see it.
use Rattle.std.specs.Prelude.{ℕ, List}
use Rattle.m36_desc.specs.Fields.{DbrFields}

-- the words of core, and the DBR
pub record Memory : Type 0 where
  pub core : List ℕ
  pub dbr : DbrFields
