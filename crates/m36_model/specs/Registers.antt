-- The registers as contracts see them.
use Rattle.std.specs.Prelude.{ℕ, List}
use Rattle.m36_desc.specs.Fields.{PtrFields, DbrFields}
use Rattle.m36_model.specs.Fields.{PprFields}
use Rattle.m36_model.specs.declared.registers.Ind.{Ind}

-- all registers of the processor; x has the eight index registers, and pr the eight pointer
-- registers
pub record RegsFields : Type 0 where
  pub a : ℕ
  pub q : ℕ
  pub x : List ℕ
  pub pr : List PtrFields
  pub ind : Ind
  pub ppr : PprFields
  pub dbr : DbrFields
