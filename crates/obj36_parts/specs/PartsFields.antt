-- The fields of `Parts`.
use Rattle.std.specs.Prelude.{ℕ, List}
use Rattle.obj36_parts.specs.Fields.{LinkFields, RelocFields}
use Rattle.obj36_parts.specs.declared.definition.Named.{Named}

-- `entry_bound` is in words, and `version` is 1 or 2.
pub record PartsFields : Type 0 where
  pub text : List ℕ
  pub statics : List ℕ
  pub definitions : List Named
  pub links : List LinkFields
  pub relocations : List RelocFields
  pub entry_bound : ℕ
  pub version : ℕ
