-- The completed references of a step as contracts see them.
use Rattle.std.specs.Prelude.{List}
use Rattle.m36_model.specs.declared.place.Reference.{Reference}

-- at most 40 references, oldest first
pub record RefsFields : Type 0 where
  pub items : List Reference
