-- Sections as half words describe them: offsets and lengths below 2^18.
use Rattle.std.specs.Prelude.{◌<◌, ◌^◌}
use Rattle.obj36_read.specs.declared.map.Extent.{Extent}
use Rattle.obj36_read.specs.declared.map.Extents.{Extents}

-- the offset and the length of a section have 18 bits
pub record FitsHalfWords (e : Extent) : Type 0 where
  pub from : e.from < 2 ^ 18
  pub count : e.count < 2 ^ 18

-- the offsets and the lengths of all sections have 18 bits
pub record AllFitHalfWords (e : Extents) : Type 0 where
  pub text : FitsHalfWords e.text
  pub definition : FitsHalfWords e.definition
  pub linkage : FitsHalfWords e.linkage
  pub statics : FitsHalfWords e.statics
  pub symbol : FitsHalfWords e.symbol
