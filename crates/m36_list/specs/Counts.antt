-- The numbers of words of an object and of its sections.
use Rattle.std.specs.Prelude.{◌≡◌, ◌+◌, ◌^◌, ◌<◌, length}
use Rattle.obj36_parts.specs.PartsFields.{PartsFields}
use Rattle.obj36_parts.specs.ObjectSegment.{definition_section, linkage_section, outer_statics}
use Rattle.obj36_parts.specs.ObjectSegment.{symbol_section, words_of}
use Rattle.m36_list.specs.declared.counts.Counts.{Counts}

-- The counts are those of the object with these parts, and each offset in it has 18 bits.
pub record AreCountsOf (c : Counts) (p : PartsFields) : Type 0 where
  pub whole : c.whole ≡ length (words_of p)
  pub text : c.text ≡ length p.text
  pub definition : c.definition ≡ length (definition_section p)
  pub linkage : c.linkage ≡ length (linkage_section p)
  pub statics : c.statics ≡ length (outer_statics p)
  pub symbol : c.symbol ≡ length (symbol_section p)
  pub fits : c.text + c.definition + c.linkage + c.statics + c.symbol < 2 ^ 18
