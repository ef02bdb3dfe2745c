-- Lengths of sections, each at most that of a segment, so that their sum does not overflow.
use Rattle.std.specs.Prelude.{◌≤◌}
use Rattle.obj36_parts.specs.ObjectSegment.{segment_limit}
use Rattle.obj36.specs.declared.object.Lengths.{Lengths}

-- no section is longer than a segment can be
pub record AreSegmentLengths (l : Lengths) : Type 0 where
  pub text : l.text ≤ segment_limit
  pub definition : l.definition ≤ segment_limit
  pub linkage : l.linkage ≤ segment_limit
  pub statics : l.statics ≤ segment_limit
  pub symbol : l.symbol ≤ segment_limit
