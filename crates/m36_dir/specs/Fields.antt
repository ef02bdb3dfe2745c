-- The fields of a segment in a catalog, and those of a segment line.
use Rattle.std.specs.Prelude.{ℕ, List}
use Rattle.m36_dir.specs.declared.segment.SegKind.{SegKind}
use Rattle.m36_dir.specs.declared.segment.Mode.{Mode}

-- The fields of a segment in a catalog. `dir` is the number of its directory.
pub record SegmentFields : Type 0 where
  pub names : List (List ℕ)
  pub file : List ℕ
  pub dir : ℕ
  pub kind : SegKind
  pub mode : Mode
  pub r1 : ℕ
  pub r2 : ℕ
  pub r3 : ℕ

-- The fields of a segment line.
pub record SegmentLineFields : Type 0 where
  pub dir : List ℕ
  pub name : List ℕ
  pub file : List ℕ
  pub kind : SegKind
  pub mode : Mode
  pub r1 : ℕ
  pub r2 : ℕ
  pub r3 : ℕ
