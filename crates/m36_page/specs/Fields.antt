-- The model of a pager: the page tables with the kept words, and the page that each pageable frame
-- holds.
use Rattle.std.specs.Prelude.{ℕ, List, Option}

-- the page table of a segment: its place in core, the number of its pages, and their kept words
pub record TableFields : Type 0 where
  pub seg : ℕ
  pub at : ℕ
  pub pages : ℕ
  pub words : List ℕ

-- the number of the first pageable frame, the page (segment and number) that each pageable frame
-- holds, and the tables
pub record PagerFields : Type 0 where
  pub first : ℕ
  pub holders : List (Option (ℕ × ℕ))
  pub tables : List TableFields
