-- The marks of core words: the table of each.
use Rattle.std.specs.Prelude.{◌≡◌, ◌≢◌, ℕ, ◌+◌, ◌*◌, ◌<◌, min, Bool, true, false, ◌||◌, ◌==◌, List}
use Rattle.std.specs.Prelude.{length, slice_index, slice_set, Option, Some, None}
use Rattle.m36_desc.specs.Fields.{DbrFields}
use Rattle.m36_model.specs.Audit.{IsSdwWord, IsDirectoryWord, IsPageWord, Table, Sdws, Directory}
use Rattle.m36_model.specs.Audit.{Pages, IsInTwo, Finds}
use Rattle.m36_audit.specs.Runs.{pages_of_segment}

-- the mark of a table; 0 is no mark
abbrev pub table_number : Table → ℕ
table_number Sdws = 1
table_number Directory = 2
table_number (Pages seg) = seg + 3

-- `tables_marked`, by whether word a had no mark before: the first mark of a word is kept
abbrev pub tables_by : Bool → List ℕ → ℕ → ℕ → List ℕ
tables_by true tables table a = slice_set tables a table
tables_by false tables table a = tables

-- the marks of all words, after word a was marked for a table
unfoldable pub tables_marked : List ℕ → ℕ → ℕ → List ℕ
tables_marked tables table a = tables_by (slice_index tables a == 0) tables table a

-- the lesser of two numbers, of which the first may be absent
abbrev pub lesser : Option ℕ → ℕ → Option ℕ
lesser None a = Some a
lesser (Some p) a = Some (min p a)

-- `least_marked`, by whether word a had no mark before, or that of the same table
abbrev pub least_by : Bool → Option ℕ → ℕ → Option ℕ
least_by true least a = least
least_by false least a = lesser least a

-- the least word that was marked for a second table, after one more mark
unfoldable pub least_marked : List ℕ → Option ℕ → ℕ → ℕ → Option ℕ
least_marked tables least table a = least_by
    (slice_index tables a == 0 || slice_index tables a == table) least a

-- the mark of a core word is that of a table that has this word
pub record HasTableNumber (Of : Table → ℕ → Type 0) (a mark : ℕ) : Type 0 where
  pub table : Table
  pub of : Of table a
  pub numbered : mark ≡ table_number table

-- Each core word has the mark of a table that has this word, or 0 if there is none; and `least` is
-- the least word of two tables.
pub record AreMarked (Of : Table → ℕ → Type 0) (size : ℕ) (tables : List ℕ) (least : Option ℕ) :
    Type 0 where
  pub len : length tables ≡ size
  pub none : (a : ℕ) → a < size → slice_index tables a ≡ 0 → (t : Table) → Of t a → ⊥
  pub some : (a : ℕ) → slice_index tables a ≢ 0 → HasTableNumber Of a (slice_index tables a)
  pub least_two : Finds (IsInTwo Of size) least

-- The table words that were marked so far: of the descriptors of the segments below `sdws`, of the
-- descriptor segment's page table for the segments below `directories`, and of the pages below
-- `pages`, where each segment has 256 numbers of pages.
abbrev pub IsMarkedSoFar : List ℕ → DbrFields → ℕ → ℕ → ℕ → Table → ℕ → Type 0
IsMarkedSoFar core dbr sdws directories pages Sdws a =
    (seg : ℕ) × (seg < sdws) × IsSdwWord core dbr seg a
IsMarkedSoFar core dbr sdws directories pages Directory a = (seg : ℕ) × (seg < directories)
    × IsDirectoryWord dbr seg a
IsMarkedSoFar core dbr sdws directories pages (Pages seg) a = (page : ℕ)
    × (pages_of_segment * seg + page < pages) × IsPageWord core dbr seg page a
