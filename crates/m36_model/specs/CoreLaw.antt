-- The words and the tables of core, as the laws name them.
use Rattle.std.specs.Prelude.{◌≡◌, ℕ, ◌⊎◌, true, false, List, length, slice_index}
use Rattle.m36_desc.specs.Fields.{DbrFields}
use Rattle.m36_model.specs.Store.{Spot, Core_word, Segment_word}
use Rattle.m36_model.specs.Place.{marked_word}
use Rattle.m36_model.specs.Core.{core_tables}
use Rattle.m36_model.specs.Audit.{IsDirectoryWord, IsPageWord, IsSegmentWord}

-- core `now` has the tables of `core`, except for marks
abbrev pub HasTables : List ℕ → DbrFields → List ℕ → Type 0
HasTables core dbr now = core_tables now dbr ≡ core_tables core dbr

-- a spot is that of a word of a segment
abbrev pub IsSegmentSpot : List ℕ → DbrFields → Spot → Type 0
IsSegmentSpot core dbr (Core_word a) = (seg : ℕ) × (w : ℕ) × IsSegmentWord core dbr seg w a
IsSegmentSpot core dbr (Segment_word s w) = ⊥

-- an address is that of a PTW, of the descriptor segment or of a live segment
abbrev pub IsPtwWord : List ℕ → DbrFields → ℕ → Type 0
IsPtwWord core dbr a =
    ((seg : ℕ) × IsDirectoryWord dbr seg a)
    ⊎ ((seg : ℕ) × (page : ℕ) × IsPageWord core dbr seg page a)

-- `new` is `old` with its used bit turned on, and perhaps its modified bit
abbrev pub IsPtwMarked : ℕ → ℕ → Type 0
IsPtwMarked old new = (new ≡ marked_word false old) ⊎ (new ≡ marked_word true old)

-- The core word at an address is unchanged, or is a PTW on which marks were turned on.
abbrev pub IsSameExceptMarks : List ℕ → DbrFields → ℕ → ℕ → ℕ → Type 0
IsSameExceptMarks core dbr a old new = (new ≡ old) ⊎ (IsPtwWord core dbr a × IsPtwMarked old new)

-- core is unchanged, except for marks on PTWs
pub record IsMarkedFrom (core : List ℕ) (dbr : DbrFields) (old new : List ℕ) : Type 0 where
  pub size : length new ≡ length old
  pub words : (a : ℕ) → IsSameExceptMarks core dbr a (slice_index old a) (slice_index new a)
