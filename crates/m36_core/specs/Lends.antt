-- The slots after a `&mut` into them has ended.
use Rattle.std.specs.Prelude.{ℕ, List, map, Option, Some}
use Rattle.std.specs.Borrow.{Fml, RattleType, MutBor, Array, Lends}
use Rattle.m36_core.specs.Places.{slot_values, overwritten}
use Rattle.m36_core.specs.declared.cells.Cells.{Cells}
use Rattle.m36_core.specs.contracts.cells.Cells.{the_row}

module _ {X : Type 0} where
  -- these cells with other slots
  abbrev pub with_slots : Cells X → List (Option X) → Cells X
  with_slots c cs = record { mark = c.mark; at = c.at; slots = cs }

-- When the borrow of a range ends, the slots of the range hold the values that were left there, and
-- every other slot is unchanged.
abbrev pub lends_range :
    (R : RattleType) → MutBor (Cells R.Denot) → ℕ → MutBor (List R.Denot) → Fml
lends_range R c from r =
    Lends (the_row R) (Array R 0) c r
    (λ ws. with_slots c.now (map Some (overwritten (slot_values c.now.slots) from ws)))
