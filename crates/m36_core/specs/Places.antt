-- The contents of the slots of a block.
use Rattle.std.specs.Prelude.{◌≡◌, ℕ, get_or, List, [], ◌∷◌, ◌++◌, map, length, take, drop}
use Rattle.std.specs.Prelude.{Option, Some, None}

module _ {X : Type 0} where
  -- the values that the slots hold, in order
  abbrev pub slot_values : List (Option X) → List X
  slot_values [] = []
  slot_values (None ∷ cs) = slot_values cs
  slot_values (Some x ∷ cs) = x ∷ slot_values cs

  -- every slot holds a value
  abbrev pub AreAllFilled : List (Option X) → Type 0
  AreAllFilled cs = cs ≡ map Some (slot_values cs)

  -- the slot with this index holds a value
  abbrev pub IsFilled : List (Option X) → ℕ → Type 0
  IsFilled cs i = (x : X) × (get_or cs i None ≡ Some x)

  -- a list with `ws` written over its values from an index on; the length does not change
  abbrev pub overwritten : List X → ℕ → List X → List X
  overwritten xs from ws =
      let all = take from xs ++ (ws ++ drop (length ws) (drop from xs)) in
      take (length xs) (all ++ drop (length all) xs)
