-- The table from which the offsets of names are found.
use Rattle.std.specs.Prelude.{ℕ, ◌≡◌, ◌+◌, ◌*◌, ◌^◌, ◌≤◌, List, [], ◌∷◌, length}
use Rattle.obj36_parts.specs.Names.{names_in, name_size, all_name_words}

-- The fields of a table: its names in order, and the offset of the first.
pub record NameTableFields : Type 0 where
  pub names : List (List ℕ)
  pub base : ℕ

-- names with their offsets, one after another from an offset on
unfoldable pub names_with_offsets : List (List ℕ) → ℕ → List (List ℕ × ℕ)
names_with_offsets [] at = []
names_with_offsets (name ∷ names) at = (name, at) ∷ names_with_offsets names (at + name_size name)

-- The entries are names at their offsets, and `next` is the offset after the last. The other two
-- clauses bound the offsets, so that they do not overflow.
pub record ArePlaced (entries : List (List ℕ × ℕ)) (base next : ℕ) : Type 0 where
  pub near : base ≤ 2 ^ 40
  pub places : entries ≡ names_with_offsets (names_in entries) base
  pub behind : next ≡ base + length (all_name_words (names_in entries))
  pub small : next ≤ base + 9 * length entries
