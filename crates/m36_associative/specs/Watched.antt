-- Watched addresses.
use Rattle.std.specs.Prelude.{ℕ, ◌≡◌, ◌≤◌, Bool, true, List, nat_eq}
use Rattle.std.specs.List.{list_any}

-- whether the address is in the list of watched addresses
unfoldable pub is_watched : List ℕ → ℕ → Bool
is_watched places a = list_any (λ b. nat_eq b a) places

-- each address in the list is from `low` to `high`
abbrev pub AreWithin : List ℕ → ℕ → ℕ → Type 0
AreWithin places low high = (a : ℕ) → is_watched places a ≡ true → (low ≤ a) × (a ≤ high)
