-- Facts about the table words that were read on the way to an address.
use Rattle.std.specs.Prelude.{◌≡◌, ℕ, ◌^◌, ◌<◌, ◌≤◌, nat_lt, Bool, true, false, Result, Ok, Err}
use Rattle.m36_desc.specs.Fields.{DbrFields}
use Rattle.m36_model.specs.Place.{has_descriptor_in_bounds}
use Rattle.m36_model.specs.Store.{Spot, Core_word}
use Rattle.m36_model.specs.declared.outcome.Refusal.{Refusal}

-- A table word is read only if the segment is paged; then its address is in core.
abbrev pub TableWordIsInCore : ℕ → Bool → ℕ → Type 0
TableWordIsInCore size true a = Unit {0}
TableWordIsInCore size false a = a < size

-- exactly the segments below n have their descriptors within the bound of the descriptor segment
pub record IsSegmentCount (dbr : DbrFields) (n : ℕ) : Type 0 where
  pub most : n ≤ 2 ^ 15
  pub is : (seg : ℕ) → has_descriptor_in_bounds dbr seg ≡ nat_lt seg n

-- a core address as a spot of the store
abbrev pub spot_of : Result ℕ Refusal → Result Spot Refusal
spot_of (Ok a) = Ok (Core_word a)
spot_of (Err why) = Err why
