-- The result of a descriptor lookup, and the conditions on one segment by this result.
use Rattle.std.specs.Prelude.{◌≡◌, ℕ, Bool, false, not, ◌&&◌, nat_lt, Option, Some, None}
use Rattle.std.specs.Prelude.{Result, Ok}
use Rattle.m36_desc.specs.Fields.{SdwFields}
use Rattle.m36_desc.specs.Access.{has_ordered_brackets}
use Rattle.m36_model.specs.Audit.{is_stack_of}

-- the code has a value exactly if the definition has one, and it is the same
abbrev pub IsSameLookup : {A E : Type 0} → Option A → Result A E → Type 0
IsSameLookup {A} None definition = (a : A) → definition ≡ Ok a → ⊥
IsSameLookup (Some a) definition = definition ≡ Ok a

-- the ring brackets of the segment, if there is one, are out of order
abbrev pub has_disordered_brackets : Option SdwFields → Bool
has_disordered_brackets None = false
has_disordered_brackets (Some d) = not (has_ordered_brackets d)

-- rings above R2 may call the segment
abbrev pub may_be_called_from_above : SdwFields → Bool
may_be_called_from_above d = d.executable && nat_lt d.r2 d.r3

-- rings above R2 may call the segment, if there is one, at every word: it is not a gate
abbrev pub is_enterable_anywhere : Option SdwFields → Bool
is_enterable_anywhere None = false
is_enterable_anywhere (Some d) = may_be_called_from_above d && d.no_gate

-- the segment, if there is one, is a stack of the ring
abbrev pub is_ring_stack : ℕ → Option SdwFields → Bool
is_ring_stack ring None = false
is_ring_stack ring (Some d) = is_stack_of ring (Ok d)
