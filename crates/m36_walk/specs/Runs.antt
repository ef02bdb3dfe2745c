-- Runs of consecutive core words: those of a pair or a block.
use Rattle.std.specs.Prelude.{ℕ, zero, suc, ◌+◌, ◌<◌, true, List, [], ◌∷◌, Result, Ok, Err, nat_lt}
use Rattle.std.specs.Prelude.{slice_index}
use Rattle.m36_model.specs.Fields.{AtFields}
use Rattle.m36_model.specs.Store.{Spot, Core_word, spots_from, fault_in}
use Rattle.m36_model.specs.Place.{wrapped_address, spot_in_core_by}
use Rattle.m36_model.specs.declared.outcome.Fault.{Fault}
use Rattle.m36_model.specs.declared.outcome.Refusal.{Refusal}
use Rattle.m36_walk.specs.declared.refusal.Refused.{Refused}

-- the spots of n words from an address on
unfoldable pub run_from : ℕ → ℕ → List Spot
run_from a zero = []
run_from a (suc n) = Core_word a ∷ run_from (wrapped_address (a + 1)) n

-- the values of n words from an address on
unfoldable pub words_from : List ℕ → ℕ → ℕ → List ℕ
words_from core a zero = []
words_from core a (suc n) = slice_index core a ∷ words_from core (wrapped_address (a + 1)) n

-- the spots of n words from an address on, in a core of this size, or the word number of the first
-- word that is past its end; `word` is the word number of the first of them
unfoldable pub spots_in_core : ℕ → ℕ → ℕ → ℕ → Result (List Spot) (ℕ × Refusal)
spots_in_core size word a zero = Ok []
spots_in_core size word a (suc n) =
    spots_from true word (spot_in_core_by (nat_lt a size) a)
    (spots_in_core size (word + 1) (wrapped_address (a + 1)) n)

-- each of n words from an address on is in a core of this size
unfoldable pub IsInCore : ℕ → ℕ → ℕ → Type 0
IsInCore size a zero = Unit {0}
IsInCore size a (suc n) = (a < size) × IsInCore size (wrapped_address (a + 1)) n

-- a refusal as a fault at the word that is refused
abbrev pub places_as_fault : AtFields → Result (List Spot) (ℕ × Refusal) → Result (List Spot) Fault
places_as_fault at (Ok spots) = Ok spots
places_as_fault at (Err e) = Err (fault_in at e.0 e.1)

-- the run from the address that was found, or the word that is refused; `word` is the word number
-- of the first
abbrev pub run_or_refusal : ℕ → ℕ → Result ℕ Refused → Result (List Spot) (ℕ × Refusal)
run_or_refusal word count (Ok a) = Ok (run_from a count)
run_or_refusal word count (Err r) = Err (word + r.further, r.why)
