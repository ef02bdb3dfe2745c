-- The block of words of a core, with its pointers and counts.
use Rattle.std.specs.Prelude.{ℕ, ◌≡◌, List, Option, length}
use denote.RawPtr.{Ptr}
use Rattle.m36_core.specs.Places.{AreAllFilled}

-- The pointer is that of the slots and that of the right to free them. The number of slots is the
-- number of words, and each slot holds a word.
pub record IsBlock (base at owed : Ptr) (slots : List (Option ℕ)) (count len : ℕ) : Type 0 where
  pub places : base ≡ at
  pub deed : owed ≡ base
  pub size : len ≡ count
  pub filled : length slots ≡ count
  pub whole : AreAllFilled slots
