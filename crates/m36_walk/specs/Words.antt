-- Pending words as references see them, and words that are written.
use Rattle.std.specs.Prelude.{ℕ, ◌+◌, List, [], ◌∷◌, Option, Some, None}
use Rattle.m36_model.specs.Act.{Whole}
use Rattle.m36_model.specs.Store.{Change, Core_word}
use Rattle.m36_model.specs.Core.{core_put}
use Rattle.m36_model.specs.Place.{wrapped_address}
use Rattle.m36_walk.specs.declared.words.Pending.{Pending}

-- a pending word as a change that is still to be made
abbrev pub pending_changes : Option Pending → List Change
pending_changes None = []
pending_changes (Some p) = record { spot = Core_word p.place; part = Whole; value = p.word } ∷ []

-- core with the pending word written
abbrev pub with_pending : List ℕ → Option Pending → List ℕ
with_pending core pending = core_put core (pending_changes pending)

-- words written to the addresses of a run, in order
abbrev pub run_changes : ℕ → List ℕ → List Change
run_changes a [] = []
run_changes a (w ∷ words) = record { spot = Core_word a; part = Whole; value = w }
    ∷ run_changes (wrapped_address (a + 1)) words
