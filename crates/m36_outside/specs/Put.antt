-- What the answer to a put implies.
use Rattle.std.specs.Prelude.{ℕ, ◌≡◌, List, Option, ⊤}
use Rattle.m36_outside.specs.Counts.{Rose}
use Rattle.m36_outside.specs.Written.{Grew, GrewWithin}
use Rattle.m36_outside.specs.declared.sink.Put.{Put}
use Rattle.m36_outside.specs.declared.sink.Put.TheVariants.{Done, Failed}

-- what the answer implies for what is written, before and after
abbrev pub PutResult : Put → Option (List ℕ) → Option (List ℕ) → List ℕ → Type 0
PutResult Done old new piece = Grew old new piece
PutResult Failed old new piece = GrewWithin old new piece

-- A failed put raised the count of faults; every other put left it unchanged.
abbrev pub PutHasCause : Put → ℕ → ℕ → Type 0
PutHasCause Done old new = new ≡ old
PutHasCause Failed old new = Rose old new

-- the fact holds if the put failed
abbrev pub OnFailed : Put → Type 0 → Type 0
OnFailed Done fact = ⊤
OnFailed Failed fact = fact
