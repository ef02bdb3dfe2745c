-- Texts that are joined.
use Rattle.std.proofs.Common.{◌≡◌, ℕ, List, ◌++◌, append_assoc}
use Rattle.std.specs.Prelude.{codes}

pub joined : (old a b : List ℕ) → ((old ++ a) ++ codes "$") ++ b ≡ old ++ ((a ++ codes "$") ++ b)
joined old a b = simp append_assoc
