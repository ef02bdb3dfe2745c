-- Pieces that are gathered in a block before they are put into a sink. `due` is what the sink must
-- get: the pieces of the block, and then those that are added.
use Rattle.std.specs.Prelude.{ℕ, ◌≡◌, List, ◌++◌, Option}
use Rattle.m36_outside.specs.Passing.{joined, TakesLines}
use Rattle.m36_outside.specs.Put.{PutResult}
use Rattle.m36_outside.specs.Written.{Grew}
use Rattle.m36_outside.specs.declared.sink.Put.{Put}
use Rattle.m36_outside.specs.declared.sink.Put.TheVariants.{Done, Failed}

-- Pieces were added to a block. The sink took the first pieces of those that it must get; the
-- others are in the block.
pub record Gathers (old new more : List (List ℕ)) (written written' : Option (List ℕ))
    (taken taken' : List (List ℕ)) : Type 0 where
  pub handed : List (List ℕ)
  pub due : old ++ more ≡ handed ++ new
  pub grew : Grew written written' (joined handed)
  pub took : taken' ≡ taken ++ handed

-- The sink took the first pieces of those that it must get and a prefix of the next, and then
-- failed.
pub record FailsPartway (due : List (List ℕ)) (written written' : Option (List ℕ))
    (taken taken' : List (List ℕ)) : Type 0 where
  pub grew : PutResult Failed written written' (joined due)
  pub took : TakesLines Failed taken taken' due

-- what the answer implies if `more` is added to a block: for the block and the sink, before and
-- after
abbrev pub Adds : Put → List (List ℕ) → List (List ℕ) → List (List ℕ)
    → Option (List ℕ) → Option (List ℕ) → List (List ℕ) → List (List ℕ) → Type 0
Adds Done old new more written written' taken taken' =
    Gathers old new more written written' taken taken'
Adds Failed old new more written written' taken taken' =
    FailsPartway (old ++ more) written written' taken taken'
