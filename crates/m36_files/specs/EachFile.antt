-- Reads something for each item of a list, one after another. An item is checked with all its
-- refusals before the next one is read.
use Rattle.std.specs.Prelude.{List, [], ◌∷◌, ◌++◌, Ok}
use Rattle.m36_program.specs.Program.{May, Program, done, then_with}
use Rattle.m36_files.specs.Deciding.{rule_program}

-- reads one item, and appends it to those read before; memory may run out
unfoldable pub read_and_append :
    {may : May} {I A : Type 0} → (I → Program may A) → List A → I → Program may (List A)
read_and_append one so_far item = then_with (one item) (λ a. rule_program (Ok (so_far ++ a ∷ [])))

-- reads each item in order, and appends it to the list
unfoldable pub read_each :
    {may : May} {I A : Type 0} → (I → Program may A) → List A → List I → Program may (List A)
read_each one so_far [] = done so_far
read_each one so_far (item ∷ items) =
    then_with (read_and_append one so_far item) (λ more. read_each one more items)
