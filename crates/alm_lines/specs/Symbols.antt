-- The symbols of a source in the order of their definitions, each with its sum.
use Rattle.std.specs.Prelude.{ℕ, is_some, List, Option}
use Rattle.std.specs.Map.{lookup}
pub use Rattle.m36_text.specs.Texts.{are_same as same_name}
use Rattle.m36_text.specs.Once.{appended_unless}
use Rattle.alm_lines.specs.declared.sum.Sum.{Sum}

-- the sum of a symbol, if it is defined
unfoldable pub sum_named : List ℕ → List (List ℕ × Sum) → Option Sum
sum_named name symbols = lookup (same_name name) symbols

-- the symbols with one more at the end, unless they have it
unfoldable pub with_symbol : List (List ℕ × Sum) → List ℕ → Sum → List (List ℕ × Sum)
with_symbol symbols name sum =
    appended_unless (is_some (sum_named name symbols)) symbols (name, sum)
