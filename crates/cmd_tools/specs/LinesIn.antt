-- The lines of a text, each with its line feed: the pieces in which the text is printed.
use Rattle.std.specs.Prelude.{ℕ, ◌==◌, List, [], ◌∷◌, if◌then◌else◌}
use Rattle.std.specs.List.{onto_first}

-- A line ends with its line feed. What follows the last line feed is a line too, unless it is
-- empty.
unfoldable pub lines_in : List ℕ → List (List ℕ)
lines_in [] = []
lines_in (b ∷ text) = if b == 10 then (b ∷ []) ∷ lines_in text else onto_first b (lines_in text)
