-- A text divided into lines. A line ends with a line feed, which the last one may lack. Text after
-- the last line feed is a line only if it is not empty.
use Rattle.std.specs.Prelude.{ℕ, ◌+◌, ◌==◌, List, [], ◌∷◌, if◌then◌else◌}
use Rattle.alm_tokens.specs.declared.rows.Row.{Row}
use Rattle.alm_tokens.specs.Tokens.{span_at}

-- the line between two indexes, with its number
abbrev pub row_at : ℕ → ℕ → ℕ → Row
row_at number from at = record { span = span_at from at; number = number }

-- The lines of the rest of a text, whose next byte is at index `at`. The line of that byte has this
-- number and began at index `from`.
unfoldable pub rows_from : ℕ → ℕ → ℕ → List ℕ → List Row
rows_from number from at [] = if from == at then [] else row_at number from at ∷ []
rows_from number from at (b ∷ rest) =
    if b == 10
    then row_at number from at ∷ rows_from (number + 1) (at + 1) (at + 1) rest
    else rows_from number from (at + 1) rest

-- the lines of a text, numbered from 1
unfoldable pub rows_of : List ℕ → List Row
rows_of text = rows_from 1 0 0 text
