-- The lines of a text, the words of a line, and the first line for which a function has a result.
use Rattle.std.specs.Prelude.{ℕ, ◌≡◌, ◌+◌, ◌-◌, ◌==◌, Bool, if◌then◌else◌, List, [], ◌∷◌, ◌++◌}
use Rattle.std.specs.Prelude.{length, filter_map, Option, Some, None, slice_get, unwrap_or}
use Rattle.std.specs.List.{slice_split, join_with_byte}

-- a text with its line feed
abbrev pub as_line : List ℕ → List ℕ
as_line text = text ++ 10 ∷ []

-- A line ends with its line feed. Nonempty text after the last line feed is a line too, but one
-- that lacks its line feed. It is given as None, since no form of line allows it.
abbrev pub unended_line : List ℕ → List (Option (List ℕ))
unended_line [] = []
unended_line (b ∷ rest) = None ∷ []

-- The lines of a text, given the parts of the text that line feeds separate. The last part is no
-- line if it is empty, and otherwise a line without its line feed.
abbrev pub lines_of_parts : List (List ℕ) → List (Option (List ℕ))
lines_of_parts [] = []
lines_of_parts (rest ∷ []) = unended_line rest
lines_of_parts (line ∷ next ∷ parts) = Some line ∷ lines_of_parts (next ∷ parts)

-- the lines of a text, without their line feeds; the last is None if it lacks its line feed
unfoldable pub lines_of : List ℕ → List (Option (List ℕ))
lines_of text = lines_of_parts (slice_split (λ b. b == 10) text)

-- line n, counted from 1; None if it is missing or lacks its line feed
abbrev pub line_at : List (Option (List ℕ)) → ℕ → Option (List ℕ)
line_at lines n = unwrap_or (slice_get lines (n - 1)) None

-- the text after the last line feed as a list of lines: one line, or none if the text is empty
abbrev pub open_last_line : List ℕ → List (List ℕ)
open_last_line [] = []
open_last_line (b ∷ rest) = (b ∷ rest) ∷ []

-- The lines of a text, given the parts of the text that line feeds separate. The last line may lack
-- its line feed.
abbrev pub open_lines_of_parts : List (List ℕ) → List (List ℕ)
open_lines_of_parts [] = []
open_lines_of_parts (rest ∷ []) = open_last_line rest
open_lines_of_parts (line ∷ next ∷ parts) = line ∷ open_lines_of_parts (next ∷ parts)

-- The lines of a text, without their line feeds. The last one may lack its line feed.
unfoldable pub open_lines_of : List ℕ → List (List ℕ)
open_lines_of text = open_lines_of_parts (slice_split (λ b. b == 10) text)

-- The words of a line. One space separates two words, so two spaces in a row have an empty word
-- between them.
unfoldable pub words_of : List ℕ → List (List ℕ)
words_of line = slice_split (λ b. b == 32) line

-- words with single spaces between them
abbrev pub joined_by_spaces : List (List ℕ) → List ℕ
joined_by_spaces words = join_with_byte 32 words

-- What `says` makes of the words of a line. A line that lacks its line feed (None) has the meaning
-- `of_no_form`.
abbrev pub line_meaning : {A : Type 0} → (List (List ℕ) → A) → A → Option (List ℕ) → A
line_meaning says of_no_form (Some line) = says (words_of line)
line_meaning says of_no_form None = of_no_form

-- what `says` makes of the first word and of the words after it; None if there is no word
abbrev pub words_meaning : {A : Type 0} → (List ℕ → List (List ℕ) → Option A) → List (List ℕ)
    → Option A
words_meaning says [] = None
words_meaning says (word ∷ given) = says word given

-- There are at least two words.
pub record HasMore (words : List (List ℕ)) : Type 0 where
  pub first : List ℕ
  pub second : List ℕ
  pub others : List (List ℕ)
  pub are : words ≡ first ∷ second ∷ others

-- the results that are not None, in order
abbrev pub present_values : {A : Type 0} → List (Option A) → List A
present_values lines = filter_map (λ next. next) lines

-- the last item of a list; None if the list is empty
abbrev pub last_of : {A : Type 0} → List A → Option A
last_of lines = slice_get lines (length lines - 1)

-- The first result of a list that is not None, with the number of its line; None if there is none.
-- The lines are numbered from n.
unfoldable pub first_present : {A : Type 0} → ℕ → List (Option A) → Option (ℕ × A)
first_present n [] = None
first_present n (Some told ∷ lines) = Some (n, told)
first_present n (None ∷ lines) = first_present (n + 1) lines

-- the value beside the first condition that holds; None if no condition holds
unfoldable pub first_true_case : {A : Type 0} → List (Bool × A) → Option A
first_true_case [] = None
first_true_case (test ∷ tests) = if test.0 then Some test.1 else first_true_case tests
