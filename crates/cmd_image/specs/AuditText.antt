-- The text of an audit, each line one piece: the line `audit yes`, or a line for each finding with
-- its condition and its place in octal.
use Rattle.std.specs.Prelude.{ℕ, Bool, ◌||◌, ◌==◌, List, [], ◌∷◌, ◌++◌, codes, if◌then◌else◌}
use Rattle.m36_outside.specs.Passing.{joined}
use Rattle.m36_text.specs.Digits.{octal_text, decimal_text, segment_digits, core_word_digits}
use Rattle.m36_text.specs.Lines.{as_line}

-- Is the place of a finding of this condition a segment? It is for the first, the fifth and the
-- sixth condition; for the others it is a core word.
abbrev pub is_of_segment : ℕ → Bool
is_of_segment condition = condition == 1 || (condition == 5 || condition == 6)

-- the count of octal digits of a place: of the number of a segment, or of the address of a core
-- word
abbrev pub place_digits : ℕ → ℕ
place_digits condition = if is_of_segment condition then segment_digits else core_word_digits

-- a condition and its place in this many digits, as in `3 00000100`
abbrev pub place_text : ℕ → ℕ → ℕ → List ℕ
place_text condition digits place =
    decimal_text condition ++ codes " " ++ octal_text digits place

-- the condition and the place of a finding
abbrev pub finding_text : ℕ → ℕ → List ℕ
finding_text condition place = place_text condition (place_digits condition) place

-- the line of a finding, without its line feed, as `audit no A3 00000100`
unfoldable pub finding_line : ℕ × ℕ → List ℕ
finding_line f = codes "audit no A" ++ finding_text f.0 f.1

-- a line for each finding, in the order of the findings
unfoldable pub finding_pieces : List (ℕ × ℕ) → List (List ℕ)
finding_pieces [] = []
finding_pieces (f ∷ findings) = as_line (finding_line f) ∷ finding_pieces findings

-- the line of an audit without findings, with its line feed
abbrev pub yes_line : List ℕ
yes_line = as_line (codes "audit yes")

-- the lines of findings of any kind, or the line `audit yes` if there are none
abbrev pub lines_or_yes : {A : Type 0} → (List A → List (List ℕ)) → List A → List (List ℕ)
lines_or_yes lines [] = yes_line ∷ []
lines_or_yes lines (f ∷ findings) = lines (f ∷ findings)

-- the lines of an audit with these findings, each the number of its condition and its place
abbrev pub audit_pieces : List (ℕ × ℕ) → List (List ℕ)
audit_pieces findings = lines_or_yes finding_pieces findings

-- the text of an audit: its lines, one after another
abbrev pub audit_text : List (ℕ × ℕ) → List ℕ
audit_text findings = joined (audit_pieces findings)
