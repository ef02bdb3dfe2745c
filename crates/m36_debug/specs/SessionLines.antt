-- The grammar of the lines of a session.
--
--     step, step N      N decimal, 1 to 1,000,000
--     go
--     break S W         five and six octal digits
--     regs
--     seg S W
--     where
--     back, back N
--     quit
--
-- Words are separated by single spaces, and N has no leading zero. A line has at most 256 bytes.
-- An empty line is accepted, and any other line is unknown.
use Rattle.std.specs.Prelude.{ℕ, ◌≢◌, ◌<◌, ◌≤◌, ◌^◌, nat_le, if◌then◌else◌, List, [], ◌∷◌, codes}
use Rattle.std.specs.Prelude.{length, Option, Some}
use Rattle.std.specs.Prelude.{None, option_map, unwrap_or}
use Rattle.m36_text.specs.Texts.{is_text}
use Rattle.m36_text.specs.Lines.{words_of}
use Rattle.m36_text.specs.Numbers.{segment_number_in, word_number_in, plain_decimal_in}
use Rattle.m36_debug.specs.declared.session_line.SessionLine.{SessionLine}
use Rattle.m36_debug.specs.declared.session_line.SessionLine.TheVariants.{Step, Go, Break, Regs}
use Rattle.m36_debug.specs.declared.session_line.SessionLine.TheVariants.{Seg, Where, Back, Quit}
use Rattle.m36_debug.specs.declared.session_line.SessionLine.TheVariants.{Empty, Unknown}

-- the content of a line of one word; that of an empty line is the empty word
abbrev pub one_word : List ℕ → SessionLine
one_word word =
    if is_text [] word then Empty
    else if is_text (codes "step") word then Step 1
    else if is_text (codes "go") word then Go
    else if is_text (codes "regs") word then Regs
    else if is_text (codes "where") word then Where
    else if is_text (codes "back") word then Back 1
    else if is_text (codes "quit") word then Quit
    else Unknown

-- the maximum number of steps in a line
abbrev pub most_steps : ℕ
most_steps = 1000000

-- a number of steps, 1 to 1,000,000
abbrev pub steps_in : List ℕ → Option ℕ
steps_in word = plain_decimal_in 1 most_steps word

-- the content of a line of two words: `step N` or `back N`
abbrev pub two_words : List ℕ → List ℕ → SessionLine
two_words word n =
    if is_text (codes "step") word then unwrap_or (option_map Step (steps_in n)) Unknown
    else if is_text (codes "back") word then unwrap_or (option_map Back (steps_in n)) Unknown
    else Unknown

-- a line with a segment number and a word number, if both could be read
abbrev pub line_with_place : (ℕ → ℕ → SessionLine) → Option ℕ → Option ℕ → SessionLine
line_with_place line (Some seg) (Some word) = line seg word
line_with_place line (Some seg) None = Unknown
line_with_place line None word = Unknown

-- as `line_with_place`, from the words that are the two numbers
abbrev pub line_with_place_words : (ℕ → ℕ → SessionLine) → List ℕ → List ℕ → SessionLine
line_with_place_words line s w = line_with_place line (segment_number_in s) (word_number_in w)

-- the content of a line of three words: `break S W` or `seg S W`
abbrev pub three_words : List ℕ → List ℕ → List ℕ → SessionLine
three_words word s w =
    if is_text (codes "break") word then line_with_place_words Break s w
    else if is_text (codes "seg") word then line_with_place_words Seg s w
    else Unknown

-- the content of a line, from its words
abbrev pub line_of_words : List (List ℕ) → SessionLine
line_of_words [] = Unknown
line_of_words (word ∷ []) = one_word word
line_of_words (word ∷ n ∷ []) = two_words word n
line_of_words (word ∷ s ∷ w ∷ []) = three_words word s w
line_of_words (word ∷ s ∷ w ∷ more ∷ words) = Unknown

-- the maximum length of a known line, in bytes
abbrev pub longest_line : ℕ
longest_line = 256

-- the content of a line
unfoldable pub session_line : List ℕ → SessionLine
session_line line =
    if nat_le (length line) longest_line then line_of_words (words_of line) else Unknown

-- a line other than `quit`
abbrev pub IsNotQuit : List ℕ → Type 0
IsNotQuit line = session_line line ≢ Quit

-- the numbers of a parsed line are within their ranges
abbrev pub IsBounded : SessionLine → Type 0
IsBounded (Step n) = (0 < n) × (n ≤ most_steps)
IsBounded Go = Unit {0}
IsBounded (Break seg word) = (seg < 2 ^ 15) × (word < 2 ^ 18)
IsBounded Regs = Unit {0}
IsBounded (Seg seg word) = (seg < 2 ^ 15) × (word < 2 ^ 18)
IsBounded Where = Unit {0}
IsBounded (Back n) = n ≤ most_steps
IsBounded Quit = Unit {0}
IsBounded Empty = Unit {0}
IsBounded Unknown = Unit {0}
