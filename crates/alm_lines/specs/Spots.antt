-- The place of a line: its section, and how many words the lines above it place in each section.
use Rattle.std.specs.Prelude.{ℕ, ◌≤◌, ◌+◌, ◌-◌, ◌*◌, ◌%◌, ◌^◌, true, false, List, [], ◌∷◌, length}
use Rattle.obj36_parts.specs.ObjectSegment.{head_words}
use Rattle.obj36_parts.specs.declared.section.Section.{Section}
use Rattle.obj36_parts.specs.declared.section.Section.TheVariants.{Text, Linkage, Symbol, Static}
use Rattle.alm_parse.specs.declared.args.Arg.{Arg}
use Rattle.alm_parse.specs.declared.line.Line36.{Line36}
use Rattle.alm_lines.specs.Sums.{balance, zero_balance, zero_sum}
use Rattle.alm_lines.specs.Arguments.{first_arg, second_arg, symbol_in, number_in, words_of_args}
use Rattle.alm_lines.specs.Arguments.{section_in}
use Rattle.alm_lines.specs.declared.sum.Sum.{Sum}
use Rattle.alm_parse.specs.declared.deed.LineEffect.{LineEffect}
use Rattle.alm_parse.specs.declared.deed.LineEffect.TheVariants as deed
use Rattle.alm_lines.specs.SpotFields.{LocationCounter}

-- the place of the first line
abbrev pub start : LocationCounter
start =
    record {
      text = 0;
      inner = 0;
      outer = 0;
      section = Text;
      uses_inner = false;
      uses_outer = false;
    }

-- the number of words that the lines above place in a section
abbrev pub count_in : Section → LocationCounter → ℕ
count_in Text spot = spot.text
count_in Linkage spot = spot.inner
count_in Symbol spot = 0
count_in Static spot = spot.outer

-- the number of words that the lines above place in the section of a line
abbrev pub count : LocationCounter → ℕ
count spot = count_in spot.section spot

-- The offset in a section after the words that the lines above place there. The static words of the
-- linkage section begin after its head.
abbrev pub offset_in_section : Section → LocationCounter → ℕ
offset_in_section Text spot = spot.text
offset_in_section Linkage spot = spot.inner + head_words
offset_in_section Symbol spot = 0
offset_in_section Static spot = spot.outer

-- the offset of a line in its section
abbrev pub place : LocationCounter → ℕ
place spot = offset_in_section spot.section spot

-- the sum of a label at this place, if the line is in this section
abbrev pub label_sum_in : Section → LocationCounter → Sum
label_sum_in Text spot =
    record {
      value = balance (offset_in_section Text spot) 0;
      text = balance 1 0;
      inner = zero_balance;
      outer = zero_balance;
      unknown = false;
    }
label_sum_in Linkage spot =
    record {
      value = balance (offset_in_section Linkage spot) 0;
      text = zero_balance;
      inner = balance 1 0;
      outer = zero_balance;
      unknown = false;
    }
label_sum_in Symbol spot = zero_sum
label_sum_in Static spot =
    record {
      value = balance (offset_in_section Static spot) 0;
      text = zero_balance;
      inner = zero_balance;
      outer = balance 1 0;
      unknown = false;
    }

-- the sum of the place of a line
abbrev pub here : LocationCounter → Sum
here spot = label_sum_in spot.section spot

-- the place after n more words of a section
abbrev pub plus_words_in : Section → LocationCounter → ℕ → LocationCounter
plus_words_in Text spot n = record spot { text = spot.text + n }
plus_words_in Linkage spot n = record spot { inner = spot.inner + n }
plus_words_in Symbol spot n = spot
plus_words_in Static spot n = record spot { outer = spot.outer + n }

-- the place after n more words of the section of a line
abbrev pub plus_words : LocationCounter → ℕ → LocationCounter
plus_words spot n = plus_words_in spot.section spot n

-- the place after a `use` line, which selects a section
abbrev pub with_section : LocationCounter → Section → LocationCounter
with_section spot Text = record spot { section = Text }
with_section spot Linkage = record spot { section = Linkage; uses_inner = true }
with_section spot Symbol = spot
with_section spot Static = record spot { section = Static; uses_outer = true }

-- the number of words that a line places; `at` is its offset in its section
abbrev pub size_of : LineEffect → List Arg → ℕ → ℕ
size_of deed.Nothing arguments at = 0
size_of (deed.Instruction code bit27) arguments at = 1
size_of deed.Entry arguments at = 0
size_of deed.Segdef arguments at = 0
size_of deed.Equ arguments at = 0
size_of deed.Use arguments at = 0
size_of deed.Words arguments at = length (words_of_args [] arguments)
size_of deed.Zero arguments at = 1
size_of deed.Block arguments at = number_in (second_arg arguments)
size_of deed.Even arguments at = at % 2
size_of deed.Bound arguments at = 0

-- the place of the next line, by the operation of this one and its arguments
abbrev pub next_spot : List ℕ → LineEffect → List Arg → LocationCounter → LocationCounter
next_spot text deed.Use arguments spot =
    with_section spot (section_in text (symbol_in (first_arg arguments)))
next_spot text deed.Nothing arguments spot = spot
next_spot text (deed.Instruction code bit27) arguments spot =
    plus_words spot (size_of (deed.Instruction code bit27) arguments (place spot))
next_spot text deed.Entry arguments spot = spot
next_spot text deed.Segdef arguments spot = spot
next_spot text deed.Equ arguments spot = spot
next_spot text deed.Words arguments spot =
    plus_words spot (size_of deed.Words arguments (place spot))
next_spot text deed.Zero arguments spot = plus_words spot (size_of deed.Zero arguments (place spot))
next_spot text deed.Block arguments spot =
    plus_words spot (size_of deed.Block arguments (place spot))
next_spot text deed.Even arguments spot = plus_words spot (size_of deed.Even arguments (place spot))
next_spot text deed.Bound arguments spot = spot

-- the place of the next line
unfoldable pub next_line_spot : List ℕ → LocationCounter → Line36 → LocationCounter
next_line_spot text spot line = next_spot text line.deed line.args spot

-- the place after the last of these lines, the first of which is at `spot`
unfoldable pub end_of : List ℕ → LocationCounter → List Line36 → LocationCounter
end_of text spot [] = spot
end_of text spot (line ∷ lines) = end_of text (next_line_spot text spot line) lines

-- ---- bounds of the numbers of words

-- The counts leave room for this many more lines, each of fewer than 2^64 words.
pub record HasRoomForLines (lines : ℕ) (spot : LocationCounter) : Type 0 where
  pub text : spot.text + lines * 2 ^ 64 ≤ 2 ^ 96 - 2 ^ 64
  pub inner : spot.inner + lines * 2 ^ 64 ≤ 2 ^ 96 - 2 ^ 64
  pub outer : spot.outer + lines * 2 ^ 64 ≤ 2 ^ 96 - 2 ^ 64

-- The place `after` is at most 2^64 words further in each section than `spot`.
pub record IsOneLineFurther (spot after : LocationCounter) : Type 0 where
  pub text : after.text ≤ spot.text + 2 ^ 64
  pub inner : after.inner ≤ spot.inner + 2 ^ 64
  pub outer : after.outer ≤ spot.outer + 2 ^ 64
