-- The lines of a session, from the bytes that were read.
use Rattle.std.specs.Prelude.{ℕ, ◌≡◌, ◌==◌, ◌++◌, false, List, map, All}
use Rattle.m36_outside.specs.Passing.{joined}
use Rattle.m36_text.specs.Lines.{as_line, lines_of, present_values}

-- the whole lines: those that have their line feeds
abbrev pub whole_lines : List ℕ → List (List ℕ)
whole_lines text = present_values (lines_of text)

-- a prefix of some lines
pub record IsFirstPart (lines all : List (List ℕ)) : Type 0 where
  pub rest : List (List ℕ)
  pub is : all ≡ lines ++ rest

-- a text without a line feed
abbrev pub IsUnbroken : List ℕ → Type 0
IsUnbroken text = All (λ b. (b == 10) ≡ false) text

-- The text is these whole lines, and then the bytes `rest`.
pub record IsLines (text : List ℕ) (lines : List (List ℕ)) (rest : List ℕ) : Type 0 where
  pub is : text ≡ joined (map as_line lines) ++ rest
  pub unbroken : All IsUnbroken lines
