-- The rows of the processor's own table: a row, with its name padded with blanks to five
-- characters, the length of the longest name.
use Rattle.std.specs.Prelude.{ℕ, Bool, List, ◌++◌, ◌==◌, ◌<◌, ◌≤◌, length, take, replicate, map}
use Rattle.std.specs.Prelude.{Option, option_map}
use Rattle.std.specs.List.{before_first, range_with_len, All}
use Rattle.m36_inst.specs.Lookup.{entry_at, row_of}
use Rattle.m36_inst.specs.Table.{Entry}
use Rattle.m36_inst.specs.declared.rows.Named.{Named}

-- a name with blanks after it, five characters in all
abbrev pub padded : List ℕ → List ℕ
padded name = take 5 (name ++ replicate 5 0x20)

-- the row and the padded name of an entry
abbrev pub named_of : Entry → Named
named_of e = record { row = row_of e.effect e.reg; name = padded e.name }

-- the row and the padded name of an operation code with bit 27, if it has an instruction
abbrev pub named_row_at : Bool → ℕ → Option Named
named_row_at bit27 code = option_map named_of (entry_at code bit27)

-- the rows and padded names of 64 operation codes, from `base` on
unfoldable pub block : Bool → ℕ → List (Option Named)
block bit27 base = map (named_row_at bit27) (range_with_len base 64)

-- a blank of ASCII
abbrev pub is_blank : ℕ → Bool
is_blank b = b == 0x20

-- the characters before the first blank
abbrev pub text_of : List ℕ → List ℕ
text_of name = before_first is_blank name

-- a name has at most five characters, all of them ASCII
pub record IsPlain (name : List ℕ) : Type 0 where
  pub short : length name ≤ 5
  pub ascii : All (λ b. b < 128) name
