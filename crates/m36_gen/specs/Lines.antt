-- Lines, and the names of the segments of the programs.
use Rattle.std.specs.Prelude.{ℕ, List, ◌++◌, codes}
use Rattle.m36_text.specs.Digits.{decimal_text}
use Rattle.m36_text.specs.FileNames.{source_of_object}
use Rattle.m36_text.specs.Lines.{as_line}

-- A text with its line feed. Unlike `as_line` it is not unfolded where many lines are joined.
unfoldable pub line : List ℕ → List ℕ
line text = as_line text

-- a line with a number in decimal between two texts
unfoldable pub line_with_number : List ℕ → ℕ → List ℕ → List ℕ
line_with_number before n behind = line (before ++ decimal_text n ++ behind)

-- the number of programs
abbrev pub program_count : ℕ
program_count = 64

-- the name of the data segment
abbrev pub data_name : List ℕ
data_name = codes "d_"

-- the name of the gate's segment
abbrev pub gate_name : List ℕ
gate_name = codes "stop_"

-- the name of the segment of program i
unfoldable pub segment_name : ℕ → List ℕ
segment_name i = codes "g" ++ decimal_text i

-- the name of the source of program i
unfoldable pub source_name : ℕ → List ℕ
source_name i = source_of_object (segment_name i)
