-- The boot text of the folder that a seed makes, which is the same for each seed.
use Rattle.std.specs.Prelude.{ℕ, List, ◌++◌, codes}
use Rattle.std.specs.List.{flat_map, range_with_len}
use Rattle.m36_gen.specs.Lines.{line, program_count, data_name, gate_name, segment_name}

-- the line of a segment whose file has the same name; `has` is its kind, mode and brackets
unfoldable pub segment_line : List ℕ → List ℕ → List ℕ
segment_line name has =
    line (codes "segment >gen " ++ name ++ codes " " ++ name ++ codes " " ++ has)

-- the line of the segment of program i
unfoldable pub program_line : ℕ → List ℕ
program_line i = segment_line (segment_name i) (codes "object re 4 4 4")

-- the lines of the segments of the first `count` programs
unfoldable pub program_lines : ℕ → List ℕ
program_lines count = flat_map program_line (range_with_len 0 count)

-- the boot text, which is the same for each seed
unfoldable pub boot_text : List ℕ
boot_text =
    line (codes "frames 32")
    ++ line (codes "work >gen")
    ++ program_lines program_count
    ++ segment_line data_name (codes "data rw 4 4 4")
    ++ segment_line gate_name (codes "gate rep 0 0 4")
    ++ line (codes "start 4 " ++ segment_name 0 ++ codes "$start")
