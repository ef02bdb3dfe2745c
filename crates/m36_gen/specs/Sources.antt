-- The sources of a seed: the programs, each of which goes on to the next, and the gate, which stops
-- the machine. The last program calls the gate.
use Rattle.std.specs.Prelude.{ℕ, ◌+◌, ◌-◌, nat_eq, if◌then◌else◌, List, ◌++◌, codes}
use Rattle.m36_gen.specs.declared.draws.Draws.{Draws}
use Rattle.m36_gen.specs.Lines.{line, line_with_number, program_count, segment_name, data_name}
use Rattle.m36_gen.specs.Lines.{gate_name}

-- The entry, which loads the pointer to the linkage section of the segment.
unfoldable pub entry_lines : List ℕ
entry_lines =
    line (codes " entry start")
    ++ line (codes "start: epaq 0,ic")
    ++ line (codes " lprp4 pr7|22,*au")

-- The beginning of the loop, which adds to X1. X2 counts the rounds that are left.
unfoldable pub adding_lines : Draws → List ℕ
adding_lines draws =
    line_with_number (codes " epp1 " ++ data_name ++ codes "$+") draws.offset (codes "")
    ++ line_with_number (codes " eax2 ") draws.count (codes "")
    ++ line_with_number (codes "loop: eax1 ") draws.add (codes ",x1")

-- The end of the loop, which stores each sum in the data.
unfoldable pub storing_lines : List ℕ
storing_lines =
    line (codes " stx1 pr1|0,x2")
    ++ line (codes " eax2 -1,x2")
    ++ line (codes " tnz loop")

-- the loop of a program
unfoldable pub loop_lines : Draws → List ℕ
loop_lines draws = adding_lines draws ++ storing_lines

-- the line after the loop: a transfer to the next program, or after the last one a call of the gate
unfoldable pub following_line : ℕ → List ℕ
following_line i =
    if nat_eq i (program_count - 1) then line (codes " call6 " ++ gate_name ++ codes "$stop")
    else line (codes " tra " ++ segment_name (i + 1) ++ codes "$start")

-- the source of program i
unfoldable pub source_text : ℕ → Draws → List ℕ
source_text i draws =
    entry_lines ++ loop_lines draws ++ following_line i ++ line (codes " end")

-- the gate: its entry `stop` stops the machine
unfoldable pub stop_lines : List ℕ
stop_lines =
    line (codes " entry stop")
    ++ line (codes "stop: dis 0")
    ++ line (codes " entrybound")

-- the source of the gate
unfoldable pub stop_text : List ℕ
stop_text = stop_lines ++ line (codes " end")
