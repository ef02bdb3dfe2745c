-- The lines that a session writes, each with its line feed.
use Rattle.std.specs.Prelude.{ℕ, ◌+◌, List, [], ◌∷◌, ◌++◌, codes, take, Option, Some, None}
use Rattle.std.specs.List.{flat_map}
use Rattle.m36_text.specs.Digits.{octal_text, word_text, half_text}
use Rattle.m36_text.specs.Lines.{as_line}
use Rattle.m36_desc.specs.Fields.{PtrFields}
use Rattle.m36_model.specs.Fields.{PprFields}
use Rattle.m36_model.specs.Registers.{RegsFields}
use Rattle.m36_model.specs.declared.endings.End.{End}
use Rattle.m36_step.specs.declared.turns.Turn.{Turn}
use Rattle.m36_step.specs.declared.turns.Turn.TheVariants.{Ended}
use Rattle.m36_trace.specs.TraceLine.{segment_word_text, address_text, indicators_text}
use Rattle.m36_turns.specs.TurnLines.{run_end_line_of, turn_pieces}

-- the maximum number of bytes of an unknown line that are shown
abbrev pub shown_limit : ℕ
shown_limit = 64

-- the part of an unknown line that is shown
abbrev pub shown : List ℕ → List ℕ
shown line = take shown_limit line

-- the answer to an unknown line
unfoldable pub unknown_line : List ℕ → List ℕ
unknown_line line = as_line (codes "? " ++ shown line)

-- the ring of execution, and the segment and word number of the next instruction
unfoldable pub where_line : PprFields → List ℕ
where_line p =
    as_line (octal_text 1 p.prr ++ codes " " ++ segment_word_text p.psr p.ic)

-- the answer to `break S W`
unfoldable pub break_line : ℕ → ℕ → List ℕ
break_line seg word = as_line (codes "break " ++ segment_word_text seg word)

-- a word of a segment, or `absent` if it has no place
abbrev pub content_text : Option ℕ → List ℕ
content_text (Some word) = word_text word
content_text None = codes "absent"

-- the answer to `seg S W`
unfoldable pub seg_line : ℕ → ℕ → Option ℕ → List ℕ
seg_line seg word content =
    as_line (segment_word_text seg word ++ codes " " ++ content_text content)

-- ---- the registers

-- A, Q and the indicators
unfoldable pub a_line : RegsFields → List ℕ
a_line g =
    as_line
    (codes "a " ++ word_text g.a ++ codes " q " ++ word_text g.q ++ codes " ind "
    ++ indicators_text g.ind)

-- an index register, after a space
abbrev pub index_text : ℕ → List ℕ
index_text x = codes " " ++ half_text x

-- the index registers
unfoldable pub x_line : RegsFields → List ℕ
x_line g = as_line (codes "x" ++ flat_map index_text g.x)

-- a pointer register with its number: the address with its ring, and the bit
unfoldable pub pointer_line : ℕ → PtrFields → List ℕ
pointer_line n p =
    as_line
    (codes "pr" ++ octal_text 1 n ++ codes " "
    ++ address_text (record { word = p.word; seg = p.seg; ring = p.ring }) ++ codes " "
    ++ octal_text 2 p.bit)

-- the lines of pointer registers from number n on
unfoldable pub pointer_lines : ℕ → List PtrFields → List (List ℕ)
pointer_lines n [] = []
pointer_lines n (p ∷ pointers) = pointer_line n p ∷ pointer_lines (n + 1) pointers

-- the answer to `regs`
unfoldable pub regs_lines : RegsFields → List (List ℕ)
regs_lines g = a_line g ∷ x_line g ∷ pointer_lines 0 g.pr

-- ---- turns before which `taken` steps were taken

-- how a run has ended, after `taken` steps
unfoldable pub end_line : End → ℕ → List ℕ
end_line end taken = as_line (run_end_line_of end taken)

-- the end line, if the run has ended
abbrev pub end_lines : Option End → ℕ → List (List ℕ)
end_lines (Some end) taken = end_line end taken ∷ []
end_lines None taken = []

-- the end line, or the address of the next instruction if the run has not ended
abbrev pub end_or_where : Option End → ℕ → PprFields → List ℕ
end_or_where (Some end) taken p = end_line end taken
end_or_where None taken p = where_line p

-- the lines of a turn; for an end, the end line
unfoldable pub turn_lines : ℕ → Turn → List (List ℕ)
turn_lines taken (Ended end) = end_line end taken ∷ []
turn_lines taken turn = turn_pieces taken turn
