-- The lines of a folder that was made: the count of its segments and what the audit of its booted
-- core finds; and if it finds nothing, how the run ended and what it left in X1.
use Rattle.std.specs.Prelude.{ℕ, List, [], ◌∷◌, ◌++◌, codes, slice_index, Option, length}
use Rattle.m36_text.specs.Digits.{decimal_text, half_text}
use Rattle.m36_text.specs.Lines.{as_line}
use Rattle.m36_model.specs.Registers.{RegsFields}
use Rattle.m36_super.specs.Library.{Library}
use Rattle.cmd_image.specs.AuditText.{audit_pieces}
use Rattle.cmd_folder.specs.declared.finish.Finish.{Finish}
use Rattle.cmd_folder.specs.RunText.{end_line_and_rest}

-- the maximum number of steps of the run
abbrev pub run_limit : ℕ
run_limit = 100000

-- ---- lines

-- the line with the count of segments, without its line feed, as `segments 66`
unfoldable pub segments_line : ℕ → List ℕ
segments_line count = codes "segments " ++ decimal_text count

-- the line with the count of segments and its line feed: the first line that `make` puts
abbrev pub head_line : ℕ → List ℕ
head_line count = as_line (segments_line count)

-- the line with index register 1, in six octal digits and without its line feed, as `x1 130532`
unfoldable pub sum_line : RegsFields → List ℕ
sum_line regs = codes "x1 " ++ half_text (slice_index regs.x 1)

-- the lines before the run: the count of segments, and the audit's text
abbrev pub head_pieces : ℕ → List (ℕ × ℕ) → List (List ℕ)
head_pieces count findings = head_line count ∷ audit_pieces findings

-- the lines after the run, if it has ended: the end line, and X1
abbrev pub end_pieces : Option Finish → ℕ → RegsFields → List (List ℕ)
end_pieces how steps regs =
    end_line_and_rest how steps (λ (last : Finish). as_line (sum_line regs) ∷ [])

-- how many segments a system has
abbrev pub segment_count : Library → ℕ
segment_count lib = length lib.catalog.segments
