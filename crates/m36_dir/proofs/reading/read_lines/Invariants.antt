use Rattle.std.proofs.Common.{◌≡◌, ◌+◌, ◌++◌, length}
use Rattle.m36_text.specs.Lines.{lines_of, first_present}
use Rattle.m36_dir.specs.BootOrder.{codes_from, well_formed_lines, parsed_lines, first_code}
use Rattle.m36_dir.proofs.TextLoops.{FewLines}
use Rattle.m36_dir.proofs.reading.read_lines.Given as goal

-- The result for the rest is the result for the text. The lines above and those of the rest are all
-- lines. The number of the line is one more than the number of lines above.
abbrev pub invariant-loop-line : goal.invariant-loop-line
invariant-loop-line l = record {
  told : first_present l.number (codes_from (well_formed_lines l.text) l.above.items (parsed_lines l.rest)) ≡ first_code l.text;
  lines : l.above.items ++ well_formed_lines l.rest ≡ well_formed_lines l.text;
  count : l.number + length (lines_of l.rest) ≡ length (lines_of l.text) + 1;
  few : FewLines l.text l.rest;
}

abbrev pub decreases-loop-line : goal.decreases-loop-line
decreases-loop-line l = length l.rest
