use Rattle.std.proofs.Common.{◌≡◌, ◌+◌, ◌≤◌, [], length}
use Rattle.m36_bindfile.specs.BindFile.{lines_from, parsed_bind_lines}
use Rattle.m36_bindfile.proofs.reading.lines_in.Given as goal

-- The result for the rest is the result for the text, and each line above has at least one byte.
abbrev pub invariant-loop-line : goal.invariant-loop-line
invariant-loop-line l = record {
  told : lines_from l.above (parsed_bind_lines l.rest) ≡ lines_from [] (parsed_bind_lines l.text);
  few : length l.above + length l.rest ≤ length l.text;
}

abbrev pub decreases-loop-line : goal.decreases-loop-line
decreases-loop-line l = length l.rest
