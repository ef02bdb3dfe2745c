use Rattle.std.proofs.Common.{◌+◌, ◌≤◌, length}
use Rattle.m36_text.specs.Lines.{lines_of}
use Rattle.m36_image.proofs.Placing.{Placing}
use Rattle.m36_image.proofs.core_words.put_lines.Given as goal

abbrev pub decreases-lines : goal.decreases-lines
decreases-lines l = length l.rest

abbrev pub invariant-lines : goal.invariant-lines
invariant-lines l = record {
  placing : Placing l.fn.core (lines_of l.text) l.core l.number l.next (lines_of l.rest);
  count : l.number + length l.rest ≤ 4 + length l.text;
}
