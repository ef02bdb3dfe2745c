use Rattle.std.proofs.Common.{◌≡◌, ◌+◌, ◌≤◌, length}
use Rattle.m36_acl.specs.AccessLists.{lists_from, parsed_lines, lists_of}
use Rattle.m36_acl.proofs.reading.segments_in.Given as goal

-- The result for the rest is the result for the text, and each line above has at least one byte.
abbrev pub invariant-loop-line : goal.invariant-loop-line
invariant-loop-line l = record {
  told : lists_from l.number l.above (parsed_lines l.rest) ≡ lists_of l.text;
  few : l.number + length l.rest ≤ length l.text + 1;
}

abbrev pub decreases-loop-line : goal.decreases-loop-line
decreases-loop-line l = length l.rest
