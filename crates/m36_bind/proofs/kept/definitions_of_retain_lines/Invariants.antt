use Rattle.std.proofs.Common.{◌≡◌, ◌+◌, [], drop}
use Rattle.m36_bind.specs.Kept.{with_retain_lines}
use Rattle.m36_bind.proofs.kept.definitions_of_retain_lines.Given as goal

-- the rest completes the whole
abbrev pub invariant-loop-line : goal.invariant-loop-line
invariant-loop-line l = record {
  told : with_retain_lines l.exports l.kept l.n (drop l.line-index l.lines) ≡ with_retain_lines l.exports [] 1 l.lines;
  count : l.n ≡ l.line-index + 1;
}
