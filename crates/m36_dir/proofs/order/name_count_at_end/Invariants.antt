use Rattle.std.proofs.Common.{◌≡◌, ◌≤◌, drop}
use Rattle.m36_dir.specs.BootOrder.{name_count_at_end}
use Rattle.m36_dir.proofs.order.name_count_at_end.Given as goal

-- the rest completes the whole
abbrev pub invariant-loop-line : goal.invariant-loop-line
invariant-loop-line l = record {
  rest : name_count_at_end l.names (drop l.line-index l.lines) ≡ name_count_at_end 0 l.lines;
  few : l.names ≤ l.line-index;
}
