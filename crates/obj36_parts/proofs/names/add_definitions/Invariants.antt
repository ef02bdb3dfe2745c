use Rattle.std.proofs.Common.{◌≡◌, ◌≤◌, ◌+◌, length, drop}
use Rattle.obj36_parts.specs.Names.{with_names}
use Rattle.obj36_parts.specs.ObjectSegment.{definition_names}
use Rattle.obj36_parts.proofs.names.add_definitions.Given as goal

-- what the rest adds completes the whole
abbrev pub invariant-loop-definition : goal.invariant-loop-definition
invariant-loop-definition l = record {
  all : with_names l.table.names (definition_names (drop l.definition-index l.definitions)) ≡ with_names l.fn.table.names (definition_names l.definitions);
  few : length l.table.names ≤ length l.fn.table.names + l.definition-index;
  base : l.table.base ≡ l.fn.table.base;
}
