use Rattle.std.proofs.Common.{◌≡◌, ◌++◌, ◌+◌, ◌*◌, drop}
use Rattle.obj36_parts.specs.ObjectSegment.{definition_words}
use Rattle.obj36_parts.proofs.sections.push_definitions.Given as goal

-- the definitions that follow complete the table
abbrev pub invariant-loop-i : goal.invariant-loop-i
invariant-loop-i l = record {
  rest : l.out ++ definition_words l.table.names l.table.base (drop l.i l.definitions) l.at ≡ l.fn.out ++ definition_words l.table.names l.table.base l.definitions 2;
  place : l.at ≡ 2 + 2 * l.i;
}
