use Rattle.std.proofs.Common.{◌≡◌, ◌++◌, drop}
use Rattle.std.specs.List.{flat_map}
use Rattle.m36_list.specs.Print.{definition_line}
use Rattle.m36_list.proofs.definitions.put_definitions.Given as goal

-- the lines of the rest complete the whole
abbrev pub invariant-loop-definition : goal.invariant-loop-definition
invariant-loop-definition l = l.text ++ flat_map definition_line (drop l.definition-index l.definitions) ≡ l.fn.text ++ flat_map definition_line l.definitions
