use Rattle.std.proofs.Common.{◌≡◌, ◌++◌, drop}
use Rattle.obj36_parts.specs.Names.{all_name_words}
use Rattle.obj36_parts.proofs.names.push_names.Given as goal

-- the words that follow complete the names
abbrev pub invariant-loop-name : goal.invariant-loop-name
invariant-loop-name l = l.out ++ all_name_words (drop l.name-index l.names) ≡ l.fn.out ++ all_name_words l.names
