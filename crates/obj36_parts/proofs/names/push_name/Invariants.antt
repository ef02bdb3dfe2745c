use Rattle.std.proofs.Common.{◌≡◌, ◌-◌, ◌++◌}
use Rattle.obj36_parts.specs.Names.{name_words_from, name_words}
use Rattle.obj36_parts.proofs.names.push_name.Given as goal

-- the words that follow complete the name
abbrev pub invariant-loop-j : goal.invariant-loop-j
invariant-loop-j l = l.out ++ name_words_from l.bytes l.j (l.count - l.j) ≡ l.fn.out ++ name_words l.bytes
