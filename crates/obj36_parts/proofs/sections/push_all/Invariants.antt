use Rattle.std.proofs.Common.{◌≡◌, ◌++◌, take}
use Rattle.obj36_parts.proofs.sections.push_all.Given as goal

abbrev pub invariant-loop-word : goal.invariant-loop-word
invariant-loop-word l = l.out ≡ l.fn.out ++ take l.word-index l.words
