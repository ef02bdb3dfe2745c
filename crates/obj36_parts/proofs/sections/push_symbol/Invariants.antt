use Rattle.std.proofs.Common.{◌≡◌, ◌++◌, drop}
use Rattle.obj36_parts.specs.ObjectSegment.{relocation_words, symbol_part}
use Rattle.obj36_parts.proofs.sections.push_symbol.Given as goal

-- the relocations that follow complete the section
abbrev pub invariant-loop-relocation : goal.invariant-loop-relocation
invariant-loop-relocation l = l.out ++ relocation_words (drop l.relocation-index l.relocations) ≡ l.fn.out ++ symbol_part l.relocations
