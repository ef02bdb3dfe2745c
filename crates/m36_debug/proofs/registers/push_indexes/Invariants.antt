use Rattle.std.proofs.Common.{◌≡◌, ◌+◌, ◌*◌, ◌++◌, length, take}
use Rattle.std.specs.List.{flat_map}
use Rattle.m36_debug.specs.SessionTexts.{index_text}
use Rattle.m36_debug.proofs.registers.push_indexes.Given as goal

-- the index registers so far were appended
abbrev pub invariant-loop-x : goal.invariant-loop-x
invariant-loop-x l = record {
  text : l.text.bytes ≡ l.fn.text.bytes ++ flat_map index_text (take l.x-index l.indexes);
  len : length l.text.bytes ≡ length l.fn.text.bytes + 7 * l.x-index;
}
