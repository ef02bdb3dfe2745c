use Rattle.std.proofs.Common.{◌≡◌, ◌+◌, drop}
use Rattle.alm_tokens.specs.Heads.{operand_end_from, operand_end}
use Rattle.alm_tokens.proofs.head.operand_end.Given as goal

abbrev pub invariant-loop-byte : goal.invariant-loop-byte
invariant-loop-byte l = record {
  place : l.at ≡ l.fn.rest.from + l.byte-index;
  whole : operand_end_from l.end l.at (drop l.byte-index l.byte-items) ≡ operand_end l.text l.fn.rest;
}
