use Rattle.std.proofs.Common.{◌≡◌, ◌≤◌, ◌+◌, drop, length}
use Rattle.std.specs.List.{All}
use Rattle.alm_tokens.specs.Heads.{IsLabelSpan, head_from, head_of}
use Rattle.alm_tokens.proofs.head.head_of.Given as goal

abbrev pub invariant-loop-byte : goal.invariant-loop-byte
invariant-loop-byte l = record {
  place : l.at ≡ l.fn.line.from + l.byte-index;
  begun : l.from ≤ l.at;
  marks : All (IsLabelSpan (length l.text)) l.labels;
  whole : head_from l.labels l.from l.at (drop l.byte-index l.byte-items) ≡ head_of l.text l.fn.line;
}
