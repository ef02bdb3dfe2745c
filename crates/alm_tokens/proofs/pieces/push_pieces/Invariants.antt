use Rattle.std.proofs.Common.{◌++◌, ◌≡◌, ◌+◌, ◌≤◌, drop, length}
use Rattle.alm_tokens.specs.Pieces.{split_at, pieces_of}
use Rattle.alm_tokens.proofs.pieces.push_pieces.Given as goal

abbrev pub invariant-loop-byte : goal.invariant-loop-byte
invariant-loop-byte l = record {
  place : l.at ≡ l.fn.whole.span.from + l.byte-index;
  count : length l.pieces ≤ l.byte-index;
  whole : l.pieces ++ split_at l.parter l.minus l.from l.at (drop l.byte-index l.byte-items) ≡ pieces_of l.parter l.text l.fn.whole;
}
