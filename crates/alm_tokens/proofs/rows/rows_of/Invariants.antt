use Rattle.std.proofs.Common.{◌≡◌, ◌≤◌, ◌+◌, ◌++◌, drop, length}
use Rattle.alm_tokens.specs.Rows.{rows_from, rows_of}
use Rattle.alm_tokens.proofs.rows.rows_of.Given as goal

abbrev pub invariant-loop-byte : goal.invariant-loop-byte
invariant-loop-byte l = record {
  place : l.at ≡ l.byte-index;
  begun : l.from ≤ l.at;
  counted : l.number ≤ l.from + 1;
  count : length l.rows ≤ l.from;
  whole : l.rows ++ rows_from l.number l.from l.at (drop l.byte-index l.text) ≡ rows_of l.text;
}
