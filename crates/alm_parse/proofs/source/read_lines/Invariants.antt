use Rattle.std.proofs.Common.{◌≡◌, ◌≤◌, [], drop, length}
use Rattle.alm_parse.specs.Sources.{read_lines}
use Rattle.alm_parse.proofs.source.read_lines.Given as goal

abbrev pub invariant-loop-row : goal.invariant-loop-row
invariant-loop-row l = record {
  count : length l.lines ≤ l.row-index;
  whole : read_lines l.text l.lines (drop l.row-index l.rows) ≡ read_lines l.text [] l.rows;
}
