use Rattle.std.proofs.Common.{◌+◌, ◌≤◌, length}
use Rattle.m36_text.specs.Lines.{lines_of}
use Rattle.m36_procs.proofs.LinesRead.{ReadLines}
use Rattle.m36_procs.specs.ReaderSays.{IsReaderInvariant}
use Rattle.m36_procs.proofs.reading.read_lines.Given as goal

abbrev pub decreases-lines : goal.decreases-lines
decreases-lines l = length l.rest

abbrev pub invariant-lines : goal.invariant-lines
invariant-lines l = record {
  lines : ReadLines l.fn.reader (lines_of l.text) l.reader l.number (lines_of l.rest);
  fits : IsReaderInvariant l.reader;
  count : l.number + length l.rest ≤ 2 + length l.text;
}
