-- A line was taken or has a code, or no line is left.
use Rattle.std.proofs.Common.{◌≡◌, [], sym, subst, arith}
use Rattle.std.proofs.lemmas.Bool.{eqb-true}
use Rattle.m36_text.specs.Lines.{lines_of, words_of}
use Rattle.m36_text.proofs.Splitting.{lines_of_none}
use Rattle.m36_procs.specs.ProcsFile.{codes_from, line_in}
use Rattle.m36_procs.specs.ReaderSays.{parse_state_of}
use Rattle.m36_procs.specs.ReadingSays.{IsFirstFault}
use Rattle.m36_procs.proofs.Fitting.{fits_kept}
use Rattle.m36_procs.proofs.LinesRead.{lines_more, lines_fault, lines_done, lines_missing}
use Rattle.m36_procs.proofs.reading.read_lines.Goals as goal

pub returns-in-Err : goal.returns-in-Err
returns-in-Err c = record {
  says = subst (λ f. IsFirstFault f 2 (codes_from (parse_state_of c.args.reader.now) (lines_of c.args.text.now))) (sym c.at.ensures) (lines_fault c.args.reader.now c.lines.reader c.take.new.self _ _ _ c.lines.number c.in-Some.line.now c.in-Err.fault c.lines.invariant.lines c.in-Some.ensures.line c.in-Err.ensures);
}

pub lines-preserved : goal.lines-preserved
lines-preserved c = record {
  lines = lines_more c.args.reader.now c.lines.reader c.take.new.self _ _ _ c.lines.number c.in-Some.line.now c.lines.invariant.lines c.in-Some.ensures.line c.in-Ok.ensures;
  fits = fits_kept (line_in (words_of c.in-Some.line.now)) c.lines.reader c.take.new.self c.lines.invariant.fits c.in-Ok.ensures;
  count = omega (arith, c.lines.invariant.count, c.in-Some.ensures.shorter);
}

pub returns-then-may_end : goal.returns-then-may_end
returns-then-may_end c =
    let none : lines_of c.lines.rest.now ≡ [] = lines_of_none c.lines.rest.now (eqb-true _ 0 (sym c.lines-test.ensures)) in
    record {
      says = lines_done c.args.reader.now c.lines.reader _ _ c.lines.number c.lines.invariant.lines none (sym c.if-may_end.ensures) c.lines.invariant.fits;
    }

pub returns-else-may_end : goal.returns-else-may_end
returns-else-may_end c =
    let none : lines_of c.lines.rest.now ≡ [] = lines_of_none c.lines.rest.now (eqb-true _ 0 (sym c.lines-test.ensures)) in
    record {
      says = subst (λ f. IsFirstFault f 2 (codes_from (parse_state_of c.args.reader.now) (lines_of c.args.text.now))) (sym c.at-else-may_end.ensures) (lines_missing c.args.reader.now c.lines.reader _ _ c.lines.number c.lines.invariant.lines none (sym c.if-may_end.ensures));
    }
