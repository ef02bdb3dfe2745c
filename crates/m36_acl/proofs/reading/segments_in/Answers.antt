-- A line has a code, or none has and the text ends there.
use Rattle.std.proofs.Common.{◌<◌, length, Ok, sym, ap, ◌∙◌, arith}
use Rattle.std.proofs.lemmas.Bool.{eqb-true, eqb-false}
use Rattle.std.proofs.lemmas.Result.{err_from_is_err_and}
use Rattle.m36_acl.specs.AccessLists.{Lists, lists_of}
use Rattle.m36_acl.proofs.AclLoops.{line_read, line_told, lines_read, line_cut}
use Rattle.m36_acl.proofs.reading.segments_in.Goals as goal

pub returns-in_err-add_line-clause-told : goal.returns-in_err-add_line-clause-told
returns-in_err-add_line-clause-told c =
    let r = err_from_is_err_and c.from_residual.result c.from_residual.ensures.1 in
    rw (r.1, r.2)
    (line_told c.loop-line.number c.loop-line.above c.loop-line.rest.now c.in-Some.line.now c.in-Some.behind.now
    (lists_of c.args.text.now) c.in_err-add_line.field-0.0 c.in-Some.ensures.line c.in_err-add_line.ensures c.loop-line.invariant.told)

pub loop-line-preserved : goal.loop-line-preserved
loop-line-preserved c = record {
  told =
      line_read c.loop-line.number c.loop-line.above c.add_line.new.above c.loop-line.rest.now c.in-Some.line.now c.in-Some.behind.now
      (lists_of c.args.text.now) c.in-Some.ensures.line c.in_ok-add_line.ensures c.loop-line.invariant.told;
  few = omega (arith, c.in-Some.ensures.shorter, c.loop-line.invariant.few);
}

pub returns-then-is_empty-clause-lists : goal.returns-then-is_empty-clause-lists
returns-then-is_empty-clause-lists c =
    lines_read c.loop-line.number c.loop-line.above c.loop-line.rest.now (lists_of c.args.text.now) c.in_default.ensures.line
    (eqb-true _ 0 (sym c.if-is_empty.ensures)) c.loop-line.invariant.told
    ∙ ap (λ (segments : Lists). Ok segments) (sym c.into_segments.ensures)

pub returns-else-is_empty-clause-told : goal.returns-else-is_empty-clause-told
returns-else-is_empty-clause-told c =
    let some : 0 < length c.loop-line.rest.now = omega (arith, eqb-false _ 0 (sym c.if-is_empty.ensures)) in
    line_cut c.loop-line.number c.loop-line.above c.loop-line.rest.now (lists_of c.args.text.now) c.in_default.ensures.line some c.loop-line.invariant.told
