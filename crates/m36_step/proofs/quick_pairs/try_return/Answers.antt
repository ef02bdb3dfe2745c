use Rattle.std.proofs.Common.{sym}
use Rattle.m36_step.proofs.GoingOn.{return_on}
use Rattle.m36_step.proofs.quick_pairs.try_return.Goals as goal

pub returns-clause-went : goal.returns-clause-went
returns-clause-went g c = λ _.
    let some = rw c.final_at-at.ensures at (c.in-Some.ensures {u = tt}) in
    let got = rw some.same at c.peek_pair-pair.ensures in
    rw some.same (return_on (g.R.Recorder.has c.args.rec.now) (g.R.Recorder.tells c.end.new.self) c.args.row.now c.args.regs.now c.args.word c.args.last.now c.requires.plain c.requires.row c.args.walk.now (sym c.requires.dbr) c.return_in_place.new.regs c.requires.group c.in-Some.found.0 c.in-Some.found.1 c.peek_pair-pair.result got some.serves some.ring c.return_in_place.ensures.value
    (λ refs has. c.end.ensures.tells _ (rw (c.first_at.ensures.value, c.final_at-at.ensures) at (c.refer.ensures.has refs has))))
