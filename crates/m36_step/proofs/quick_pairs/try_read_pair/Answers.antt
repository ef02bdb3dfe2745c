use Rattle.std.proofs.Common.{sym}
use Rattle.m36_step.proofs.GoingOn.{pair_on}
use Rattle.m36_step.proofs.quick_pairs.try_read_pair.Goals as goal

pub returns-clause-went : goal.returns-clause-went
returns-clause-went g c = λ _.
    let some = rw c.final_at-at.ensures at (c.in-Some.ensures {u = tt}) in
    let got = rw some.same at c.peek_pair-operand.ensures in
    rw some.same (pair_on (g.R.Recorder.has c.args.rec.now) (g.R.Recorder.tells c.end.new.self) c.args.row.now c.args.regs.now c.args.word c.args.last.now c.requires.plain c.requires.row c.args.walk.now (sym c.requires.dbr) c.read_pair.new.regs c.requires.group c.in-Some.place c.peek_pair-operand.result got some.serves (c.read_pair.ensures.done c.if-not-read_pair.false)
    (λ refs has. c.end.ensures.tells _ (rw (c.first_at.ensures.value, c.final_at-at.ensures) at (c.refer.ensures.has refs has))))
