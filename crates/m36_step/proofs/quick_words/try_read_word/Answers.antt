use Rattle.std.proofs.Common.{sym}
use Rattle.m36_step.proofs.GoingOn.{read_on}
use Rattle.m36_step.proofs.quick_words.try_read_word.Goals as goal

pub returns-clause-went : goal.returns-clause-went
returns-clause-went g c = λ _.
    let some = rw c.final_at-at.ensures at (c.in-Some.ensures {u = tt}) in
    rw some.same (read_on (g.R.Recorder.has c.args.rec.now) (g.R.Recorder.tells c.end.new.self) c.args.row.now c.args.regs.now c.args.word c.args.last.now c.requires.plain c.requires.row c.args.walk.now (sym c.requires.dbr) c.read_word.new.regs c.requires.group c.in-Some.place c.peek-operand.result (rw some.same at c.peek-operand.ensures) some.serves ((c.read_word.ensures.done c.if-not-read_word.false))
    (λ refs has. c.end.ensures.tells _ (rw c.final_at-at.ensures at (c.refer.ensures.has refs has))))
