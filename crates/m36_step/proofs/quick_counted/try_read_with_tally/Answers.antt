use Rattle.std.proofs.Common.{sym}
use Rattle.m36_step.proofs.TallyWords.{read_counted_on}
use Rattle.m36_step.proofs.quick_counted.try_read_with_tally.Goals as goal

pub returns-clause-went : goal.returns-clause-went
returns-clause-went g c = λ _.
    let some = rw c.final_at-at.ensures at (c.in-Some.ensures {u = tt}) in
    let got = rw some.same at c.peek-operand.ensures in
    let core = rw some.same at c.store.ensures.core in
    let done = rw c.set_tally.ensures.value at (c.read_word.ensures.done c.if-not-read_word.false) in
    read_counted_on (g.R.Recorder.has c.args.rec.now) (g.R.Recorder.tells c.end.new.self) c.args.row.now c.args.regs.now c.args.word c.args.counting.now c.requires.plain c.requires.row c.args.walk.now (sym c.requires.dbr) c.read_word.new.regs c.requires.group c.in-Some.place c.peek-operand.result c.store.new.self.core c.if-place-counting.false got some.sees done core
    (λ refs has. c.end.ensures.tells _ (rw c.final_at-at.ensures at (c.refer.ensures.has refs has)))
