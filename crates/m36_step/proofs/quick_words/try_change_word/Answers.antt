use Rattle.std.proofs.Common.{sym, ◌∙◌, []}
use Rattle.m36_step.proofs.GoingOn.{changed_on}
use Rattle.m36_step.proofs.quick_words.try_change_word.Goals as goal

pub returns-clause-went : goal.returns-clause-went
returns-clause-went g c = λ _.
    let some = rw c.final_at-at.ensures at (c.in-Some.ensures {u = tt}) in
    let core = rw some.same at c.store.ensures.core in
    let got = rw some.same at c.peek-operand.ensures in
    changed_on (g.R.Recorder.has c.args.rec.now) (g.R.Recorder.tells c.end.new.self) c.args.row.now c.args.regs.now c.args.word c.args.last.now c.requires.plain c.requires.row c.args.walk.now (sym c.requires.dbr) c.change_word.new.regs c.requires.group c.in-Some.place c.peek-operand.result c.in-Some-change_word.changed c.store.new.self.core got some.reads some.claims (c.in-Some-change_word.ensures {u = tt}).done core
    (λ refs has. c.end.ensures.tells _ (rw c.final_at-at.ensures at (c.refer-2.ensures.has _ (c.refer.ensures.has refs has))))
