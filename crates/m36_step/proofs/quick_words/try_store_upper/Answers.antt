use Rattle.std.proofs.Common.{sym, ◌∙◌, []}
use Rattle.m36_step.proofs.GoingOn.{upper_on}
use Rattle.m36_step.proofs.quick_words.try_store_upper.Goals as goal

pub returns-clause-went : goal.returns-clause-went
returns-clause-went g c = λ _.
    let some = rw c.final_at-at.ensures at (c.in-Some.ensures {u = tt}) in
    let core = rw some.same at c.write_word.ensures.core in
    upper_on (g.R.Recorder.has c.args.rec.now) (g.R.Recorder.tells c.end.new.self) c.args.row.now c.args.regs.now c.args.word c.args.last.now c.requires.plain c.requires.row c.args.walk.now (sym c.requires.dbr) c.store_half-half.new.regs c.requires.group c.in-Some.place c.store_half-half.result c.write_word.new.walk.core some.serves c.store_half-half.ensures.value core
    (λ refs has. c.end.ensures.tells _ (rw c.final_at-at.ensures at (c.refer.ensures.has refs has)))
