use Rattle.std.proofs.Common.{sym}
use Rattle.m36_step.proofs.GoingOn.{fetched_on}
use Rattle.m36_step.proofs.quick.try_from_fetch.Goals as goal

pub returns-clause-went : goal.returns-clause-went
returns-clause-went g c = λ h.
    fetched_on (g.R.Recorder.has c.args.rec.now) (g.R.Recorder.tells c.try_from_word.new.rec) c.args.regs.now c.args.walk.now (sym c.requires.dbr) c.try_from_word.new.walk.core c.try_from_word.new.regs (g.R.Recorder.has c.refer.new.self) c.args.place c.peek-word.result c.peek-word.ensures c.requires.serves
    (λ refs has. rw c.here.ensures at (c.refer.ensures.has refs has)) (c.try_from_word.ensures.no_ldbr h) (c.try_from_word.ensures.went h)
