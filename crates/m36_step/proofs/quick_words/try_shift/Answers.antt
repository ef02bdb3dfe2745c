use Rattle.std.proofs.Common.{sym, ◌∙◌, []}
use Rattle.m36_step.proofs.GoingOn.{shift_on}
use Rattle.m36_step.proofs.quick_words.try_shift.Goals as goal

pub returns-clause-went : goal.returns-clause-went
returns-clause-went g c = λ _.
    shift_on (g.R.Recorder.has c.args.rec.now) (g.R.Recorder.tells c.end.new.self) c.args.row.now c.args.regs.now c.args.word c.args.last.now c.requires.plain c.requires.row c.args.walk.now (sym c.requires.dbr) c.shift.new.regs c.requires.group c.shift.ensures.value
    (λ refs has. c.end.ensures.tells refs has)
