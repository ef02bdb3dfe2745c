use Rattle.std.proofs.Common.{◌∙◌, []}
use Rattle.m36_step.proofs.GoingOn.{direct_on}
use Rattle.m36_step.proofs.quick.try_direct_operand.Goals as goal

pub returns-else-not-read_word-clause-went : goal.returns-else-not-read_word-clause-went
returns-else-not-read_word-clause-went g c = λ _.
    direct_on (g.R.Recorder.has c.args.rec.now) (g.R.Recorder.tells c.end.new.self) c.args.row.now c.args.regs.now c.args.word c.args.last.now c.requires.row c.args.walk.now.core c.read_word.new.regs c.in-Read.is c.args.operand c.requires.direct (c.read_word.ensures.done c.if-not-read_word.false)
    (λ refs has. c.end.ensures.tells refs has)
