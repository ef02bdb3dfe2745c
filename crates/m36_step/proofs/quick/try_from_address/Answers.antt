use Rattle.m36_step.proofs.GoingOn.{addressed_on}
use Rattle.m36_step.proofs.quick.try_from_address.Goals as goal

pub returns-in-Some-direct-clause-went : goal.returns-in-Some-direct-clause-went
returns-in-Some-direct-clause-went g c = λ h.
    addressed_on (g.R.Recorder.has c.args.rec.now) (g.R.Recorder.tells c.try_direct_operand.new.rec) c.args.row.now c.args.regs.now c.args.word c.args.walk.now.core c.try_direct_operand.new.walk.core c.try_direct_operand.new.regs c.in-Some.last c.of_word-inst.result c.of_word-inst.ensures.value (c.in-Some.ensures {u = tt}).forms (c.try_direct_operand.ensures.went h)

pub returns-in-None-direct-clause-went : goal.returns-in-None-direct-clause-went
returns-in-None-direct-clause-went g c = λ h.
    addressed_on (g.R.Recorder.has c.args.rec.now) (g.R.Recorder.tells c.try_at_address.new.rec) c.args.row.now c.args.regs.now c.args.word c.args.walk.now.core c.try_at_address.new.walk.core c.try_at_address.new.regs c.in-Some.last c.of_word-inst.result c.of_word-inst.ensures.value (c.in-Some.ensures {u = tt}).forms (c.try_at_address.ensures.went h)
