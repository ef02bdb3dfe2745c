use Rattle.m36_model.specs.declared.place.Kind.TheVariants as reference
use Rattle.m36_step.proofs.TallyWords.{through_on}
use Rattle.m36_step.proofs.quick.try_indirect.Goals as goal

pub returns-in-None-direct-clause-went : goal.returns-in-None-direct-clause-went
returns-in-None-direct-clause-went g c = λ h.
    let some = c.in-Some.ensures {u = tt} in
    let through = c.in-Some.through in
    through_on (g.R.Recorder.has c.args.rec.now) (g.R.Recorder.tells c.try_at_address.new.rec) c.args.row.now c.args.regs.now c.args.word c.args.walk.now.core c.try_at_address.new.walk.core c.try_at_address.new.regs c.of_word-inst.result c.of_word-inst.ensures.value (g.R.Recorder.has c.refer.new.self)
    through.last (record { kind = reference.Indirect; at = through.at; count = through.count }) some.forms
    (λ refs has. c.refer.ensures.has refs has) (rw some.same at (c.try_at_address.ensures.went h))
