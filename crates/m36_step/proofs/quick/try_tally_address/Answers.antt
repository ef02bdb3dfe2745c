use Rattle.m36_model.specs.declared.place.Kind.TheVariants as reference
use Rattle.m36_step.proofs.TallyWords.{counted_on}
use Rattle.m36_step.proofs.quick.try_tally_address.Goals as goal

pub returns-in-Read-clause-went : goal.returns-in-Read-clause-went
returns-in-Read-clause-went g c = λ h.
    let some = c.in-Some.ensures {u = tt} in
    let at = c.in-Some.counting.tally.at in
    counted_on (g.R.Recorder.has c.args.rec.now) (g.R.Recorder.tells c.try_read_with_tally.new.rec) c.args.row.now c.args.regs.now c.args.word c.args.walk.now.core c.try_read_with_tally.new.walk.core c.try_read_with_tally.new.regs c.of_word-inst.result c.of_word-inst.ensures.value (g.R.Recorder.has c.refer-2.new.self)
    c.in-Some.counting (record { kind = reference.Indirect; at = at; count = 1 }) (record { kind = reference.Write; at = at; count = 1 }) some.forms
    (λ refs has. c.refer-2.ensures.has _ (c.refer.ensures.has refs has)) (rw some.same at (c.try_read_with_tally.ensures.went h))

pub returns-in-Store-clause-went : goal.returns-in-Store-clause-went
returns-in-Store-clause-went g c = λ h.
    let some = c.in-Some.ensures {u = tt} in
    let at = c.in-Some.counting.tally.at in
    counted_on (g.R.Recorder.has c.args.rec.now) (g.R.Recorder.tells c.try_store_with_tally.new.rec) c.args.row.now c.args.regs.now c.args.word c.args.walk.now.core c.try_store_with_tally.new.walk.core c.try_store_with_tally.new.regs c.of_word-inst.result c.of_word-inst.ensures.value (g.R.Recorder.has c.refer-2.new.self)
    c.in-Some.counting (record { kind = reference.Indirect; at = at; count = 1 }) (record { kind = reference.Write; at = at; count = 1 }) some.forms
    (λ refs has. c.refer-2.ensures.has _ (c.refer.ensures.has refs has)) (rw some.same at (c.try_store_with_tally.ensures.went h))
