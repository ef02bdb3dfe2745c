use Rattle.m36_step.proofs.GoingOn.{decoded_on, no_ldbr}
use Rattle.m36_step.proofs.quick.try_from_word.Goals as goal

pub returns-clause-went : goal.returns-clause-went
returns-clause-went g c = λ h.
    let row = c.quick_row-row.result.now in
    decoded_on (g.R.Recorder.has c.args.rec.now) (g.R.Recorder.tells c.try_from_address.new.rec) row c.args.regs.now c.args.word c.args.walk.now.core c.try_from_address.new.walk.core c.try_from_address.new.regs c.quick_row-row.ensures.value c.quick_row-row.ensures.parts (c.try_from_address.ensures.grouped h) (c.try_from_address.ensures.went h)

pub returns-clause-no_ldbr : goal.returns-clause-no_ldbr
returns-clause-no_ldbr g c = λ h. no_ldbr c.args.word c.quick_row-row.result.now c.quick_row-row.ensures.value c.quick_row-row.ensures.parts (c.try_from_address.ensures.grouped h)
