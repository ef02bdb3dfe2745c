use Rattle.obj36_read.specs.TableFaults.{are_zeros}
use Rattle.obj36_read.proofs.FaultLoops.{zero_more, zero_not, zeros_end}
use Rattle.obj36_read.proofs.spelling.have_zeros.Goals as goal

pub returns-then-quarter_from-ne0 : goal.returns-then-quarter_from-ne0
returns-then-quarter_from-ne0 c =
    zero_not c.args.d.now c.args.at c.args.from c.loop-i.i c.args.count (are_zeros c.args.d.now c.args.at c.args.from c.args.count) c.quarter_from.result c.loop-i-test.true
    c.quarter_from.ensures.value c.if-quarter_from-ne0.true c.loop-i.invariant

pub loop-i-preserved : goal.loop-i-preserved
loop-i-preserved c =
    zero_more c.args.d.now c.args.at c.args.from c.loop-i.i c.args.count (are_zeros c.args.d.now c.args.at c.args.from c.args.count) c.quarter_from.result c.loop-i-test.true
    c.quarter_from.ensures.value c.if-quarter_from-ne0.false c.loop-i.invariant

pub returns : goal.returns
returns c = zeros_end c.args.d.now c.args.at c.args.from c.loop-i.i c.args.count (are_zeros c.args.d.now c.args.at c.args.from c.args.count) c.loop-i-test.false c.loop-i.invariant
