use Rattle.obj36_read.specs.TableFaults.{are_characters}
use Rattle.obj36_read.proofs.FaultLoops.{character_more, character_not, characters_end}
use Rattle.obj36_read.proofs.spelling.have_name_bytes.Goals as goal

pub returns-then-not-is_name_quarter : goal.returns-then-not-is_name_quarter
returns-then-not-is_name_quarter c =
    character_not c.args.d.now c.args.at c.args.from c.loop-i.i c.args.count (are_characters c.args.d.now c.args.at c.args.from c.args.count) c.is_name_quarter.result c.quarter_from.result c.loop-i-test.true
    c.quarter_from.ensures.value c.is_name_quarter.ensures c.if-not-is_name_quarter.true c.loop-i.invariant

pub loop-i-preserved : goal.loop-i-preserved
loop-i-preserved c =
    character_more c.args.d.now c.args.at c.args.from c.loop-i.i c.args.count (are_characters c.args.d.now c.args.at c.args.from c.args.count) c.is_name_quarter.result c.quarter_from.result c.loop-i-test.true
    c.quarter_from.ensures.value c.is_name_quarter.ensures c.if-not-is_name_quarter.false c.loop-i.invariant

pub returns : goal.returns
returns c = characters_end c.args.d.now c.args.at c.args.from c.loop-i.i c.args.count (are_characters c.args.d.now c.args.at c.args.from c.args.count) c.loop-i-test.false c.loop-i.invariant
