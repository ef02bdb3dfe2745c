use Rattle.std.proofs.Common.{◌<◌, length, arith}
use Rattle.obj36_read.proofs.ReadingLoops.{characters_last, no_characters}
use Rattle.obj36_read.proofs.reading.put_characters.Goals as goal

pub loop-i-init : goal.loop-i-init
loop-i-init c = no_characters c.args.words.now c.args.at 1

pub loop-i-preserved : goal.loop-i-preserved
loop-i-preserved c =
    let lt : c.loop-i.i < length c.loop-i.bytes = omega arith in
    characters_last c.args.words.now c.loop-i.bytes c.args.at c.loop-i.i c.quarter_from.result lt c.quarter_from.ensures.value c.loop-i.invariant
