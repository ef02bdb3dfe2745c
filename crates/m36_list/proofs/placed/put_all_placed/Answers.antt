use Rattle.m36_list.proofs.PrintLines.{placed_put, all_placed_put}
use Rattle.m36_list.proofs.placed.put_all_placed.Goals as goal

pub loop-i-preserved : goal.loop-i-preserved
loop-i-preserved c = placed_put c.loop-i.text c.add_placed_word.new.text _ c.args.section.now c.args.line c.args.first c.args.words.now c.loop-i.i c.index-words-i.result c.loop-i-test.true c.index-words-i.is c.in_ok-add_placed_word.ensures c.loop-i.invariant

pub returns : goal.returns
returns c = all_placed_put c.loop-i.text _ c.args.section.now c.args.line _ c.args.words.now c.loop-i.i c.loop-i-test.false c.loop-i.invariant
