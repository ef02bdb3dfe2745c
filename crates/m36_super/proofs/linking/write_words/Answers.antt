use Rattle.std.proofs.Common.{◌∙◌}
use Rattle.m36_super.proofs.LinkTurns.{writing_more, writing_done}
use Rattle.m36_super.proofs.linking.write_words.Goals as goal

pub loop-w-preserved : goal.loop-w-preserved
loop-w-preserved c = record {
  put =
      writing_more c.args.machine.now.state.store c.loop-w.machine.state.store c.write_word.new.machine.state.store c.args.pager.now c.loop-w.pager c.write_word.new.pager c.args.ring c.loop-w.at c.args.word c.loop-w.w-index _ c.args.words.now c.loop-w-test.true c.w-item.is c.loop-w.invariant.put c.write_word.ensures.put;
  regs = c.write_word.ensures.regs ∙ c.loop-w.invariant.regs;
}

pub returns-clause-put : goal.returns-clause-put
returns-clause-put c =
    writing_done c.args.machine.now.state.store c.loop-w.machine.state.store c.args.pager.now c.loop-w.pager c.args.ring c.loop-w.at c.args.word c.loop-w.w-index c.args.words.now c.loop-w-test.false c.loop-w.invariant.put
