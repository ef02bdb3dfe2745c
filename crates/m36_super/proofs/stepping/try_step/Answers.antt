use Rattle.m36_super.proofs.PageTurns.{bring_managed, tried}
use Rattle.m36_super.proofs.stepping.try_step.Goals as goal

pub bring_page_in-requires-clause-managed : goal.bring_page_in-requires-clause-managed
bring_page_in-requires-clause-managed c =
    bring_managed c.args.machine.now.state c.step_into.new.self.state c.args.pager.now c.step_into.ensures.state c.requires

pub returns-in-Some : goal.returns-in-Some
returns-in-Some c =
    tried c.args.machine.now.state c.step_into.new.self.state c.bring_page_in.new.machine.state c.args.pager.now c.bring_page_in.new.pager c.step_into.new.told c.in-Some.at c.step_into.ensures.told c.step_into.ensures.state c.requires c.in-Some.ensures c.bring_page_in.ensures.regs c.bring_page_in.ensures.brought c.bring_page_in.ensures.reads c.bring_page_in.ensures.pager
