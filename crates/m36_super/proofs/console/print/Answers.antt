use Rattle.m36_super.proofs.SystemTurns.{running_moved}
use Rattle.m36_super.proofs.console.print.Goals as goal

pub returns-in-Ok-clause-runs : goal.returns-in-Ok-clause-runs
returns-in-Ok-clause-runs c =
    running_moved c.args.machine.now.state c.skip.new.self.state c.args.pager.now c.requires c.skip.ensures.state
