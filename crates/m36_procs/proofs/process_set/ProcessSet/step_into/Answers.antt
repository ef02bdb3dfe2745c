-- The step is that of the process that was brought.
use Rattle.std.proofs.Common.{sym}
use Rattle.m36_procs.proofs.Exchanging.{process_stepped}
use Rattle.m36_procs.proofs.process_set.ProcessSet.step_into.Goals as goal

pub returns-clause-says : goal.returns-clause-says
returns-clause-says c g there =
    process_stepped c.args.self.now c.self.inside.regs.items c.load_registers.new.regs.items c.self.inside.inside c.args.i c.load_registers.new.inside c.self.inside.machine.state c.load_registers.new.machine.state c.step_into.new.self.state c.step_into.new.told g (sym c.self.view_is) c.load_registers.ensures.here c.load_registers.ensures.len c.load_registers.ensures.all c.load_registers.ensures.store c.step_into.ensures.told c.step_into.ensures.state there
