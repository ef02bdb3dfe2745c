use Rattle.std.proofs.Common.{ℕ, List, length, sym, subst}
use Rattle.m36_model.specs.Store.{State}
use Rattle.m36_super.specs.SuperFields.{IsRunning}
use Rattle.m36_super.proofs.BootTurns.{image_runs}
use Rattle.m36_super.proofs.booting.system_of_image.Goals as goal

pub system_at_start-requires-clause-frames : goal.system_at_start-requires-clause-frames
system_at_start-requires-clause-frames c = c.requires.runnable.pages.count

pub system_at_start-requires-clause-runs : goal.system_at_start-requires-clause-runs
system_at_start-requires-clause-runs c =
    subst (λ (s : State (List ℕ)). IsRunning (length c.args.image.pager.holders) s.regs s.store c.args.image.pager) (sym c.start-machine.ensures.state) (image_runs c.args.catalog.frames c.args.image c.requires.runnable c.requires.reads)
