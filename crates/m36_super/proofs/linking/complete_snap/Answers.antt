use Rattle.std.proofs.Common.{refl, ap}
use Rattle.m36_step.specs.declared.turns.Turn.TheVariants.{Linked}
use Rattle.m36_super.specs.NextEvent.{Step}
use Rattle.m36_super.proofs.LinkTurns.{linked}
use Rattle.m36_super.proofs.linking.complete_snap.Goals as goal

pub returns-in-Ok-clause-turn : goal.returns-in-Ok-clause-turn
returns-in-Ok-clause-turn c loaded =
    linked c.args.machine.now.state c.write_changes.new.machine.state c.args.pager.now c.write_changes.new.pager c.args.known.now c.accept.new.self c.args.next_event.now Step loaded c.args.at c.args.snap.now (Linked c.note_snapped.result) c.write_changes.ensures.put c.write_changes.ensures.regs c.in-Ok.ensures.ok refl (ap Linked c.note_snapped.ensures)
