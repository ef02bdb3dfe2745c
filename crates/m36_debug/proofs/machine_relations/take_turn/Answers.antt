use Rattle.m36_debug.specs.Commands.{is_at_break}
use Rattle.m36_debug.specs.Putting.{pending}
use Rattle.m36_debug.specs.Session.{machine_relations}
use Rattle.m36_debug.proofs.TurnLaws.{took_turn, took_served, took_counts, took_interrupted, took_stepped}
use Rattle.m36_debug.proofs.machine_relations.take_turn.Goals as goal

pub returns-clause-says : goal.returns-clause-says
returns-clause-says g c =
    let world = g.W.World in
    let m = g.M.Stepper in
    took_turn (machine_relations m.regs m.content m.next m.went) c.put_command-put.result c.turn_into.new.turn c.args.run c.decide_after_turn-next.result c.turn_result.result c.regs-regs.result.now c.args.sitting.now c.note.new.self c.taken-taken.result c.args.m.now c.turn_into.new.self (pending c.args.block.now (world.seen c.args.world.now)) (pending c.put_command-put.new.block (world.seen c.put_command-put.new.world)) c.taken-taken.ensures c.turn_into.ensures c.note.ensures c.regs-regs.ensures c.decide_after_turn-next.ensures c.put_command-put.ensures c.turn_result.ensures

pub returns-clause-served : goal.returns-clause-served
returns-clause-served g c =
    let m = g.M.Stepper in
    took_served (machine_relations m.regs m.content m.next m.went) c.put_command-put.result c.turn_into.new.turn c.decide_after_turn-next.result c.turn_result.result c.args.m.now c.turn_into.new.self c.turn_into.ensures c.turn_result.ensures

pub returns-clause-counts : goal.returns-clause-counts
returns-clause-counts g c =
    took_counts c.put_command-put.result c.turn_into.new.turn c.args.run (is_at_break c.regs-regs.result.now.ppr c.note.new.self.breaks) c.decide_after_turn-next.result c.turn_result.result c.args.sitting.now c.note.new.self c.note.ensures c.decide_after_turn-next.ensures c.turn_result.ensures

pub returns-clause-interrupted : goal.returns-clause-interrupted
returns-clause-interrupted g c =
    let m = g.M.Stepper in
    took_interrupted (machine_relations m.regs m.content m.next m.went) c.put_command-put.result c.turn_into.new.turn c.args.run (is_at_break c.regs-regs.result.now.ppr c.note.new.self.breaks) c.decide_after_turn-next.result c.turn_result.result c.args.m.now c.turn_into.new.self c.turn_into.ensures c.decide_after_turn-next.ensures c.turn_result.ensures

pub returns-clause-stepped : goal.returns-clause-stepped
returns-clause-stepped g c =
    let m = g.M.Stepper in
    took_stepped (machine_relations m.regs m.content m.next m.went) c.turn_into.new.turn c.args.sitting.now c.note.new.self c.args.m.now c.turn_into.new.self c.turn_into.ensures c.note.ensures
