use Rattle.std.proofs.Common.{[], arith}
use Rattle.m36_debug.specs.Putting.{pending}
use Rattle.m36_debug.specs.Session.{machine_relations, standing, Running, Waiting, Starved}
use Rattle.m36_debug.proofs.PartLaws.{part_none, part_on, part_cut}
use Rattle.m36_debug.proofs.TurnLaws.{none_served, some_left, within_left, runs_count, runs_shorter}
use Rattle.m36_debug.proofs.machine_relations.run_command.Goals as goal

pub turns-init : goal.turns-init
turns-init g c =
    let world = g.W.World in
    let m = g.M.Stepper in
    let o = machine_relations m.regs m.content m.next m.went in
    record {
      part = part_none o (standing c.args.sitting.now (Running c.args.first)) c.args.m.now (pending c.args.block.now (world.seen c.args.world.now));
      count = omega arith;
      service = none_served o c.args.m.now;
      interrupted = some_left o c.args.m.now c.args.first.left c.requires.some;
    }

pub turns-preserved : goal.turns-preserved
turns-preserved g c =
    let world = g.W.World in
    let m = g.M.Stepper in
    let o = machine_relations m.regs m.content m.next m.went in
    record {
      part =
          part_on o (standing c.args.sitting.now (Running c.args.first)) c.args.m.now [] [] (standing c.turns.sitting (Running c.turns.run)) c.turns.m (standing c.take_turn.new.sitting (Running c.in-Runs.next)) c.take_turn.new.m (pending c.args.block.now (world.seen c.args.world.now)) (pending c.turns.block (world.seen c.turns.world)) (pending c.take_turn.new.block (world.seen c.take_turn.new.world))
          c.turns.invariant.part c.in-Runs.ensures.says;
      count = runs_count c.in-Runs.service c.in-Runs.next.left c.turns.run.left c.turns.sitting.taken c.take_turn.new.sitting.taken _ c.in-Runs.ensures.counts c.turns.invariant.count;
      service = λ is. record { before = c.turns.m; makes = c.in-Runs.ensures.served is };
      interrupted = λ none. record { before = c.turns.m; makes = c.in-Runs.ensures.interrupted none };
    }

pub turns-smaller : goal.turns-smaller
turns-smaller g c =
    let m = g.M.Stepper in
    runs_shorter (machine_relations m.regs m.content m.next m.went) c.turns.served c.in-Runs.service c.turns.m c.take_turn.new.m c.in-Runs.next.left c.turns.run.left c.turns.sitting.taken c.take_turn.new.sitting.taken g.met.M.Stepper.apart c.in-Runs.ensures.counts c.turns.invariant.service c.in-Runs.ensures.served

pub returns-in-Waits-clause-says : goal.returns-in-Waits-clause-says
returns-in-Waits-clause-says g c =
    let world = g.W.World in
    let m = g.M.Stepper in
    part_on (machine_relations m.regs m.content m.next m.went) (standing c.args.sitting.now (Running c.args.first)) c.args.m.now [] [] (standing c.turns.sitting (Running c.turns.run)) c.turns.m (standing c.take_turn.new.sitting Waiting) c.take_turn.new.m (pending c.args.block.now (world.seen c.args.world.now)) (pending c.turns.block (world.seen c.turns.world)) (pending c.take_turn.new.block (world.seen c.take_turn.new.world)) c.turns.invariant.part c.in-Waits.ensures.says

pub returns-in-Starves-clause-says : goal.returns-in-Starves-clause-says
returns-in-Starves-clause-says g c =
    let world = g.W.World in
    let m = g.M.Stepper in
    part_on (machine_relations m.regs m.content m.next m.went) (standing c.args.sitting.now (Running c.args.first)) c.args.m.now [] [] (standing c.turns.sitting (Running c.turns.run)) c.turns.m (standing c.take_turn.new.sitting Starved) c.take_turn.new.m (pending c.args.block.now (world.seen c.args.world.now)) (pending c.turns.block (world.seen c.turns.world)) (pending c.take_turn.new.block (world.seen c.take_turn.new.world)) c.turns.invariant.part c.in-Starves.ensures.says

pub returns-in-Cut-clause-says : goal.returns-in-Cut-clause-says
returns-in-Cut-clause-says g c =
    let world = g.W.World in
    let m = g.M.Stepper in
    part_cut (machine_relations m.regs m.content m.next m.went) (standing c.args.sitting.now (Running c.args.first)) c.args.m.now [] [] (standing c.turns.sitting (Running c.turns.run)) c.turns.m c.take_turn.new.m (pending c.args.block.now (world.seen c.args.world.now)) (pending c.turns.block (world.seen c.turns.world)) (pending c.take_turn.new.block (world.seen c.take_turn.new.world)) c.turns.invariant.part c.in-Cut.ensures.says

pub returns-in-Waits-clause-taken : goal.returns-in-Waits-clause-taken
returns-in-Waits-clause-taken g c =
    let m = g.M.Stepper in
    within_left (machine_relations m.regs m.content m.next m.went) c.turns.m c.take_turn.new.m c.turns.run.left c.turns.sitting.taken c.take_turn.new.sitting.taken _ g.met.M.Stepper.interrupted c.turns.invariant.count c.in-Waits.ensures.counts c.turns.invariant.interrupted c.in-Waits.ensures.stepped

pub returns-in-Starves-clause-taken : goal.returns-in-Starves-clause-taken
returns-in-Starves-clause-taken g c =
    let m = g.M.Stepper in
    within_left (machine_relations m.regs m.content m.next m.went) c.turns.m c.take_turn.new.m c.turns.run.left c.turns.sitting.taken c.take_turn.new.sitting.taken _ g.met.M.Stepper.interrupted c.turns.invariant.count c.in-Starves.ensures.counts c.turns.invariant.interrupted c.in-Starves.ensures.stepped

pub returns-in-Cut-clause-taken : goal.returns-in-Cut-clause-taken
returns-in-Cut-clause-taken g c =
    let m = g.M.Stepper in
    within_left (machine_relations m.regs m.content m.next m.went) c.turns.m c.take_turn.new.m c.turns.run.left c.turns.sitting.taken c.take_turn.new.sitting.taken _ g.met.M.Stepper.interrupted c.turns.invariant.count c.in-Cut.ensures.counts c.turns.invariant.interrupted c.in-Cut.ensures.stepped
