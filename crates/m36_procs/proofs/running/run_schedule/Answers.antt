-- No event was made yet; or an event was made; or all were made, and the last line was put or not.
use Rattle.std.proofs.Common.{refl, ◌∙◌}
use Rattle.m36_procs.proofs.EventsRun.{runs_start, runs_more, runs_cut, runs_done, runs_cut_last}
use Rattle.m36_procs.proofs.EventPieces.{pieces_start, pieces_more, pieces_cut, pieces_done, pieces_cut_last}
use Rattle.m36_procs.proofs.running.run_schedule.Goals as goal

pub events-init : goal.events-init
events-init g c =
    let written = g.S.Sink.written in
    let taken = g.S.Sink.taken in
    record {
      runs = runs_start c.args.schedule.now c.args.processes.now (written c.args.out.now) c.new-block.result c.requires.named c.new-block.ensures;
      pieces = pieces_start c.args.schedule.now c.args.processes.now (taken c.args.out.now) c.new-block.result c.new-block.ensures;
      faults = refl;
    }

pub returns-in-Failed-clause-says : goal.returns-in-Failed-clause-says
returns-in-Failed-clause-says g c =
    let written = g.S.Sink.written in
    let taken = g.S.Sink.taken in
    runs_cut c.args.schedule.now c.args.processes.now (written c.args.out.now) (written c.events.out) (written c.add_event.new.out) (taken c.events.out) (taken c.add_event.new.out) c.events.block c.events.n c.in-Some.process.now c.events.rest.now c.in-Some.more.now c.events.processes c.step_into.new.self c.step_into.new.told c.events.invariant.runs c.in-Some.ensures.cases.0 c.step_into.ensures.says c.in-Failed.ensures.adds

pub returns-in-Failed-clause-through : goal.returns-in-Failed-clause-through
returns-in-Failed-clause-through g c =
    let written = g.S.Sink.written in
    let taken = g.S.Sink.taken in
    pieces_cut c.args.schedule.now c.args.processes.now (written c.args.out.now) (written c.events.out) (written c.add_event.new.out) (taken c.args.out.now) (taken c.events.out) (taken c.add_event.new.out) c.events.block c.events.n c.in-Some.process.now c.events.rest.now c.in-Some.more.now c.events.processes c.step_into.new.self c.step_into.new.told c.events.invariant.runs c.events.invariant.pieces c.in-Some.ensures.cases.0 c.step_into.ensures.says c.in-Failed.ensures.adds

pub events-preserved : goal.events-preserved
events-preserved g c =
    let written = g.S.Sink.written in
    let taken = g.S.Sink.taken in
    record {
      runs = runs_more c.args.schedule.now c.args.processes.now (written c.args.out.now) (written c.events.out) (written c.add_event.new.out) (taken c.events.out) (taken c.add_event.new.out) c.events.block c.add_event.new.block c.events.n c.in-Some.process.now c.events.rest.now c.in-Some.more.now c.events.processes c.step_into.new.self c.step_into.new.told c.events.invariant.runs c.in-Some.ensures.cases.0 c.step_into.ensures.says c.step_into.ensures.count c.in-Done.ensures.adds;
      pieces = pieces_more c.args.schedule.now c.args.processes.now (written c.args.out.now) (written c.events.out) (written c.add_event.new.out) (taken c.args.out.now) (taken c.events.out) (taken c.add_event.new.out) c.events.block c.add_event.new.block c.events.n c.in-Some.process.now c.events.rest.now c.in-Some.more.now c.events.processes c.step_into.new.self c.step_into.new.told c.events.invariant.runs c.events.invariant.pieces c.in-Some.ensures.cases.0 c.step_into.ensures.says c.in-Done.ensures.adds;
      faults = c.in-Done.ensures.cause ∙ c.events.invariant.faults;
    }

pub returns-in-Done-put_end-clause-says : goal.returns-in-Done-put_end-clause-says
returns-in-Done-put_end-clause-says g c =
    let written = g.S.Sink.written in
    runs_done c.args.schedule.now c.args.processes.now (written c.args.out.now) (written c.events.out) (written c.put_end.new.out) c.events.block c.events.n c.events.rest.now c.events.processes c.events.invariant.runs c.in_default.ensures.cases c.in-Done-put_end.ensures.says

pub returns-in-Failed-put_end-clause-says : goal.returns-in-Failed-put_end-clause-says
returns-in-Failed-put_end-clause-says g c =
    let written = g.S.Sink.written in
    runs_cut_last c.args.schedule.now c.args.processes.now (written c.args.out.now) (written c.events.out) (written c.put_end.new.out) c.events.block c.events.n c.events.rest.now c.events.processes c.events.invariant.runs c.in_default.ensures.cases c.in-Failed-put_end.ensures.says

pub returns-in-Done-put_end-clause-through : goal.returns-in-Done-put_end-clause-through
returns-in-Done-put_end-clause-through g c =
    let written = g.S.Sink.written in
    let taken = g.S.Sink.taken in
    pieces_done c.args.schedule.now c.args.processes.now (written c.args.out.now) (written c.events.out) (taken c.args.out.now) (taken c.events.out) (taken c.put_end.new.out) c.events.block c.events.n c.events.rest.now c.events.processes c.events.invariant.runs c.events.invariant.pieces c.in_default.ensures.cases c.in-Done-put_end.ensures.through

pub returns-in-Failed-put_end-clause-through : goal.returns-in-Failed-put_end-clause-through
returns-in-Failed-put_end-clause-through g c =
    let written = g.S.Sink.written in
    let taken = g.S.Sink.taken in
    pieces_cut_last c.args.schedule.now c.args.processes.now (written c.args.out.now) (written c.events.out) (taken c.args.out.now) (taken c.events.out) (taken c.put_end.new.out) c.events.block c.events.n c.events.rest.now c.events.processes c.events.invariant.runs c.events.invariant.pieces c.in_default.ensures.cases c.in-Failed-put_end.ensures.through
