-- The line of an event was not put; or no event is left, and the last line was put or not.
use Rattle.std.proofs.Common.{◌∙◌, ℕ, List, sym, ap, arith}
use Rattle.std.specs.Prelude.{slice_get}
use Rattle.cmd_procs.specs.ProcsProgram.{run_schedule}
use Rattle.cmd_procs.proofs.ScheduleLoop.{run_lost, run_ended, run_unended}
use Rattle.cmd_procs.proofs.running.run.Goals as goal

pub returns-in-Failed : goal.returns-in-Failed
returns-in-Failed g c =
    let left = c.loop-n.invariant.left in
    let at = sym (ap (λ (s : List ℕ). slice_get s c.loop-n.n) c.loop-n.invariant.schedule) ∙ c.process_at-process.ensures.value in
    run_lost (run_schedule c.args.procs.now) c.args.procs.now.schedule c.loop-n.n c.process_at-process.result c.loop-n.procs.state c.event_into.new.self.state c.event_into.new.step c.loop-n.block _ _ _ left at c.process_at-process.ensures.there c.event_into.ensures.says c.in-Failed.ensures.adds

pub returns-in-Done-ended : goal.returns-in-Done-ended
returns-in-Done-ended g c =
    let all = c.loop-n.invariant.events in
    run_ended (run_schedule c.args.procs.now) c.args.procs.now.schedule c.loop-n.n c.events-events.result c.loop-n.procs.state c.loop-n.block _ _ _ c.loop-n.invariant.left (omega (arith, all)) all c.in-Done-ended.ensures.puts

pub returns-in-Failed-ended : goal.returns-in-Failed-ended
returns-in-Failed-ended g c =
    let all = c.loop-n.invariant.events in
    run_unended (run_schedule c.args.procs.now) c.args.procs.now.schedule c.loop-n.n c.events-events.result c.loop-n.procs.state c.loop-n.block _ _ _ c.loop-n.invariant.left (omega (arith, all)) all c.in-Failed-ended.ensures.puts
