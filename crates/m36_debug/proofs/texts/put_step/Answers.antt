-- The line was added in place.
use Rattle.m36_trace.specs.TraceLine as trace
use Rattle.m36_program.proofs.Gathered.{gathers_here}
use Rattle.m36_debug.proofs.texts.put_step.Goals as goal

pub returns-then-push_shown : goal.returns-then-push_shown
unfolding trace.line_of trace.shown_line
returns-then-push_shown g c = gathers_here c.args.block.now c.push_shown.new.block _ _ c.if-push_shown.ensures.done
