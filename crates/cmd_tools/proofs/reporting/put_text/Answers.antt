-- One more line was put, or not.
use Rattle.std.proofs.Common.{rules}
use Rattle.cmd_tools.specs.Reporting.{put_text}
use Rattle.cmd_tools.proofs.ReportLaws.{text_start, line_put, line_unput, text_end}
use Rattle.cmd_tools.proofs.reporting.put_text.Goals as goal

pub lines-init : goal.lines-init
lines-init g c = λ may. text_start may c.args.text.now (g.W.World.seen c.args.world.now)

pub lines-preserved : goal.lines-preserved
lines-preserved g c = λ may.
    line_put may c.lines.rest.now c.line_length-end.result (put_text c.args.text.now) _ _ _ c.line_length-end.ensures.cut (c.lines.invariant may) (c.in-Ok.ensures may)

pub returns-in-Err : goal.returns-in-Err
returns-in-Err g c = λ may.
    line_unput may c.lines.rest.now c.line_length-end.result (put_text c.args.text.now) c.in-Err.status _ _ _ c.line_length-end.ensures.cut (c.lines.invariant may) (c.in-Err.ensures may)

pub returns : goal.returns
returns g c = λ may. text_end may c.lines.rest.now (put_text c.args.text.now) _ _ (search rules) (c.lines.invariant may)
