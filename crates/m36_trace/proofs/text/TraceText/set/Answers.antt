use Rattle.std.proofs.Common.{rules}
use Rattle.m36_trace.proofs.FieldsPut.{set_serves}
use Rattle.m36_trace.proofs.text.TraceText.set.Goals as goal

pub returns-in-Next : goal.returns-in-Next
returns-in-Next c =
    set_serves c.set-in-Next-3.result _ c.args.n c.args.ppr.now c.args.at.now c.args.outcome.now c.args.after.now c.set-in-Next-3.ensures (search rules) (search rules) (search rules) (search rules) (search rules) (search rules)
