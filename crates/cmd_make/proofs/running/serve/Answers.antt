-- No service is next.
use Rattle.std.proofs.Common.{sym}
use Rattle.cmd_make.proofs.Serving.{serve_none}
use Rattle.cmd_make.proofs.running.serve.Goals as goal

pub returns-in-Step : goal.returns-in-Step
returns-in-Step c = serve_none c.args.system.now (sym c.in-Step.ensures.value)
