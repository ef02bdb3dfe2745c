-- No service is next.
use Rattle.std.proofs.Common.{sym}
use Rattle.cmd_folder.proofs.Serving.{serve_none}
use Rattle.cmd_folder.proofs.running.serve.Goals as goal

pub returns-in-Step : goal.returns-in-Step
returns-in-Step g c =
    serve_none c.args.output c.args.taken c.args.system.now c.args.block.now _ (sym c.in-Step.ensures.value) c.requires
