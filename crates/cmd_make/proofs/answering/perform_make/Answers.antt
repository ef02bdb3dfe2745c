-- A source was refused.
use Rattle.cmd_make.proofs.MakeSteps.{make_refused}
use Rattle.cmd_make.proofs.answering.perform_make.Goals as goal

pub returns-in-Err : goal.returns-in-Err
returns-in-Err g c =
    make_refused c.args.seed c.in-Err.refusal c.status.result _ c.in-Err.ensures c.status.ensures
