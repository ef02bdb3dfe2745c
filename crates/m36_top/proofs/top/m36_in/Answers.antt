-- A command never ends with Usage.
use Rattle.std.proofs.Common.{sym, ◌∙◌}
use Rattle.m36_top.specs.Words.{command_of}
use Rattle.m36_top.proofs.TopCalls.{some_usage}
use Rattle.m36_top.proofs.top.m36_in.Goals as goal

pub returns-in-Some-clause-usage : goal.returns-in-Some-clause-usage
returns-in-Some-clause-usage g c =
    some_usage (command_of c.args.words.now) c.in-Some.command c.perform-outcome.result c.status_of_result.result _ _
    (sym c.in-Some.is ∙ c.command_of.ensures) c.status_of_result.ensures c.perform-outcome.ensures
