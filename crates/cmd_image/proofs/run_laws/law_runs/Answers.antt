use Rattle.cmd_image.proofs.RunLengths.{limit_is_met}
use Rattle.cmd_image.proofs.RunTurns.{runs_are_turns}
use Rattle.cmd_image.proofs.FindingPlaces.{places_are_whole}
use Rattle.cmd_image.proofs.run_laws.law_runs.Goals as goal

pub returns-clause-limit : goal.returns-clause-limit
returns-clause-limit c = limit_is_met

pub returns-clause-turns : goal.returns-clause-turns
returns-clause-turns c = runs_are_turns

pub returns-clause-places : goal.returns-clause-places
returns-clause-places c = places_are_whole
