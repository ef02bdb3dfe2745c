use Rattle.m36_top.proofs.CommandLaws.{command_laws}
use Rattle.m36_top.proofs.laws.law_commands.Goals as goal

pub returns : goal.returns
returns c = command_laws
