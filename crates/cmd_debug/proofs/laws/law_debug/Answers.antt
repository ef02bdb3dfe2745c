use Rattle.cmd_debug.proofs.DebugCalls.{debug_law}
use Rattle.cmd_debug.proofs.laws.law_debug.Goals as goal

pub returns : goal.returns
returns c = debug_law
