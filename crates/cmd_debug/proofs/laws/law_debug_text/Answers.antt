use Rattle.cmd_debug.proofs.DebugText.{debug_text_law}
use Rattle.cmd_debug.proofs.laws.law_debug_text.Goals as goal

pub returns : goal.returns
returns c = debug_text_law
