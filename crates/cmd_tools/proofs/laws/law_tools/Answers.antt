use Rattle.cmd_tools.proofs.ToolsEnded.{tool_laws}
use Rattle.cmd_tools.proofs.laws.law_tools.Goals as goal

pub returns : goal.returns
returns c = tool_laws
