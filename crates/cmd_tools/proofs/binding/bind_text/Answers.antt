-- The clause on the meaning of the bound object is not used here.
use Rattle.cmd_tools.proofs.binding.bind_text.Goals as goal

pub returns : goal.returns
returns c = c.bind.ensures.says
