use Rattle.cmd_procs.proofs.TextLaws.{procs_text_law}
use Rattle.cmd_procs.proofs.laws.law_procs_text.Goals as goal

pub returns : goal.returns
returns c = procs_text_law
