use Rattle.cmd_procs.proofs.ProcsEnded.{procs_end_law}
use Rattle.cmd_procs.proofs.laws.law_procs_ends.Goals as goal

pub returns : goal.returns
returns c = procs_end_law
