-- The first line has a code.
use Rattle.std.proofs.Common.{sym}
use Rattle.m36_procs.proofs.Beginning.{first_code}
use Rattle.m36_procs.proofs.reading.read_first_line.Goals as goal

pub returns-in-Err-clause-says : goal.returns-in-Err-clause-says
returns-in-Err-clause-says c =
    first_code _ _ c.in-Some.line.now c.in-Err.field-0 c.in-Some.ensures.line (sym c.in-Err.ensures.frames)
