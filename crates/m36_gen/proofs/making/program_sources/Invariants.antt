use Rattle.std.proofs.Common.{◌≡◌}
use Rattle.m36_gen.specs.Draws.{state_at}
use Rattle.m36_gen.specs.Folder.{source_files}
use Rattle.m36_gen.proofs.making.program_sources.Given as goal

-- the sources of the programs so far, and the state of the generator after their draws
abbrev pub invariant-loop-i : goal.invariant-loop-i
invariant-loop-i l = record { files : l.files ≡ source_files l.fn.seed l.i; state : l.sequence.state ≡ state_at l.fn.seed l.i }
