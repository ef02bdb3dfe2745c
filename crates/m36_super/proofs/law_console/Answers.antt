use Rattle.m36_super.proofs.ConsoleLengths.{console_counts}
use Rattle.m36_super.proofs.law_console.Goals as goal

pub returns : goal.returns
returns c = console_counts
