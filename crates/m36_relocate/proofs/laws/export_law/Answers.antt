use Rattle.m36_relocate.proofs.Entries.{entries_stand}
use Rattle.m36_relocate.proofs.laws.export_law.Goals as goal

pub returns : goal.returns
returns c = entries_stand
