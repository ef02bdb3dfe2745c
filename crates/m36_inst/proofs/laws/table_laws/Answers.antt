use Rattle.m36_inst.proofs.OneToOne.{rows_fit}
use Rattle.m36_inst.proofs.laws.table_laws.Goals as goal

pub returns-clause-fit : goal.returns-clause-fit
returns-clause-fit c = rows_fit
