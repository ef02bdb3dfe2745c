use denote.RattleType.{RattleType}
use denote.Param.Send.{IsSync}
use Rattle.m36_core.proofs.Crosses.{Cells-sync}
use Rattle.m36_core.specs.contracts.cells.Cells.{the_row}

pub sync : (R : RattleType) → IsSync R → IsSync (the_row R)
sync = Cells-sync
