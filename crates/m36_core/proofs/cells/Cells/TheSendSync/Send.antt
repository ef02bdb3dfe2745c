use denote.RattleType.{RattleType}
use denote.Param.Send.{IsSend}
use Rattle.m36_core.proofs.Crosses.{Cells-send}
use Rattle.m36_core.specs.contracts.cells.Cells.{the_row}

pub send : (R : RattleType) → IsSend R → IsSend (the_row R)
send = Cells-send
