use Rattle.std.proofs.Common.{subst}
use Rattle.m36_walk.proofs.InFront.{AnswersGo, serves_go}
use Rattle.m36_walk.proofs.front.transfer_in_front.Goals as goal

pub returns : goal.returns
returns c = λ t. serves_go c.args.core.now c.args.dbr c.args.at (subst (AnswersGo c.args.core.now c.args.dbr) c.at.view_is (c.may_transfer_to.ensures t))
