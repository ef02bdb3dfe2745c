use Rattle.m36_walk.proofs.TargetLaws.{transfer_served}
use Rattle.m36_walk.proofs.walk.Walk.check_transfer_target.Goals as goal

pub returns-clause-serves : goal.returns-clause-serves
returns-clause-serves c = rw (← c.self.view_is) (λ g e k claims refs puts. transfer_served g c.self.inside.dbr e c.self.inside.core c.args.at _ claims refs puts c.args.prr k c.check_transfer.ensures)
