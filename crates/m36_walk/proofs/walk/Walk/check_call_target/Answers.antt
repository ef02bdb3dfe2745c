use Rattle.m36_walk.proofs.TargetLaws.{call_served}
use Rattle.m36_walk.proofs.walk.Walk.check_call_target.Goals as goal

pub returns-clause-serves : goal.returns-clause-serves
returns-clause-serves c = rw (← c.self.view_is) (λ g e k claims refs puts. call_served g c.self.inside.dbr e c.self.inside.core c.args.at _ claims refs puts c.args.p.psr c.args.p.prr k.0 k.1 c.check_call.ensures.target)
