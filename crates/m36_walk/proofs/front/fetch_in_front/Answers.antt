use Rattle.std.proofs.Common.{arith, subst}
use Rattle.m36_walk.proofs.InFront.{AnswersFetch, serves_fetch, privileged_is}
use Rattle.m36_walk.proofs.front.fetch_in_front.Goals as goal

pub returns-in-Some-clause-fetch : goal.returns-in-Some-clause-fetch
returns-in-Some-clause-fetch c = serves_fetch c.args.core.now c.args.dbr c.args.at c.in-Some.privileged c.in-Some.place (subst (AnswersFetch c.args.core.now c.args.dbr c.in-Some.privileged c.in-Some.place) c.at.view_is c.in-Some.ensures.found) (omega arith)

pub returns-in-Some-clause-privileged : goal.returns-in-Some-clause-privileged
returns-in-Some-clause-privileged c = privileged_is c.args.core.now c.args.dbr c.args.at c.in-Some.privileged c.in-Some.place (subst (AnswersFetch c.args.core.now c.args.dbr c.in-Some.privileged c.in-Some.place) c.at.view_is c.in-Some.ensures.found)
