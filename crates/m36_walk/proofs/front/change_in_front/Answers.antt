use Rattle.std.proofs.Common.{arith, subst}
use Rattle.m36_walk.proofs.InFront.{AnswersReadAlone, AnswersWrite, read_alone, serves_write}
use Rattle.m36_walk.proofs.front.change_in_front.Goals as goal

pub returns-in-Some-clause-read : goal.returns-in-Some-clause-read
returns-in-Some-clause-read c = λ psr. read_alone c.args.core.now c.args.dbr c.args.at 1 c.in-Some.place (subst (AnswersReadAlone c.args.core.now c.args.dbr 1 c.in-Some.place) c.at.view_is c.in-Some.ensures.read) (omega arith) (omega arith) psr

pub returns-in-Some-clause-write : goal.returns-in-Some-clause-write
returns-in-Some-clause-write c = serves_write c.args.core.now c.args.dbr c.args.at 1 c.in-Some.place (subst (AnswersWrite c.args.core.now c.args.dbr 1 c.in-Some.place) c.at.view_is c.in-Some.ensures.write) (omega arith) (omega arith)
