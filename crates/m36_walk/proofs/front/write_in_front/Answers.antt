use Rattle.std.proofs.Common.{arith, subst}
use Rattle.m36_walk.proofs.Spots.{lies_inside}
use Rattle.m36_walk.proofs.InFront.{AnswersWrite, serves_write}
use Rattle.m36_walk.proofs.front.write_in_front.Goals as goal

pub returns-in-Some-clause-write : goal.returns-in-Some-clause-write
returns-in-Some-clause-write c = serves_write c.args.core.now c.args.dbr c.args.at c.args.count c.in-Some.place (subst (AnswersWrite c.args.core.now c.args.dbr c.args.count c.in-Some.place) c.at.view_is c.in-Some.ensures.found) c.requires.some c.requires.block

pub returns-in-Some-clause-inside : goal.returns-in-Some-clause-inside
returns-in-Some-clause-inside c = lies_inside _ c.in-Some.place c.args.count c.in-Some.ensures.found.small c.in-Some.ensures.found.inside

pub returns-in-Some-clause-bound : goal.returns-in-Some-clause-bound
returns-in-Some-clause-bound c =
    let small = c.in-Some.ensures.found.small in
    let inside = c.in-Some.ensures.found.inside in
    omega arith
