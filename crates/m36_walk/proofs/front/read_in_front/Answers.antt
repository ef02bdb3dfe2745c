use Rattle.std.proofs.Common.{arith, subst}
use Rattle.m36_walk.proofs.Spots.{lies_inside}
use Rattle.m36_walk.proofs.InFront.{AnswersRead, ring_is, serves_read, serves_indirect, serves_odd}
use Rattle.m36_walk.proofs.front.read_in_front.Goals as goal

pub returns-in-Some-clause-read : goal.returns-in-Some-clause-read
returns-in-Some-clause-read c = λ psr. serves_read c.args.core.now c.args.dbr c.args.at c.in-Some.ring c.args.count c.in-Some.place (subst (AnswersRead c.args.core.now c.args.dbr c.in-Some.ring c.args.count c.in-Some.place) c.at.view_is c.in-Some.ensures.found) c.requires.some c.requires.block psr

pub returns-in-Some-clause-indirect : goal.returns-in-Some-clause-indirect
returns-in-Some-clause-indirect c = λ psr. serves_indirect c.args.core.now c.args.dbr c.args.at c.in-Some.ring c.args.count c.in-Some.place (subst (AnswersRead c.args.core.now c.args.dbr c.in-Some.ring c.args.count c.in-Some.place) c.at.view_is c.in-Some.ensures.found) c.requires.some c.requires.block psr

pub returns-in-Some-clause-odd : goal.returns-in-Some-clause-odd
returns-in-Some-clause-odd c = λ psr. serves_odd c.args.core.now c.args.dbr c.args.at c.in-Some.ring c.args.count c.in-Some.place (subst (AnswersRead c.args.core.now c.args.dbr c.in-Some.ring c.args.count c.in-Some.place) c.at.view_is c.in-Some.ensures.found) c.requires.some c.requires.block psr

pub returns-in-Some-clause-ring : goal.returns-in-Some-clause-ring
returns-in-Some-clause-ring c = ring_is c.args.core.now c.args.dbr c.args.at c.in-Some.ring c.args.count c.in-Some.place (subst (AnswersRead c.args.core.now c.args.dbr c.in-Some.ring c.args.count c.in-Some.place) c.at.view_is c.in-Some.ensures.found)

pub returns-in-Some-clause-inside : goal.returns-in-Some-clause-inside
returns-in-Some-clause-inside c = lies_inside _ c.in-Some.place c.args.count c.in-Some.ensures.found.small c.in-Some.ensures.found.inside

pub returns-in-Some-clause-bound : goal.returns-in-Some-clause-bound
returns-in-Some-clause-bound c =
    let small = c.in-Some.ensures.found.small in
    let inside = c.in-Some.ensures.found.inside in
    omega arith
