use Rattle.std.proofs.Common.{[]}
use Rattle.m36_model.specs.FirstPoint.{first_point}
use Rattle.m36_model.specs.Step.{indirect_words}
use Rattle.m36_walk.specs.Served.{midstep_with}
use Rattle.m36_ea.proofs.Runs.{chain_ends}
use Rattle.m36_ea.proofs.chain.plain_address.Goals as goal

pub returns-in-Some-clause-forms : goal.returns-in-Some-clause-forms
returns-in-Some-clause-forms c = λ core refs.
    chain_ends c.args.regs.now (first_point c.args.regs.now c.args.inst.now) (midstep_with core [] refs) indirect_words c.in-Some.last (rw c.initial_point-tpr.ensures.value at (c.in-Some.ensures {u = tt}).ends)

pub returns-then-tpr-eq0-clause-forms : goal.returns-then-tpr-eq0-clause-forms
returns-then-tpr-eq0-clause-forms c = λ core refs.
    chain_ends c.args.regs.now (first_point c.args.regs.now c.args.inst.now) (midstep_with core [] refs) indirect_words c.end_unmodified.result (rw c.initial_point-tpr.ensures.value at (c.end_unmodified.ensures.ends c.args.regs.now))
