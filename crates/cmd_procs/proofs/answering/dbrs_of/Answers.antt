use Rattle.std.proofs.Common.{◌++◌, ◌∷◌, [], ◌∙◌, arith, ap}
use Rattle.m36_desc.specs.Fields.{DbrFields}
use Rattle.cmd_procs.proofs.Registers.{bases_more, bases_all}
use Rattle.cmd_procs.proofs.answering.dbrs_of.Goals as goal

pub loop-i-preserved : goal.loop-i-preserved
loop-i-preserved c =
    bases_more c.args.procs.now.state.regs c.loop-i.i c.regs.result.now c.loop-i.dbrs.items c.push.new.self.items c.regs.ensures
    (c.in_ok-push.ensures.items ∙ ap (λ (d : DbrFields). c.loop-i.dbrs.items ++ d ∷ []) c.dbr_of.ensures) c.loop-i.invariant

pub returns-clause-value : goal.returns-clause-value
returns-clause-value c =
    let count = c.count-count.ensures.value in
    let past = c.loop-i-test.false in
    bases_all c.args.procs.now.state.regs c.loop-i.i c.loop-i.dbrs.items (omega arith) c.loop-i.invariant
