use Rattle.std.proofs.Common.{refl, ap, sym, ◌∙◌, []}
use Rattle.m36_model.specs.Chain.{chain}
use Rattle.m36_model.specs.Core.{core_store}
use Rattle.m36_model.specs.Modification.{Point, Reads}
use Rattle.m36_model.specs.Store.{run}
use Rattle.m36_walk.specs.Served.{midstep_with}
use Rattle.m36_ea.proofs.Runs.{chain_ends, chain_reads}
use Rattle.m36_ea.proofs.quick.quick_indirect_address.Goals as goal

pub returns-clause-forms : goal.returns-clause-forms
returns-clause-forms c = λ refs.
    let g = c.args.regs.now in
    let m = midstep_with c.args.walk.now.core [] refs in
    let read = c.in-Some.read in
    let followed = c.in-Some-follow_from_front.followed in
    rw c.at-at.ensures (ap (λ (p : Point). run core_store g (chain 16 g p) m) (sym c.initial_point-tpr.ensures.value)
    ∙ chain_reads g c.initial_point-tpr.result m 16 15 (Reads read.0 read.1) refl (c.in-Some.ensures {u = tt}).moves
    ∙ (c.in-Some-follow_from_front.ensures {u = tt}).follows refs (chain 15 g)
    ∙ chain_ends g followed.0 _ 15 c.in-Some-end_by_register.last (c.in-Some-end_by_register.ensures {u = tt}).ends)
