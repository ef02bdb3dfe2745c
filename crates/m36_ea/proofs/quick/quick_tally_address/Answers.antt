use Rattle.std.proofs.Common.{refl, ap, sym, ◌∙◌, []}
use Rattle.m36_model.specs.Chain.{chain}
use Rattle.m36_model.specs.Core.{core_store}
use Rattle.m36_model.specs.Modification.{Point, Counts}
use Rattle.m36_model.specs.Store.{run}
use Rattle.m36_model.specs.Tally.{Counted}
use Rattle.m36_walk.specs.Served.{midstep_with}
use Rattle.m36_ea.proofs.Runs.{chain_reads, counts_claimed}
use Rattle.m36_ea.proofs.quick.quick_tally_address.Goals as goal

pub returns-clause-forms : goal.returns-clause-forms
returns-clause-forms c = λ refs.
    let g = c.args.regs.now in
    let p = c.initial_point-tpr.result in
    let walk = c.args.walk.now in
    let m = midstep_with walk.core [] refs in
    let y = ap (λ (x : Point). x.y) c.tpr.view_is in
    let tag = ap (λ (x : Point). x.tag) c.tpr.view_is in
    let counted = rw tag at (c.counted.view_is ∙ c.tally-counted.ensures) in
    let address = ap (λ (x : Counted). x.address) counted in
    let word = ap (λ (x : Counted). x.word) counted in
    let runs_out = ap (λ (x : Counted). x.runs_out) counted in
    rw (c.end_at.ensures, address, word, runs_out, c.at-at.ensures, y) (ap (λ (p : Point). run core_store g (chain 16 g p) m) (sym c.initial_point-tpr.ensures.value)
    ∙ chain_reads g p m 16 15 Counts refl (c.is_counting_tag.ensures.moves c.if-not-is_counting_tag.false)
    ∙ counts_claimed g p walk walk refs (chain 15 g) c.in-Some.found.0 (rw y at (c.in-Some.ensures {u = tt}).serves) walk.core (sym c.requires.dbr) c.in-Some-quick_write.place (c.is_counting_tag.ensures.counts c.if-not-is_counting_tag.false) (rw (c.word_from_front.ensures.same, c.at-at.ensures, y) at (c.in-Some-quick_write.ensures {u = tt}).serves))
