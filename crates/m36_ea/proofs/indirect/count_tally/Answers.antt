use Rattle.std.proofs.Common.{◌∙◌, ap, sym, eq-eqb}
use Rattle.std.proofs.lemmas.Bool.{ne_eqb}
use Rattle.std.proofs.lemmas.Result.{err_from_is_err_and}
use Rattle.m36_model.specs.Modification.{Point}
use Rattle.m36_model.specs.Tally.{Counted}
use Rattle.m36_walk.specs.Runs.{IsInCore}
use Rattle.m36_ea.proofs.Runs.{counts_refused, counts_indirect_only, counts_write_refused, counts_claimed}
use Rattle.m36_ea.proofs.indirect.count_tally.Goals as goal

pub returns-in_err-word-clause-counts : goal.returns-in_err-word-clause-counts
returns-in_err-word-clause-counts c =
    let r = err_from_is_err_and c.from_residual.result c.from_residual.ensures.1 in
    let y = ap (λ (x : Point). x.y) c.tpr.view_is in
    rw (r.1, r.2) (λ next. counts_refused c.args.regs.now c.args.tpr.now c.args.walk.now c.indirect_word.new.walk c.args.refs.now.items next c.in_err-word.field-0.0 (rw y at (c.in_err-word.ensures {u = tt}).serves))

pub returns-then-td-eq-INDIRECT_ONLY-clause-counts : goal.returns-then-td-eq-INDIRECT_ONLY-clause-counts
returns-then-td-eq-INDIRECT_ONLY-clause-counts c =
    let y = ap (λ (x : Point). x.y) c.tpr.view_is in
    let tag = ap (λ (x : Point). x.tag) c.tpr.view_is in
    rw (c.formed_without_tally.ensures, c.end_at.ensures, c.address.ensures.value, c.add_reference.ensures.items, c.at-at.ensures, y)
    (λ next. counts_indirect_only c.args.regs.now c.args.tpr.now c.args.walk.now c.indirect_word.new.walk c.args.refs.now.items next c.in_ok-word.word (rw y at (c.in_ok-word.ensures {u = tt}).serves) (eq-eqb _ _ (rw tag at c.if-td-eq-INDIRECT_ONLY.true)))

pub returns-in_err-place-clause-counts : goal.returns-in_err-place-clause-counts
returns-in_err-place-clause-counts c =
    let r = err_from_is_err_and c.from_residual-in_err-place.result c.from_residual-in_err-place.ensures.1 in
    let y = ap (λ (x : Point). x.y) c.tpr.view_is in
    let tag = ap (λ (x : Point). x.tag) c.tpr.view_is in
    rw (r.1, r.2, c.add_reference.ensures.items, c.at-at.ensures, y)
    (λ next. counts_write_refused c.args.regs.now c.args.tpr.now c.args.walk.now c.indirect_word.new.walk c.args.refs.now.items next c.in_ok-word.word (rw y at (c.in_ok-word.ensures {u = tt}).serves) c.claim_place.new.self.core (sym (c.indirect_word.ensures.dbr ∙ c.requires.dbr)) c.in_err-place.field-0.0 (ne_eqb _ _ (rw tag at c.if-td-eq-INDIRECT_ONLY.false)) (rw (c.at-at.ensures, y) at (c.in_err-place.ensures {u = tt}).serves))

pub returns-clause-counts : goal.returns-clause-counts
returns-clause-counts c =
    let y = ap (λ (x : Point). x.y) c.tpr.view_is in
    let tag = ap (λ (x : Point). x.tag) c.tpr.view_is in
    let counted = rw tag at (c.counted.view_is ∙ c.tally-counted.ensures) in
    let address = ap (λ (x : Counted). x.address) counted in
    let word = ap (λ (x : Counted). x.word) counted in
    let runs_out = ap (λ (x : Counted). x.runs_out) counted in
    rw (c.end_at-2.ensures, address, word, runs_out, c.add_reference-2.ensures.items, c.add_reference.ensures.items, c.at-at.ensures, y)
    (λ next. counts_claimed c.args.regs.now c.args.tpr.now c.args.walk.now c.indirect_word.new.walk c.args.refs.now.items next c.in_ok-word.word (rw y at (c.in_ok-word.ensures {u = tt}).serves) c.claim_place.new.self.core (sym (c.indirect_word.ensures.dbr ∙ c.requires.dbr)) c.in_ok-place.place (ne_eqb _ _ (rw tag at c.if-td-eq-INDIRECT_ONLY.false)) (rw (c.at-at.ensures, y) at (c.in_ok-place.ensures {u = tt}).serves))

pub returns-clause-lies : goal.returns-clause-lies
unfolding IsInCore
returns-clause-lies c =
    let lies = (c.in_ok-place.ensures {u = tt}).inside in
    (lies.0, (c.add_reference.new.refs.items, c.add_reference-2.ensures.items))
