use Rattle.std.proofs.Common.{◌≡◌, suc, ◌-◌, ◌∙◌, ap, [], Err, arith}
use Rattle.m36_model.specs.Chain.{chain}
use Rattle.m36_model.specs.Modification.{Point, Reads, Counts}
use Rattle.m36_model.specs.declared.outcome.Halt.TheVariants as halt
use Rattle.m36_walk.specs.Served.{midstep_with}
use Rattle.m36_ea.proofs.Runs.{run_done, chain_ends, chain_fails, chain_locks, chain_locks_tally, chain_reads}
use Rattle.m36_ea.proofs.chain.form_address.Goals as goal

pub returns-in-Ends-clause-forms : goal.returns-in-Ends-clause-forms
returns-in-Ends-clause-forms c =
    let m = midstep_with c.loop-last.walk.core [] c.loop-last.refs.items in
    rw c.formed_without_tally.ensures (c.loop-last.invariant.same ∙ chain_ends c.args.regs.now c.loop-last.tpr m c.loop-last.left c.in-Ends.last (c.in-Ends.ensures {u = tt}).moves)

pub returns-in-Fails-clause-forms : goal.returns-in-Fails-clause-forms
returns-in-Fails-clause-forms c =
    let m = midstep_with c.loop-last.walk.core [] c.loop-last.refs.items in
    c.loop-last.invariant.same ∙ chain_fails c.args.regs.now c.loop-last.tpr m c.loop-last.left c.in-Fails.halt (c.in-Fails.ensures {u = tt}).moves

pub returns-then-left-eq0-clause-forms : goal.returns-then-left-eq0-clause-forms
returns-then-left-eq0-clause-forms c =
    let m = midstep_with c.loop-last.walk.core [] c.loop-last.refs.items in
    let same = rw c.if-left-eq0.true at c.loop-last.invariant.same in
    rw c.lockup.ensures (same ∙ chain_locks c.args.regs.now c.loop-last.tpr m c.in-Reads.word c.in-Reads.held (c.in-Reads.ensures {u = tt}).moves)

pub returns-in-Err-clause-forms : goal.returns-in-Err-clause-forms
returns-in-Err-clause-forms c =
    let g = c.args.regs.now in
    let m = midstep_with c.loop-last.walk.core [] c.loop-last.refs.items in
    let left = c.loop-last.left - 1 in
    let more : c.loop-last.left ≡ suc (c.loop-last.left - 1) = omega arith in
    c.loop-last.invariant.same ∙ chain_reads g c.loop-last.tpr m c.loop-last.left left (Reads c.in-Reads.word c.in-Reads.held) more (c.in-Reads.ensures {u = tt}).moves ∙ (c.in-Err.ensures {u = tt}).follows (chain left g) ∙ run_done g (Err (halt.Fault c.in-Err.fault)) (midstep_with c.follow.new.walk.core [] c.follow.new.refs.items)

pub returns-then-left-eq0-2-clause-forms : goal.returns-then-left-eq0-2-clause-forms
returns-then-left-eq0-2-clause-forms c =
    let m = midstep_with c.loop-last.walk.core [] c.loop-last.refs.items in
    let same = rw c.if-left-eq0-2.true at c.loop-last.invariant.same in
    let y = ap (λ (x : Point). x.y) c.tpr.view_is in
    rw (c.lockup-then-left-eq0-2.ensures, y) (same ∙ chain_locks_tally c.args.regs.now c.loop-last.tpr m (c.in-Counts.ensures {u = tt}).moves)

pub returns-in-Ok-count_tally-clause-forms : goal.returns-in-Ok-count_tally-clause-forms
returns-in-Ok-count_tally-clause-forms c =
    let g = c.args.regs.now in
    let m = midstep_with c.loop-last.walk.core [] c.loop-last.refs.items in
    let left = c.loop-last.left - 1 in
    let more : c.loop-last.left ≡ suc (c.loop-last.left - 1) = omega arith in
    c.loop-last.invariant.same ∙ chain_reads g c.loop-last.tpr m c.loop-last.left left Counts more (c.in-Counts.ensures {u = tt}).moves ∙ (c.in-Ok-count_tally.ensures {u = tt}).counts (chain left g)

pub returns-in-Err-count_tally-clause-forms : goal.returns-in-Err-count_tally-clause-forms
returns-in-Err-count_tally-clause-forms c =
    let g = c.args.regs.now in
    let m = midstep_with c.loop-last.walk.core [] c.loop-last.refs.items in
    let left = c.loop-last.left - 1 in
    let more : c.loop-last.left ≡ suc (c.loop-last.left - 1) = omega arith in
    c.loop-last.invariant.same ∙ chain_reads g c.loop-last.tpr m c.loop-last.left left Counts more (c.in-Counts.ensures {u = tt}).moves ∙ (c.in-Err-count_tally.ensures {u = tt}).counts (chain left g)

pub loop-last-preserved : goal.loop-last-preserved
loop-last-preserved c =
    let g = c.args.regs.now in
    let m = midstep_with c.loop-last.walk.core [] c.loop-last.refs.items in
    let left = c.loop-last.left - 1 in
    let more : c.loop-last.left ≡ suc (c.loop-last.left - 1) = omega arith in
    let ok = c.in-Ok.ensures {u = tt} in
    record {
      same = c.loop-last.invariant.same ∙ chain_reads g c.loop-last.tpr m c.loop-last.left left (Reads c.in-Reads.word c.in-Reads.held) more (c.in-Reads.ensures {u = tt}).moves ∙ ok.follows (chain left g);
      dbr = ok.dbr ∙ c.loop-last.invariant.dbr;
      len = ok.len ∙ c.loop-last.invariant.len;
      count = omega (arith, ok.count);
      left = omega arith;
    }
