use Rattle.std.proofs.Common.{◌≡◌, ◌+◌, ◌≤◌, length, []}
use Rattle.m36_model.specs.Chain.{chain}
use Rattle.m36_model.specs.Core.{core_store}
use Rattle.m36_model.specs.Store.{run}
use Rattle.m36_walk.specs.Served.{midstep_with}
use Rattle.m36_ea.specs.Formed.{run_formation}
use Rattle.m36_ea.proofs.chain.form_address.Given as goal

-- The rest of the chain gives what the whole chain gives.
abbrev pub invariant-loop-last : goal.invariant-loop-last
invariant-loop-last l = record {
  same : run_formation l.fn.regs l.fn.inst l.fn.walk.core l.fn.refs.items ≡ run core_store l.fn.regs (chain l.left l.fn.regs l.tpr) (midstep_with l.walk.core [] l.refs.items);
  dbr : l.walk.dbr ≡ l.fn.walk.dbr;
  len : length l.walk.core ≡ length l.fn.walk.core;
  count : length l.refs.items + l.left ≤ length l.fn.refs.items + 16;
  left : l.left ≤ 16;
}

abbrev pub decreases-loop-last : goal.decreases-loop-last
decreases-loop-last l = l.left
