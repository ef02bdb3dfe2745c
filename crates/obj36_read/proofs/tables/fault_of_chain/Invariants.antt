use Rattle.std.proofs.Common.{◌≡◌, ◌-◌, ◌^◌, ◌<◌}
use Rattle.obj36_read.specs.TableFaults.{chain_fault, first_definition}
use Rattle.obj36_read.proofs.tables.fault_of_chain.Given as goal

-- the result is that for the rest of the chain
abbrev pub invariant-loop : goal.invariant-loop
invariant-loop l = record {
  rest : chain_fault l.d (l.count - l.counter) l.holder l.at ≡ chain_fault l.d l.count 0 (first_definition l.d);
  held : l.holder < 2 ^ 18;
  near : l.at < 2 ^ 18;
}
