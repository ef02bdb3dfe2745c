use Rattle.std.proofs.Common.{◌≡◌, ◌≤◌, ◌-◌, ◌*◌, length}
use Rattle.alm_asm.specs.Growth.{with_args, GrowsAtMost}
use Rattle.alm_asm.proofs.growth.count_args.Given as goal

-- adding the rest gives the whole
abbrev pub invariant-loop-rest : goal.invariant-loop-rest
invariant-loop-rest l = record {
  left : length l.rest ≤ length l.line.args;
  larger : GrowsAtMost ((length l.line.args - length l.rest) * 11) l.initial.growth l.growth;
  whole : with_args l.text l.symbols l.line l.is_entry l.growth l.rest ≡ with_args l.text l.symbols l.line l.is_entry l.initial.growth l.line.args;
}

abbrev pub decreases-loop-rest : goal.decreases-loop-rest
decreases-loop-rest l = length l.rest
