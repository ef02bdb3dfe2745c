use Rattle.std.proofs.Common.{◌≡◌, take}
use Rattle.m36_inst.proofs.lookup.name_string.Given as goal

abbrev pub invariant-loop-b : goal.invariant-loop-b
invariant-loop-b l = l.s.bytes ≡ take l.b-index l.name
