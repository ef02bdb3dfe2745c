use Rattle.std.proofs.Common.{◌≡◌, map, take}
use Rattle.alm_parse.specs.Members.{symbol_arg}
use Rattle.alm_parse.proofs.members.symbol_args.Given as goal

abbrev pub invariant-loop-member : goal.invariant-loop-member
invariant-loop-member l = l.args ≡ map symbol_arg (take l.member-index l.members)
