use Rattle.std.proofs.Common.{◌≡◌, map, take}
use Rattle.alm_parse.specs.Members.{number_arg}
use Rattle.alm_parse.proofs.members.number_args.Given as goal

abbrev pub invariant-loop-member : goal.invariant-loop-member
invariant-loop-member l = l.args ≡ map (number_arg l.numeral l.text) (take l.member-index l.members)
