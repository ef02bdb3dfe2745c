use Rattle.std.proofs.Common.{sym}
use Rattle.alm_tokens.proofs.Found.{out_inside}
use Rattle.alm_tokens.proofs.lists.first_out_of_range_place.Goals as goal

pub returns-in-Some-clause-within : goal.returns-in-Some-clause-within
returns-in-Some-clause-within c =
    out_inside c.args.numeral c.args.text.now c.args.members.now c.in-Some.member.now (sym c.in-Some.ensures)
