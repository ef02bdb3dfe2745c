use Rattle.std.proofs.Common.{◌≡◌, rules}
use Rattle.alm_asm.specs.Links.{offset_of_link_in}
use Rattle.alm_asm.proofs.LinksSoFar.{offset_within}
use Rattle.alm_asm.proofs.links.offset_of_link_in.Goals as goal

pub returns-clause-within : goal.returns-clause-within
unfolding offset_of_link_in
returns-clause-within c = λ has.
    offset_within c.args.links.now c.args.first c.args.link.now _ (first_of (search rules, cc)) has
