use Rattle.std.proofs.Common.{arith}
use Rattle.m36_link.proofs.Sizes.{linkage_some}
use Rattle.m36_link.proofs.sections.laid_size.Goals as goal

pub returns-clause-some : goal.returns-clause-some
returns-clause-some c =
    let value = c.linkage_size.ensures.value in
    let some = linkage_some c.args.object.now in
    omega (arith, value, some)
