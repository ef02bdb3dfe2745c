-- All segments have their rights.
use Rattle.std.proofs.Common.{arith}
use Rattle.m36_acl.proofs.Rights.{grant_done}
use Rattle.m36_acl.proofs.granting.grant_all.Goals as goal

pub returns : goal.returns
returns c =
    grant_done c.args.lists.now c.args.user.now c.args.catalog.now c.loop-i.catalog c.loop-i.i
    (omega (arith, c.count-count.ensures.value, c.loop-i-test.false)) c.loop-i.invariant
