use Rattle.std.proofs.Common.{◌≡◌, ◌*◌, ◌^◌, length, subst, arith}
use Rattle.std.specs.Prelude.{nat_eq}
use Rattle.std.specs.HashMap.{get}
use Rattle.m36_audit.specs.Classes.{AreFirstEquals}
use Rattle.m36_audit.proofs.Noting.{all_noted}
use Rattle.m36_audit.proofs.equal_descriptors.equal_descriptors.Goals as goal

pub returns : goal.returns
returns c =
    let e : 2 ^ 15 * c.loop-k.k ≡ 2 ^ 15 * length c.args.dbrs.now = omega arith in
    subst (λ n. AreFirstEquals c.args.core.now c.args.dbrs.now n c.loop-k.firsts.items) e
    (all_noted c.args.core.now c.args.dbrs.now c.requires (2 ^ 15 * c.loop-k.k) (get nat_eq c.loop-k.places) c.loop-k.firsts.items c.loop-k.invariant)
