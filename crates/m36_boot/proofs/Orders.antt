-- Ring brackets in order.
use Rattle.std.proofs.Common.{◌≡◌, ◌≤◌, Bool, true, ap, ◌∙◌}
use Rattle.std.specs.Prelude.{nat_le, ◌&&◌}
use Rattle.std.proofs.lemmas.Bool.{le-leb}
use Rattle.m36_desc.specs.Fields.{SdwFields}
use Rattle.m36_desc.specs.Access.{has_ordered_brackets}

pub in_order_by : (d : SdwFields) → d.r1 ≤ d.r2 → d.r2 ≤ d.r3 → has_ordered_brackets d ≡ true
in_order_by d low high =
    ap (λ (b : Bool). b && nat_le d.r2 d.r3) (le-leb d.r1 d.r2 low) ∙ le-leb d.r2 d.r3 high
