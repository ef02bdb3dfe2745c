use Rattle.std.proofs.Common.{refl, arith}
use Rattle.m36_trace.proofs.Numbers.{counted, few_digits}
use Rattle.m36_trace.proofs.parts.NumberPart.increment_last_digit.Goals as goal

pub invariant_of-self : goal.invariant_of-self
invariant_of-self c =
    let s = c.args.self.now in
    record {
      short = s.short;
      some = omega arith;
      small = few_digits s.bytes s.last s.next _ (omega arith) s.some s.small s.spelled refl c.requires;
      spelled = counted s.bytes s.last s.next _ (omega arith) s.some s.spelled refl c.requires;
    }
