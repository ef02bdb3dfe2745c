use Rattle.std.proofs.Common.{ℕ, ◌≡◌, ◌+◌, ◌-◌, ◌<◌, arith}
use Rattle.m36_walk.proofs.Spots.{refused_further, whole_further, lies_further, whole_at_last, lies_at_last}
use Rattle.m36_walk.proofs.place.count_in_core_one_by_one.Goals as goal

pub loop-left-preserved : goal.loop-left-preserved
loop-left-preserved c =
    let some : 0 < c.loop-left.left = omega arith in
    let inside : c.loop-left.next < c.args.size = omega arith in
    let further : (word : ℕ) → word + (c.args.count - (c.loop-left.left - 1)) ≡ (word + (c.args.count - c.loop-left.left)) + 1 = λ word. omega arith in
    record {
      refused = λ word e h. c.loop-left.invariant.refused word e (refused_further c.args.size (word + (c.args.count - c.loop-left.left)) c.loop-left.next c.loop-left.left e some inside (rw (further word, c.wrapped_address-next.ensures.value) at h));
      whole = λ word h. c.loop-left.invariant.whole word (whole_further c.args.size (word + (c.args.count - c.loop-left.left)) c.loop-left.next c.loop-left.left some inside (rw (further word, c.wrapped_address-next.ensures.value) at h));
      inside = λ h. c.loop-left.invariant.inside (lies_further c.args.size c.loop-left.next c.loop-left.left some inside (rw c.wrapped_address-next.ensures.value at h));
      left = omega arith;
      next = c.wrapped_address-next.ensures.bound;
    }

pub returns-clause-whole : goal.returns-clause-whole
returns-clause-whole c = λ _ word. c.loop-left.invariant.whole word (whole_at_last c.args.size (word + (c.args.count - c.loop-left.left)) c.loop-left.next c.loop-left.left (omega arith))

pub returns-clause-inside : goal.returns-clause-inside
returns-clause-inside c = λ _. c.loop-left.invariant.inside (lies_at_last c.args.size c.loop-left.next c.loop-left.left (omega arith))
