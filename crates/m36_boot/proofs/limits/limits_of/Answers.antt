use Rattle.std.proofs.Common.{ℕ, ◌≡◌, ◌<◌, length, subst, arith}
use Rattle.m36_boot.specs.Refusals.{AreLimits}
use Rattle.m36_boot.proofs.LimitLoops.{limits_stop, limits_on, limits_more, limits_done}
use Rattle.m36_boot.proofs.limits.limits_of.Goals as goal

pub loop-i-preserved : goal.loop-i-preserved
loop-i-preserved c =
    let count = c.count-count.ensures.value in
    let test = c.loop-i-test.true in
    let inside : c.loop-i.i < length c.args.catalog.now.segments = omega (arith, count, test) in
    record {
      rest =
          limits_on c.args.catalog.now c.args.files.now c.loop-i.i (length c.args.catalog.now.segments) _ _ inside
          c.segment.ensures.value c.file.ensures.value c.in-Ok.ensures.0 c.loop-i.invariant.rest;
      limits =
          limits_more c.args.catalog.now c.args.files.now c.loop-i.i _ _ _ _ _ c.segment.ensures.value
          c.file.ensures.value c.loop-i.invariant.limits c.in_ok-add_limit-in-Ok.ensures c.in-Ok.ensures.1 c.in-Ok.ensures.2;
    }

pub returns-in-Err : goal.returns-in-Err
returns-in-Err c =
    let count = c.count-count.ensures.value in
    let test = c.loop-i-test.true in
    let inside : c.loop-i.i < length c.args.catalog.now.segments = omega (arith, count, test) in
    record {
      none = tt;
      limits = tt;
      told =
          limits_stop c.args.catalog.now c.args.files.now c.loop-i.i (length c.args.catalog.now.segments) _ _ _ inside
          c.segment.ensures.value c.file.ensures.value c.in-Err.ensures c.loop-i.invariant.rest;
    }

pub returns : goal.returns
returns c =
    let count = c.count-count.ensures.value in
    let past = c.loop-i-test.false in
    let most = c.loop-i.auto.i-end in
    let same : c.loop-i.i ≡ length c.args.catalog.now.segments = omega (arith, count, past, most) in
    let P : ℕ → Type 0 = λ n. AreLimits c.args.catalog.now c.args.files.now n c.loop-i.limits.items in
    record {
      none = limits_done c.args.catalog.now c.args.files.now c.loop-i.i (length c.args.catalog.now.segments) (omega (arith, same)) c.loop-i.invariant.rest;
      limits = subst P same c.loop-i.invariant.limits;
      told = tt;
    }
