use Rattle.std.proofs.Common.{[], drop, ◌+◌, arith}
use Rattle.m36_bind.specs.Kept.{with_retain_lines}
use Rattle.m36_bind.proofs.PickLaws.{first_left, none_left}
use Rattle.m36_bind.proofs.KeepLaws.{keep_goes, keep_stops, keep_ends}
use Rattle.m36_bind.proofs.kept.definitions_of_retain_lines.Goals as goal

pub loop-line-preserved : goal.loop-line-preserved
loop-line-preserved c =
    let exports = c.args.exports.now in
    let lines = c.args.lines.now in
    let i = c.loop-line.line-index in
    let line = c.line-item.result in
    record {
      told =
          keep_goes exports c.loop-line.kept c.retain_line.new.kept c.loop-line.n line (drop (i + 1) lines) (drop i lines) (with_retain_lines exports [] 1 lines)
          (first_left lines i line c.loop-line-test.true c.line-item.is) c.in-Ok.ensures c.loop-line.invariant.told;
      count = omega (arith, c.loop-line.invariant.count);
    }

pub returns-in-Err : goal.returns-in-Err
returns-in-Err c =
    let exports = c.args.exports.now in
    let lines = c.args.lines.now in
    let i = c.loop-line.line-index in
    let line = c.line-item.result in
    keep_stops exports c.loop-line.kept c.loop-line.n line (drop (i + 1) lines) (drop i lines) c.in-Err.fault (with_retain_lines exports [] 1 lines)
    (first_left lines i line c.loop-line-test.true c.line-item.is) c.in-Err.ensures c.loop-line.invariant.told

pub returns : goal.returns
returns c =
    let exports = c.args.exports.now in
    let lines = c.args.lines.now in
    let i = c.loop-line.line-index in
    keep_ends exports c.loop-line.kept c.loop-line.n (drop i lines) (with_retain_lines exports [] 1 lines)
    (none_left lines i c.loop-line-test.false) c.loop-line.invariant.told
