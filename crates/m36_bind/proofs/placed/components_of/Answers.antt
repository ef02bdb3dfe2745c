use Rattle.std.proofs.Common.{drop, ◌+◌, arith}
use Rattle.m36_bind.specs.Components.{PlacedComponents, with_components_of_lines, no_components}
use Rattle.m36_bind.proofs.PickLaws.{first_left, none_left, pick_goes, pick_stops, pick_ends}
use Rattle.m36_bind.proofs.placed.components_of.Goals as goal

pub loop-line-preserved : goal.loop-line-preserved
loop-line-preserved c =
    let given = c.args.given.now in
    let lines = c.args.lines.now in
    let i = c.loop-line.line-index in
    let line = c.line-item.result in
    let all : PlacedComponents = record { placed = c.loop-line.all; next = c.loop-line.next } in
    let more : PlacedComponents = record { placed = c.add_component_of_line.new.all; next = c.in-Ok.behind } in
    record {
      told =
          pick_goes given all more c.loop-line.n line (drop (i + 1) lines) (drop i lines) (with_components_of_lines given no_components 1 lines)
          (first_left lines i line c.loop-line-test.true c.line-item.is) c.in-Ok.ensures.answer c.loop-line.invariant.told;
      near = c.in-Ok.ensures.near;
      count = omega (arith, c.loop-line.invariant.count);
    }

pub returns-in-Err : goal.returns-in-Err
returns-in-Err c =
    let given = c.args.given.now in
    let lines = c.args.lines.now in
    let i = c.loop-line.line-index in
    let line = c.line-item.result in
    let all : PlacedComponents = record { placed = c.loop-line.all; next = c.loop-line.next } in
    pick_stops given all c.loop-line.n line (drop (i + 1) lines) (drop i lines) lines c.in-Err.fault
    (first_left lines i line c.loop-line-test.true c.line-item.is) c.in-Err.ensures.answer c.loop-line.invariant.told

pub returns : goal.returns
returns c =
    let given = c.args.given.now in
    let lines = c.args.lines.now in
    let i = c.loop-line.line-index in
    let all : PlacedComponents = record { placed = c.loop-line.all; next = c.loop-line.next } in
    pick_ends given all c.loop-line.n (drop i lines) lines (none_left lines i c.loop-line-test.false) c.loop-line.invariant.told
