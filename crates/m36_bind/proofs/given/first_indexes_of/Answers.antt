use Rattle.std.proofs.Common.{drop, ◌+◌, refl, arith}
use Rattle.m36_bind.proofs.GivenLaws.{place_noted, none_noted, all_noted, name_left, no_name_left}
use Rattle.m36_bind.proofs.given.first_indexes_of.Goals as goal

pub loop-name-init : goal.loop-name-init
loop-name-init c = record { each = none_noted c.with_hasher-places.result.entries c.args.names.now c.with_hasher-places.ensures.empty; count = refl }

pub loop-name-preserved : goal.loop-name-preserved
loop-name-preserved c =
    let names = c.args.names.now in
    let i = c.loop-name.name-index in
    let name = c.name-item.result in
    record {
      each =
          place_noted c.loop-name.places.entries c.record_index.new.places.entries c.loop-name.place name (drop (i + 1) names) (drop i names) names
          (name_left names i name c.loop-name-test.true c.name-item.is) c.in_ok-record_index.ensures c.loop-name.invariant.each;
      count = omega (arith, c.loop-name.invariant.count);
    }

pub returns : goal.returns
returns c =
    let names = c.args.names.now in
    let i = c.loop-name.name-index in
    all_noted c.loop-name.places.entries c.loop-name.place (drop i names) names (no_name_left names i c.loop-name-test.false) c.loop-name.invariant.each
