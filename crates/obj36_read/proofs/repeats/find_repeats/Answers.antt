use Rattle.std.proofs.Common.{◌≡◌, ◌-◌, ◌+◌, ◌∙◌, arith}
use Rattle.obj36_read.specs.TableFaults.{earlier, first_repeat, definition_count, first_definition}
use Rattle.obj36_read.specs.Repeated.{least_repeated_place}
use Rattle.obj36_read.proofs.FaultLoops.{found_more, found_all}
use Rattle.obj36_read.proofs.RepeatLoops.{repeats_begin, repeats_more, repeats_end}
use Rattle.obj36_read.proofs.repeats.find_repeats.Goals as goal

pub loop-preserved : goal.loop-preserved
loop-preserved c = record {
  rest =
      let count = c.count_of_definitions-end.result in
      let places = c.loop.places.entries in
      let newer = c.add_place.new.places.entries in
      found_more c.loop.found c.in_ok-here.here c.earlier_of-found.result
      (earlier (least_repeated_place c.args.d.now newer (count - (c.loop.counter + 1)) c.next_definition_offset-at.result) (first_repeat c.args.d.now (count - (c.loop.counter + 1)) c.next_definition_offset-at.result))
      (earlier (least_repeated_place c.args.d.now places (count - c.loop.counter) c.loop.at) (first_repeat c.args.d.now (count - c.loop.counter) c.loop.at))
      (first_repeat c.args.d.now (definition_count c.args.d.now) (first_definition c.args.d.now))
      c.earlier_of-found.ensures.value
      (repeats_more c.args.d.now places newer count c.loop.counter c.loop.at c.next_definition_offset-at.result c.offset_of_name.result c.in_ok-here.here c.loop-test.true
      c.next_definition_offset-at.ensures.value c.offset_of_name.ensures.value c.in_ok-here.ensures.value c.in_ok-here.ensures.more)
      c.loop.invariant.rest;
  near = c.next_definition_offset-at.ensures.bound;
  bound = c.earlier_of-found.ensures.bound;
}

pub loop-init : goal.loop-init
loop-init c =
    let count = c.count_of_definitions-end.result in
    let told : count - 0 ≡ definition_count c.args.d.now = omega (arith, c.count_of_definitions-end.ensures.value) in
    record {
      rest =
          repeats_begin c.args.d.now c.args.places.now.entries (count - 0) c.first_definition_offset-at.result c.requires
          ∙ (λ i. first_repeat c.args.d.now (told i) (c.first_definition_offset-at.ensures.value i));
      near = c.first_definition_offset-at.ensures.bound;
      bound = tt;
    }

pub returns-clause-value : goal.returns-clause-value
returns-clause-value c =
    let count = c.count_of_definitions-end.result in
    found_all c.loop.found
    (earlier (least_repeated_place c.args.d.now c.loop.places.entries (count - c.loop.counter) c.loop.at) (first_repeat c.args.d.now (count - c.loop.counter) c.loop.at)) _
    (repeats_end c.args.d.now c.loop.places.entries count c.loop.counter c.loop.at c.loop-test.false) c.loop.invariant.rest
