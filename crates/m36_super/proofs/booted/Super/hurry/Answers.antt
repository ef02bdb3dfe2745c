use Rattle.std.proofs.Common.{◌∙◌, ap, subst}
use Rattle.std.specs.Prelude.{◌≡◌}
use Rattle.m36_super.specs.NextEvent.{Step}
use Rattle.m36_super.specs.SuperFields.{SuperFields, booted_of}
use Rattle.m36_super.specs.HurriedSteps.{AreStepsWithNext}
use Rattle.m36_super.specs.contracts.booted.Super.{the_view}
use Rattle.m36_super.proofs.HurriedTurns.{steps_are, steps_manage}
use Rattle.m36_super.proofs.booted.Super.hurry.Goals as goal

pub invariant_of-self : goal.invariant_of-self
invariant_of-self c =
    let i = c.self.invariant in
    let inside = c.self.inside in
    record {
      files = i.files;
      frames = i.frames;
      manages = steps_manage inside.loaded inside.machine.state inside.pager i.manages c.hurry.result c.hurry.new.self.state c.hurry.ensures.state c.hurry.ensures.on c.hurry.ensures.plain;
      made = i.made;
      due = i.due;
    }

pub returns-clause-turns : goal.returns-clause-turns
returns-clause-turns c =
    let i = c.self.invariant in
    let inside = c.self.inside in
    let next : inside.next_event ≡ Step = ap (λ (s : SuperFields). s.next_event) c.self.view_is ∙ c.requires in
    let later = the_view (record {
      machine = c.hurry.new.self;
      pager = inside.pager;
      known = inside.known;
      catalog = inside.catalog;
      files = inside.files;
      next_event = inside.next_event;
      loaded = inside.loaded;
      alloc = inside.alloc;
    }) in
    let P : SuperFields → Type 0 = λ s. AreStepsWithNext s.lib (booted_of s) c.hurry.result (booted_of later) in
    subst P c.self.view_is
    (steps_are inside.loaded inside.machine.state inside.pager i.manages (the_view inside).lib inside.known inside.next_event c.hurry.result c.hurry.new.self.state next i.frames c.hurry.ensures.state c.hurry.ensures.on c.hurry.ensures.plain)
