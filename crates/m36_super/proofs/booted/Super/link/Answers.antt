use Rattle.std.proofs.Common.{refl}
use Rattle.m36_super.specs.contracts.booted.Super.{the_view}
use Rattle.m36_super.specs.BootedRun.{link_turn}
use Rattle.m36_super.proofs.SystemTurns.{link_turns}
use Rattle.m36_super.proofs.booted.Super.link.Goals as goal

pub returns : goal.returns
returns c =
    link_turns c.args.self.now (the_view c.self.inside) (the_view (record {
      machine = c.link.new.machine;
      pager = c.link.new.pager;
      known = c.link.new.known;
      catalog = c.self.inside.catalog;
      files = c.self.inside.files;
      next_event = c.link.new.next_event;
      loaded = c.self.inside.loaded;
      alloc = c.self.inside.alloc;
    })) (link_turn c.link.result) c.args.at _ _ c.self.view_is c.requires.next_event c.self.invariant.frames c.deref.ensures.value refl (c.link.ensures.turn c.self.inside.loaded)
