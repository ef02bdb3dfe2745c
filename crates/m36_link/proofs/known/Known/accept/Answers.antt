use Rattle.std.proofs.Common.{List, Option, sym, ap, subst, ◌∙◌}
use Rattle.m36_link.specs.Fields.{PlacedSectionFields, NewSectionFields, KnownFields, SnapFields}
use Rattle.m36_link.specs.Accepted.{with_section, MayBeLaid}
use Rattle.m36_link.proofs.Apart.{apart_laid}
use Rattle.m36_link.proofs.known.Known.accept.Goals as goal

pub invariant_of-self-2 : goal.invariant_of-self-2
invariant_of-self-2 c =
    let may = subst (λ (o : Option NewSectionFields). MayBeLaid c.args.self.now o) (ap (λ (s : SnapFields). s.lay) (sym c.s.view_is)) c.requires in (
      c.add_name.ensures.names,
      apart_laid c.args.self.now c.self.inside.laid.items c.add_section.new.laid.items c.s.inside.lay (ap (λ (k : KnownFields). k.laid) (sym c.self.view_is))
          (c.add_section.ensures ∙ ap (λ (x : List PlacedSectionFields). with_section x c.s.inside.lay) c.reserve.ensures.items) c.self.invariant.1 may,
    )
