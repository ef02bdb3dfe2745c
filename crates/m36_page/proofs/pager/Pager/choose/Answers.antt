use Rattle.m36_page.proofs.Parts.{held_spots, marks_parts, all_pinned}
use Rattle.std.proofs.Common.{ap, ◌∙◌}
use Rattle.m36_page.specs.Fields.{PagerFields}
use Rattle.m36_page.proofs.pager.Pager.choose.Goals as goal

pub choose-requires-clause-inside : goal.choose-requires-clause-inside
choose-requires-clause-inside c =
    held_spots c.self.inside.first c.self.inside.holders.items c.deref.result.now c.self.inside.spots.items c.deref-2.result.now c.self.inside.tables.items
    c.args.self.now c.args.core.now c.self.view_is c.deref.ensures.value c.deref-2.ensures.value c.self.invariant.0 c.requires

pub returns-clause-none : goal.returns-clause-none
returns-clause-none c =
    all_pinned c.choose.result c.args.references.now c.deref.result.now c.args.self.now
    (c.deref.ensures.value ∙ ap (λ (x : PagerFields). x.holders) c.self.view_is) c.choose.ensures.none

pub returns-clause-marks : goal.returns-clause-marks
returns-clause-marks c =
    marks_parts c.args.references.now c.self.inside.first c.self.inside.holders.items c.deref.result.now c.self.inside.spots.items c.deref-2.result.now c.self.inside.tables.items
    c.args.self.now c.args.core.now c.choose.new.core c.self.view_is c.deref.ensures.value c.deref-2.ensures.value c.self.invariant.0
    c.choose.ensures.marks
