use Rattle.std.proofs.Common.{◌∙◌, arith}
use Rattle.obj36_parts.specs.Names.{with_names}
use Rattle.obj36_parts.specs.ObjectSegment.{all_link_names}
use Rattle.obj36_parts.proofs.NameTables.{link_added, links_added}
use Rattle.obj36_parts.proofs.names.add_links.Goals as goal

pub loop-link-preserved : goal.loop-link-preserved
loop-link-preserved c = record {
  all =
      link_added c.loop-link.table.names c.add_link.new.table.names (with_names c.args.table.now.names (all_link_names c.args.links.now)) c.args.links.now c.loop-link.link-index
      c.link-item.result c.loop-link-test.true c.link-item.is c.in_ok-add_link.ensures.names c.loop-link.invariant.all;
  few = omega (arith, c.in_ok-add_link.ensures.few);
  base = c.in_ok-add_link.ensures.base ∙ c.loop-link.invariant.base;
}

pub returns-clause-names : goal.returns-clause-names
returns-clause-names c = links_added c.loop-link.table.names _ c.args.links.now c.loop-link.link-index c.loop-link-test.false c.loop-link.invariant.all
