use Rattle.m36_list.proofs.PrintLines.{link_put, links_put}
use Rattle.m36_list.proofs.links.put_links.Goals as goal

pub loop-i-preserved : goal.loop-i-preserved
loop-i-preserved c = link_put c.loop-i.text c.put_link.new.text _ c.args.links.now c.args.first c.loop-i.i c.index-links-i.result c.loop-i-test.true c.index-links-i.is c.in_ok-put_link.ensures c.loop-i.invariant

pub returns : goal.returns
returns c = links_put c.loop-i.text _ c.args.links.now _ c.loop-i.i c.loop-i-test.false c.loop-i.invariant
