use Rattle.std.proofs.Common.{ap}
use Rattle.m36_model.specs.Fields.{AtFields}
use Rattle.m36_link.specs.Fields.{SnapFields}
use Rattle.m36_super.proofs.LinkPuts.{changes_put}
use Rattle.m36_super.proofs.linking.write_changes.Goals as goal

pub returns-clause-put : goal.returns-clause-put
returns-clause-put c =
    let at = c.at.view_is in
    let snap = c.snap.view_is in
    changes_put c.args.machine.now.state.store c.write_words.new.machine.state.store c.write_section_if_any.new.machine.state.store c.args.pager.now c.write_words.new.pager c.write_section_if_any.new.pager c.args.at c.args.snap.now c.at.inside.ring c.at.inside.word c.snap.inside.pair.even c.snap.inside.pair.odd c.snap.inside.lay
    c.requires.seg (ap (λ (a : AtFields). a.ring) at) (ap (λ (a : AtFields). a.word) at) (ap (λ (s : SnapFields). s.pair.even) snap) (ap (λ (s : SnapFields). s.pair.odd) snap) (ap (λ (s : SnapFields). s.lay) snap) c.write_words.ensures.put c.write_section_if_any.ensures.put
