use Rattle.std.proofs.Common.{◌≡◌, ◌∙◌, ap}
use Rattle.m36_link.specs.Fields.{NewSectionFields}
use Rattle.m36_link.specs.Known.{lot_word}
use Rattle.m36_super.proofs.LinkPuts.{section_put}
use Rattle.m36_super.proofs.linking.write_section.Goals as goal

pub returns-clause-put : goal.returns-clause-put
returns-clause-put c =
    let lay = c.lay.view_is in
    let told = c.lot_word.ensures in
    let lot : c.lot_word.result ≡ lot_word c.args.lay.now = cc in
    section_put c.args.machine.now.state.store c.write_words.new.machine.state.store c.write_word.new.machine.state.store c.args.pager.now c.write_words.new.pager c.write_word.new.pager c.args.lay.now c.lay.inside.ring c.lay.inside.base c.lay.inside.seg c.lot_word.result c.slice.result.now
    (ap (λ (l : NewSectionFields). l.ring) lay) (ap (λ (l : NewSectionFields). l.base) lay) (ap (λ (l : NewSectionFields). l.seg) lay) (c.slice.ensures.value ∙ ap (λ (l : NewSectionFields). l.words) lay) lot c.write_words.ensures.put c.write_word.ensures.put
