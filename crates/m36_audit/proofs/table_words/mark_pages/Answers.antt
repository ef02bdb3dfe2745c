use Rattle.std.proofs.Common.{◌≡◌, ◌+◌, length, true, sym, ◌∙◌, ap}
use Rattle.m36_desc.specs.Fields.{SdwFields}
use Rattle.m36_audit.proofs.TableWords.{not_live, not_paged}
use Rattle.m36_audit.proofs.table_words.mark_pages.Goals as goal

pub returns-else-not-sdw : goal.returns-else-not-sdw
returns-else-not-sdw c =
    let whole : c.in-Some.sdw.unpaged ≡ true = ap (λ (d : SdwFields). d.unpaged) (sym c.sdw.view_is) ∙ c.if-not-sdw.false in
    not_paged c.args.core.now c.args.dbr c.args.seg (c.args.seg + 1) (c.args.seg + 1) c.in-Some.sdw c.in-Some.ensures whole (length c.args.core.now) c.args.marks.now.tables c.args.marks.now.least c.requires.before

pub returns-in-None : goal.returns-in-None
returns-in-None c =
    not_live c.args.core.now c.args.dbr c.args.seg (c.args.seg + 1) (c.args.seg + 1) c.in-None.ensures (length c.args.core.now) c.args.marks.now.tables c.args.marks.now.least c.requires.before
