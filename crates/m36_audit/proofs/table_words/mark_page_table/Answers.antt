use Rattle.std.proofs.Common.{◌≡◌, ℕ, ◌+◌, ◌*◌, ◌/◌, ◌<◌, ◌≤◌, length, ap, subst, arith}
use Rattle.m36_desc.specs.Fields.{SdwFields}
use Rattle.m36_model.specs.Place.{page_at}
use Rattle.m36_audit.specs.TableMarks.{AreMarked, IsMarkedSoFar}
use Rattle.m36_audit.proofs.TableWords.{page_more, pages_done, marked_by}
use Rattle.m36_audit.proofs.table_words.mark_page_table.Goals as goal

pub loop-page-preserved : goal.loop-page-preserved
loop-page-preserved c =
    let bounds : c.sdw.inside.bound ≡ c.args.sdw.now.bound = ap (λ (d : SdwFields). d.bound) c.sdw.view_is in
    let begins : c.loop-page.page ≤ c.args.sdw.now.bound / 64 = omega arith in
    let next : 256 * c.args.seg + c.loop-page.page + 1 ≡ 256 * c.args.seg + (c.loop-page.page + 1) = omega arith in
    subst (λ (p : ℕ). AreMarked (IsMarkedSoFar c.args.core.now c.args.dbr (c.args.seg + 1) (c.args.seg + 1) p) (length c.args.core.now) c.mark.new.self.tables c.mark.new.self.least) next
    (marked_by (IsMarkedSoFar c.args.core.now c.args.dbr (c.args.seg + 1) (c.args.seg + 1) (256 * c.args.seg + c.loop-page.page + 1)) (length c.args.core.now) c.loop-page.marks.tables c.loop-page.marks.least (c.args.seg + 3) c.page_at.result (page_at c.args.sdw.now c.loop-page.page) c.page_at.ensures.value c.mark.new.self.tables c.mark.new.self.least c.mark.ensures.tables c.mark.ensures.least
    (page_more c.args.core.now c.args.dbr c.args.seg (c.args.seg + 1) (c.args.seg + 1) c.loop-page.page c.args.sdw.now c.requires.live c.requires.paged begins (length c.args.core.now) c.loop-page.marks.tables c.loop-page.marks.least c.loop-page.invariant))

pub returns : goal.returns
returns c =
    let bounds : c.sdw.inside.bound ≡ c.args.sdw.now.bound = ap (λ (d : SdwFields). d.bound) c.sdw.view_is in
    let past : c.args.sdw.now.bound / 64 < c.loop-page.page = omega arith in
    pages_done c.args.core.now c.args.dbr c.args.seg (c.args.seg + 1) (c.args.seg + 1) c.args.sdw.now c.requires.live c.loop-page.page (omega arith) past (length c.args.core.now) c.loop-page.marks.tables c.loop-page.marks.least c.loop-page.invariant

pub loop-page-init : goal.loop-page-init
loop-page-init c =
    let e : 256 * c.args.seg ≡ 256 * c.args.seg + 0 = omega arith in
    subst (λ (p : ℕ). AreMarked (IsMarkedSoFar c.args.core.now c.args.dbr (c.args.seg + 1) (c.args.seg + 1) p) (length c.args.core.now) c.args.marks.now.tables c.args.marks.now.least) e c.requires.before
