use Rattle.std.proofs.Common.{◌≡◌, ◌+◌, ◌*◌, length, true, false, ap}
use Rattle.m36_desc.specs.Fields.{DbrFields}
use Rattle.m36_model.specs.Place.{directory_at}
use Rattle.m36_audit.specs.TableMarks.{IsMarkedSoFar}
use Rattle.m36_audit.proofs.Telling.{off, on}
use Rattle.m36_audit.proofs.TableWords.{no_directory, directory_more, marked_by}
use Rattle.m36_audit.proofs.table_words.mark_directory.Goals as goal

pub returns-then-not-dbr : goal.returns-then-not-dbr
returns-then-not-dbr c =
    let paged : c.args.dbr.unpaged ≡ false = off _ _ (ap (λ (d : DbrFields). d.unpaged) c.dbr.view_is) c.if-not-dbr.true in
    marked_by (IsMarkedSoFar c.args.core.now c.args.dbr (c.args.seg + 1) (c.args.seg + 1) (256 * c.args.seg)) (length c.args.core.now) c.args.marks.now.tables c.args.marks.now.least 2 c.directory_at.result (directory_at c.args.dbr c.args.seg) c.directory_at.ensures.value c.mark.new.self.tables c.mark.new.self.least c.mark.ensures.tables c.mark.ensures.least
    (directory_more c.args.core.now c.args.dbr c.args.seg (c.args.seg + 1) (256 * c.args.seg) c.requires.bounds paged (length c.args.core.now) c.args.marks.now.tables c.args.marks.now.least c.requires.before)

pub returns-else-not-dbr : goal.returns-else-not-dbr
returns-else-not-dbr c =
    let whole : c.args.dbr.unpaged ≡ true = on _ _ (ap (λ (d : DbrFields). d.unpaged) c.dbr.view_is) c.if-not-dbr.false in
    no_directory c.args.core.now c.args.dbr c.args.seg (c.args.seg + 1) (256 * c.args.seg) whole (length c.args.core.now) c.args.marks.now.tables c.args.marks.now.least c.requires.before
