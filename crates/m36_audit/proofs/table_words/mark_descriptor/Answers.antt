use Rattle.std.proofs.Common.{◌≡◌, ◌+◌, ◌*◌, length, sym}
use Rattle.std.specs.Prelude.{Ok}
use Rattle.m36_model.specs.Place.{wrapped_address, sdw_place}
use Rattle.m36_audit.specs.TableMarks.{IsMarkedSoFar}
use Rattle.m36_audit.proofs.TableWords.{no_sdw, sdw_more, marked_by}
use Rattle.m36_audit.proofs.table_words.mark_descriptor.Goals as goal

pub returns-in-Ok : goal.returns-in-Ok
returns-in-Ok c =
    let found : sdw_place c.args.core.now c.args.dbr c.args.seg ≡ Ok c.in-Ok.even = sym c.in-Ok.ensures.value in
    marked_by (IsMarkedSoFar c.args.core.now c.args.dbr (c.args.seg + 1) c.args.seg (256 * c.args.seg)) (length c.args.core.now) c.mark.new.self.tables c.mark.new.self.least 1 c.wrapped_address.result (wrapped_address (c.in-Ok.even + 1)) c.wrapped_address.ensures.value c.mark-in-Ok.new.self.tables c.mark-in-Ok.new.self.least c.mark-in-Ok.ensures.tables c.mark-in-Ok.ensures.least
    (sdw_more c.args.core.now c.args.dbr c.args.seg c.args.seg (256 * c.args.seg) c.in-Ok.even found (length c.args.core.now) c.args.marks.now.tables c.args.marks.now.least c.mark.new.self.tables c.mark.new.self.least c.mark.ensures.tables c.mark.ensures.least c.requires.before)

pub returns-in-Err : goal.returns-in-Err
returns-in-Err c =
    let refused = c.in-Err.ensures.value in
    no_sdw c.args.core.now c.args.dbr c.args.seg c.args.seg (256 * c.args.seg) (λ a h. cc)
    (length c.args.core.now) c.args.marks.now.tables c.args.marks.now.least c.requires.before
