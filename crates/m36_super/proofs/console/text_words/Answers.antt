use Rattle.std.proofs.Common.{◌≡◌, Ok, Err, subst}
use Rattle.m36_model.specs.Fields.{AtFields}
use Rattle.m36_model.specs.Flat.{flat_store}
use Rattle.m36_model.specs.Store.{examined_reply}
use Rattle.m36_super.specs.Writing.{flat_by}
use Rattle.m36_super.specs.Examining.{ExaminedResult}
use Rattle.m36_super.proofs.ConsoleReads.{reading_failed, reading_more}
use Rattle.m36_super.proofs.console.text_words.Goals as goal

pub returns-in-Err : goal.returns-in-Err
returns-in-Err c =
    reading_failed c.args.regs.now (flat_by c.args.core.now c.args.pager.now) c.args.count c.loop-left.k c.loop-left.left c.loop-left.text.items c.in-Err.fault c.loop-left-test.true c.loop-left.invariant (subst (λ (a : AtFields). examined_reply flat_store c.args.regs.now (flat_by c.args.core.now c.args.pager.now) a ≡ Err c.in-Err.fault) c.text_address.ensures c.in-Err.ensures)

pub loop-left-preserved : goal.loop-left-preserved
loop-left-preserved c =
    reading_more c.args.regs.now (flat_by c.args.core.now c.args.pager.now) c.args.count c.loop-left.k c.loop-left.left c.in-Ok.word c.loop-left.text.items c.put_characters.new.text.items c.loop-left-test.true c.loop-left.invariant (subst (λ (a : AtFields). ExaminedResult (Ok c.in-Ok.word) (examined_reply flat_store c.args.regs.now (flat_by c.args.core.now c.args.pager.now) a)) c.text_address.ensures c.in-Ok.ensures) c.put_characters.ensures
