use Rattle.std.proofs.Common.{arith}
use Rattle.m36_associative.proofs.Faces.{answers_read_alone, answers_write}
use Rattle.m36_associative.proofs.answering.place_to_change.Goals as goal

pub returns-clause-read : goal.returns-clause-read
returns-clause-read c = rw c.place_in-place.ensures (answers_read_alone c.args.core.now c.args.dbr c.args.memories.now.words c.args.memories.now.tables c.in_ok-page.page.now c.args.seg c.args.word c.args.ring 1 c.in_ok-page.ensures.page (omega arith) c.in_ok-page.ensures.end c.if-ring-page.false)

pub returns-clause-write : goal.returns-clause-write
returns-clause-write c = rw c.place_in-place.ensures (answers_write c.args.core.now c.args.dbr c.args.memories.now.words c.args.memories.now.tables c.in_ok-page.page.now c.args.seg c.args.word c.args.ring 1 c.in_ok-page.ensures.page (omega arith) c.in_ok-page.ensures.end c.if-ring-page-2.false)
