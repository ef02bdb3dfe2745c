use Rattle.m36_associative.proofs.Faces.{answers_write}
use Rattle.m36_associative.proofs.answering.place_to_write.Goals as goal

pub returns-clause-found : goal.returns-clause-found
returns-clause-found c = rw c.place_in-place.ensures (answers_write c.args.core.now c.args.dbr c.args.memories.now.words c.args.memories.now.tables c.in_ok-page.page.now c.args.seg c.args.word c.args.ring c.args.count c.in_ok-page.ensures.page c.requires.some c.in_ok-page.ensures.end c.if-ring-page.false)
