use Rattle.std.proofs.Common.{◌/◌, arith}
use Rattle.m36_associative.proofs.Keeping.{only_page}
use Rattle.m36_associative.proofs.reading.enter.Goals as goal

pub returns-in-Some : goal.returns-in-Some
returns-in-Some c =
    c.note_entries.ensures c.args.core.now c.args.dbr (c.put_in_front.ensures c.args.core.now c.args.dbr c.requires.right (only_page c.args.core.now c.args.dbr _ _ c.in-Some.page c.args.seg (c.args.word / 1024) (omega arith) c.in-Some.ensures.key c.in-Some.ensures.page))
