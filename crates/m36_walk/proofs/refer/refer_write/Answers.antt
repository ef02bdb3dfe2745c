use Rattle.std.proofs.Common.{Ok, Err, refl}
use Rattle.m36_walk.proofs.ReturnedWords.{write_told}
use Rattle.m36_walk.proofs.refer.refer_write.Goals as goal

pub returns-in-Ok-clause-write : goal.returns-in-Ok-clause-write
returns-in-Ok-clause-write c = λ g e claims refs puts.
    write_told g c.args.dbr e c.args.core.now c.write_by_tables.new.core c.args.at c.args.count claims refs puts _ refl (Ok c.in-Ok.found) c.in-Ok.ensures.spots_in_core c.in-Ok.ensures.marked

pub returns-in-Err-clause-write : goal.returns-in-Err-clause-write
returns-in-Err-clause-write c = λ g e claims refs puts.
    write_told g c.args.dbr e c.args.core.now c.write_by_tables.new.core c.args.at c.args.count claims refs puts _ refl (Err c.in-Err.fault) c.in-Err.ensures.spots_in_core c.in-Err.ensures.marked
