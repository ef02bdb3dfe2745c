use Rattle.std.proofs.Common.{sym}
use Rattle.m36_inst.proofs.NamesInOrder.{absent}
use Rattle.m36_inst.proofs.lookup.by_name.Goals as goal

pub returns-in-None : goal.returns-in-None
returns-in-None c =
    sym (absent c.names-rows.result.now c.args.n.now c.key.result c.names-rows.ensures c.key.ensures c.in-None.ensures.none)
