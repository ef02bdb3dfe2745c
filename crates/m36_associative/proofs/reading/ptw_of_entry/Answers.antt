use Rattle.std.proofs.Common.{◌≡◌, ◌+◌, ◌<◌, length, get_or, arith}
use Rattle.m36_associative.proofs.Keeping.{kept_item}
use Rattle.m36_associative.proofs.reading.ptw_of_entry.Goals as goal

pub returns : goal.returns
returns c =
    let within : c.args.e < length c.args.memories.now.ptws = omega arith in
    let key : (get_or c.args.memories.now.ptws c.args.e c.index-memories-e.result).key ≡ c.args.a + 1 = cc in
    c.requires.right.table_words _ c.args.a (kept_item c.args.memories.now.ptws c.args.e c.index-memories-e.result within) key
