use Rattle.std.proofs.Common.{◌≡◌, ◌+◌, ◌<◌, length, get_or, arith}
use Rattle.m36_associative.proofs.Keeping.{kept_item}
use Rattle.m36_associative.proofs.reading.sdw_of_entry.Goals as goal

pub returns : goal.returns
returns c =
    let within : c.args.e < length c.args.memories.now.sdws = omega arith in
    let key : (get_or c.args.memories.now.sdws c.args.e c.index-memories-e.result).key ≡ c.args.seg + 1 = cc in
    c.requires.right.descriptors _ c.args.seg (kept_item c.args.memories.now.sdws c.args.e c.index-memories-e.result within) key
