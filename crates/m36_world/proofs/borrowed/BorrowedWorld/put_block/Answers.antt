use Rattle.m36_world.proofs.Puts.{put_block_did}
use Rattle.m36_world.proofs.borrowed.BorrowedWorld.put_block.Goals as goal

pub returns : goal.returns
returns g c =
    let says = c.put_block-answer.ensures in
    put_block_did c.put_block-answer.result c.args.block.now _ _ _ _ _
    says.says says.took says.cause says.count says.count_bound c.note.ensures
