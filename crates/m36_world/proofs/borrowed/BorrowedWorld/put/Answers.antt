use Rattle.m36_world.proofs.Puts.{put_did}
use Rattle.m36_world.proofs.borrowed.BorrowedWorld.put.Goals as goal

pub returns : goal.returns
returns g c =
    let says = c.put-answer.ensures in
    put_did c.put-answer.result c.args.piece.now _ _ _ _ _ says.says says.took says.cause says.count says.count_bound c.note.ensures
