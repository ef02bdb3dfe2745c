use Rattle.m36_debug.specs.Putting.{pending}
use Rattle.m36_debug.specs.SessionTexts.{pointer_lines}
use Rattle.m36_debug.proofs.PutLaws.{pointer_cut}
use Rattle.m36_debug.proofs.registers.put_pointers.Goals as goal

pub returns-in-Failed : goal.returns-in-Failed
returns-in-Failed g c =
    let world = g.W.World in
    pointer_cut (pending c.loop-pointer.block (world.seen c.loop-pointer.world)) (pending c.put_pointer.new.block (world.seen c.put_pointer.new.world)) (pending c.args.block.now (world.seen c.args.world.now)) c.loop-pointer.n c.args.pointers.now c.loop-pointer.pointer-index c.pointer-item.result (pointer_lines 0 c.args.pointers.now) c.loop-pointer-test.true c.pointer-item.is c.loop-pointer.invariant.puts c.in-Failed.ensures
