use Rattle.std.proofs.Common.{◌≡◌, drop}
use Rattle.m36_debug.specs.Putting.{pending}
use Rattle.m36_debug.specs.SessionTexts.{pointer_lines}
use Rattle.m36_debug.proofs.PutLaws.{Putting}
use Rattle.m36_debug.proofs.registers.put_pointers.Given as goal

-- the lines of the other pointer registers are still to be put
abbrev pub invariant-loop-pointer : goal.invariant-loop-pointer
invariant-loop-pointer g l =
    let world = g.W.World in
    record {
      puts : Putting (pending l.block (world.seen l.world)) (pending l.fn.block (world.seen l.fn.world)) (pointer_lines l.n (drop l.pointer-index l.pointers)) (pointer_lines 0 l.pointers);
      number : l.n ≡ l.pointer-index;
    }
