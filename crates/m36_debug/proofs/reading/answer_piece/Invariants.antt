use Rattle.std.proofs.Common.{◌+◌, ◌*◌, ◌≤◌, ◌++◌, length}
use Rattle.m36_debug.specs.LinesTaken.{IsUnbroken}
use Rattle.m36_debug.specs.Putting.{pending}
use Rattle.m36_debug.specs.Session.{machine_relations, standing, Waiting}
use Rattle.m36_debug.specs.SessionLines.{most_steps}
use Rattle.m36_debug.proofs.PieceLaws.{SoFar}
use Rattle.m36_debug.proofs.reading.answer_piece.Given as goal

abbrev pub decreases-lines : goal.decreases-lines
decreases-lines g l = length l.rest

-- the lines so far were answered
abbrev pub invariant-lines : goal.invariant-lines
invariant-lines g l =
    let world = g.W.World in
    let m = g.M.Stepper in
    let o = machine_relations m.regs m.content m.next m.went in
    record {
      told : SoFar o (standing l.fn.sitting Waiting) l.fn.m (l.fn.begun ++ l.piece) (l.begun ++ l.rest) l.sitting l.m (pending l.fn.block (world.seen l.fn.world)) (pending l.block (world.seen l.world));
      unbroken : IsUnbroken l.begun;
      count : l.sitting.taken + most_steps * length l.rest ≤ l.fn.sitting.taken + most_steps * length l.piece;
    }
