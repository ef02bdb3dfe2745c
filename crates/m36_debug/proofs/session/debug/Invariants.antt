use Rattle.std.proofs.Common.{◌≡◌, ◌+◌, ◌*◌, ◌≤◌, []}
use Rattle.m36_debug.specs.LinesTaken.{IsUnbroken}
use Rattle.m36_debug.specs.Session.{machine_relations}
use Rattle.m36_debug.specs.SessionLines.{most_steps}
use Rattle.m36_debug.specs.SessionProgram.{session}
use Rattle.m36_debug.specs.SessionContract.{bytes_limit}
use Rattle.m36_debug.proofs.HeldLaws.{HeldSoFar}
use Rattle.m36_debug.proofs.SessionSteps.{Left}
use Rattle.m36_debug.proofs.session.debug.Given as goal

abbrev pub decreases-pieces : goal.decreases-pieces
decreases-pieces g l = l.left

-- what is left of the session: all answers so far were put, and the events led to the present machine
abbrev pub invariant-pieces : goal.invariant-pieces
invariant-pieces g l =
    let m = g.M.Stepper in
    let o = machine_relations m.regs m.content m.next m.went in
    let seen = g.W.World.seen in
    record {
      rest : Left o l.left l.begun l.sitting l.m (session o l.fn.m) (seen l.fn.world) (seen l.world);
      held : HeldSoFar o l.fn.m l.m (seen l.fn.world) (seen l.world) l.left l.begun l.sitting;
      unbroken : IsUnbroken l.begun;
      empty : l.block ≡ [];
      taken : l.sitting.taken + most_steps * l.left ≤ most_steps * bytes_limit;
    }
