use Rattle.std.proofs.Common.{◌≡◌, ◌+◌, ◌≤◌, true, []}
use Rattle.std.specs.Prelude.{if◌then◌else◌}
use Rattle.m36_outside.specs.declared.sink.Put.TheVariants.{Done}
use Rattle.m36_debug.specs.Parts.{SessionPart}
use Rattle.m36_debug.specs.Putting.{pending}
use Rattle.m36_debug.specs.Session.{machine_relations, standing, Running}
use Rattle.m36_step.specs.Answers.{IsService, PrecludesStep}
use Rattle.m36_debug.proofs.TurnLaws.{WasMade}
use Rattle.m36_debug.proofs.machine_relations.run_command.Given as goal

-- the measure counts a step twice and a service once, since a service is not followed by another
abbrev pub decreases-turns : goal.decreases-turns
decreases-turns g l = l.run.left + l.run.left + (if l.served then 0 else 1)

-- what was done is a part of the session
abbrev pub invariant-turns : goal.invariant-turns
invariant-turns g l =
    let world = g.W.World in
    let m = g.M.Stepper in
    let o = machine_relations m.regs m.content m.next m.went in
    record {
      part : SessionPart o (standing l.fn.sitting (Running l.fn.first)) l.fn.m [] (standing l.sitting (Running l.run)) l.m Done (pending l.fn.block (world.seen l.fn.world)) (pending l.block (world.seen l.world));
      count : l.sitting.taken + l.run.left ≤ l.fn.sitting.taken + l.fn.first.left;
      service : l.served ≡ true → WasMade o IsService l.m;
      interrupted : l.run.left ≡ 0 → WasMade o PrecludesStep l.m;
    }
