use Rattle.std.proofs.Common.{refl}
use Rattle.m36_step.specs.Hurry.{apply_repeatedly}
use Rattle.m36_step.proofs.stepper.Replay.hurry.Goals as goal

pub returns-clause-state : goal.returns-clause-state
unfolding apply_repeatedly
returns-clause-state g c = refl
