use Rattle.std.proofs.Common.{◌≡◌, ◌+◌, ◌-◌, ◌≤◌, ℕ}
use Rattle.m36_back.specs.History.{state_at}
use Rattle.m36_back.proofs.replaying.replay.Given as goal

abbrev pub decreases-turns : goal.decreases-turns
decreases-turns g l = l.left

-- turns minus left turns were taken
abbrev pub invariant-turns : goal.invariant-turns
invariant-turns g l = record {
  within : l.left ≤ l.turns;
  stands : (first : _) (n : ℕ) → l.fn.machine ≡ state_at g.M.Replay.after first n → l.machine ≡ state_at g.M.Replay.after first (n + (l.turns - l.left));
}
