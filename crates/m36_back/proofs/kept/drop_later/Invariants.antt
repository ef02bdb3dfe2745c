use Rattle.std.proofs.Common.{◌≤◌, length}
use Rattle.m36_back.specs.Kept.{AllKept}
use Rattle.m36_back.proofs.kept.drop_later.Given as goal

abbrev pub decreases-kept : goal.decreases-kept
decreases-kept g l = l.n

-- the states that are left were kept before
abbrev pub invariant-kept : goal.invariant-kept
invariant-kept g l = record {
  within : l.n ≤ length l.kept.items;
  all : (first : _) → AllKept g.M.Replay.after first l.fn.kept.items → AllKept g.M.Replay.after first l.kept.items;
}
