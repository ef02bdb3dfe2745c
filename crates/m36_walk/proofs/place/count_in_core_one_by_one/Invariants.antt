use Rattle.std.proofs.Common.{ℕ, ◌≡◌, ◌+◌, ◌-◌, ◌<◌, ◌≤◌, ◌^◌, Ok, Err}
use Rattle.m36_model.specs.declared.outcome.Refusal.{Refusal}
use Rattle.m36_walk.specs.Runs.{run_from, spots_in_core, IsInCore}
use Rattle.m36_walk.proofs.place.count_in_core_one_by_one.Given as goal

-- What holds of the rest of the words holds of all words.
abbrev pub invariant-loop-left : goal.invariant-loop-left
invariant-loop-left l = record {
  refused : (word : ℕ) (e : ℕ × Refusal) → spots_in_core l.size (word + (l.count - l.left)) l.next l.left ≡ Err e → spots_in_core l.size word l.place l.count ≡ Err e;
  whole : (word : ℕ) → spots_in_core l.size (word + (l.count - l.left)) l.next l.left ≡ Ok (run_from l.next l.left) → spots_in_core l.size word l.place l.count ≡ Ok (run_from l.place l.count);
  inside : IsInCore l.size l.next l.left → IsInCore l.size l.place l.count;
  left : l.left ≤ l.count;
  next : l.next < 2 ^ 24;
}

abbrev pub decreases-loop-left : goal.decreases-loop-left
decreases-loop-left l = l.left
