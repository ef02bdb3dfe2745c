-- The calls of an object in memory, which are numbered, and some of which fail on request.
use Rattle.std.specs.Prelude.{ℕ, Bool, List, ◌+◌, ◌-◌, ◌^◌, min, nat_eq}
use Rattle.std.specs.List.{list_any}

-- The numbers of the calls that fail, and the number of the last call: 0 before the first.
pub record CallPlan : Type 0 where
  pub failing : List ℕ
  pub last : ℕ

-- a plan before the first call
abbrev pub new_plan : List ℕ → CallPlan
new_plan failing = record { failing = failing; last = 0 }

-- The number of the next call. Calls are numbered from 1, and from 2^32 - 1 on each has that
-- number.
abbrev pub next_number : CallPlan → ℕ
next_number plan = min (plan.last + 1) (2 ^ 32 - 1)

-- whether the next call fails: its number is listed
abbrev pub next_fails : CallPlan → Bool
next_fails plan = list_any (λ number. nat_eq number (next_number plan)) plan.failing

-- the plan after one more call
abbrev pub after_call : CallPlan → CallPlan
after_call plan = record { failing = plan.failing; last = next_number plan }
