-- Counts of faults, which saturate.
use Rattle.std.specs.Prelude.{ℕ, ◌≡◌, ◌<◌, ◌+◌, ◌-◌, ◌^◌, ◌⊎◌, min}

-- the greatest value of each count, at which it saturates
abbrev pub greatest_count : ℕ
greatest_count = 2 ^ 64 - 1

-- A count rose in a call: it is greater after the call than before, or it is at its maximum.
abbrev pub Rose : ℕ → ℕ → Type 0
Rose old new = (old < new) ⊎ (new ≡ greatest_count)

-- the count after one more fault
abbrev pub raised : ℕ → ℕ
raised count = min (count + 1) greatest_count
