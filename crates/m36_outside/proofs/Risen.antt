-- Laws of counts of faults, which never fall: a count that rose in an inner call rose in the outer call.
use Rattle.std.proofs.Common.{ℕ, ◌<◌, ◌≤◌, ◌^◌, arith, inl, inr}
use Rattle.m36_outside.specs.Counts.{Rose}

-- the outer call began earlier
pub rose_from : (start old new : ℕ) → Rose old new → start ≤ old → Rose start new
rose_from start old new (inl more) earlier = inl (omega arith)
rose_from start old new (inr end) earlier = inr end

-- the outer call ended later
pub rose_until : (old new last : ℕ) → Rose old new → new ≤ last → last < 2 ^ 64 → Rose old last
rose_until old new last (inl more) later bound = inl (omega arith)
rose_until old new last (inr end) later bound = inr (omega arith)

-- the outer call began earlier and ended later
pub rose_within :
    (start old new last : ℕ) → Rose old new → start ≤ old → new ≤ last → last < 2 ^ 64 → Rose start last
rose_within start old new last rose earlier later bound =
    rose_until start new last (rose_from start old new rose earlier) later bound

-- a count that is always 0 never rose
pub rose_never : {P : Type 0} → Rose 0 0 → P
rose_never (inl more) = absurd (omega arith)
rose_never (inr end) = absurd (omega arith)

-- what a function over several calls that may fail takes by `using`
pub ruleset rising = (rose_from, rose_until, rose_within)
