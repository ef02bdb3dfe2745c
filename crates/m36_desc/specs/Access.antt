-- Access: which references a segment descriptor allows.
--
-- Multics Processor Manual AL39, "Access control" and "Access violation fault"; Schroeder and
-- Saltzer, "A hardware architecture for implementing protection rings" (1972): the write bracket of
-- a segment is rings 0 to R1, its read bracket rings 0 to R2, its execute bracket rings R1 to R2,
-- and through its gates it is called from rings up to R3.
--
-- Each kind of reference has a list of rows, each a condition and the number of its access
-- violation. The first condition that holds refuses the reference. trr is the ring of the
-- reference, prr the ring of execution, and same says that the segment is the one that the
-- processor executes.
use Rattle.std.specs.Prelude.{ℕ, Bool, not, ◌&&◌, ◌==◌, if◌then◌else◌, List, [], ◌∷◌, Option, Some}
use Rattle.std.specs.Prelude.{None, Result, Ok, Err, nat_lt, nat_le}
use Rattle.m36_desc.specs.Fields.{SdwFields}
use Rattle.m36_desc.specs.Violations.{illegal_ring_order, out_of_execute_bracket, no_execute_right}
use Rattle.m36_desc.specs.Violations.{out_of_read_bracket, no_read_right, out_of_write_bracket}
use Rattle.m36_desc.specs.Violations.{no_write_right, not_a_gate, out_of_call_bracket, outward_call}
use Rattle.m36_desc.specs.Violations.{bad_outward_call, crossing_ring_transfer}
use Rattle.m36_desc.specs.declared.access.Acv.{Acv}

-- the access violation of the first row whose condition holds; None if the reference is allowed
abbrev pub first_violation : List (Bool × ℕ) → Option ℕ
first_violation [] = None
first_violation (row ∷ rows) = if row.0 then Some row.1 else first_violation rows

-- whether three rings are in order: r1 <= r2 <= r3
abbrev pub are_in_order : ℕ → ℕ → ℕ → Bool
are_in_order r1 r2 r3 = nat_le r1 r2 && nat_le r2 r3

-- Whether the brackets of a segment are in order. If they are not, every reference to the segment
-- is refused, before any other condition.
abbrev pub has_ordered_brackets : SdwFields → Bool
has_ordered_brackets s = are_in_order s.r1 s.r2 s.r3

-- the row for brackets that are not in order, followed by more rows
abbrev pub ordered_rows : SdwFields → List (Bool × ℕ) → List (Bool × ℕ)
ordered_rows s more = (not (has_ordered_brackets s), illegal_ring_order) ∷ more

-- The rows of a read. A segment needs no R bit to be read by the instructions in it.
abbrev pub read_rows : SdwFields → ℕ → Bool → List (Bool × ℕ)
read_rows s trr same =
    ordered_rows s (
    (nat_lt s.r2 trr, out_of_read_bracket)
    ∷ (not s.readable && not same, no_read_right)
    ∷ []
    )

-- the rows of a write
abbrev pub write_rows : SdwFields → ℕ → List (Bool × ℕ)
write_rows s trr =
    ordered_rows s (
    (nat_lt s.r1 trr, out_of_write_bracket)
    ∷ (not s.writable, no_write_right)
    ∷ []
    )

-- The rows of an execution in a ring, followed by more rows. The execute bracket has a lower end
-- too.
abbrev pub execute_rows : SdwFields → ℕ → List (Bool × ℕ) → List (Bool × ℕ)
execute_rows s ring more =
    ordered_rows s (
    (nat_lt ring s.r1, out_of_execute_bracket)
    ∷ (nat_lt s.r2 ring, out_of_execute_bracket)
    ∷ (not s.executable, no_execute_right)
    ∷ more
    )

-- the rows of a fetch of an instruction, in the ring of execution
abbrev pub fetch_rows : SdwFields → ℕ → List (Bool × ℕ)
fetch_rows s prr = execute_rows s prr []

-- the rows of a transfer: those of a fetch in the ring of the reference, which has to be the ring
-- of execution
abbrev pub transfer_rows : SdwFields → ℕ → ℕ → List (Bool × ℕ)
transfer_rows s trr prr = execute_rows s trr ((not (trr == prr), crossing_ring_transfer) ∷ [])

-- the rows of a call to a word
abbrev pub call_rows : SdwFields → ℕ → ℕ → Bool → ℕ → List (Bool × ℕ)
call_rows s trr prr same word =
    ordered_rows s (
    (not s.executable, no_execute_right)
    ∷ (not s.no_gate && (not same && nat_le s.limit word), not_a_gate)
    ∷ (nat_lt s.r3 trr, out_of_call_bracket)
    ∷ (nat_lt trr s.r1, outward_call)
    ∷ (nat_lt prr trr && nat_lt prr s.r2, bad_outward_call)
    ∷ []
    )

-- the ring, but at most R2: that in which a segment executes for a caller in this ring
abbrev pub ring_at_most : ℕ → ℕ → ℕ
ring_at_most r2 ring = if nat_lt r2 ring then r2 else ring

-- the ring after a call: R2 if the ring of the reference is above it, and otherwise that ring
abbrev pub ring_after_call : SdwFields → ℕ → ℕ
ring_after_call s trr = ring_at_most s.r2 trr

-- the value if no row refuses the reference, and otherwise the access violation
abbrev pub unless_violation : {A : Type 0} → A → Option ℕ → Result A Acv
unless_violation a None = Ok a
unless_violation a (Some n) = Err record { 0 = n }
