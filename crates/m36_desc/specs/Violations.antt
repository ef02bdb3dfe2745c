-- The access violations, by the manual's names. No other definition has their numbers.
-- Multics Processor Manual AL39, "Access violation fault".
use Rattle.std.specs.Prelude.{ℕ}

-- R1, R2 and R3 of the segment are not in order
abbrev pub illegal_ring_order : ℕ
illegal_ring_order = 0

-- the ring is below R1 or above R2
abbrev pub out_of_execute_bracket : ℕ
out_of_execute_bracket = 1

-- the E bit is off
abbrev pub no_execute_right : ℕ
no_execute_right = 2

-- the ring is above R2
abbrev pub out_of_read_bracket : ℕ
out_of_read_bracket = 3

-- the R bit is off, and the segment is not the one that the processor executes
abbrev pub no_read_right : ℕ
no_read_right = 4

-- the ring is above R1
abbrev pub out_of_write_bracket : ℕ
out_of_write_bracket = 5

-- the W bit is off
abbrev pub no_write_right : ℕ
no_write_right = 6

-- a gate is called from another segment, at a word that is not below its call limiter
abbrev pub not_a_gate : ℕ
not_a_gate = 7

-- the ring of the reference is above R3
abbrev pub out_of_call_bracket : ℕ
out_of_call_bracket = 8

-- a call from a ring below R1
abbrev pub outward_call : ℕ
outward_call = 9

-- the ring of the reference was raised above that of execution, which is below R2
abbrev pub bad_outward_call : ℕ
bad_outward_call = 10

-- a transfer in which the ring of the reference is not that of execution
abbrev pub crossing_ring_transfer : ℕ
crossing_ring_transfer = 12

-- the word is past the bound of the segment
abbrev pub out_of_segment_bounds : ℕ
out_of_segment_bounds = 15
