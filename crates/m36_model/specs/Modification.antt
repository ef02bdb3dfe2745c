-- Address modification: the points of an address chain, and what the tag of a point does.
-- Multics Processor Manual AL39, "Effective address formation", "Address modification features" and
-- "Tag field".
use Rattle.std.specs.Prelude.{ℕ, ◌+◌, ◌-◌, ◌*◌, ◌/◌, ◌%◌, ◌^◌, max, Bool, ◌||◌, ◌==◌, if◌then◌else◌}
use Rattle.std.specs.Prelude.{Option, Some, None, slice_index, slice_index_or}
use Rattle.m36_word.specs.Field.{field}
use Rattle.m36_desc.specs.Descriptors.{its_tag, itp_tag}
use Rattle.m36_desc.specs.Fields.{PtrFields}
use Rattle.m36_model.specs.Faults.{fault_tag_1, fault_tag_2, fault_tag_3, illegal_procedure}
use Rattle.m36_model.specs.Tally.{is_tally_tag}
use Rattle.m36_model.specs.Fields.{AtFields, FinalFields}
use Rattle.m36_model.specs.Registers.{RegsFields}
use Rattle.m36_model.specs.Store.{plain_refusal, fault_by}
use Rattle.m36_model.specs.declared.outcome.Fault.{Fault}
use Rattle.m36_model.specs.declared.outcome.Halt.{Halt}
use Rattle.m36_model.specs.declared.outcome.Halt.TheVariants as halt
use Rattle.m36_model.specs.declared.outcome.Stop.TheVariants as stop

-- A point of a chain: segment TSR, ring TRR, address y, bit number, tag, and the value of the
-- register that is held, if there is one. The last field is the word that carried the tag, with the
-- ring in which a fault tag is reported: the ring of the point and, for an indirect word, at least
-- R1 of its segment.
pub record Point : Type 0 where
  pub seg : ℕ
  pub ring : ℕ
  pub y : ℕ
  pub bit : ℕ
  pub tag : ℕ
  pub held : Option ℕ
  pub carrier : AtFields

-- the position of the instruction, where faults are reported that name no other word
abbrev pub here : RegsFields → AtFields
here g = record { seg = g.ppr.psr; word = g.ppr.ic; ring = g.ppr.prr }

-- a fault at a word, other than an access violation
abbrev pub plain_fault : ℕ → AtFields → Fault
plain_fault number at = fault_by (plain_refusal number) at

-- the halt by a fault at a word, other than an access violation
abbrev pub halt_at : ℕ → AtFields → Halt
halt_at number at = halt.Fault (plain_fault number at)

-- a fault at the instruction, other than an access violation
abbrev pub fault_here : ℕ → RegsFields → Fault
fault_here number g = plain_fault number (here g)

-- the halt by a fault at the instruction, other than an access violation
abbrev pub halt_here : ℕ → RegsFields → Halt
halt_here number g = halt.Fault (fault_here number g)

-- The ring after a pair: the greatest of TRR, R1 of the segment that holds the pair, and the ring
-- that the pair names. An ITS pair names its own ring, an ITP pair that of its pointer register.
abbrev pub pair_ring : ℕ → ℕ → ℕ → ℕ
pair_ring trr r1 named = max (max trr r1) named

-- the result for the number of a pointer register that does not exist
abbrev pub no_ptr : PtrFields
no_ptr = record { seg = 0; ring = 0; word = 0; bit = 0 }

-- pointer register n
abbrev pub ptr : RegsFields → ℕ → PtrFields
ptr g n = slice_index_or g.pr n no_ptr

-- The value of the register that Td names: none (0), au, qu, ic, al, ql, x0 to x7. Td 3 and 7, du
-- and dl, name no register but a direct operand.
unfoldable pub modifier_value : RegsFields → ℕ → ℕ
modifier_value g td =
    if td == 0 then 0
    else if td == 1 then field g.a 0 18
    else if td == 2 then field g.q 0 18
    else if td == 4 then g.ppr.ic
    else if td == 5 then field g.a 18 18
    else if td == 6 then field g.q 18 18
    else slice_index g.x (td - 8)

-- Td of DU: the direct operand is in bits 0 to 17 of a word
abbrev pub direct_upper : ℕ
direct_upper = 3

-- Td of DL: the direct operand is in bits 18 to 35 of a word
abbrev pub direct_lower : ℕ
direct_lower = 7

-- whether Td is du or dl
abbrev pub is_direct : ℕ → Bool
is_direct td = (td == direct_upper) || (td == direct_lower)

-- what the tag of a point does
pub data Move : Type 0 where
  -- the chain ends here
  Ends : FinalFields → Move
  -- a fault or a stop; no word is read
  Fails : Halt → Move
  -- the indirect word at this word number is read, and this register is held from then on
  Reads : (word : ℕ) → (held : Option ℕ) → Move
  -- the tally word at y is read
  Counts : Move

-- a word of the point's segment, referenced in the ring of the point
abbrev pub at_point : Point → ℕ → AtFields
at_point p word = record { seg = p.seg; word = word; ring = p.ring }

-- the final address at a word of the point's segment, with a direct operand or without
abbrev pub final_at : Point → ℕ → Option ℕ → FinalFields
final_at p word direct = record { at = at_point p word; bit = p.bit; direct = direct }

-- the chain ends at this word of the point's segment
abbrev pub ends_at : Point → ℕ → Move
ends_at p word = Ends (final_at p word None)

-- the chain ends with a direct operand; its address is that of the point itself
abbrev pub ends_direct : Point → ℕ → Move
ends_direct p operand = Ends (final_at p p.y (Some operand))

-- Register modification (R). If a register is held, the chain ends at y plus that register, and Td
-- is not used. Otherwise du ends it with y as bits 0 to 17 of a direct operand, dl with y as bits
-- 18 to 35, and any other Td ends it at y plus the register that Td names.
abbrev pub move_register : RegsFields → Point → ℕ → Option ℕ → Move
move_register g p td (Some held) = ends_at p ((p.y + held) % 2 ^ 18)
move_register g p td None =
    if td == direct_upper then ends_direct p (p.y * 2 ^ 18)
    else if td == direct_lower then ends_direct p p.y
    else ends_at p ((p.y + modifier_value g td) % 2 ^ 18)

-- Reads the indirect word at this word number; `held` is the register that is held from then on. A
-- modification by du or dl is an illegal procedure (this project's choice).
abbrev pub reads_unless_direct : RegsFields → ℕ → ℕ → Option ℕ → Move
reads_unless_direct g td word held =
    if is_direct td then Fails (halt_here illegal_procedure g) else Reads word held

-- Register then indirect (RI). The indirect word is at y plus the register. A held register is
-- kept.
abbrev pub move_register_then_indirect : RegsFields → Point → ℕ → Move
move_register_then_indirect g p td =
    reads_unless_direct g td ((p.y + modifier_value g td) % 2 ^ 18) p.held

-- Indirect then register (IR). The indirect word is at y. The register is held, in place of any
-- earlier one; Td 0 holds the value 0.
abbrev pub move_indirect_then_register : RegsFields → Point → ℕ → Move
move_indirect_then_register g p td = reads_unless_direct g td p.y (Some (modifier_value g td))

-- Td of fault tag 1, which has Tm IT
abbrev pub first_fault_tag : ℕ
first_fault_tag = 0o0

-- Td of fault tag 2
abbrev pub second_fault_tag : ℕ
second_fault_tag = 0o6

-- Td of fault tag 3
abbrev pub third_fault_tag : ℕ
third_fault_tag = 0o7

-- whether Td is that of the tag ITP or ITS; these tags have Tm IT too
abbrev pub is_pair_tag : ℕ → Bool
is_pair_tag td = (td == itp_tag % 16) || (td == its_tag % 16)

-- Indirect then tally (IT). Fault tags 1, 2 and 3 (octal 40, 46, 47) are faults at the word that
-- carried the tag. The tags ITP and ITS (41, 43) mean a pair only in an even word that RI or IR has
-- read; here they are an illegal procedure (this project's choice). SD, I, AD, DI and ID (44, 51,
-- 53, 54, 56) read a tally word. The other tags stop the machine.
abbrev pub move_indirect_then_tally : RegsFields → Point → ℕ → Move
move_indirect_then_tally g p td =
    if td == first_fault_tag then Fails (halt_at fault_tag_1 p.carrier)
    else if td == second_fault_tag then Fails (halt_at fault_tag_2 p.carrier)
    else if td == third_fault_tag then Fails (halt_at fault_tag_3 p.carrier)
    else if is_pair_tag td then Fails (halt_here illegal_procedure g)
    else if is_tally_tag td then Counts
    else Fails (halt.Stop stop.Tag)

-- What the tag of a point does. Its first two bits are Tm (R, RI, IT, IR), the other four are Td.
unfoldable pub move_of_point : RegsFields → Point → Move
move_of_point g p =
    let tm = p.tag / 16 in
    let td = p.tag % 16 in
    if tm == 0 then move_register g p td p.held
    else if tm == 1 then move_register_then_indirect g p td
    else if tm == 2 then move_indirect_then_tally g p td
    else move_indirect_then_register g p td
