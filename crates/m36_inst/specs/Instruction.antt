-- Instruction words. Multics Processor Manual AL39, "Machine instruction format": address 0-17,
-- operation code 18-26 with bit 27, interrupt inhibit 28, pointer register flag 29, tag 30-35.
use Rattle.std.specs.Prelude.{ℕ, ◌+◌, ◌*◌, ◌/◌, ◌%◌, ◌^◌, ◌<◌, ◌≡◌, nat_lt, if◌then◌else◌}
use Rattle.m36_word.specs.Field.{field, offset_limit}
use Rattle.m36_word.specs.Bits.{is_on, of_bit}
use Rattle.m36_inst.specs.Fields.{InstFields, IsInst}

-- the fields of an instruction word
abbrev pub inst_of : ℕ → InstFields
inst_of w =
    record {
      y = field w 0 18;
      code = field w 18 9;
      bit27 = is_on w 27;
      inhibit = is_on w 28;
      by_pr = is_on w 29;
      tag = field w 30 6;
    }

-- the instruction word with these fields
abbrev pub inst_word : InstFields → ℕ
inst_word i =
    i.y * 2 ^ 18 + i.code * 2 ^ 9 + of_bit i.bit27 * 2 ^ 8 + of_bit i.inhibit * 2 ^ 7
    + of_bit i.by_pr * 2 ^ 6 + i.tag

-- the number of the pointer register to which an address is relative: its bits 0-2
abbrev pub pr_number : InstFields → ℕ
pr_number i = i.y / 2 ^ 15

-- the offset from a pointer register, unsigned: bits 3-17 of the address
abbrev pub offset_field : InstFields → ℕ
offset_field i = i.y % 2 ^ 15

-- the offset in two's complement, as a word number modulo 2^18
abbrev pub pr_offset : InstFields → ℕ
pr_offset i =
    let offset = offset_field i in
    if nat_lt offset offset_limit then offset else offset + 7 * 2 ^ 15

-- An instruction whose fields are within their widths is read back unchanged from its word.
abbrev pub InstRoundTrip : Type 0
InstRoundTrip = (i : InstFields) → IsInst i → inst_of (inst_word i) ≡ i

-- A word is written back unchanged from the instruction that is read from it.
abbrev pub WordRoundTrip : Type 0
WordRoundTrip = (w : ℕ) → w < 2 ^ 36 → inst_word (inst_of w) ≡ w
