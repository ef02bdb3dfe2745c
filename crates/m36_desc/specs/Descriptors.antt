-- Descriptors in their words. Each record is read from the fields of its words, and its words are
-- the sums of its fields, each shifted to its bits. Every bit that has no name is written as zero.
--
-- Multics Processor Manual AL39, "Segment descriptor word", "Page table word", "Descriptor segment
-- base register", "Indirect word formats" and "Pointer registers".
use Rattle.std.specs.Prelude.{ℕ, ◌+◌, ◌-◌, ◌*◌, ◌^◌, ◌==◌, if◌then◌else◌}
use Rattle.m36_word.specs.Field.{field}
use Rattle.m36_word.specs.Bits.{is_on, of_bit}
use Rattle.m36_word.specs.declared.pair.Pair.{Pair}
use Rattle.m36_desc.specs.Fields.{SdwFields, PtwFields, DbrFields, PtrFields, ItsFields, ItpFields}

-- Segment descriptor word. Even word: ADDR 0-23, R1 24-26, R2 27-29, R3 30-32, F 33, FC 34-35.
-- Odd word: BOUND 1-14, R 15, E 16, W 17, P 18, U 19, G 20, C 21, CL 22-35.
abbrev pub sdw_of : ℕ → ℕ → SdwFields
sdw_of even odd =
    record {
      addr = field even 0 24;
      r1 = field even 24 3;
      r2 = field even 27 3;
      r3 = field even 30 3;
      f = is_on even 33;
      fc = field even 34 2;
      bound = field odd 1 14;
      readable = is_on odd 15;
      executable = is_on odd 16;
      writable = is_on odd 17;
      privileged = is_on odd 18;
      unpaged = is_on odd 19;
      no_gate = is_on odd 20;
      cached = is_on odd 21;
      limit = field odd 22 14;
    }

-- the even word of a segment descriptor
abbrev pub sdw_even : SdwFields → ℕ
sdw_even s =
    s.addr * 2 ^ 12 + s.r1 * 2 ^ 9 + s.r2 * 2 ^ 6 + s.r3 * 2 ^ 3 + of_bit s.f * 2 ^ 2 + s.fc

-- the odd word of a segment descriptor
abbrev pub sdw_odd : SdwFields → ℕ
sdw_odd s =
    s.bound * 2 ^ 21 + of_bit s.readable * 2 ^ 20 + of_bit s.executable * 2 ^ 19
    + of_bit s.writable * 2 ^ 18 + of_bit s.privileged * 2 ^ 17 + of_bit s.unpaged * 2 ^ 16
    + of_bit s.no_gate * 2 ^ 15 + of_bit s.cached * 2 ^ 14 + s.limit

-- Page table word: ADDR 0-17, used 26, modified 29, F 33, FC 34-35.
abbrev pub ptw_of : ℕ → PtwFields
ptw_of w =
    record {
      addr = field w 0 18;
      used = is_on w 26;
      modified = is_on w 29;
      f = is_on w 33;
      fc = field w 34 2;
    }

-- the page table word with these fields
abbrev pub ptw_word : PtwFields → ℕ
ptw_word p =
    p.addr * 2 ^ 18 + of_bit p.used * 2 ^ 9 + of_bit p.modified * 2 ^ 6 + of_bit p.f * 2 ^ 2 + p.fc

-- Descriptor segment base register. Even word: ADDR 0-23. Odd word: BND 1-14, U 19, STACK 24-35.
abbrev pub dbr_of : ℕ → ℕ → DbrFields
dbr_of even odd =
    record {
      addr = field even 0 24;
      bnd = field odd 1 14;
      unpaged = is_on odd 19;
      stack = field odd 24 12;
    }

-- the even word of the pair that stores the DBR
abbrev pub dbr_even : DbrFields → ℕ
dbr_even d = d.addr * 2 ^ 12

-- the odd word of the pair that stores the DBR
abbrev pub dbr_odd : DbrFields → ℕ
dbr_odd d = d.bnd * 2 ^ 21 + of_bit d.unpaged * 2 ^ 16 + d.stack

-- the word number in the odd word of an ITS or ITP pair: WORDNO 0-17
abbrev pub wordno_of : ℕ → ℕ
wordno_of odd = field odd 0 18

-- the bit number in the odd word of an ITS or ITP pair: BITNO 21-26
abbrev pub bitno_of : ℕ → ℕ
bitno_of odd = field odd 21 6

-- the tag of an indirect word, and of either word of a pair: bits 30-35
abbrev pub tag_of : ℕ → ℕ
tag_of w = field w 30 6

-- the odd word of an ITS or ITP pair with these fields
abbrev pub odd_word_of_pair : ℕ → ℕ → ℕ → ℕ
odd_word_of_pair number bit tag = number * 2 ^ 18 + bit * 2 ^ 9 + tag

-- the tag of ITS, in bits 30 to 35 of the even word of an ITS pair (indirect to segment)
abbrev pub its_tag : ℕ
its_tag = 0o43

-- the segment number in the even word of an ITS pair: SEGNO 3-17
abbrev pub segno_of : ℕ → ℕ
segno_of even = field even 3 15

-- the ring number in the even word of an ITS pair: RNR 18-20
abbrev pub rnr_of : ℕ → ℕ
rnr_of even = field even 18 3

-- the fields of an ITS pair, from its two words
abbrev pub its_of : ℕ → ℕ → ItsFields
its_of even odd =
    record {
      seg = segno_of even;
      ring = rnr_of even;
      word = wordno_of odd;
      bit = bitno_of odd;
      tag = tag_of odd;
    }

-- the even word of an ITS pair
abbrev pub its_even : ItsFields → ℕ
its_even p = p.seg * 2 ^ 18 + p.ring * 2 ^ 15 + its_tag

-- the odd word of an ITS pair
abbrev pub its_odd : ItsFields → ℕ
its_odd p = odd_word_of_pair p.word p.bit p.tag

-- the ITS pair of these fields
abbrev pub its_pair : ItsFields → Pair
its_pair p = record { even = its_even p; odd = its_odd p }

-- Indirect through a pointer register (ITP). Even word: PRNUM 0-2, tag 41 octal in 30-35.
abbrev pub itp_tag : ℕ
itp_tag = 0o41

-- the fields of an ITP pair, from its two words
abbrev pub itp_of : ℕ → ℕ → ItpFields
itp_of even odd =
    record {
      pr = field even 0 3;
      word = wordno_of odd;
      bit = bitno_of odd;
      tag = tag_of odd;
    }

-- the even word of an ITP pair
abbrev pub itp_even : ItpFields → ℕ
itp_even p = p.pr * 2 ^ 33 + itp_tag

-- the odd word of an ITP pair
abbrev pub itp_odd : ItpFields → ℕ
itp_odd p = odd_word_of_pair p.word p.bit p.tag

-- Pointer register. It is stored as the ITS pair of its fields with tag 0 in the odd word.
abbrev pub ptr_of : ℕ → ℕ → PtrFields
ptr_of even odd =
    record {
      seg = segno_of even;
      ring = rnr_of even;
      word = wordno_of odd;
      bit = bitno_of odd;
    }

-- the ITS pair that stores a pointer register
abbrev pub its_of_ptr : PtrFields → ItsFields
its_of_ptr p = record { seg = p.seg; ring = p.ring; word = p.word; bit = p.bit; tag = 0 }

-- the even word of the ITS pair that stores a pointer register
abbrev pub ptr_even : PtrFields → ℕ
ptr_even p = its_even (its_of_ptr p)

-- the odd word of the ITS pair that stores a pointer register
abbrev pub ptr_odd : PtrFields → ℕ
ptr_odd p = its_odd (its_of_ptr p)

-- Packed pointer: BITNO 0-5, SEGNO 6-17, WORDNO 18-35. It has 12 bits of the segment number. The
-- upper three are ones if all twelve are ones, and otherwise zeros.
abbrev pub unpacked_segment : ℕ → ℕ
unpacked_segment seg = if seg == 2 ^ 12 - 1 then 2 ^ 15 - 1 else seg

-- the pointer that a packed pointer encodes, in a given ring, since it has no ring of its own
abbrev pub pointer_of_packed : ℕ → ℕ → PtrFields
pointer_of_packed w ring =
    record {
      seg = unpacked_segment (field w 6 12);
      ring = ring;
      word = field w 18 18;
      bit = field w 0 6;
    }

-- the packed pointer to bit 0 of a word, for a segment number below 2^12 - 1
abbrev pub packed_word : ℕ → ℕ → ℕ
packed_word seg word = seg * 2 ^ 18 + word
