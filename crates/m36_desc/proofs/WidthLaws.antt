-- The widths of fields that are read from words, and of words that are written.
use Rattle.std.proofs.Common.{ℕ, ◌<◌, ◌-◌, ◌/◌, ◌%◌, ◌^◌, Bool, true, false, arith, if◌then◌else◌}
use Rattle.m36_desc.specs.Widths.{SdwFits, PtwFits, DbrFits, PtrFits, ItsFits, ItpFits, PackedFits, SdwWords, PtwWords, DbrWords, PtrWords, ItsWords, ItpWords}
use Rattle.m36_word.proofs.BitLaws.{bit_small}

pub sdw_fits : SdwFits
sdw_fits even odd = record { addr = omega arith; r1 = omega arith; r2 = omega arith; r3 = omega arith; fc = omega arith; bound = omega arith; limit = omega arith }

pub ptw_fits : PtwFits
ptw_fits w = record { addr = omega arith; fc = omega arith }

pub dbr_fits : DbrFits
dbr_fits even odd = record { addr = omega arith; bnd = omega arith; stack = omega arith }

pub ptr_fits : PtrFits
ptr_fits even odd = record { seg = omega arith; ring = omega arith; word = omega arith; bit = omega arith }

pub its_fits : ItsFits
its_fits even odd = record { seg = omega arith; ring = omega arith; word = omega arith; bit = omega arith; tag = omega arith }

pub itp_fits : ItpFits
itp_fits even odd = record { pr = omega arith; word = omega arith; bit = omega arith; tag = omega arith }

segment_fits : (b : Bool) (s : ℕ) → s < 2 ^ 12 → (if b then 2 ^ 15 - 1 else s) < 2 ^ 15
segment_fits true s h = omega arith
segment_fits false s h = omega arith

pub packed_fits : PackedFits
packed_fits w ring h =
    record { seg = segment_fits _ (w / 2 ^ 18 % 2 ^ 12) (omega arith); ring = h; word = omega arith; bit = omega arith }

pub sdw_words : SdwWords
sdw_words s h =
    let f_small = bit_small s.f in
    let readable_small = bit_small s.readable in
    let executable_small = bit_small s.executable in
    let writable_small = bit_small s.writable in
    let privileged_small = bit_small s.privileged in
    let unpaged_small = bit_small s.unpaged in
    let no_gate_small = bit_small s.no_gate in
    let cached_small = bit_small s.cached in
    record { even = omega arith; odd = omega arith }

pub ptw_words : PtwWords
ptw_words p h =
    let used_small = bit_small p.used in
    let modified_small = bit_small p.modified in
    let f_small = bit_small p.f in
    omega arith

pub dbr_words : DbrWords
dbr_words d h =
    let unpaged_small = bit_small d.unpaged in
    record { even = omega arith; odd = omega arith }

pub ptr_words : PtrWords
ptr_words p h =
    record { even = omega arith; odd = omega arith }

pub its_words : ItsWords
its_words p h =
    record { even = omega arith; odd = omega arith }

pub itp_words : ItpWords
itp_words p h =
    record { even = omega arith; odd = omega arith }

pub ruleset widths = (sdw_fits, ptw_fits, dbr_fits, ptr_fits, its_fits, itp_fits, packed_fits, sdw_words, ptw_words, dbr_words, ptr_words, its_words, itp_words)
