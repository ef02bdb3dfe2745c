-- A record that is written to words is read back: first each field, and then the record.
use Rattle.std.proofs.Common.{◌≡◌, ℕ, ◌-◌, ◌^◌, ◌<◌, ◌≤◌, ◌==◌, false, arith, ap, ◌∙◌}
use Rattle.std.proofs.lemmas.Bool.{cond-false, ne_eqb}
use Rattle.m36_word.specs.Field.{field}
use Rattle.m36_word.proofs.BitLaws.{bit_small, bit_back}
use Rattle.m36_desc.specs.Fields.{SdwFields}
use Rattle.m36_desc.specs.Widths.{IsSdw}
use Rattle.m36_desc.specs.Descriptors.{sdw_of, sdw_even, sdw_odd, ptw_of, ptw_word, dbr_of, dbr_even, dbr_odd, ptr_of, ptr_even, ptr_odd, its_of, its_even, its_odd, itp_of, itp_even, itp_odd, pointer_of_packed, packed_word, unpacked_segment}
use Rattle.m36_desc.specs.RoundTrips.{SdwRoundTrip, PtwRoundTrip, DbrRoundTrip, PtrRoundTrip, ItsRoundTrip, ItpRoundTrip, EvenTags, PackedRoundTrip}

pub sdw_back : SdwRoundTrip
sdw_back s h =
    let f_small = bit_small s.f in
    let readable_small = bit_small s.readable in
    let executable_small = bit_small s.executable in
    let writable_small = bit_small s.writable in
    let privileged_small = bit_small s.privileged in
    let unpaged_small = bit_small s.unpaged in
    let no_gate_small = bit_small s.no_gate in
    let cached_small = bit_small s.cached in
    let r = sdw_of (sdw_even s) (sdw_odd s) in
    let addr_back : r.addr ≡ s.addr = omega arith in
    let r1_back : r.r1 ≡ s.r1 = omega arith in
    let r2_back : r.r2 ≡ s.r2 = omega arith in
    let r3_back : r.r3 ≡ s.r3 = omega arith in
    let fc_back : r.fc ≡ s.fc = omega arith in
    let bound_back : r.bound ≡ s.bound = omega arith in
    let limit_back : r.limit ≡ s.limit = omega arith in
    let f_back : r.f ≡ s.f = bit_back s.f _ (omega arith) in
    let readable_back : r.readable ≡ s.readable = bit_back s.readable _ (omega arith) in
    let executable_back : r.executable ≡ s.executable = bit_back s.executable _ (omega arith) in
    let writable_back : r.writable ≡ s.writable = bit_back s.writable _ (omega arith) in
    let privileged_back : r.privileged ≡ s.privileged = bit_back s.privileged _ (omega arith) in
    let unpaged_back : r.unpaged ≡ s.unpaged = bit_back s.unpaged _ (omega arith) in
    let no_gate_back : r.no_gate ≡ s.no_gate = bit_back s.no_gate _ (omega arith) in
    let cached_back : r.cached ≡ s.cached = bit_back s.cached _ (omega arith) in
    λ i. record { addr = addr_back i; r1 = r1_back i; r2 = r2_back i; r3 = r3_back i; fc = fc_back i; bound = bound_back i; limit = limit_back i; f = f_back i; readable = readable_back i; executable = executable_back i; writable = writable_back i; privileged = privileged_back i; unpaged = unpaged_back i; no_gate = no_gate_back i; cached = cached_back i }

pub ptw_back : PtwRoundTrip
ptw_back p h =
    let used_small = bit_small p.used in
    let modified_small = bit_small p.modified in
    let f_small = bit_small p.f in
    let r = ptw_of (ptw_word p) in
    let addr_back : r.addr ≡ p.addr = omega arith in
    let fc_back : r.fc ≡ p.fc = omega arith in
    let used_back : r.used ≡ p.used = bit_back p.used _ (omega arith) in
    let modified_back : r.modified ≡ p.modified = bit_back p.modified _ (omega arith) in
    let f_back : r.f ≡ p.f = bit_back p.f _ (omega arith) in
    λ i. record { addr = addr_back i; fc = fc_back i; used = used_back i; modified = modified_back i; f = f_back i }

pub dbr_back : DbrRoundTrip
dbr_back d h =
    let unpaged_small = bit_small d.unpaged in
    let r = dbr_of (dbr_even d) (dbr_odd d) in
    let addr_back : r.addr ≡ d.addr = omega arith in
    let bnd_back : r.bnd ≡ d.bnd = omega arith in
    let stack_back : r.stack ≡ d.stack = omega arith in
    let unpaged_back : r.unpaged ≡ d.unpaged = bit_back d.unpaged _ (omega arith) in
    λ i. record { addr = addr_back i; bnd = bnd_back i; stack = stack_back i; unpaged = unpaged_back i }

pub ptr_back : PtrRoundTrip
ptr_back p h =
    let r = ptr_of (ptr_even p) (ptr_odd p) in
    let seg_back : r.seg ≡ p.seg = omega arith in
    let ring_back : r.ring ≡ p.ring = omega arith in
    let word_back : r.word ≡ p.word = omega arith in
    let bit_back : r.bit ≡ p.bit = omega arith in
    λ i. record { seg = seg_back i; ring = ring_back i; word = word_back i; bit = bit_back i }

pub its_back : ItsRoundTrip
its_back p h =
    let r = its_of (its_even p) (its_odd p) in
    let seg_back : r.seg ≡ p.seg = omega arith in
    let ring_back : r.ring ≡ p.ring = omega arith in
    let word_back : r.word ≡ p.word = omega arith in
    let bit_back : r.bit ≡ p.bit = omega arith in
    let tag_back : r.tag ≡ p.tag = omega arith in
    λ i. record { seg = seg_back i; ring = ring_back i; word = word_back i; bit = bit_back i; tag = tag_back i }

pub itp_back : ItpRoundTrip
itp_back p h =
    let r = itp_of (itp_even p) (itp_odd p) in
    let pr_back : r.pr ≡ p.pr = omega arith in
    let word_back : r.word ≡ p.word = omega arith in
    let bit_back : r.bit ≡ p.bit = omega arith in
    let tag_back : r.tag ≡ p.tag = omega arith in
    λ i. record { pr = pr_back i; word = word_back i; bit = bit_back i; tag = tag_back i }

pub even_tags : EvenTags
even_tags = record { its = λ p. omega arith; itp = λ p. omega arith }

own_segment : (s : ℕ) → s < 2 ^ 12 - 1 → unpacked_segment s ≡ s
own_segment s h = cond-false (s == 2 ^ 12 - 1) (2 ^ 15 - 1) s (ne_eqb s (2 ^ 12 - 1) (λ e. absurd (omega (arith, e, h))))

pub packed_back : PackedRoundTrip
packed_back seg word ring in_seg in_word =
    let r = pointer_of_packed (packed_word seg word) ring in
    let field_back : field (packed_word seg word) 6 12 ≡ seg = omega (arith, in_seg, in_word) in
    let seg_back : r.seg ≡ seg = ap unpacked_segment field_back ∙ own_segment seg in_seg in
    let word_back : r.word ≡ word = omega (arith, in_word) in
    let bit_back : r.bit ≡ 0 = omega (arith, in_seg, in_word) in
    λ i. record { seg = seg_back i; ring = ring; word = word_back i; bit = bit_back i }

-- as `sdw_back`, for words that are known to be those of the descriptor
pub sdw_read : (even odd : ℕ) (s : SdwFields) → IsSdw s → even ≡ sdw_even s → odd ≡ sdw_odd s → sdw_of even odd ≡ s
sdw_read even odd s h e o = rw (e, o) (sdw_back s h)
