-- Instructions and their words, both ways.
use Rattle.std.proofs.Common.{◌≡◌, ℕ, ◌≤◌, ◌<◌, zero, suc, ◌/◌, ◌%◌, ◌==◌, ◌^◌, refl, arith}
use Rattle.m36_word.specs.Bits.{of_bit}
use Rattle.m36_word.proofs.BitLaws.{bit_small, bit_back}
use Rattle.m36_inst.specs.Instruction.{inst_of, inst_word, InstRoundTrip, WordRoundTrip}

pub inst_back : InstRoundTrip
inst_back i h =
    let bit27_small = bit_small i.bit27 in
    let inhibit_small = bit_small i.inhibit in
    let by_pr_small = bit_small i.by_pr in
    let r = inst_of (inst_word i) in
    let y_back : r.y ≡ i.y = omega arith in
    let code_back : r.code ≡ i.code = omega arith in
    let tag_back : r.tag ≡ i.tag = omega arith in
    let bit27_back : r.bit27 ≡ i.bit27 = bit_back i.bit27 _ (omega arith) in
    let inhibit_back : r.inhibit ≡ i.inhibit = bit_back i.inhibit _ (omega arith) in
    let by_pr_back : r.by_pr ≡ i.by_pr = bit_back i.by_pr _ (omega arith) in
    λ i. record { y = y_back i; code = code_back i; tag = tag_back i; bit27 = bit27_back i; inhibit = inhibit_back i; by_pr = by_pr_back i }

-- a bit as a number is that bit
bit_number : (n : ℕ) → n < 2 → of_bit (n == 1) ≡ n
bit_number zero h = refl
bit_number (suc zero) h = refl
bit_number (suc (suc n)) h = absurd (omega arith)

pub word_back : WordRoundTrip
word_back w h =
    let bit27 = bit_number (w / 2 ^ 8 % 2) (omega arith) in
    let inhibit = bit_number (w / 2 ^ 7 % 2) (omega arith) in
    let by_pr = bit_number (w / 2 ^ 6 % 2) (omega arith) in
    omega arith

pub ruleset comes_back = (inst_back, word_back)
