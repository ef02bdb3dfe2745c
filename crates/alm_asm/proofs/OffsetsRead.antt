-- The offset after a pointer register, as the machine reads it.
use Rattle.std.proofs.Common.{ℕ, ◌≡◌, ◌+◌, ◌-◌, ◌*◌, ◌%◌, ◌^◌, ◌<◌, ◌≤◌, cond, ltb, leb, ap, ◌∙◌, inl, inr, arith}
use Rattle.std.proofs.lemmas.Bool.{and_parts, leb-true, lt-ltb, le-ltb, cond-true, cond-false, cases_lt}
use Rattle.alm_lines.specs.Sums.{half_of, offset_of}
use Rattle.alm_lines.specs.declared.sum.Balance.{Balance}
use Rattle.alm_asm.specs.Laws.{OffsetsAreRead}

-- ---- bits 3 to 17

pub offset_below : (b : Balance) → offset_of b < 2 ^ 15
unfolding offset_of
offset_below b = omega arith

-- they are the offset, after the number of the register
pub offset_kept : (pr offset : ℕ) → offset < 2 ^ 15 → (pr % 2 ^ 3 * 2 ^ 15 + offset) % 2 ^ 15 ≡ offset
offset_kept pr offset lt = omega arith

-- ---- a number modulo 2^15 and modulo 2^18

-- of a number d
offset_more : (up down d : ℕ) → up ≡ down + d → d < 2 ^ 15 → (up % 2 ^ 15 + (2 ^ 15 - down % 2 ^ 15)) % 2 ^ 15 ≡ d
offset_more up down d is lt = omega arith

half_more : (up down d : ℕ) → up ≡ down + d → d < 2 ^ 18 → (up % 2 ^ 18 + (2 ^ 18 - down % 2 ^ 18)) % 2 ^ 18 ≡ d
half_more up down d is lt = omega arith

-- of one that is d below zero
offset_less : (up down d : ℕ) → down ≡ up + d → 0 < d → d ≤ 2 ^ 15 → (up % 2 ^ 15 + (2 ^ 15 - down % 2 ^ 15)) % 2 ^ 15 + d ≡ 2 ^ 15
offset_less up down d is some few = omega arith

half_less : (up down d : ℕ) → down ≡ up + d → 0 < d → d ≤ 2 ^ 18 → (up % 2 ^ 18 + (2 ^ 18 - down % 2 ^ 18)) % 2 ^ 18 + d ≡ 2 ^ 18
half_less up down d is some few = omega arith

-- ---- reading of the bits

-- below the limit the number itself, and from there on less 2^15
low_read : (n : ℕ) → n < 16384 → cond (ltb n 16384) n (n + 7 * 2 ^ 15) ≡ n
low_read n lt = cond-true (ltb n 16384) n (n + 7 * 2 ^ 15) (lt-ltb n 16384 lt)

high_read : (n : ℕ) → 16384 ≤ n → cond (ltb n 16384) n (n + 7 * 2 ^ 15) ≡ n + 7 * 2 ^ 15
high_read n le = cond-false (ltb n 16384) n (n + 7 * 2 ^ 15) (le-ltb n 16384 le)

more_read : (n d half : ℕ) → n ≡ d → half ≡ d → d ≤ 16383 → cond (ltb n 16384) n (n + 7 * 2 ^ 15) ≡ half
more_read n d half bits whole few = low_read n (omega arith) ∙ (let k : n ≡ half = omega arith in k)

less_read : (n d half : ℕ) → n + d ≡ 2 ^ 15 → half + d ≡ 2 ^ 18 → d ≤ 16384 → cond (ltb n 16384) n (n + 7 * 2 ^ 15) ≡ half
less_read n d half bits whole few = high_read n (omega arith) ∙ (let k : n + 7 * 2 ^ 15 ≡ half = omega arith in k)

-- as the number that they encode
read_back : (n up down : ℕ) → n ≡ (up % 2 ^ 15 + (2 ^ 15 - down % 2 ^ 15)) % 2 ^ 15 → down - up ≤ 16384 → up - down ≤ 16383
    → cond (ltb n 16384) n (n + 7 * 2 ^ 15) ≡ (up % 2 ^ 18 + (2 ^ 18 - down % 2 ^ 18)) % 2 ^ 18
read_back n up down is low high =
    let half : ℕ = (up % 2 ^ 18 + (2 ^ 18 - down % 2 ^ 18)) % 2 ^ 18 in
    elim (cases_lt up down) [
      | inl less ↦
          let below : down ≡ up + (down - up) = omega (arith, less) in
          let some : 0 < down - up = omega (arith, less) in
          less_read n (down - up) half (ap (λ k. k + (down - up)) is ∙ offset_less up down (down - up) below some (omega (arith, low)))
          (half_less up down (down - up) below some (omega (arith, low))) low
      | inr more ↦
          let above : up ≡ down + (up - down) = omega (arith, more) in
          more_read n (up - down) half (is ∙ offset_more up down (up - down) above (omega (arith, high)))
          (half_more up down (up - down) above (omega (arith, high))) high
    ]

pub offsets_are_read : OffsetsAreRead
unfolding half_of offset_of
offsets_are_read code bit27 pr tag b fits =
    let room = and_parts (leb (b.down - b.up) 16384) (leb (b.up - b.down) 16383) fits in
    let low : b.down - b.up ≤ 16384 = leb-true (b.down - b.up) 16384 room.0 in
    let high : b.up - b.down ≤ 16383 = leb-true (b.up - b.down) 16383 room.1 in
    read_back ((pr % 2 ^ 3 * 2 ^ 15 + offset_of b) % 2 ^ 15) b.up b.down (offset_kept pr (offset_of b) (offset_below b)) low high
