-- The parts of a word one of which is relocated.
use Rattle.std.proofs.Common.{ℕ, zero, suc, ◌≡◌, ◌+◌, ◌*◌, ◌/◌, ◌%◌, ◌^◌, ◌<◌, ◌≤◌, Bool, false, cond, ◌&&◌, ◌||◌, eqb, refl, sym, ap, ◌∙◌, arith, true≢false}
use Rattle.std.proofs.lemmas.Bool.{ne_eqb, cond-false}
use Rattle.obj36_parts.specs.Fields.{RelocFields}
use Rattle.obj36_parts.specs.Halves.{left, right, bits_3_to_17, word_with_halves}
use Rattle.obj36_parts.specs.ObjectSegment.{part_of}
use Rattle.m36_word.specs.Field.{field}
use Rattle.obj36_parts.specs.declared.section.Section.{Section}
use Rattle.m36_relocate.specs.Layout.{relocated_number}
use Rattle.m36_relocate.specs.Words.{with_offset, biased_offset, relocated_word}
use Rattle.m36_relocate.specs.declared.layout.Relocation.{Relocation}

-- whether two parts of a word have bits in common
abbrev pub overlap : ℕ → ℕ → Bool
overlap j k = eqb j k || (eqb j 0 && eqb k 2) || (eqb j 2 && eqb k 0)

left_is : (l r : ℕ) → left (word_with_halves l r) ≡ l % 2 ^ 18
unfolding left word_with_halves
left_is l r = omega arith

right_is : (l r : ℕ) → right (word_with_halves l r) ≡ r % 2 ^ 18
unfolding right word_with_halves
right_is l r = omega arith

pub joined_below : (l r : ℕ) → word_with_halves l r < 2 ^ 36
unfolding word_with_halves
joined_below l r = omega arith

left_back : (w v : ℕ) → w < 2 ^ 36 → left (word_with_halves (left w) v) ≡ left w
unfolding left word_with_halves
left_back w v small = omega arith

left_below : (w : ℕ) → w < 2 ^ 36 → left w < 2 ^ 18
unfolding left
left_below w small = omega arith

right_back : (w v : ℕ) → right (word_with_halves v (right w)) ≡ right w
unfolding right word_with_halves
right_back w v = omega arith

-- ---- a word with another part

-- a number that is stored in a part
pub put_in : ℕ → ℕ → ℕ → ℕ
put_in zero w v = word_with_halves v (right w)
put_in (suc zero) w v = word_with_halves (left w) v
put_in (suc (suc n)) w v = with_offset w v

-- the number that is then in the part
unfoldable pub cut_to : ℕ → ℕ → ℕ
cut_to zero v = v % 2 ^ 18
cut_to (suc zero) v = v % 2 ^ 18
cut_to (suc (suc n)) v = v % 2 ^ 15

pub put_below : (n w v : ℕ) → put_in n w v < 2 ^ 36
unfolding put_in with_offset
put_below zero w v = joined_below v (right w)
put_below (suc zero) w v = joined_below (left w) v
put_below (suc (suc n)) w v = joined_below (left w / 2 ^ 15 * 2 ^ 15 + v % 2 ^ 15) (right w)

later_part : (n w : ℕ) → part_of (suc (suc n)) w ≡ bits_3_to_17 w
unfolding part_of
later_part n w =
    cond-false (eqb (suc (suc n)) 0) (left w) (cond (eqb (suc (suc n)) 1) (right w) (bits_3_to_17 w)) (ne_eqb (suc (suc n)) 0 (λ same. absurd (omega (arith, same))))
    ∙ cond-false (eqb (suc (suc n)) 1) (right w) (bits_3_to_17 w) (ne_eqb (suc (suc n)) 1 (λ same. absurd (omega (arith, same))))

pub put_got : (n w v : ℕ) → part_of n (put_in n w v) ≡ cut_to n v
unfolding put_in cut_to part_of with_offset bits_3_to_17
put_got zero w v = left_is v (right w)
put_got (suc zero) w v = right_is (left w) v
put_got (suc (suc n)) w v =
    let l : left (word_with_halves (left w / 2 ^ 15 * 2 ^ 15 + v % 2 ^ 15) (right w)) ≡ (left w / 2 ^ 15 * 2 ^ 15 + v % 2 ^ 15) % 2 ^ 18 =
    left_is (left w / 2 ^ 15 * 2 ^ 15 + v % 2 ^ 15) (right w) in
    later_part n (with_offset w v) ∙ (let k : bits_3_to_17 (with_offset w v) ≡ v % 2 ^ 15 = omega (arith, l) in k)

pub put_kept : (n k w v : ℕ) → n ≤ 2 → k ≤ 2 → overlap n k ≡ false → w < 2 ^ 36 → part_of k (put_in n w v) ≡ part_of k w
unfolding put_in part_of with_offset bits_3_to_17
put_kept zero zero w v a b apart small = absurd (true≢false apart)
put_kept zero (suc zero) w v a b apart small = right_back w v
put_kept zero (suc (suc zero)) w v a b apart small = absurd (true≢false apart)
put_kept (suc zero) zero w v a b apart small = left_back w v small
put_kept (suc zero) (suc zero) w v a b apart small = absurd (true≢false apart)
put_kept (suc zero) (suc (suc zero)) w v a b apart small = ap (λ l. l % 2 ^ 15) (left_back w v small)
put_kept (suc (suc zero)) zero w v a b apart small = absurd (true≢false apart)
put_kept (suc (suc zero)) (suc zero) w v a b apart small = right_back w (left w / 2 ^ 15 * 2 ^ 15 + v % 2 ^ 15)
put_kept (suc (suc zero)) (suc (suc zero)) w v a b apart small = absurd (true≢false apart)
put_kept n (suc (suc (suc k))) w v a b apart small = absurd (omega (arith, b))
put_kept (suc (suc (suc n))) k w v a b apart small = absurd (omega (arith, a))

-- bits 0 to 2 do not change if another part than the left half is stored
pub put_first : (n w v : ℕ) → n ≤ 2 → (n ≡ 0 → ⊥) → w < 2 ^ 36 → left (put_in n w v) / 2 ^ 15 ≡ left w / 2 ^ 15
unfolding put_in with_offset
put_first zero w v few other small = absurd (other refl)
put_first (suc zero) w v few other small = ap (λ l. l / 2 ^ 15) (left_back w v small)
put_first (suc (suc zero)) w v few other small =
    let l : left (word_with_halves (left w / 2 ^ 15 * 2 ^ 15 + v % 2 ^ 15) (right w)) ≡ (left w / 2 ^ 15 * 2 ^ 15 + v % 2 ^ 15) % 2 ^ 18 =
    left_is (left w / 2 ^ 15 * 2 ^ 15 + v % 2 ^ 15) (right w) in
    let below : left w < 2 ^ 18 = left_below w small in
    omega (arith, l, below)
put_first (suc (suc (suc n))) w v few other small = absurd (omega (arith, few))

-- ---- the fields of a word

pub first_field : (w : ℕ) → field w 0 3 ≡ left w / 2 ^ 15 % 2 ^ 3
unfolding left
first_field w = omega arith

pub offset_field : (w : ℕ) → field w 3 15 ≡ part_of 2 w
unfolding part_of left bits_3_to_17
offset_field w = omega arith

pub right_field : (w : ℕ) → field w 18 18 ≡ part_of 1 w
unfolding part_of right
right_field w = omega arith

-- ---- the number that a relocation stores

unfoldable pub number_put : Relocation → Section → ℕ → ℕ → ℕ
number_put m target zero v = relocated_number m target v
number_put m target (suc zero) v = relocated_number m target v
number_put m target (suc (suc n)) v = biased_offset m target v

moved_by : Relocation → Section → ℕ → ℕ → ℕ
moved_by m target n w =
    cond (eqb n 0) (word_with_halves (relocated_number m target (left w)) (right w))
    (cond (eqb n 1) (word_with_halves (left w) (relocated_number m target (right w))) (with_offset w (biased_offset m target (bits_3_to_17 w))))

moved_puts : (m : Relocation) (target : Section) (n w : ℕ) → moved_by m target n w ≡ put_in n w (number_put m target n (part_of n w))
unfolding moved_by put_in number_put part_of
moved_puts m target zero w = refl
moved_puts m target (suc zero) w = refl
moved_puts m target (suc (suc n)) w =
    let here : ℕ = word_with_halves (relocated_number m target (left w)) (right w) in
    let there : ℕ = word_with_halves (left w) (relocated_number m target (right w)) in
    let low : ℕ = with_offset w (biased_offset m target (bits_3_to_17 w)) in
    cond-false (eqb (suc (suc n)) 0) here (cond (eqb (suc (suc n)) 1) there low) (ne_eqb (suc (suc n)) 0 (λ same. absurd (omega (arith, same))))
    ∙ cond-false (eqb (suc (suc n)) 1) there low (ne_eqb (suc (suc n)) 1 (λ same. absurd (omega (arith, same))))
    ∙ ap (λ v. with_offset w (biased_offset m target v)) (sym (later_part n w))

pub word_puts : (m : Relocation) (r : RelocFields) (w : ℕ) → relocated_word m r w ≡ put_in r.part w (number_put m r.target r.part (part_of r.part w))
unfolding relocated_word moved_by
word_puts m r w = moved_puts m r.target r.part w
