-- Names are equal exactly if they are spelled the same.
use Rattle.std.proofs.Common.{ℕ, zero, suc, ◌≡◌, ◌+◌, ◌-◌, ◌*◌, ◌/◌, ◌%◌, ◌^◌, ◌<◌, ◌≤◌, Bool, true, false, eqb, leb, ltb, ◌&&◌, List, ◌∷◌, length, take, drop, get_or, refl, sym, ap, ◌∙◌, arith}
use Rattle.std.specs.Prelude.{slice_index}
use Rattle.std.specs.Cmp.Lexicographic.{pointwise}
use Rattle.std.proofs.lemmas.Bool.{and_parts, and_from, eqb-true, eq-eqb, leb-true}
use Rattle.std.proofs.Math.Seq.{drop-cons}
use Rattle.obj36_parts.specs.Halves.{quarter}
use Rattle.obj36_read.specs.Reading.{quarter_at}
use Rattle.obj36_read.specs.TableFaults.{name_is_within, same_quarters}
use Rattle.obj36_read.specs.Spelled.{words_but_last, leading_quarters_value, last_word_value}

-- two tests that imply each other
either_way : (b c : Bool) → (b ≡ true → c ≡ true) → (c ≡ true → b ≡ true) → b ≡ c
either_way true c f g = sym (f refl)
either_way false true f g = g refl
either_way false false f g = refl

-- ---- the parts of one word

-- whether `count` parts of nine bits from one on are the same in two words
same_parts : ℕ → ℕ → ℕ → ℕ → Bool
same_parts w v k zero = true
same_parts w v k (suc count) = eqb (quarter w k) (quarter v k) && same_parts w v (k + 1) count

one_part : (w v : ℕ) → same_parts w v 0 1 ≡ eqb (w / 2 ^ 27) (v / 2 ^ 27)
unfolding same_parts quarter
one_part w v =
    either_way _ _ (λ e. (and_parts (eqb (w / 2 ^ 27) (v / 2 ^ 27)) true e).0) (λ e. and_from (eqb (w / 2 ^ 27) (v / 2 ^ 27)) true e refl)

two_parts : (w v : ℕ) → same_parts w v 0 2 ≡ eqb (w / 2 ^ 18) (v / 2 ^ 18)
unfolding same_parts quarter
two_parts w v = either_way _ _ there back
  where
    there : (eqb (w / 2 ^ 27) (v / 2 ^ 27) && (eqb (w / 2 ^ 18 % 2 ^ 9) (v / 2 ^ 18 % 2 ^ 9) && true)) ≡ true → eqb (w / 2 ^ 18) (v / 2 ^ 18) ≡ true
    there e =
        let a = and_parts (eqb (w / 2 ^ 27) (v / 2 ^ 27)) _ e in
        let b = and_parts (eqb (w / 2 ^ 18 % 2 ^ 9) (v / 2 ^ 18 % 2 ^ 9)) true a.1 in
        eq-eqb _ _ (omega (arith, eqb-true (w / 2 ^ 27) (v / 2 ^ 27) a.0, eqb-true (w / 2 ^ 18 % 2 ^ 9) (v / 2 ^ 18 % 2 ^ 9) b.0))

    back : eqb (w / 2 ^ 18) (v / 2 ^ 18) ≡ true → (eqb (w / 2 ^ 27) (v / 2 ^ 27) && (eqb (w / 2 ^ 18 % 2 ^ 9) (v / 2 ^ 18 % 2 ^ 9) && true)) ≡ true
    back e =
        let h = eqb-true (w / 2 ^ 18) (v / 2 ^ 18) e in
        and_from _ _ (eq-eqb (w / 2 ^ 27) (v / 2 ^ 27) (omega (arith, h))) (and_from _ true (eq-eqb (w / 2 ^ 18 % 2 ^ 9) (v / 2 ^ 18 % 2 ^ 9) (ap (λ n. n % 2 ^ 9) h)) refl)

three_parts : (w v : ℕ) → same_parts w v 0 3 ≡ eqb (w / 2 ^ 9) (v / 2 ^ 9)
unfolding same_parts quarter
three_parts w v = either_way _ _ there back
  where
    there : (eqb (w / 2 ^ 27) (v / 2 ^ 27) && (eqb (w / 2 ^ 18 % 2 ^ 9) (v / 2 ^ 18 % 2 ^ 9) && (eqb (w / 2 ^ 9 % 2 ^ 9) (v / 2 ^ 9 % 2 ^ 9) && true))) ≡ true
        → eqb (w / 2 ^ 9) (v / 2 ^ 9) ≡ true
    there e =
        let a = and_parts (eqb (w / 2 ^ 27) (v / 2 ^ 27)) _ e in
        let b = and_parts (eqb (w / 2 ^ 18 % 2 ^ 9) (v / 2 ^ 18 % 2 ^ 9)) _ a.1 in
        let c = and_parts (eqb (w / 2 ^ 9 % 2 ^ 9) (v / 2 ^ 9 % 2 ^ 9)) true b.1 in
        eq-eqb _ _ (omega (
          arith,
          eqb-true (w / 2 ^ 27) (v / 2 ^ 27) a.0,
          eqb-true (w / 2 ^ 18 % 2 ^ 9) (v / 2 ^ 18 % 2 ^ 9) b.0,
          eqb-true (w / 2 ^ 9 % 2 ^ 9) (v / 2 ^ 9 % 2 ^ 9) c.0,
        ))

    back : eqb (w / 2 ^ 9) (v / 2 ^ 9) ≡ true
        → (eqb (w / 2 ^ 27) (v / 2 ^ 27) && (eqb (w / 2 ^ 18 % 2 ^ 9) (v / 2 ^ 18 % 2 ^ 9) && (eqb (w / 2 ^ 9 % 2 ^ 9) (v / 2 ^ 9 % 2 ^ 9) && true))) ≡ true
    back e =
        let h = eqb-true (w / 2 ^ 9) (v / 2 ^ 9) e in
        let two : w / 2 ^ 18 ≡ v / 2 ^ 18 = omega (arith, h) in
        and_from _ _ (eq-eqb (w / 2 ^ 27) (v / 2 ^ 27) (omega (arith, h)))
        (and_from _ _ (eq-eqb (w / 2 ^ 18 % 2 ^ 9) (v / 2 ^ 18 % 2 ^ 9) (ap (λ n. n % 2 ^ 9) two))
        (and_from _ true (eq-eqb (w / 2 ^ 9 % 2 ^ 9) (v / 2 ^ 9 % 2 ^ 9) (ap (λ n. n % 2 ^ 9) h)) refl))

four_parts : (w v : ℕ) → same_parts w v 0 4 ≡ eqb w v
unfolding same_parts quarter
four_parts w v = either_way _ _ there back
  where
    there : (eqb (w / 2 ^ 27) (v / 2 ^ 27) && (eqb (w / 2 ^ 18 % 2 ^ 9) (v / 2 ^ 18 % 2 ^ 9) && (eqb (w / 2 ^ 9 % 2 ^ 9) (v / 2 ^ 9 % 2 ^ 9) && (eqb (w % 2 ^ 9) (v % 2 ^ 9) && true)))) ≡ true
        → eqb w v ≡ true
    there e =
        let a = and_parts (eqb (w / 2 ^ 27) (v / 2 ^ 27)) _ e in
        let b = and_parts (eqb (w / 2 ^ 18 % 2 ^ 9) (v / 2 ^ 18 % 2 ^ 9)) _ a.1 in
        let c = and_parts (eqb (w / 2 ^ 9 % 2 ^ 9) (v / 2 ^ 9 % 2 ^ 9)) _ b.1 in
        let d = and_parts (eqb (w % 2 ^ 9) (v % 2 ^ 9)) true c.1 in
        eq-eqb _ _ (omega (
          arith,
          eqb-true (w / 2 ^ 27) (v / 2 ^ 27) a.0,
          eqb-true (w / 2 ^ 18 % 2 ^ 9) (v / 2 ^ 18 % 2 ^ 9) b.0,
          eqb-true (w / 2 ^ 9 % 2 ^ 9) (v / 2 ^ 9 % 2 ^ 9) c.0,
          eqb-true (w % 2 ^ 9) (v % 2 ^ 9) d.0,
        ))

    back : eqb w v ≡ true
        → (eqb (w / 2 ^ 27) (v / 2 ^ 27) && (eqb (w / 2 ^ 18 % 2 ^ 9) (v / 2 ^ 18 % 2 ^ 9) && (eqb (w / 2 ^ 9 % 2 ^ 9) (v / 2 ^ 9 % 2 ^ 9) && (eqb (w % 2 ^ 9) (v % 2 ^ 9) && true)))) ≡ true
    back e =
        let h = eqb-true w v e in
        and_from _ _ (eq-eqb (w / 2 ^ 27) (v / 2 ^ 27) (ap (λ n. n / 2 ^ 27) h))
        (and_from _ _ (eq-eqb (w / 2 ^ 18 % 2 ^ 9) (v / 2 ^ 18 % 2 ^ 9) (ap (λ n. n / 2 ^ 18 % 2 ^ 9) h))
        (and_from _ _ (eq-eqb (w / 2 ^ 9 % 2 ^ 9) (v / 2 ^ 9 % 2 ^ 9) (ap (λ n. n / 2 ^ 9 % 2 ^ 9) h))
        (and_from _ true (eq-eqb (w % 2 ^ 9) (v % 2 ^ 9) (ap (λ n. n % 2 ^ 9) h)) refl)))

same_kept : (w v r : ℕ) → r < 4 → same_parts w v 0 (r + 1) ≡ eqb (leading_quarters_value w r) (leading_quarters_value v r)
unfolding leading_quarters_value
same_kept w v zero lt = one_part w v
same_kept w v (suc zero) lt = two_parts w v
same_kept w v (suc (suc zero)) lt = three_parts w v
same_kept w v (suc (suc (suc zero))) lt = four_parts w v
same_kept w v (suc (suc (suc (suc n)))) lt = absurd (omega (arith, lt))

-- ---- the parts of several words

module _ (d : List ℕ) (a b : ℕ) where
  units_split : (i m n : ℕ) → same_quarters d a b i (m + n) ≡ (same_quarters d a b i m && same_quarters d a b (i + m) n)
  unfolding same_quarters
  units_split i zero n =
      ap (λ k. same_quarters d a b i k) (let e : 0 + n ≡ n = omega arith in e) ∙ ap (λ k. same_quarters d a b k n) (let e : i ≡ i + 0 = omega arith in e)
  units_split i (suc m) n =
      ap (λ k. same_quarters d a b i k) (let e : suc m + n ≡ suc (m + n) = omega arith in e)
      ∙ ap (λ t. eqb (quarter_at d a i) (quarter_at d b i) && t)
      (units_split (i + 1) m n ∙ ap (λ k. same_quarters d a b (i + 1) m && same_quarters d a b k n) (let e : i + 1 + m ≡ i + suc m = omega arith in e))
      ∙ both (eqb (quarter_at d a i) (quarter_at d b i)) (same_quarters d a b (i + 1) m) (same_quarters d a b (i + suc m) n)
    where
      both : (x y z : Bool) → (x && (y && z)) ≡ ((x && y) && z)
      both true y z = refl
      both false y z = refl

  unit_in : (c j k : ℕ) → k < 4 → quarter_at d c (4 * j + k) ≡ quarter (slice_index d (c + j)) k
  unfolding quarter_at
  unit_in c j k lt =
      let word : (4 * j + k) / 4 ≡ j = omega arith in
      let part : (4 * j + k) % 4 ≡ k = omega arith in
      λ i. quarter (slice_index d (c + word i)) (part i)

  units_parts : (j k count : ℕ) → k + count ≤ 4 → same_quarters d a b (4 * j + k) count ≡ same_parts (slice_index d (a + j)) (slice_index d (b + j)) k count
  unfolding same_quarters same_parts
  units_parts j k zero le = refl
  units_parts j k (suc count) le =
      let here : k < 4 = omega (arith, le) in
      (λ i. eqb (unit_in a j k here i) (unit_in b j k here i) && same_quarters d a b (4 * j + k + 1) count)
      ∙ ap (λ t. eqb (quarter (slice_index d (a + j)) k) (quarter (slice_index d (b + j)) k) && t)
      (ap (λ m. same_quarters d a b m count) (let e : 4 * j + k + 1 ≡ 4 * j + (k + 1) = omega arith in e) ∙ units_parts j (k + 1) count (omega (arith, le)))

  word_units : (j : ℕ) → same_quarters d a b (4 * j) 4 ≡ eqb (slice_index d (a + j)) (slice_index d (b + j))
  word_units j =
      ap (λ m. same_quarters d a b m 4) (let e : 4 * j ≡ 4 * j + 0 = omega arith in e) ∙ units_parts j 0 4 (omega arith)
      ∙ four_parts (slice_index d (a + j)) (slice_index d (b + j))

  whole_units : (q j : ℕ) → a + j + q ≤ length d → b + j + q ≤ length d
      → same_quarters d a b (4 * j) (4 * q) ≡ pointwise eqb (take q (drop (a + j) d)) (take q (drop (b + j) d))
  unfolding same_quarters
  whole_units zero j la lb = refl
  whole_units (suc q) j la lb =
      let first : drop (a + j) d ≡ get_or d (a + j) 0 ∷ drop (suc (a + j)) d = drop-cons d (a + j) 0 (omega (arith, la)) in
      let second : drop (b + j) d ≡ get_or d (b + j) 0 ∷ drop (suc (b + j)) d = drop-cons d (b + j) 0 (omega (arith, lb)) in
      let more : same_quarters d a b (4 * j + 4) (4 * q) ≡ pointwise eqb (take q (drop (suc (a + j)) d)) (take q (drop (suc (b + j)) d)) =
      ap (λ m. same_quarters d a b m (4 * q)) (let e : 4 * j + 4 ≡ 4 * (j + 1) = omega arith in e)
      ∙ whole_units q (j + 1) (omega (arith, la)) (omega (arith, lb))
      ∙ (λ i. pointwise eqb (take q (drop ((let e : a + (j + 1) ≡ suc (a + j) = omega arith in e) i) d)) (take q (drop ((let e : b + (j + 1) ≡ suc (b + j) = omega arith in e) i) d)))
      in
      ap (λ m. same_quarters d a b (4 * j) m) (let e : 4 * suc q ≡ 4 + 4 * q = omega arith in e)
      ∙ units_split (4 * j) 4 (4 * q)
      ∙ (λ i. word_units j i && more i)
      ∙ (λ i. pointwise eqb (take (suc q) (sym first i)) (take (suc q) (sym second i)))

  last_units : (q r : ℕ) → r < 4 → same_quarters d a b (4 * q) (r + 1) ≡ eqb (leading_quarters_value (slice_index d (a + q)) r) (leading_quarters_value (slice_index d (b + q)) r)
  last_units q r lt =
      ap (λ m. same_quarters d a b m (r + 1)) (let e : 4 * q ≡ 4 * q + 0 = omega arith in e) ∙ units_parts q 0 (r + 1) (omega (arith, lt))
      ∙ same_kept (slice_index d (a + q)) (slice_index d (b + q)) r lt

  all_units : (n : ℕ) → a + n / 4 + 1 ≤ length d → b + n / 4 + 1 ≤ length d
      → same_quarters d a b 0 (n + 1) ≡ (pointwise eqb (take (n / 4) (drop a d)) (take (n / 4) (drop b d))
      && eqb (leading_quarters_value (slice_index d (a + n / 4)) (n % 4)) (leading_quarters_value (slice_index d (b + n / 4)) (n % 4)))
  all_units n la lb =
      let q = n / 4 in
      ap (λ m. same_quarters d a b 0 m) (let e : n + 1 ≡ 4 * (n / 4) + (n % 4 + 1) = omega arith in e)
      ∙ units_split 0 (4 * q) (n % 4 + 1)
      ∙ (λ i. whole_units q 0 (omega (arith, la)) (omega (arith, lb)) i && same_quarters d a b ((let e : 0 + 4 * (n / 4) ≡ 4 * (n / 4) = omega arith in e) i) (n % 4 + 1))
      ∙ (λ i. pointwise eqb (take q (drop ((let e : a + 0 ≡ a = omega arith in e) i) d)) (take q (drop ((let e : b + 0 ≡ b = omega arith in e) i) d))
      && last_units q (n % 4) (omega arith) i)

  -- ---- names

  within : (c : ℕ) → name_is_within d c ≡ true → c + quarter_at d c 0 / 4 + 1 ≤ length d
  unfolding name_is_within
  within c e = leb-true _ _ (and_parts (ltb c (length d)) (leb (c + quarter_at d c 0 / 4 + 1) (length d)) e).1

  pub spelled_same : name_is_within d a ≡ true → name_is_within d b ≡ true
      → same_quarters d a b 0 (quarter_at d a 0 + 1) ≡ (pointwise eqb (words_but_last d a) (words_but_last d b) && (eqb (quarter_at d a 0) (quarter_at d b 0) && eqb (last_word_value d a) (last_word_value d b)))
  unfolding same_quarters words_but_last last_word_value
  spelled_same la lb = by (eqb (quarter_at d a 0) (quarter_at d b 0)) refl
    where
      none : (x : Bool) → false ≡ (x && false)
      none true = refl
      none false = refl

      by : (t : Bool) → eqb (quarter_at d a 0) (quarter_at d b 0) ≡ t
          → same_quarters d a b 0 (quarter_at d a 0 + 1) ≡ (pointwise eqb (take (quarter_at d a 0 / 4) (drop a d)) (take (quarter_at d b 0 / 4) (drop b d))
          && (t && eqb (leading_quarters_value (slice_index d (a + quarter_at d a 0 / 4)) (quarter_at d a 0 % 4)) (leading_quarters_value (slice_index d (b + quarter_at d b 0 / 4)) (quarter_at d b 0 % 4))))
      by false e =
          ap (λ m. same_quarters d a b 0 m) (let k : quarter_at d a 0 + 1 ≡ suc (quarter_at d a 0) = omega arith in k)
          ∙ ap (λ t. t && same_quarters d a b 1 (quarter_at d a 0)) e
          ∙ none (pointwise eqb (take (quarter_at d a 0 / 4) (drop a d)) (take (quarter_at d b 0 / 4) (drop b d)))
      by true e =
          let n = quarter_at d a 0 in
          let alike : quarter_at d a 0 ≡ quarter_at d b 0 = eqb-true (quarter_at d a 0) (quarter_at d b 0) e in
          all_units n (within a la) (omega (arith, within b lb, ap (λ m. m / 4) alike))
          ∙ (λ i. pointwise eqb (take (n / 4) (drop a d)) (take (alike i / 4) (drop b d))
          && eqb (leading_quarters_value (slice_index d (a + n / 4)) (n % 4)) (leading_quarters_value (slice_index d (b + alike i / 4)) (alike i % 4)))
