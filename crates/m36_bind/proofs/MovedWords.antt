-- The words of a component with their parts relocated, word by word.
use Rattle.std.proofs.Common.{ℕ, zero, suc, ◌≡◌, ◌+◌, ◌*◌, ◌/◌, ◌^◌, ◌<◌, ◌≤◌, Bool, true, false, cond, ◌&&◌, ◌||◌, eqb, ltb, leb, not, List, [], ◌∷◌, length, refl, sym, ap, subst, ◌∙◌, arith, true≢false}
use Rattle.std.specs.Prelude.{slice_index, slice_set}
use Rattle.std.specs.List.{Contains}
use Rattle.std.proofs.lemmas.List.{length-set, get_or-set_same, get_or-set_other}
use Rattle.std.proofs.lemmas.Bool.{and_parts, eqb-true, eq-eqb, ne_eqb, lt-ltb, leb-true}
use Rattle.obj36_parts.specs.Fields.{RelocFields}
use Rattle.obj36_parts.specs.Halves.{left}
use Rattle.obj36_parts.specs.Sections.{section_number}
use Rattle.obj36_parts.specs.ObjectSegment.{part_of, order_of, are_rising}
use Rattle.m36_relocate.specs.Words.{is_relocation_in, word_index_of, with_word_relocated, with_relocation_applied, relocated_words, relocated_word}
use Rattle.m36_relocate.specs.declared.layout.Relocation.{Relocation}
use Rattle.m36_bind.proofs.WordParts.{overlap, cut_to, number_put, put_below, put_got, put_kept, put_first, word_puts}

-- ---- one word

module _ (m : Relocation) (statics : Bool) (i : ℕ) where
  -- whether a relocation is of a part of the word
  unfoldable pub at : RelocFields → Bool
  at r = is_relocation_in statics r && eqb (word_index_of m.shape statics r) i

  pub one_by : RelocFields → ℕ → ℕ
  one_by r w = cond (at r) (relocated_word m r w) w

  pub word_by : List RelocFields → ℕ → ℕ
  word_by [] w = w
  word_by (r ∷ rs) w = word_by rs (one_by r w)

  placed_one : (r : RelocFields) (j : ℕ) (words : List ℕ) (b e : Bool) → i < length words → eqb j i ≡ e
      → slice_index (cond b (with_word_relocated m r j words) words) i ≡ cond (b && e) (relocated_word m r (slice_index words i)) (slice_index words i)
  placed_one r j words false e lt is = refl
  placed_one r j words true true lt is =
      ap (λ k. slice_index (with_word_relocated m r k words) i) (eqb-true j i is)
      ∙ ap (λ c. slice_index (cond c (slice_set words i (relocated_word m r (slice_index words i))) words) i) (lt-ltb i (length words) lt)
      ∙ get_or-set_same words i (relocated_word m r (slice_index words i)) 0 lt
  placed_one r j words true false lt is = by (ltb j (length words))
    where
      by : (c : Bool) → slice_index (cond c (slice_set words j (relocated_word m r (slice_index words j))) words) i ≡ slice_index words i
      by true = get_or-set_other words j i (relocated_word m r (slice_index words j)) 0 (λ same. true≢false (sym (eq-eqb j i (sym same)) ∙ is))
      by false = refl

  one_at : (r : RelocFields) (words : List ℕ) → i < length words → slice_index (with_relocation_applied m statics r words) i ≡ one_by r (slice_index words i)
  unfolding with_relocation_applied one_by at
  one_at r words lt = placed_one r (word_index_of m.shape statics r) words (is_relocation_in statics r) (eqb (word_index_of m.shape statics r) i) lt refl

pub one_long : (m : Relocation) (statics : Bool) (r : RelocFields) (words : List ℕ) → length (with_relocation_applied m statics r words) ≡ length words
unfolding with_relocation_applied
one_long m statics r words = by (is_relocation_in statics r) (ltb (word_index_of m.shape statics r) (length words))
  where
    by : (b c : Bool)
        → length (cond b (cond c (slice_set words (word_index_of m.shape statics r) (relocated_word m r (slice_index words (word_index_of m.shape statics r)))) words) words) ≡ length words
    by true true = length-set words (word_index_of m.shape statics r) (relocated_word m r (slice_index words (word_index_of m.shape statics r)))
    by true false = refl
    by false c = refl

pub words_long : (m : Relocation) (statics : Bool) (rs : List RelocFields) (words : List ℕ) → length (relocated_words m statics rs words) ≡ length words
unfolding relocated_words
words_long m statics [] words = refl
words_long m statics (r ∷ rs) words = words_long m statics rs (with_relocation_applied m statics r words) ∙ one_long m statics r words

pub word_at : (m : Relocation) (statics : Bool) (i : ℕ) (rs : List RelocFields) (words : List ℕ) → i < length words
    → slice_index (relocated_words m statics rs words) i ≡ word_by m statics i rs (slice_index words i)
unfolding relocated_words word_by
word_at m statics i [] words lt = refl
word_at m statics i (r ∷ rs) words lt =
    word_at m statics i rs (with_relocation_applied m statics r words) (let long : length (with_relocation_applied m statics r words) ≡ length words = one_long m statics r words in omega (arith, long, lt))
    ∙ ap (λ w. word_by m statics i rs w) (one_at m statics i r words lt)

-- ---- relocations of one word

-- Each is of a part, and those of one word are of parts without a bit in common.
pub AreApart : (RelocFields → Bool) → List RelocFields → Type 0
AreApart at [] = Unit {0}
AreApart at (r ∷ rs) =
    (r.part ≤ 2) × ((s : RelocFields) → Contains rs s → at r ≡ true → at s ≡ true → (overlap r.part s.part ≡ false) × (overlap s.part r.part ≡ false)) × AreApart at rs

module _ (m : Relocation) (statics : Bool) (i : ℕ) where
  one_below : (r : RelocFields) (w : ℕ) → w < 2 ^ 36 → one_by m statics i r w < 2 ^ 36
  unfolding one_by
  one_below r w small = by (at m statics i r)
    where
      by : (b : Bool) → cond b (relocated_word m r w) w < 2 ^ 36
      by true = subst (λ x. x < 2 ^ 36) (sym (word_puts m r w)) (put_below r.part w (number_put m r.target r.part (part_of r.part w)))
      by false = small

  one_kept : (r : RelocFields) (k w : ℕ) (b : Bool) → at m statics i r ≡ b → r.part ≤ 2 → k ≤ 2 → (b ≡ true → overlap r.part k ≡ false) → w < 2 ^ 36
      → part_of k (one_by m statics i r w) ≡ part_of k w
  unfolding one_by
  one_kept r k w true is few part apart small =
      ap (λ b. part_of k (cond b (relocated_word m r w) w)) is ∙ ap (part_of k) (word_puts m r w)
      ∙ put_kept r.part k w (number_put m r.target r.part (part_of r.part w)) few part (apart refl) small
  one_kept r k w false is few part apart small = ap (λ b. part_of k (cond b (relocated_word m r w) w)) is

  pub word_kept : (rs : List RelocFields) (k w : ℕ) → w < 2 ^ 36 → k ≤ 2 → AreApart (at m statics i) rs
      → ((r : RelocFields) → Contains rs r → at m statics i r ≡ true → overlap r.part k ≡ false)
      → part_of k (word_by m statics i rs w) ≡ part_of k w
  unfolding word_by AreApart
  word_kept [] k w small part apart none = refl
  word_kept (r ∷ rs) k w small part apart none =
      word_kept rs k (one_by m statics i r w) (one_below r w small) part apart.2 (λ s among is. none s (suc among.0, omega (arith, among.1), among.2) is)
      ∙ one_kept r k w (at m statics i r) refl apart.0 part (λ is. none r (zero, omega arith, refl) is) small

  one_first : (r : RelocFields) (w : ℕ) (b : Bool) → at m statics i r ≡ b → r.part ≤ 2 → (b ≡ true → r.part ≡ 0 → ⊥) → w < 2 ^ 36
      → left (one_by m statics i r w) / 2 ^ 15 ≡ left w / 2 ^ 15
  unfolding one_by
  one_first r w true is few other small =
      ap (λ b. left (cond b (relocated_word m r w) w) / 2 ^ 15) is ∙ ap (λ x. left x / 2 ^ 15) (word_puts m r w)
      ∙ put_first r.part w (number_put m r.target r.part (part_of r.part w)) few (other refl) small
  one_first r w false is few other small = ap (λ b. left (cond b (relocated_word m r w) w) / 2 ^ 15) is

  -- bits 0 to 2 do not change if no relocation is of the left half
  pub word_first : (rs : List RelocFields) (w : ℕ) → w < 2 ^ 36 → AreApart (at m statics i) rs
      → ((r : RelocFields) → Contains rs r → at m statics i r ≡ true → r.part ≡ 0 → ⊥)
      → left (word_by m statics i rs w) / 2 ^ 15 ≡ left w / 2 ^ 15
  unfolding word_by AreApart
  word_first [] w small apart none = refl
  word_first (r ∷ rs) w small apart none =
      word_first rs (one_by m statics i r w) (one_below r w small) apart.2 (λ s among is. none s (suc among.0, omega (arith, among.1), among.2) is)
      ∙ one_first r w (at m statics i r) refl apart.0 (λ is. none r (zero, omega arith, refl) is) small

  one_moved_part : (r : RelocFields) (w : ℕ) → at m statics i r ≡ true → part_of r.part (one_by m statics i r w) ≡ cut_to r.part (number_put m r.target r.part (part_of r.part w))
  unfolding one_by
  one_moved_part r w is =
      ap (λ b. part_of r.part (cond b (relocated_word m r w) w)) is ∙ ap (part_of r.part) (word_puts m r w)
      ∙ put_got r.part w (number_put m r.target r.part (part_of r.part w))

  pub word_part : (rs : List RelocFields) (w : ℕ) (s : RelocFields) → w < 2 ^ 36 → AreApart (at m statics i) rs → s.part ≤ 2 → Contains rs s → at m statics i s ≡ true
      → part_of s.part (word_by m statics i rs w) ≡ cut_to s.part (number_put m s.target s.part (part_of s.part w))
  unfolding word_by AreApart
  word_part [] w s small apart part among is = absurd (omega (arith, among.1))
  word_part (r ∷ rs) w s small apart part (zero, lt, same) is =
      let here : at m statics i r ≡ true = ap (at m statics i) same ∙ is in
      word_kept rs s.part (one_by m statics i r w) (one_below r w small) part apart.2
      (λ x among there. ap (λ (t : RelocFields). overlap x.part t.part) (sym same) ∙ (apart.1 x among here there).1)
      ∙ ap (λ (t : RelocFields). part_of s.part (one_by m statics i t w)) same
      ∙ one_moved_part s w is
  word_part (r ∷ rs) w s small apart part (suc k, lt, same) is =
      let later : Contains rs s = (k, omega (arith, lt), same) in
      word_part rs (one_by m statics i r w) s (one_below r w small) apart.2 part later is
      ∙ ap (λ v. cut_to s.part (number_put m s.target s.part v))
      (one_kept r s.part w (at m statics i r) refl apart.0 part (λ here. (apart.1 s later here is).0) small)

-- ---- relocations in rising order are of different parts

rising_first : (least barred : ℕ) (r : RelocFields) (rs : List RelocFields) → are_rising least barred (r ∷ rs) ≡ true
    → (least ≤ order_of r) × (eqb (order_of r) barred ≡ false) × (are_rising (order_of r + 1) (cond (eqb r.part 0) (order_of r + 2) barred) rs ≡ true)
unfolding are_rising
rising_first least barred r rs e =
    let h = and_parts (leb least (order_of r) && not (eqb (order_of r) barred)) (are_rising (order_of r + 1) (cond (eqb r.part 0) (order_of r + 2) barred) rs) e in
    let g = and_parts (leb least (order_of r)) (not (eqb (order_of r) barred)) h.0 in
    (leb-true least (order_of r) g.0, no (eqb (order_of r) barred) g.1, h.1)
  where
    no : (b : Bool) → not b ≡ true → b ≡ false
    no true e = absurd (true≢false (sym e))
    no false e = refl

pub rising_least : (least barred : ℕ) (rs : List RelocFields) (s : RelocFields) → are_rising least barred rs ≡ true → Contains rs s → least ≤ order_of s
rising_least least barred [] s e among = absurd (omega (arith, among.1))
rising_least least barred (r ∷ rs) s e (zero, lt, same) = subst (λ (t : RelocFields). least ≤ order_of t) same (rising_first least barred r rs e).0
rising_least least barred (r ∷ rs) s e (suc k, lt, same) =
    let h = rising_first least barred r rs e in
    let later : order_of r + 1 ≤ order_of s =
    rising_least (order_of r + 1) (cond (eqb r.part 0) (order_of r + 2) barred) rs s h.2 (k, omega (arith, lt), same)
    in
    omega (arith, later, h.0)

order_whole : (r : RelocFields) → r.part ≡ 0 → order_of r ≡ 4 * (section_number r.section * 2 ^ 18 + r.offset)
unfolding order_of
order_whole r none = omega (arith, none)

pub rising_bar : (least a : ℕ) (rs : List RelocFields) (s : RelocFields) → are_rising least (4 * a + 2) rs ≡ true → 4 * a + 2 ≤ least + 1 → Contains rs s → order_of s ≡ 4 * a + 2 → ⊥
rising_bar least a [] s e near among is = omega (arith, among.1)
rising_bar least a (r ∷ rs) s e near (zero, lt, same) is =
    let h = rising_first least (4 * a + 2) r rs e in
    true≢false (sym (eq-eqb (order_of r) (4 * a + 2) (ap order_of same ∙ is)) ∙ h.1)
rising_bar least a (r ∷ rs) s e near (suc k, lt, same) is =
    let low : least ≤ order_of r = (rising_first least (4 * a + 2) r rs e).0 in
    by (eqb r.part 0) refl (λ rises. rising_bar (order_of r + 1) a rs s rises (omega (arith, near, low)) (k, omega (arith, lt), same) is)
  where
    h : (least ≤ order_of r) × (eqb (order_of r) (4 * a + 2) ≡ false) × (are_rising (order_of r + 1) (cond (eqb r.part 0) (order_of r + 2) (4 * a + 2)) rs ≡ true)
    h = rising_first least (4 * a + 2) r rs e

    by : (b : Bool) → eqb r.part 0 ≡ b → (are_rising (order_of r + 1) (4 * a + 2) rs ≡ true → ⊥) → ⊥
    by true first go =
        let whole : order_of r ≡ 4 * (section_number r.section * 2 ^ 18 + r.offset) = order_whole r (eqb-true r.part 0 first) in
        let more : order_of r + 1 ≤ order_of s =
        rising_least (order_of r + 1) (cond (eqb r.part 0) (order_of r + 2) (4 * a + 2)) rs s h.2 (k, omega (arith, lt), same)
        in
        let low : least ≤ order_of r = h.0 in
        omega (arith, whole, more, near, is, low)
    by false other go = go (ap (λ b. are_rising (order_of r + 1) (cond b (order_of r + 2) (4 * a + 2)) rs) (sym other) ∙ h.2)

never_both : (j k m n : ℕ) → (j ≡ m → k ≡ n → ⊥) → (eqb j m && eqb k n) ≡ false
never_both j k m n apart = by (eqb j m) (eqb k n) refl refl
  where
    by : (a b : Bool) → eqb j m ≡ a → eqb k n ≡ b → (a && b) ≡ false
    by true true e f = absurd (apart (eqb-true j m e) (eqb-true k n f))
    by true false e f = refl
    by false b e f = refl

pub parts_apart : (j k : ℕ) → (j ≡ k → ⊥) → (j + k ≡ 2 → ⊥) → overlap j k ≡ false
parts_apart j k other sum =
    let whole = never_both j k 0 2 (λ a b. sum (omega (arith, a, b))) in
    let low = never_both j k 2 0 (λ a b. sum (omega (arith, a, b))) in
    (λ i. ne_eqb j k other i || whole i || low i)

-- The relocations of a word have the order numbers of its parts.
abbrev pub AreOf : (RelocFields → Bool) → ℕ → List RelocFields → Type 0
AreOf at q rs = (r : RelocFields) → Contains rs r → (r.part ≤ 2) × (at r ≡ true → order_of r ≡ 4 * q + r.part)

pub rising_apart : (at : RelocFields → Bool) (q least barred : ℕ) (rs : List RelocFields) → are_rising least barred rs ≡ true → AreOf at q rs → AreApart at rs
unfolding AreApart
rising_apart at q least barred [] e are = tt
rising_apart at q least barred (r ∷ rs) e are = (
  (are r (zero, omega arith, refl)).0,
  λ s among here there.
      let known = are s (suc among.0, omega (arith, among.1), among.2) in
      let few = (are r (zero, omega arith, refl)).0 in
      let first : order_of r ≡ 4 * q + r.part = (are r (zero, omega arith, refl)).1 here in
      let second : order_of s ≡ 4 * q + s.part = known.1 there in
      let more : order_of r + 1 ≤ order_of s =
      rising_least (order_of r + 1) (cond (eqb r.part 0) (order_of r + 2) barred) rs s rest among
      in
      let other : (r.part ≡ s.part → ⊥) = λ same. absurd (omega (arith, first, second, more, same)) in
      let sum : (r.part + s.part ≡ 2 → ⊥) = λ both.
      let zeroth : r.part ≡ 0 = omega (arith, first, second, more, both) in
      rising_bar (order_of r + 1) q rs s
      (ap (λ n. are_rising (order_of r + 1) n rs) (let k : 4 * q + 2 ≡ order_of r + 2 = omega (arith, first, zeroth) in k)
      ∙ ap (λ b. are_rising (order_of r + 1) (cond b (order_of r + 2) barred) rs) (sym (eq-eqb r.part 0 zeroth)) ∙ rest)
      (omega (arith, first, zeroth)) among (omega (arith, second, zeroth, both))
      in
      (parts_apart r.part s.part other sum, parts_apart s.part r.part (λ same. other (sym same)) (λ both. sum (omega (arith, both)))),
  rising_apart at q (order_of r + 1) (cond (eqb r.part 0) (order_of r + 2) barred) rs rest (λ s among. are s (suc among.0, omega (arith, among.1), among.2)),
)
  where
    rest : are_rising (order_of r + 1) (cond (eqb r.part 0) (order_of r + 2) barred) rs ≡ true
    rest = (rising_first least barred r rs e).2
