-- Recording one more number for a core word.
use Rattle.std.proofs.Common.{◌≡◌, ℕ, ◌<◌, length, refl, sym, ◌∙◌, subst, inl, inr, arith}
use Rattle.std.specs.Prelude.{◌⊎◌, Bool, true, false, ◌||◌, ◌==◌, if◌then◌else◌, List, slice_index, slice_set}
use Rattle.std.proofs.lemmas.Bool.{cases_eq, eqb-true, eqb-false}
use Rattle.std.proofs.lemmas.List.{get_or-set_same, get_or-set_other, length-set}
use Rattle.m36_audit.specs.RecordedNumbers.{several, with_number, with_number_at, TwoOf, IsRecorded, AreRecorded}

-- the same value, for the same numbers
pub told_same : (V W : ℕ → Type 0) (value : ℕ) → ((x : ℕ) → V x → W x) → ((x : ℕ) → W x → V x) → IsRecorded V value → IsRecorded W value
told_same V W value there back t =
    record {
      only = λ apart x w. t.only apart x (back x w);
      one = λ apart some. there value (t.one apart some);
      two = λ e. let k = t.two e in record { one = k.one; other = k.other; has = there k.one k.has; has_other = there k.other k.has_other; differ = k.differ };
    }

pub all_same : (V W : ℕ → ℕ → Type 0) (size : ℕ) (values : List ℕ) → ((a x : ℕ) → V a x → W a x) → ((a x : ℕ) → W a x → V a x) → AreRecorded V size values → AreRecorded W size values
all_same V W size values there back t =
    record { len = t.len; each = λ a inside. told_same (V a) (W a) (slice_index values a) (there a) (back a) (t.each a inside) }

module _ (V W : ℕ → Type 0) (table_number seen : ℕ) (old : (x : ℕ) → V x → W x) (new : (x : ℕ) → W x → V x ⊎ (x ≡ table_number)) (here : W table_number) (small : table_number < several) (positive : (x : ℕ) → V x → 0 < x) (t : IsRecorded V seen) where
  -- only this number was recorded
  one_number : ((x : ℕ) → V x → x ≡ table_number) → IsRecorded W table_number
  one_number same =
      record {
        only = λ apart x w. at x (new x w);
        one = λ apart some. here;
        two = λ e. absurd (omega arith);
      }
    where
      at : (x : ℕ) → V x ⊎ (x ≡ table_number) → x ≡ table_number
      at x (inl v) = same x v
      at x (inr e) = e

  two_numbers : (seen ≡ 0 → ⊥) → (seen ≡ table_number → ⊥) → IsRecorded W several
  two_numbers some apart =
      record {
        only = λ far. absurd (far refl);
        one = λ far. absurd (far refl);
        two = λ e. at (cases_eq seen several);
      }
    where
      at : (seen ≡ several) ⊎ (seen ≡ several → ⊥) → TwoOf W
      at (inl e) =
          let k = t.two e in
          record { one = k.one; other = k.other; has = old k.one k.has; has_other = old k.other k.has_other; differ = k.differ }
      at (inr far) =
          record { one = seen; other = table_number; has = old seen (t.one far some); has_other = here; differ = apart }

  told_by : (p q : Bool) → (seen == 0) ≡ p → (seen == table_number) ≡ q → IsRecorded W (if (p || q) then table_number else several)
  told_by true q e f =
      let none : seen ≡ 0 = eqb-true seen 0 e in
      one_number (λ x v. let some = positive x v in let is = t.only (λ g. omega arith) x v in absurd (omega arith))
  told_by false true e f =
      let same : seen ≡ table_number = eqb-true seen table_number f in
      one_number (λ x v. t.only (λ g. omega arith) x v ∙ same)
  told_by false false e f = two_numbers (eqb-false seen 0 e) (eqb-false seen table_number f)

  pub told_more : IsRecorded W (with_number seen table_number)
  unfolding with_number
  told_more = told_by (seen == 0) (seen == table_number) refl refl

-- one more number of one word
pub all_more : (V W : ℕ → ℕ → Type 0) (at table_number size : ℕ) (values : List ℕ) → ((a x : ℕ) → V a x → W a x) → ((a x : ℕ) → W a x → V a x ⊎ ((a ≡ at) × (x ≡ table_number))) → W at table_number → table_number < several → ((a x : ℕ) → V a x → 0 < x) → AreRecorded V size values → AreRecorded W size (with_number_at values at table_number)
all_more V W at table_number size values old new here small positive t =
    record {
      len = length-set values at (with_number (slice_index values at) table_number) ∙ t.len;
      each = λ a inside. by a inside (cases_eq a at);
    }
  where
    immediate_halt : (x : ℕ) → V at x ⊎ ((at ≡ at) × (x ≡ table_number)) → V at x ⊎ (x ≡ table_number)
    immediate_halt x (inl v) = inl v
    immediate_halt x (inr e) = inr e.1

    was : (a x : ℕ) → (a ≡ at → ⊥) → V a x ⊎ ((a ≡ at) × (x ≡ table_number)) → V a x
    was a x far (inl v) = v
    was a x far (inr e) = absurd (far e.0)

    by : (a : ℕ) → a < size → (a ≡ at) ⊎ (a ≡ at → ⊥) → IsRecorded (W a) (slice_index (slice_set values at (with_number (slice_index values at) table_number)) a)
    by a inside (inl same) =
        let inside_too : at < size = subst (λ (n : ℕ). n < size) same inside in
        let lies : at < length values = subst (λ (n : ℕ). at < n) (sym t.len) inside_too in
        let is : slice_index (slice_set values at (with_number (slice_index values at) table_number)) at ≡ with_number (slice_index values at) table_number = get_or-set_same values at (with_number (slice_index values at) table_number) 0 lies in
        let recorded : IsRecorded (W at) (with_number (slice_index values at) table_number) = told_more (V at) (W at) table_number (slice_index values at) (old at) (λ x w. immediate_halt x (new at x w)) here small (positive at) (t.each at inside_too) in
        let P : ℕ → Type 0 = λ n. IsRecorded (W n) (slice_index (slice_set values at (with_number (slice_index values at) table_number)) n) in
        subst P (sym same) (subst (IsRecorded (W at)) (sym is) recorded)
    by a inside (inr far) =
        let kept : slice_index (slice_set values at (with_number (slice_index values at) table_number)) a ≡ slice_index values a = get_or-set_other values at a (with_number (slice_index values at) table_number) 0 far in
        subst (IsRecorded (W a)) (sym kept) (told_same (V a) (W a) (slice_index values a) (old a) (λ x w. was a x far (new a x w)) (t.each a inside))
