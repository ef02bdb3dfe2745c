-- One more mark for a table at a word.
use Rattle.std.proofs.Common.{◌≡◌, ◌≢◌, ℕ, ◌<◌, ◌≤◌, length, refl, sym, ◌∙◌, ap, subst, inl, inr, arith, min}
use Rattle.std.specs.Prelude.{◌⊎◌, Bool, true, false, ◌||◌, ◌==◌, List, Option, Some, None, slice_index, slice_set}
use Rattle.std.proofs.lemmas.Bool.{cases_eq, cases_lt, eqb-true, eqb-false}
use Rattle.std.proofs.lemmas.List.{get_or-set_same, get_or-set_other, length-set, set_past, get_or_past}
use Rattle.m36_model.specs.Audit.{Table, Sdws, Directory, Pages, IsInTwo, Finds}
use Rattle.m36_audit.specs.TableMarks.{table_number, tables_by, tables_marked, lesser, least_by, least_marked, HasTableNumber, AreMarked}

-- equivalent conditions have the same finding
pub finds_same : (A B : ℕ → Type 0) (found : Option ℕ) → ((a : ℕ) → A a → B a) → ((a : ℕ) → B a → A a) → Finds A found → Finds B found
finds_same A B None there back f = λ p h. f p (back p h)
finds_same A B (Some p) there back f = (there p f.0, λ q h. f.1 q (back q h))

-- a condition with one more place that breaks it
also_by : (A B : ℕ → Type 0) (found : Option ℕ) (p : ℕ) → ((a : ℕ) → A a → B a) → ((a : ℕ) → B a → A a ⊎ (a ≡ p)) → B p → Finds A found → Finds B (lesser found p)
also_by A B None p there back here f =
    (here, λ q h. at q (back q h))
  where
    at : (q : ℕ) → A q ⊎ (q ≡ p) → p ≤ q
    at q (inl k) = absurd (f q k)
    at q (inr e) = omega arith
also_by A B (Some r) p there back here f =
    (pick (cases_lt r p), λ q h. at q (back q h))
  where
    at : (q : ℕ) → A q ⊎ (q ≡ p) → min r p ≤ q
    at q (inl k) = let low = f.1 q k in omega arith
    at q (inr e) = omega arith

    pick : (r < p) ⊎ (p ≤ r) → B (min r p)
    pick (inl k) = let e : r ≡ min r p = omega arith in subst B e (there r f.0)
    pick (inr k) = let e : p ≡ min r p = omega arith in subst B e here

pub same_table : (t u : Table) → table_number t ≡ table_number u → t ≡ u
same_table Sdws Sdws h = refl
same_table Sdws Directory h = absurd (omega arith)
same_table Sdws (Pages s) h = absurd (omega arith)
same_table Directory Sdws h = absurd (omega arith)
same_table Directory Directory h = refl
same_table Directory (Pages s) h = absurd (omega arith)
same_table (Pages s) Sdws h = absurd (omega arith)
same_table (Pages s) Directory h = absurd (omega arith)
same_table (Pages s) (Pages u) h = let e : s ≡ u = omega arith in ap (λ (n : ℕ). Pages n) e

numbered : (t : Table) → 0 < table_number t
numbered Sdws = omega arith
numbered Directory = omega arith
numbered (Pages s) = omega arith

module _ (V W : Table → ℕ → Type 0) (t0 : Table) (a0 : ℕ) (old : (t : Table) (a : ℕ) → V t a → W t a) (new : (t : Table) (a : ℕ) → W t a → V t a ⊎ ((t ≡ t0) × (a ≡ a0))) (here : W t0 a0) (size : ℕ) (tables : List ℕ) (least : Option ℕ) (m : AreMarked V size tables least) where
  was_by : (t : Table) (a : ℕ) → (a ≡ a0 → ⊥) → V t a ⊎ ((t ≡ t0) × (a ≡ a0)) → V t a
  was_by t a far (inl v) = v
  was_by t a far (inr e) = absurd (far e.1)

  -- nothing changes for other words
  was : (t : Table) (a : ℕ) → (a ≡ a0 → ⊥) → W t a → V t a
  was t a far w = was_by t a far (new t a w)

  both_were : (a : ℕ) → ((t : Table) → W t a → V t a) → IsInTwo W size a → IsInTwo V size a
  both_were a back k = record { inside = k.inside; table = k.table; other = k.other; of = back k.table k.of; of_other = back k.other k.of_other; differ = k.differ }

  both_are : (a : ℕ) → IsInTwo V size a → IsInTwo W size a
  both_are a k = record { inside = k.inside; table = k.table; other = k.other; of = old k.table a k.of; of_other = old k.other a k.of_other; differ = k.differ }

  still_has : (a n : ℕ) → HasTableNumber V a n → HasTableNumber W a n
  still_has a n k = record { table = k.table; of = old k.table a k.of; numbered = k.numbered }

  -- the word had no mark
  module _ (free : slice_index tables a0 ≡ 0) where
    only_by : (t : Table) → a0 < size → V t a0 ⊎ ((t ≡ t0) × (a0 ≡ a0)) → t ≡ t0
    only_by t inside (inl v) = absurd (m.none a0 inside free t v)
    only_by t inside (inr e) = e.0

    only : (t : Table) → a0 < size → W t a0 → t ≡ t0
    only t inside w = only_by t inside (new t a0 w)

    free_none : (a : ℕ) → a < size → slice_index (slice_set tables a0 (table_number t0)) a ≡ 0 → (t : Table) → W t a → ⊥
    free_none a inside e t w = at (cases_eq a a0)
      where
        at : (a ≡ a0) ⊎ (a ≡ a0 → ⊥) → ⊥
        at (inl same) =
            let some = numbered t0 in
            let lies : a0 < length tables = subst (λ (n : ℕ). a0 < n) (sym m.len) (subst (λ (n : ℕ). n < size) same inside) in
            let put : slice_index (slice_set tables a0 (table_number t0)) a ≡ table_number t0 = ap (λ (n : ℕ). slice_index (slice_set tables a0 (table_number t0)) n) same ∙ get_or-set_same tables a0 (table_number t0) 0 lies in
            omega arith
        at (inr far) = m.none a inside (sym (get_or-set_other tables a0 a (table_number t0) 0 far) ∙ e) t (was t a far w)

    free_some : (a : ℕ) → slice_index (slice_set tables a0 (table_number t0)) a ≢ 0 → HasTableNumber W a (slice_index (slice_set tables a0 (table_number t0)) a)
    free_some a some = at (cases_eq a a0) (cases_lt a0 (length tables))
      where
        at : (a ≡ a0) ⊎ (a ≡ a0 → ⊥) → (a0 < length tables) ⊎ (length tables ≤ a0) → HasTableNumber W a (slice_index (slice_set tables a0 (table_number t0)) a)
        at (inl same) (inl lies) =
            record {
              table = t0;
              of = subst (λ (n : ℕ). W t0 n) (sym same) here;
              numbered = ap (λ (n : ℕ). slice_index (slice_set tables a0 (table_number t0)) n) same ∙ get_or-set_same tables a0 (table_number t0) 0 lies;
            }
        at (inl same) (inr past) =
            let kept : slice_index (slice_set tables a0 (table_number t0)) a ≡ 0 = ap (λ (l : List ℕ). slice_index l a) (set_past tables a0 (table_number t0) past) ∙ ap (λ (n : ℕ). slice_index tables n) same ∙ free in
            absurd (some kept)
        at (inr far) b =
            let kept : slice_index (slice_set tables a0 (table_number t0)) a ≡ slice_index tables a = get_or-set_other tables a0 a (table_number t0) 0 far in
            let k : HasTableNumber V a (slice_index tables a) = m.some a (λ e. some (kept ∙ e)) in
            record { table = k.table; of = old k.table a k.of; numbered = kept ∙ k.numbered }

    free_two : (a : ℕ) → IsInTwo W size a → IsInTwo V size a
    free_two a k = at (cases_eq a a0)
      where
        at : (a ≡ a0) ⊎ (a ≡ a0 → ⊥) → IsInTwo V size a
        at (inl same) =
            let inside : a0 < size = subst (λ (n : ℕ). n < size) same k.inside in
            let one = only k.table inside (subst (W k.table) same k.of) in
            let other = only k.other inside (subst (W k.other) same k.of_other) in
            absurd (k.differ (one ∙ sym other))
        at (inr far) = both_were a (λ t. was t a far) k

    free_marked : AreMarked W size (slice_set tables a0 (table_number t0)) least
    free_marked =
        record {
          len = length-set tables a0 (table_number t0) ∙ m.len;
          none = free_none;
          some = free_some;
          least_two = finds_same (IsInTwo V size) (IsInTwo W size) least both_are free_two m.least_two;
        }

  -- the word had a mark
  module _ (taken : slice_index tables a0 ≢ 0) where
    taken_none : (a : ℕ) → a < size → slice_index tables a ≡ 0 → (t : Table) → W t a → ⊥
    taken_none a inside e t w =
        m.none a inside e t (was t a (λ same. taken (ap (λ (n : ℕ). slice_index tables n) (sym same) ∙ e)) w)

    taken_marked : (found : Option ℕ) → Finds (IsInTwo W size) found → AreMarked W size tables found
    taken_marked found f =
        record { len = m.len; none = taken_none; some = λ a some. still_has a _ (m.some a some); least_two = f }

    -- by the same table
    same_was : slice_index tables a0 ≡ table_number t0 → (t : Table) (a : ℕ) → V t a ⊎ ((t ≡ t0) × (a ≡ a0)) → V t a
    same_was e t a (inl v) = v
    same_was e t a (inr k) =
        let had : HasTableNumber V a0 (slice_index tables a0) = m.some a0 taken in
        let table : had.table ≡ t = same_table had.table t0 (sym had.numbered ∙ e) ∙ sym k.0 in
        subst (V t) (sym k.1) (subst (λ (u : Table). V u a0) table had.of)

    same_marked : slice_index tables a0 ≡ table_number t0 → AreMarked W size tables least
    same_marked e =
        taken_marked least (finds_same (IsInTwo V size) (IsInTwo W size) least both_are (λ a. both_were a (λ t w. same_was e t a (new t a w))) m.least_two)

    lies : a0 < length tables
    lies = at (cases_lt a0 (length tables))
      where
        at : (a0 < length tables) ⊎ (length tables ≤ a0) → a0 < length tables
        at (inl k) = k
        at (inr past) = absurd (taken (get_or_past tables a0 0 past))

    -- by another table
    other_two : (slice_index tables a0 ≡ table_number t0 → ⊥) → IsInTwo W size a0
    other_two apart =
        let had : HasTableNumber V a0 (slice_index tables a0) = m.some a0 taken in
        record {
          inside = subst (λ (n : ℕ). a0 < n) m.len lies;
          table = had.table;
          other = t0;
          of = old had.table a0 had.of;
          of_other = here;
          differ = λ e. apart (had.numbered ∙ ap table_number e);
        }

    other_back : (a : ℕ) → IsInTwo W size a → IsInTwo V size a ⊎ (a ≡ a0)
    other_back a k = at (cases_eq a a0)
      where
        at : (a ≡ a0) ⊎ (a ≡ a0 → ⊥) → IsInTwo V size a ⊎ (a ≡ a0)
        at (inl same) = inr same
        at (inr far) = inl (both_were a (λ t. was t a far) k)

    other_marked : (slice_index tables a0 ≡ table_number t0 → ⊥) → AreMarked W size tables (lesser least a0)
    other_marked apart =
        taken_marked (lesser least a0) (also_by (IsInTwo V size) (IsInTwo W size) least a0 both_are other_back (other_two apart) m.least_two)

  by_tests : (x y : Bool) → (slice_index tables a0 == 0) ≡ x → (slice_index tables a0 == table_number t0) ≡ y → AreMarked W size (tables_by x tables (table_number t0) a0) (least_by (x || y) least a0)
  by_tests true y e f = free_marked (eqb-true (slice_index tables a0) 0 e)
  by_tests false true e f = same_marked (eqb-false (slice_index tables a0) 0 e) (eqb-true (slice_index tables a0) (table_number t0) f)
  by_tests false false e f = other_marked (eqb-false (slice_index tables a0) 0 e) (eqb-false (slice_index tables a0) (table_number t0) f)

  -- after one more mark for a word of a table
  pub marked_more : AreMarked W size (tables_marked tables (table_number t0) a0) (least_marked tables least (table_number t0) a0)
  unfolding tables_marked least_marked
  marked_more = by_tests (slice_index tables a0 == 0) (slice_index tables a0 == table_number t0) refl refl
