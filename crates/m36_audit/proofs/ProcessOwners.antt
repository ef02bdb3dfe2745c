-- A process is recorded for every core word where it has something.
use Rattle.std.proofs.Common.{◌≡◌, ◌≢◌, ℕ, ◌+◌, ◌^◌, ◌<◌, ◌≤◌, length, refl, sym, ◌∙◌, ap, subst, inl, inr, arith}
use Rattle.std.specs.Prelude.{◌⊎◌, Bool, true, false, not, ◌==◌, nat_lt, List, slice_index, slice_get, Option, Some}
use Rattle.std.proofs.lemmas.Bool.{cases_eq, cases_lt, ltb-true, lt-ltb, eq-eqb, ne_eqb}
use Rattle.std.proofs.lemmas.List.{get_or-set_same, get_or-set_other, length-set}
use Rattle.m36_desc.specs.Fields.{DbrFields}
use Rattle.m36_model.specs.Audit.{IsWordOfTable, IsSegmentWord}
use Rattle.m36_audit.specs.TableMarks.{AreMarked}
use Rattle.m36_audit.specs.Runs.{run, covers, coverage}
use Rattle.m36_audit.specs.RecordedNumbers.{with_number, IsRecorded, AreRecorded}
use Rattle.m36_audit.specs.WordOwners.{IsOfProcessBelow, OwnsTableWord, OwnsSegmentWord, with_owner, with_owner_at, AreOwned}
use Rattle.m36_audit.proofs.Counting.{one}
use Rattle.m36_audit.proofs.Conditions.{covers_is, word_counts}
use Rattle.m36_audit.proofs.SegmentWords.{covered_word}
use Rattle.m36_audit.proofs.LookupLaws.{told_same, told_more}

module _ (Has : ℕ → ℕ → ℕ → Type 0) (k : ℕ) (few : k < 8) (size : ℕ) (test : ℕ → Bool) (there : (q : ℕ) → q < size → test q ≡ true → Has k q (k + 1)) (tested : (q x : ℕ) → q < size → Has k q x → (test q ≡ true) × (x ≡ k + 1)) (positive : (j q x : ℕ) → Has j q x → 0 < x) where
  still : (q x : ℕ) → IsOfProcessBelow Has k q x → IsOfProcessBelow Has (k + 1) q x
  still q x b = let lt = b.1 in (b.0, omega arith, b.2)

  split : (q x : ℕ) → (b : IsOfProcessBelow Has (k + 1) q x) → IsOfProcessBelow Has k q x ⊎ Has k q x
  split q x b = at (cases_lt b.0 k)
    where
      at : (b.0 < k) ⊎ (k ≤ b.0) → IsOfProcessBelow Has k q x ⊎ Has k q x
      at (inl lt) = inl (b.0, lt, b.2)
      at (inr le) =
          let lt = b.1 in
          let e : b.0 ≡ k = omega arith in
          inr (subst (λ (n : ℕ). Has n q x) e b.2)

  joins : (q x : ℕ) → q < size → IsOfProcessBelow Has k q x ⊎ Has k q x → IsOfProcessBelow Has k q x ⊎ (x ≡ k + 1)
  joins q x inside (inl b) = inl b
  joins q x inside (inr h) = inr (tested q x inside h).1

  stays : (q x : ℕ) → q < size → test q ≡ false → IsOfProcessBelow Has k q x ⊎ Has k q x → IsOfProcessBelow Has k q x
  stays q x inside e (inl b) = b
  stays q x inside e (inr h) = let f = (tested q x inside h).0 in cc

  told_by : (q seen : ℕ) (b : Bool) → q < size → test q ≡ b → IsRecorded (IsOfProcessBelow Has k q) seen → IsRecorded (IsOfProcessBelow Has (k + 1) q) (with_owner b seen (k + 1))
  told_by q seen true inside e t =
      let lt : k < k + 1 = omega arith in
      told_more (IsOfProcessBelow Has k q) (IsOfProcessBelow Has (k + 1) q) (k + 1) seen (still q) (λ x w. joins q x inside (split q x w)) (k, lt, there q inside e) (omega arith) (λ x b. positive b.0 q x b.2) t
  told_by q seen false inside e t =
      told_same (IsOfProcessBelow Has k q) (IsOfProcessBelow Has (k + 1) q) seen (still q) (λ x w. stays q x inside e (split q x w)) t

  pub owners_told : (old new : List ℕ) → AreOwned test (k + 1) size old new → AreRecorded (IsOfProcessBelow Has k) size old → AreRecorded (IsOfProcessBelow Has (k + 1)) size new
  owners_told old new o t =
      record {
        len = o.len ∙ t.len;
        each = λ q inside. subst (IsRecorded (IsOfProcessBelow Has (k + 1) q)) (sym (o.before q inside)) (told_by q (slice_index old q) (test q) inside refl (t.each q inside));
      }

not_on : (m : ℕ) → not (m == 0) ≡ true → m ≢ 0
not_on m h e = let f = ap not (eq-eqb m 0 e) in cc

on_not : (m : ℕ) → (m ≡ 0 → ⊥) → not (m == 0) ≡ true
on_not m far = ap not (ne_eqb m 0 far)

-- table words
pub tables_owned : (core : List ℕ) (dbrs : List DbrFields) (dbr : DbrFields) (k : ℕ) → k < 8 → slice_get dbrs k ≡ Some dbr → (marks : List ℕ) (least : Option ℕ) → AreMarked (IsWordOfTable core dbr) (length core) marks least → (old new : List ℕ) → AreOwned (λ q. not (slice_index marks q == 0)) (k + 1) (length core) old new → AreRecorded (IsOfProcessBelow (OwnsTableWord core dbrs) k) (length core) old → AreRecorded (IsOfProcessBelow (OwnsTableWord core dbrs) (k + 1)) (length core) new
tables_owned core dbrs dbr k few process marks least m old new o t =
    owners_told (OwnsTableWord core dbrs) k few (length core) (λ q. not (slice_index marks q == 0)) there tested (λ j q x h. let is = h.is in omega arith) old new o t
  where
    there : (q : ℕ) → q < length core → not (slice_index marks q == 0) ≡ true → OwnsTableWord core dbrs k q (k + 1)
    there q inside h =
        let mark = m.some q (not_on (slice_index marks q) h) in
        record { dbr = dbr; process = process; table = mark.table; of = mark.of; is = refl }

    tested : (q x : ℕ) → q < length core → OwnsTableWord core dbrs k q x → (not (slice_index marks q == 0) ≡ true) × (x ≡ k + 1)
    tested q x inside h =
        let at = h.process in
        let one_dbr : h.dbr ≡ dbr = cc in
        (on_not (slice_index marks q) (λ e. m.none q inside e h.table (subst (λ (d : DbrFields). IsWordOfTable core d h.table q) one_dbr h.of)), h.is)

-- segment words
pub segments_owned : (core : List ℕ) (dbrs : List DbrFields) (dbr : DbrFields) (k : ℕ) → k < 8 → slice_get dbrs k ≡ Some dbr → (old new : List ℕ) → AreOwned (λ q. nat_lt 0 (coverage core dbr q)) (k + 1) (length core) old new → AreRecorded (IsOfProcessBelow (OwnsSegmentWord core dbrs) k) (length core) old → AreRecorded (IsOfProcessBelow (OwnsSegmentWord core dbrs) (k + 1)) (length core) new
segments_owned core dbrs dbr k few process old new o t =
    owners_told (OwnsSegmentWord core dbrs) k few (length core) (λ q. nat_lt 0 (coverage core dbr q)) there tested (λ j q x h. let is = h.is in omega arith) old new o t
  where
    there : (q : ℕ) → q < length core → nat_lt 0 (coverage core dbr q) ≡ true → OwnsSegmentWord core dbrs k q (k + 1)
    there q inside h =
        let some : 0 < coverage core dbr q = ltb-true 0 (coverage core dbr q) h in
        let c = one (λ i. covers q (run core dbr i)) (2 ^ 23) (omega arith) in
        let x = covered_word core dbr c.at q inside (covers_is (run core dbr c.at) q c.passes) in
        record { dbr = dbr; process = process; seg = x.seg; w = x.w; word = x.word; is = refl }

    tested : (q x : ℕ) → q < length core → OwnsSegmentWord core dbrs k q x → (nat_lt 0 (coverage core dbr q) ≡ true) × (x ≡ k + 1)
    tested q x inside h =
        let at = h.process in
        let one_dbr : h.dbr ≡ dbr = cc in
        let counts = word_counts core dbr h.seg h.w q (subst (λ (d : DbrFields). IsSegmentWord core d h.seg h.w q) one_dbr h.word) in
        (lt-ltb 0 (coverage core dbr q) (omega arith), h.is)

owned_len : (b : Bool) (values : List ℕ) (a table_number : ℕ) → length (with_owner_at b values a table_number) ≡ length values
owned_len true values a table_number = length-set values a (with_number (slice_index values a) table_number)
owned_len false values a table_number = refl

owned_here : (b : Bool) (values : List ℕ) (a table_number : ℕ) → a < length values → slice_index (with_owner_at b values a table_number) a ≡ with_owner b (slice_index values a) table_number
owned_here true values a table_number inside = get_or-set_same values a (with_number (slice_index values a) table_number) 0 inside
owned_here false values a table_number inside = refl

owned_far : (b : Bool) (values : List ℕ) (a q table_number : ℕ) → q ≢ a → slice_index (with_owner_at b values a table_number) q ≡ slice_index values q
owned_far true values a q table_number far = get_or-set_other values a q (with_number (slice_index values a) table_number) 0 far
owned_far false values a q table_number far = refl

-- one more word
pub owned_next : (test : ℕ → Bool) (table_number a : ℕ) (b : Bool) (old now after : List ℕ) → b ≡ test a → a < length old → after ≡ with_owner_at b now a table_number → AreOwned test table_number a old now → AreOwned test table_number (a + 1) old after
owned_next test table_number a b old now after e inside f o =
    record {
      len = ap length f ∙ owned_len b now a table_number ∙ o.len;
      before = λ q lt. at q lt (cases_eq q a);
      after = λ q le.
          let far : q ≢ a = omega arith in
          let past : a ≤ q = omega arith in
          ap (λ (l : List ℕ). slice_index l q) f ∙ owned_far b now a q table_number far ∙ o.after q past;
    }
  where
    at : (q : ℕ) → q < a + 1 → (q ≡ a) ⊎ (q ≡ a → ⊥) → slice_index after q ≡ with_owner (test q) (slice_index old q) table_number
    at q lt (inl same) =
        let len = o.len in
        let lies : a < length now = omega arith in
        let le : a ≤ a = omega arith in
        ap (λ (n : ℕ). slice_index after n) same
        ∙ ap (λ (l : List ℕ). slice_index l a) f
        ∙ owned_here b now a table_number lies
        ∙ (λ i. with_owner (e i) (o.after a le i) table_number)
        ∙ ap (λ (n : ℕ). with_owner (test n) (slice_index old n) table_number) (sym same)
    at q lt (inr far) =
        let near : q < a = omega arith in
        ap (λ (l : List ℕ). slice_index l q) f ∙ owned_far b now a q table_number far ∙ o.before q near
