-- Counts of the runs that begin and end at each word, and how many runs cover a word.
use Rattle.std.proofs.Common.{◌≡◌, ℕ, zero, suc, ◌+◌, ◌-◌, ◌<◌, ◌≤◌, length, refl, sym, ◌∙◌, ap, subst, inl, inr, arith}
use Rattle.std.specs.Prelude.{◌⊎◌, Bool, false, nat_lt, nat_le, ◌==◌, ◌&&◌, List, Option, Some, None, slice_index}
use Rattle.std.proofs.lemmas.Bool.{cases_eq, cases_lt, lt-ltb, le-ltb, le-leb, lt-leb, eq-eqb, ne_eqb}
use Rattle.std.proofs.lemmas.List.{get_or-set_same, get_or-set_other, length-set}
use Rattle.m36_word.specs.Bits.{of_bit}
use Rattle.m36_audit.specs.declared.run.Run.{Run}
use Rattle.m36_audit.specs.Runs.{count_below, begins_at, ends_at, covers, with_one_more_at, AreCounted, begins_before, ends_before, IsOpenCount, EndAfterBegin}
use Rattle.m36_audit.proofs.Counting.{count_most, count_more, count_sum, count_none, count_past}

counted_at : (counts : List ℕ) (x a : ℕ) → a < length counts → slice_index (with_one_more_at counts x) a ≡ slice_index counts a + of_bit (x == a)
counted_at counts x a lies = at (cases_eq a x)
  where
    at : (a ≡ x) ⊎ (a ≡ x → ⊥) → slice_index (with_one_more_at counts x) a ≡ slice_index counts a + of_bit (x == a)
    at (inl e) =
        let bit : of_bit (x == a) ≡ 1 = ap of_bit (eq-eqb x a (sym e)) in
        let lies_too : x < length counts = subst (λ (n : ℕ). n < length counts) e lies in
        let put : slice_index (with_one_more_at counts x) a ≡ slice_index counts x + 1 = ap (λ (n : ℕ). slice_index (with_one_more_at counts x) n) e ∙ get_or-set_same counts x (slice_index counts x + 1) 0 lies_too in
        let same : slice_index counts x ≡ slice_index counts a = ap (λ (n : ℕ). slice_index counts n) (sym e) in
        omega arith
    at (inr far) =
        let bit : of_bit (x == a) ≡ 0 = ap of_bit (ne_eqb x a (λ e. far (sym e))) in
        let kept : slice_index (with_one_more_at counts x) a ≡ slice_index counts a = get_or-set_other counts x a (slice_index counts x + 1) 0 far in
        omega arith

-- counting one more run
pub counted_more : (runs : ℕ → Option Run) (n size : ℕ) (starts stops : List ℕ) (r : Run) → runs n ≡ Some r → AreCounted runs n size starts stops → AreCounted runs (n + 1) size (with_one_more_at starts r.first) (with_one_more_at stops r.end)
counted_more runs n size starts stops r e c =
    record {
      starts_len = length-set starts r.first (slice_index starts r.first + 1) ∙ c.starts_len;
      stops_len = length-set stops r.end (slice_index stops r.end + 1) ∙ c.stops_len;
      begin = λ a inside.
          let put = counted_at starts r.first a (subst (λ (k : ℕ). a < k) (sym c.starts_len) inside) in
          let before = c.begin a inside in
          let more = count_more (λ i. begins_at a (runs i)) n in
          let here : of_bit (begins_at a (runs n)) ≡ of_bit (r.first == a) = ap (λ (o : Option Run). of_bit (begins_at a o)) e in
          omega arith;
      end = λ a inside.
          let put = counted_at stops r.end a (subst (λ (k : ℕ). a < k) (sym c.stops_len) inside) in
          let before = c.end a inside in
          let more = count_more (λ i. ends_at a (runs i)) n in
          let here : of_bit (ends_at a (runs n)) ≡ of_bit (r.end == a) = ap (λ (o : Option Run). of_bit (ends_at a o)) e in
          omega arith;
    }

-- numbers without a run are skipped
pub counted_on : (runs : ℕ → Option Run) (n m size : ℕ) (starts stops : List ℕ) → n ≤ m → ((i : ℕ) → n ≤ i → i < m → runs i ≡ None) → AreCounted runs n size starts stops → AreCounted runs m size starts stops
counted_on runs n m size starts stops le none c =
    record {
      starts_len = c.starts_len;
      stops_len = c.stops_len;
      begin = λ a inside. c.begin a inside ∙ sym (stays (λ i. begins_at a (runs i)) (λ i far near. ap (begins_at a) (none i far near)));
      end = λ a inside. c.end a inside ∙ sym (stays (λ i. ends_at a (runs i)) (λ i far near. ap (ends_at a) (none i far near)));
    }
  where
    stays : (f : ℕ → Bool) → ((i : ℕ) → n ≤ i → i < m → f i ≡ false) → count_below f m ≡ count_below f n
    stays f off =
        let e : m ≡ n + (m - n) = omega arith in
        ap (count_below f) e ∙ count_past f n (m - n) (λ i far near. off i far (omega arith))

-- no more runs begin or end at a word than there are runs
pub starts_most : (runs : ℕ → Option Run) (n size : ℕ) (starts stops : List ℕ) → AreCounted runs n size starts stops → (a : ℕ) → a < size → slice_index starts a ≤ n
starts_most runs n size starts stops c a inside =
    let here = c.begin a inside in
    let most = count_most (λ i. begins_at a (runs i)) n in
    omega arith

pub stops_most : (runs : ℕ → Option Run) (n size : ℕ) (starts stops : List ℕ) → AreCounted runs n size starts stops → (a : ℕ) → a < size → slice_index stops a ≤ n
stops_most runs n size starts stops c a inside =
    let here = c.end a inside in
    let most = count_most (λ i. ends_at a (runs i)) n in
    omega arith

next_bit : (x a : ℕ) → of_bit (nat_lt x (a + 1)) ≡ of_bit (nat_lt x a) + of_bit (x == a)
next_bit x a = at (cases_eq x a) (cases_lt x a)
  where
    at : (x ≡ a) ⊎ (x ≡ a → ⊥) → (x < a) ⊎ (a ≤ x) → of_bit (nat_lt x (a + 1)) ≡ of_bit (nat_lt x a) + of_bit (x == a)
    at (inl e) b =
        let equal : of_bit (x == a) ≡ 1 = ap of_bit (eq-eqb x a e) in
        let before : of_bit (nat_lt x a) ≡ 0 = ap of_bit (le-ltb x a (omega arith)) in
        let next : of_bit (nat_lt x (a + 1)) ≡ 1 = ap of_bit (lt-ltb x (a + 1) (omega arith)) in
        omega arith
    at (inr far) (inl lt) =
        let equal : of_bit (x == a) ≡ 0 = ap of_bit (ne_eqb x a far) in
        let before : of_bit (nat_lt x a) ≡ 1 = ap of_bit (lt-ltb x a lt) in
        let next : of_bit (nat_lt x (a + 1)) ≡ 1 = ap of_bit (lt-ltb x (a + 1) (omega arith)) in
        omega arith
    at (inr far) (inr le) =
        let equal : of_bit (x == a) ≡ 0 = ap of_bit (ne_eqb x a far) in
        let before : of_bit (nat_lt x a) ≡ 0 = ap of_bit (le-ltb x a le) in
        let next : of_bit (nat_lt x (a + 1)) ≡ 0 = ap of_bit (le-ltb x (a + 1) (omega arith)) in
        omega arith

cover_bit : (x y a : ℕ) → x ≤ y → of_bit (nat_lt x (a + 1)) ≡ of_bit (nat_lt y (a + 1)) + of_bit (nat_le x a && nat_lt a y)
cover_bit x y a le = at (cases_lt a x) (cases_lt a y)
  where
    at : (a < x) ⊎ (x ≤ a) → (a < y) ⊎ (y ≤ a) → of_bit (nat_lt x (a + 1)) ≡ of_bit (nat_lt y (a + 1)) + of_bit (nat_le x a && nat_lt a y)
    at (inl before) b =
        let first : of_bit (nat_lt x (a + 1)) ≡ 0 = ap of_bit (le-ltb x (a + 1) (omega arith)) in
        let end : of_bit (nat_lt y (a + 1)) ≡ 0 = ap of_bit (le-ltb y (a + 1) (omega arith)) in
        let none : of_bit (nat_le x a && nat_lt a y) ≡ 0 = ap (λ (v : Bool). of_bit (v && nat_lt a y)) (lt-leb x a before) in
        omega arith
    at (inr begun) (inl open_yet) =
        let first : of_bit (nat_lt x (a + 1)) ≡ 1 = ap of_bit (lt-ltb x (a + 1) (omega arith)) in
        let end : of_bit (nat_lt y (a + 1)) ≡ 0 = ap of_bit (le-ltb y (a + 1) (omega arith)) in
        let both : of_bit (nat_le x a && nat_lt a y) ≡ 1 = ap (λ (v : Bool). of_bit (v && nat_lt a y)) (le-leb x a begun) ∙ ap of_bit (lt-ltb a y open_yet) in
        omega arith
    at (inr begun) (inr over) =
        let first : of_bit (nat_lt x (a + 1)) ≡ 1 = ap of_bit (lt-ltb x (a + 1) (omega arith)) in
        let end : of_bit (nat_lt y (a + 1)) ≡ 1 = ap of_bit (lt-ltb y (a + 1) (omega arith)) in
        let none : of_bit (nat_le x a && nat_lt a y) ≡ 0 = ap (λ (v : Bool). of_bit (v && nat_lt a y)) (le-leb x a begun) ∙ ap of_bit (le-ltb a y over) in
        omega arith

module _ (runs : ℕ → Option Run) (n : ℕ) where
  next_begun : (a : ℕ) → count_below (λ i. begins_before (a + 1) (runs i)) n ≡ count_below (λ i. begins_before a (runs i)) n + count_below (λ i. begins_at a (runs i)) n
  next_begun a = count_sum (λ i. begins_before (a + 1) (runs i)) (λ i. begins_before a (runs i)) (λ i. begins_at a (runs i)) n (λ i. each (runs i))
    where
      each : (o : Option Run) → of_bit (begins_before (a + 1) o) ≡ of_bit (begins_before a o) + of_bit (begins_at a o)
      each None = refl
      each (Some r) = next_bit r.first a

  next_ended : (a : ℕ) → count_below (λ i. ends_before (a + 1) (runs i)) n ≡ count_below (λ i. ends_before a (runs i)) n + count_below (λ i. ends_at a (runs i)) n
  next_ended a = count_sum (λ i. ends_before (a + 1) (runs i)) (λ i. ends_before a (runs i)) (λ i. ends_at a (runs i)) n (λ i. each (runs i))
    where
      each : (o : Option Run) → of_bit (ends_before (a + 1) o) ≡ of_bit (ends_before a o) + of_bit (ends_at a o)
      each None = refl
      each (Some r) = next_bit r.end a

  covered : EndAfterBegin runs → (a : ℕ) → count_below (λ i. begins_before (a + 1) (runs i)) n ≡ count_below (λ i. ends_before (a + 1) (runs i)) n + count_below (λ i. covers a (runs i)) n
  covered order a = count_sum (λ i. begins_before (a + 1) (runs i)) (λ i. ends_before (a + 1) (runs i)) (λ i. covers a (runs i)) n (λ i. each i (runs i) refl)
    where
      each : (i : ℕ) (o : Option Run) → runs i ≡ o → of_bit (begins_before (a + 1) o) ≡ of_bit (ends_before (a + 1) o) + of_bit (covers a o)
      each i None e = refl
      each i (Some r) e = cover_bit r.first r.end a (order.each i r e)

  -- no run begins before the first word
  pub none_open : IsOpenCount runs n 0 0
  none_open =
      let begun = count_none (λ i. begins_before 0 (runs i)) n (λ i. early (runs i)) in
      let ended = count_none (λ i. ends_before 0 (runs i)) n (λ i. late (runs i)) in
      record { sum = omega arith }
    where
      early : (o : Option Run) → begins_before 0 o ≡ false
      early None = refl
      early (Some r) = le-ltb r.first 0 (omega arith)

      late : (o : Option Run) → ends_before 0 o ≡ false
      late None = refl
      late (Some r) = le-ltb r.end 0 (omega arith)

  -- from a word on at which no more runs begin, no more are open
  begun_on : (size : ℕ) (starts stops : List ℕ) → AreCounted runs n size starts stops → (a open_runs : ℕ) → IsOpenCount runs n a open_runs → ((q : ℕ) → a ≤ q → slice_index starts q ≡ 0)
      → (more b : ℕ) → b ≡ a + more → b ≤ size → count_below (λ i. begins_before b (runs i)) n ≤ open_runs + count_below (λ i. ends_before b (runs i)) n
  begun_on size starts stops c a open_runs k none zero b e inside =
      let sum = k.sum in
      let here : b ≡ a = omega arith in
      let begun = ap (λ (x : ℕ). count_below (λ i. begins_before x (runs i)) n) here in
      let ended = ap (λ (x : ℕ). count_below (λ i. ends_before x (runs i)) n) here in
      omega arith
  begun_on size starts stops c a open_runs k none (suc more) b e inside =
      let before = begun_on size starts stops c a open_runs k none more (a + more) refl (omega arith) in
      let begin = c.begin (a + more) (omega arith) in
      let nothing = none (a + more) (omega arith) in
      let next = next_begun (a + more) in
      let next_too = next_ended (a + more) in
      let here : b ≡ a + more + 1 = omega arith in
      let begun = ap (λ (x : ℕ). count_below (λ i. begins_before x (runs i)) n) here in
      let ended = ap (λ (x : ℕ). count_below (λ i. ends_before x (runs i)) n) here in
      omega arith

  pub open_on : (size : ℕ) (starts stops : List ℕ) → AreCounted runs n size starts stops → EndAfterBegin runs → (a open_runs : ℕ) → IsOpenCount runs n a open_runs → ((q : ℕ) → a ≤ q → slice_index starts q ≡ 0)
      → (p : ℕ) → a ≤ p → p < size → count_below (λ i. covers p (runs i)) n ≤ open_runs
  open_on size starts stops c order a open_runs k none p past inside =
      let begun = begun_on size starts stops c a open_runs k none ((p + 1) - a) (p + 1) (omega arith) (omega arith) in
      let all = covered order p in
      omega arith

  -- what a step from a word to the next does to the number of open runs
  module _ (size : ℕ) (starts stops : List ℕ) (c : AreCounted runs n size starts stops) (order : EndAfterBegin runs) (a open_runs : ℕ) (k : IsOpenCount runs n a open_runs) (inside : a < size) where
    pub open_most : open_runs + slice_index starts a ≤ n
    open_most =
        let sum = k.sum in
        let begin = c.begin a inside in
        let next = next_begun a in
        let most = count_most (λ i. begins_before (a + 1) (runs i)) n in
        omega arith

    pub open_enough : slice_index stops a ≤ open_runs + slice_index starts a
    open_enough =
        let sum = k.sum in
        let begin = c.begin a inside in
        let end = c.end a inside in
        let next = next_begun a in
        let next_too = next_ended a in
        let all = covered order a in
        omega arith

    pub open_covers : (open_runs + slice_index starts a) - slice_index stops a ≡ count_below (λ i. covers a (runs i)) n
    open_covers =
        let sum = k.sum in
        let begin = c.begin a inside in
        let end = c.end a inside in
        let next = next_begun a in
        let next_too = next_ended a in
        let all = covered order a in
        omega arith

    pub open_next : IsOpenCount runs n (a + 1) ((open_runs + slice_index starts a) - slice_index stops a)
    open_next =
        let sum = k.sum in
        let begin = c.begin a inside in
        let end = c.end a inside in
        let next = next_begun a in
        let next_too = next_ended a in
        let all = covered order a in
        record { sum = omega arith }
