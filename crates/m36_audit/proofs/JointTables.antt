-- The second condition between processes, from what is recorded for a core word.
use Rattle.std.proofs.Common.{◌≡◌, ◌≢◌, ℕ, ◌+◌, ◌*◌, ◌^◌, ◌<◌, ◌≤◌, length, refl, sym, ◌∙◌, ap, subst, inl, inr, arith}
use Rattle.std.specs.Prelude.{◌⊎◌, Bool, true, false, not, ◌==◌, ◌&&◌, ◌||◌, List, slice_index, slice_get, Some}
use Rattle.std.specs.Bool.{Decides}
use Rattle.std.proofs.lemmas.Bool.{eq-eqb, eqb-true, eqb-false, cases_eq}
use Rattle.std.proofs.lemmas.Option.{slice_get_within}
use Rattle.m36_desc.specs.Fields.{DbrFields}
use Rattle.m36_model.specs.Audit.{Table, Sdws, Directory, Pages, IsWordOfTable, IsSegmentWord}
use Rattle.m36_model.specs.JointAudit.{AreShared, IsUsedByOther, IsJointTable}
use Rattle.m36_audit.specs.Classes.{AreFirstEquals}
use Rattle.m36_audit.specs.RecordedNumbers.{several, TwoOf, IsRecorded, AreRecorded}
use Rattle.m36_audit.specs.WordOwners.{identity, HasTableNumbered, OwnsTableWord, OwnsSegmentWord, IsOfProcessBelow, is_joint_table_word}
use Rattle.m36_audit.proofs.Clashes.{Clash, clash}
use Rattle.m36_audit.proofs.SameDescriptors.{live_of, same_firsts, firsts_same}

module _ (core : List ℕ) (dbrs : List DbrFields) (firsts : List ℕ) (equal_descriptors : AreFirstEquals core dbrs (2 ^ 15 * length dbrs) firsts) (few : length dbrs ≤ 8) (a : ℕ) where
  shared_by : (k l : ℕ) (dbr other : DbrFields) (t u : Table) → k < length dbrs → l < length dbrs → slice_get dbrs k ≡ Some dbr → slice_get dbrs l ≡ Some other → IsWordOfTable core dbr t a → IsWordOfTable core other u a → AreShared core dbr other t u → identity firsts k t ≡ identity firsts l u
  shared_by k l dbr other (Pages s) (Pages r) lt lt_too at at_too of of_too h =
      ap (λ (n : ℕ). 17 + n) (same_firsts core dbrs firsts equal_descriptors k l s r dbr other (live_of core dbrs k s dbr of.1.sdw at of.1.live) (live_of core dbrs l r other of_too.1.sdw at_too of_too.1.live) lt lt_too h)
  shared_by k l dbr other (Pages s) Sdws lt lt_too at at_too of of_too h = absurd h
  shared_by k l dbr other (Pages s) Directory lt lt_too at at_too of of_too h = absurd h
  shared_by k l dbr other Sdws u lt lt_too at at_too of of_too h = absurd h
  shared_by k l dbr other Directory u lt lt_too at at_too of of_too h = absurd h

  same_by : (k l : ℕ) (dbr other : DbrFields) (t u : Table) → k < length dbrs → l < length dbrs → k ≢ l → slice_get dbrs k ≡ Some dbr → slice_get dbrs l ≡ Some other → IsWordOfTable core dbr t a → IsWordOfTable core other u a → identity firsts k t ≡ identity firsts l u → AreShared core dbr other t u
  same_by k l dbr other (Pages s) (Pages r) lt lt_too apart at at_too of of_too e =
      let one : slice_index firsts (2 ^ 15 * k + s) ≡ slice_index firsts (2 ^ 15 * l + r) = omega arith in
      firsts_same core dbrs firsts equal_descriptors k l s r dbr other (live_of core dbrs k s dbr of.1.sdw at of.1.live) (live_of core dbrs l r other of_too.1.sdw at_too of_too.1.live) lt lt_too one
  same_by k l dbr other (Pages s) Sdws lt lt_too apart at at_too of of_too e = absurd (omega arith)
  same_by k l dbr other (Pages s) Directory lt lt_too apart at at_too of of_too e = absurd (omega arith)
  same_by k l dbr other Sdws Sdws lt lt_too apart at at_too of of_too e = absurd (apart (omega arith))
  same_by k l dbr other Sdws Directory lt lt_too apart at at_too of of_too e = absurd (omega arith)
  same_by k l dbr other Sdws (Pages r) lt lt_too apart at at_too of of_too e = absurd (omega arith)
  same_by k l dbr other Directory Sdws lt lt_too apart at at_too of of_too e = absurd (omega arith)
  same_by k l dbr other Directory Directory lt lt_too apart at at_too of of_too e = absurd (apart (omega arith))
  same_by k l dbr other Directory (Pages r) lt lt_too apart at at_too of of_too e = absurd (omega arith)

  -- one of the processes has the table with this number at the word
  Has : ℕ → ℕ → Type 0
  Has k x = (k < length dbrs) × HasTableNumbered core dbrs firsts k a x

  has_table : (k : ℕ) (x : ℕ) → k < length dbrs → OwnsTableWord core dbrs k a x → (n : ℕ) × Has k n
  unfolding Has
  has_table k x lt h =
      (identity firsts k h.table, (lt, record { dbr = h.dbr; process = h.process; table = h.table; of = h.of; is = refl }))

  clash_breaks : a < length core → Clash Has → IsJointTable core dbrs a
  unfolding Has
  clash_breaks inside c =
      let one = c.has.1 in
      let other = c.has_other.1 in
      record {
        inside = inside;
        dbr = one.dbr;
        other = other.dbr;
        two = record { first = c.one; second = c.other; at = one.process; other_at = other.process; differ = c.apart };
        table = one.table;
        of = one.of;
        taken = inr (other.table, other.of, λ h. c.differ (one.is ∙ shared_by c.one c.other one.dbr other.dbr one.table other.table c.has.0 c.has_other.0 one.process other.process one.of other.of h ∙ sym other.is));
      }

  owners_apart : (k l x y : ℕ) → x ≡ k + 1 → y ≡ l + 1 → x ≢ y → k ≢ l
  owners_apart k l x y e f apart g = apart (omega arith)

  module _ (inside : a < length core) (tables segments identities : ℕ) (t : IsRecorded (IsOfProcessBelow (OwnsTableWord core dbrs) (length dbrs) a) tables) (s : IsRecorded (IsOfProcessBelow (OwnsSegmentWord core dbrs) (length dbrs) a) segments) (n : IsRecorded (IsOfProcessBelow (HasTableNumbered core dbrs firsts) (length dbrs) a) identities) where
    -- two different numbers mean two processes
    by_tables : tables ≡ several → identities ≡ several → IsJointTable core dbrs a
    unfolding Has
    by_tables e f =
        let p = t.two e in
        let q = n.two f in
        let one = has_table p.has.0 p.one p.has.1 p.has.2 in
        let other = has_table p.has_other.0 p.other p.has_other.1 p.has_other.2 in
        clash_breaks inside (clash Has (λ x y. cases_eq x y) p.has.0 p.has_other.0 q.has.0 q.has_other.0 one.0 other.0 q.one q.other (owners_apart p.has.0 p.has_other.0 p.one p.other p.has.2.is p.has_other.2.is p.differ) one.1 other.1 (q.has.1, q.has.2) (q.has_other.1, q.has_other.2) q.differ)

    -- a table of one process and a segment of another
    on_segment_of : (k l x y : ℕ) → k ≢ l → OwnsTableWord core dbrs k a x → OwnsSegmentWord core dbrs l a y → IsJointTable core dbrs a
    on_segment_of k l x y apart h g =
        record {
          inside = inside;
          dbr = h.dbr;
          other = g.dbr;
          two = record { first = k; second = l; at = h.process; other_at = g.process; differ = apart };
          table = h.table;
          of = h.of;
          taken = inl (g.seg, g.w, g.word);
        }

    -- one of two different processes is not this one
    table_beside : (l y : ℕ) → OwnsSegmentWord core dbrs l a y → TwoOf (IsOfProcessBelow (OwnsTableWord core dbrs) (length dbrs) a) → IsJointTable core dbrs a
    table_beside l y g p = at (cases_eq p.has.0 l)
      where
        at : (p.has.0 ≡ l) ⊎ (p.has.0 ≡ l → ⊥) → IsJointTable core dbrs a
        at (inr far) = on_segment_of p.has.0 l p.one y far p.has.2 g
        at (inl e) = on_segment_of p.has_other.0 l p.other y (λ f. owners_apart p.has.0 p.has_other.0 p.one p.other p.has.2.is p.has_other.2.is p.differ (e ∙ sym f)) p.has_other.2 g

    segment_beside : (k x : ℕ) → OwnsTableWord core dbrs k a x → TwoOf (IsOfProcessBelow (OwnsSegmentWord core dbrs) (length dbrs) a) → IsJointTable core dbrs a
    segment_beside k x h p = at (cases_eq k p.has.0)
      where
        at : (k ≡ p.has.0) ⊎ (k ≡ p.has.0 → ⊥) → IsJointTable core dbrs a
        at (inr far) = on_segment_of k p.has.0 x p.one far h p.has.2
        at (inl e) = on_segment_of k p.has_other.0 x p.other (λ f. owners_apart p.has.0 p.has_other.0 p.one p.other p.has.2.is p.has_other.2.is p.differ (sym e ∙ f)) h p.has_other.2

    by_segments : tables ≢ 0 → segments ≢ 0 → (tables ≢ segments) ⊎ (tables ≡ several) → IsJointTable core dbrs a
    by_segments some some_too apart = at (cases_eq tables several) (cases_eq segments several)
      where
        parted : (tables ≢ segments) ⊎ (tables ≡ several) → (tables ≡ several → ⊥) → tables ≢ segments
        parted (inl far) one = far
        parted (inr e) one = absurd (one e)

        at : (tables ≡ several) ⊎ (tables ≡ several → ⊥) → (segments ≡ several) ⊎ (segments ≡ several → ⊥) → IsJointTable core dbrs a
        at (inl e) (inl f) = let p = s.two f in table_beside p.has.0 p.one p.has.2 (t.two e)
        at (inl e) (inr g) = let p = s.one g some_too in table_beside p.0 segments p.2 (t.two e)
        at (inr one) (inl f) = let p = t.one one some in segment_beside p.0 tables p.2 (s.two f)
        at (inr one) (inr g) =
            let p = t.one one some in
            let q = s.one g some_too in
            on_segment_of p.0 q.0 tables segments (owners_apart p.0 q.0 tables segments p.2.is q.2.is (parted apart one)) p.2 q.2

    test_breaks : (p q u v w : Bool) → (tables == several) ≡ p → (identities == several) ≡ q → (tables == 0) ≡ u → (segments == 0) ≡ v → (tables == segments) ≡ w → ((p && q) || ((not u && not v) && (not w || p))) ≡ true → IsJointTable core dbrs a
    test_breaks true true u v w e f g h i passed = by_tables (eqb-true tables several e) (eqb-true identities several f)
    test_breaks true false false false w e f g h i passed = by_segments (eqb-false tables 0 g) (eqb-false segments 0 h) (inr (eqb-true tables several e))
    test_breaks false q false false false e f g h i passed = by_segments (eqb-false tables 0 g) (eqb-false segments 0 h) (inl (eqb-false tables segments i))
    test_breaks true false true v w e f g h i passed = cc
    test_breaks true false false true w e f g h i passed = cc
    test_breaks false q true v w e f g h i passed = cc
    test_breaks false q false true w e f g h i passed = cc
    test_breaks false q false false true e f g h i passed = cc

    -- the converse
    not_zero : (Has : ℕ → Type 0) (value k : ℕ) → IsRecorded Has value → Has (k + 1) → value ≢ 0
    not_zero Has value k recorded has e =
        let is = recorded.only (λ f. omega arith) (k + 1) has in
        omega arith

    two_several : (Has : ℕ → Type 0) (value x y : ℕ) → IsRecorded Has value → Has x → Has y → x ≢ y → value ≡ several
    two_several Has value x y recorded has has_too apart = at (cases_eq value several)
      where
        at : (value ≡ several) ⊎ (value ≡ several → ⊥) → value ≡ several
        at (inl e) = e
        at (inr far) = absurd (apart (recorded.only far x has ∙ sym (recorded.only far y has_too)))

    process_below : (k : ℕ) (dbr : DbrFields) → slice_get dbrs k ≡ Some dbr → k < length dbrs
    process_below k dbr h = slice_get_within dbrs k dbr h

    table_there : (k : ℕ) (dbr : DbrFields) (u : Table) → slice_get dbrs k ≡ Some dbr → IsWordOfTable core dbr u a → IsOfProcessBelow (OwnsTableWord core dbrs) (length dbrs) a (k + 1)
    table_there k dbr u at of = (k, process_below k dbr at, record { dbr = dbr; process = at; table = u; of = of; is = refl })

    segment_there : (l : ℕ) (other : DbrFields) (seg w : ℕ) → slice_get dbrs l ≡ Some other → IsSegmentWord core other seg w a → IsOfProcessBelow (OwnsSegmentWord core dbrs) (length dbrs) a (l + 1)
    segment_there l other seg w at word = (l, process_below l other at, record { dbr = other; process = at; seg = seg; w = w; word = word; is = refl })

    number_there : (k : ℕ) (dbr : DbrFields) (u : Table) → slice_get dbrs k ≡ Some dbr → IsWordOfTable core dbr u a → IsOfProcessBelow (HasTableNumbered core dbrs firsts) (length dbrs) a (identity firsts k u)
    number_there k dbr u at of = (k, process_below k dbr at, record { dbr = dbr; process = at; table = u; of = of; is = refl })

    next_apart : (k l : ℕ) → k ≢ l → (k + 1) ≢ (l + 1)
    next_apart k l far e = far (omega arith)

    tested : (p q u v w : Bool) → (tables == several) ≡ p → (identities == several) ≡ q → (tables == 0) ≡ u → (segments == 0) ≡ v → (tables == segments) ≡ w → ((tables ≡ several) × (identities ≡ several)) ⊎ ((tables ≢ 0) × (segments ≢ 0) × ((tables ≢ segments) ⊎ (tables ≡ several))) → ((p && q) || ((not u && not v) && (not w || p))) ≡ true
    tested true true u v w e f g h i k = refl
    tested true false false false false e f g h i k = refl
    tested true false false false true e f g h i k = refl
    tested false q false false false e f g h i k = refl
    tested p q u v w e f g h i (inl k) =
        let x : (tables == several) ≡ true = eq-eqb tables several k.0 in
        let y : (identities == several) ≡ true = eq-eqb identities several k.1 in
        cc
    tested p q true v w e f g h i (inr k) = absurd (k.0 (eqb-true tables 0 g))
    tested p q false true w e f g h i (inr k) = absurd (k.1 (eqb-true segments 0 h))
    tested false q false false true e f g h i (inr k) = absurd (tied k.2)
      where
        tied : (tables ≢ segments) ⊎ (tables ≡ several) → ⊥
        tied (inl far) = far (eqb-true tables segments i)
        tied (inr k) = let x : (tables == several) ≡ true = eq-eqb tables several k in cc

    breaks_by : (b : IsJointTable core dbrs a) → IsUsedByOther core b.dbr b.other b.table a → ((tables ≡ several) × (identities ≡ several)) ⊎ ((tables ≢ 0) × (segments ≢ 0) × ((tables ≢ segments) ⊎ (tables ≡ several)))
    breaks_by b (inl word) =
        let has = table_there b.two.first b.dbr b.table b.two.at b.of in
        let has_too = segment_there b.two.second b.other word.0 word.1 b.two.other_at word.2 in
        inr (not_zero _ tables b.two.first t has, not_zero _ segments b.two.second s has_too, at (cases_eq tables several))
      where
        at : (tables ≡ several) ⊎ (tables ≡ several → ⊥) → (tables ≢ segments) ⊎ (tables ≡ several)
        at (inl e) = inr e
        at (inr far) = inl (λ e.
            let has = table_there b.two.first b.dbr b.table b.two.at b.of in
            let has_too = segment_there b.two.second b.other word.0 word.1 b.two.other_at word.2 in
            let one = t.only far (b.two.first + 1) has in
            let other = s.only (λ f. far (e ∙ f)) (b.two.second + 1) has_too in
            next_apart b.two.first b.two.second b.two.differ (one ∙ e ∙ sym other))
    breaks_by b (inr other) =
        let has = table_there b.two.first b.dbr b.table b.two.at b.of in
        let has_too = table_there b.two.second b.other other.0 b.two.other_at other.1 in
        inl (
          two_several _ tables (b.two.first + 1) (b.two.second + 1) t has has_too (next_apart b.two.first b.two.second b.two.differ),
          two_several _ identities (identity firsts b.two.first b.table) (identity firsts b.two.second other.0) n (number_there b.two.first b.dbr b.table b.two.at b.of) (number_there b.two.second b.other other.0 b.two.other_at other.1)
              (λ e. other.2 (same_by b.two.first b.two.second b.dbr b.other b.table other.0 (process_below b.two.first b.dbr b.two.at) (process_below b.two.second b.other b.two.other_at) b.two.differ b.two.at b.two.other_at b.of other.1 e)),
        )

    pub between_decides : Decides (is_joint_table_word tables segments identities) (IsJointTable core dbrs a)
    between_decides = (
      λ passed. test_breaks _ _ _ _ _ refl refl refl refl refl passed,
      λ b. tested _ _ _ _ _ refl refl refl refl refl (breaks_by b b.taken),
    )

-- the test of a core word
pub between_at : (core : List ℕ) (dbrs : List DbrFields) (firsts : List ℕ) → AreFirstEquals core dbrs (2 ^ 15 * length dbrs) firsts → length dbrs ≤ 8 → (a : ℕ) → a < length core → (tables segments identities : List ℕ) → AreRecorded (IsOfProcessBelow (OwnsTableWord core dbrs) (length dbrs)) (length core) tables → AreRecorded (IsOfProcessBelow (OwnsSegmentWord core dbrs) (length dbrs)) (length core) segments → AreRecorded (IsOfProcessBelow (HasTableNumbered core dbrs firsts) (length dbrs)) (length core) identities → (x y z : ℕ) (b : Bool) → x ≡ slice_index tables a → y ≡ slice_index segments a → z ≡ slice_index identities a → b ≡ is_joint_table_word x y z → Decides b (IsJointTable core dbrs a)
between_at core dbrs firsts equal_descriptors few a inside tables segments identities t s n x y z b e f g h =
    let same : b ≡ is_joint_table_word (slice_index tables a) (slice_index segments a) (slice_index identities a) = h ∙ (λ i. is_joint_table_word (e i) (f i) (g i)) in
    subst (λ (v : Bool). Decides v (IsJointTable core dbrs a)) (sym same)
    (between_decides core dbrs firsts equal_descriptors few a inside (slice_index tables a) (slice_index segments a) (slice_index identities a) (t.each a inside) (s.each a inside) (n.each a inside))

pub joint_table_inside : (core : List ℕ) (dbrs : List DbrFields) (a : ℕ) → IsJointTable core dbrs a → a < length core
joint_table_inside core dbrs a b = b.inside
