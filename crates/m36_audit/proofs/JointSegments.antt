-- The third condition between processes, from what is recorded for a core word and from the runs of
-- first descriptors.
use Rattle.std.proofs.Common.{◌≡◌, ◌≢◌, ℕ, ◌+◌, ◌*◌, ◌/◌, ◌%◌, ◌^◌, ◌<◌, ◌≤◌, length, refl, sym, ◌∙◌, ap, subst, inl, inr, arith}
use Rattle.std.specs.Prelude.{◌⊎◌, Bool, true, false, ◌==◌, ◌&&◌, nat_lt, List, slice_index, slice_get, Option, Some, None}
use Rattle.std.specs.Bool.{Decides}
use Rattle.std.proofs.lemmas.Bool.{and_parts, and_from, eq-eqb, eqb-true, ltb-true, lt-ltb, cases_eq}
use Rattle.std.proofs.lemmas.Option.{slice_get_within}
use Rattle.m36_desc.specs.Fields.{DbrFields}
use Rattle.m36_model.specs.Audit.{IsSegmentWord}
use Rattle.m36_model.specs.JointAudit.{AreSameWord, IsJointSegment}
use Rattle.m36_audit.specs.declared.run.Run.{Run}
use Rattle.m36_audit.specs.Runs.{run, covers, EndAfterBegin}
use Rattle.m36_audit.specs.Classes.{AreFirstEquals}
use Rattle.m36_audit.specs.RecordedNumbers.{several, IsRecorded, AreRecorded}
use Rattle.m36_audit.specs.WordOwners.{OwnsSegmentWord, IsOfProcessBelow, unpaged_first_run, run_of_process, joint_run, joint_coverage}
use Rattle.m36_audit.proofs.Clashes.{Clash, clash}
use Rattle.m36_audit.proofs.Counting.{two, at_least_two}
use Rattle.m36_audit.proofs.Conditions.{covers_is, word_below, word_passes, few_segments, runs_in_order}
use Rattle.m36_audit.proofs.Bounds.{live_in_bounds}
use Rattle.m36_audit.proofs.SegmentWords.{number_of, word_parts, word_is, word_live, word_number, word_once, covered_word, word_inside}
use Rattle.m36_audit.proofs.SameDescriptors.{LiveOf, live_of, same_firsts, firsts_same, FirstOf, first_of}

-- a segment word, by the number of the first descriptor with the words of its segment's descriptor
pub record Named : Type 0 where
  pub first : ℕ
  pub w : ℕ

same_named : (x y : Named) → (x ≡ y) ⊎ (x ≡ y → ⊥)
same_named x y = at (cases_eq x.first y.first) (cases_eq x.w y.w)
  where
    at : (x.first ≡ y.first) ⊎ (x.first ≡ y.first → ⊥) → (x.w ≡ y.w) ⊎ (x.w ≡ y.w → ⊥) → (x ≡ y) ⊎ (x ≡ y → ⊥)
    at (inl e) (inl f) = inl (λ i. record { first = e i; w = f i })
    at (inr far) b = inr (λ e. far (ap (λ (n : Named). n.first) e))
    at (inl e) (inr far) = inr (λ e. far (ap (λ (n : Named). n.w) e))

pub record HasWord (core : List ℕ) (dbrs : List DbrFields) (firsts : List ℕ) (a k : ℕ) (x : Named) : Type 0 where
  pub below : k < length dbrs
  pub dbr : DbrFields
  pub process : slice_get dbrs k ≡ Some dbr
  pub seg : ℕ
  pub small : seg < 2 ^ 15
  pub word : IsSegmentWord core dbr seg x.w a
  pub first_is : x.first ≡ slice_index firsts (2 ^ 15 * k + seg)

segment_small : (core : List ℕ) (dbr : DbrFields) (seg w a : ℕ) → IsSegmentWord core dbr seg w a → seg < 2 ^ 15
segment_small core dbr seg w a h =
    let live = word_live core dbr seg w a h in
    few_segments dbr seg (live_in_bounds core dbr seg live.0 live.1)

-- the parts of the run with a number
record RunOf (core : List ℕ) (dbrs : List DbrFields) (firsts : List ℕ) (i a : ℕ) : Type 0 where
  pub dbr : DbrFields
  pub process : slice_get dbrs (i / 2 ^ 23) ≡ Some dbr
  pub first : slice_index firsts (i / 256) ≡ i / 256
  pub covered : covers a (run core dbr (i % 2 ^ 23)) ≡ true

run_taken : (core : List ℕ) (dbrs : List DbrFields) (firsts : List ℕ) (i a : ℕ) (b : Bool) (o : Option DbrFields) → (slice_index firsts (i / 256) == i / 256) ≡ b → slice_get dbrs (i / 2 ^ 23) ≡ o → covers a (unpaged_first_run b (run_of_process core o (i % 2 ^ 23))) ≡ true → RunOf core dbrs firsts i a
run_taken core dbrs firsts i a false o e f h = cc
run_taken core dbrs firsts i a true None e f h = cc
run_taken core dbrs firsts i a true (Some dbr) e f h =
    record { dbr = dbr; process = f; first = eqb-true (slice_index firsts (i / 256)) (i / 256) e; covered = h }

run_parts : (core : List ℕ) (dbrs : List DbrFields) (firsts : List ℕ) (i a : ℕ) → covers a (joint_run core dbrs firsts i) ≡ true → RunOf core dbrs firsts i a
unfolding joint_run
run_parts core dbrs firsts i a h = run_taken core dbrs firsts i a (slice_index firsts (i / 256) == i / 256) (slice_get dbrs (i / 2 ^ 23)) refl refl h

run_is : (core : List ℕ) (dbrs : List DbrFields) (firsts : List ℕ) (i a k table_number : ℕ) (dbr : DbrFields) → i / 2 ^ 23 ≡ k → i % 2 ^ 23 ≡ table_number → slice_get dbrs k ≡ Some dbr → slice_index firsts (i / 256) ≡ i / 256 → covers a (run core dbr table_number) ≡ true → covers a (joint_run core dbrs firsts i) ≡ true
unfolding joint_run
run_is core dbrs firsts i a k table_number dbr e f process first covered =
    let at : slice_get dbrs (i / 2 ^ 23) ≡ Some dbr = ap (slice_get dbrs) e ∙ process in
    let test : (slice_index firsts (i / 256) == i / 256) ≡ true = eq-eqb (slice_index firsts (i / 256)) (i / 256) first in
    let whole : unpaged_first_run (slice_index firsts (i / 256) == i / 256) (run_of_process core (slice_get dbrs (i / 2 ^ 23)) (i % 2 ^ 23)) ≡ run core dbr table_number = λ j. unpaged_first_run (test j) (run_of_process core (at j) (f j)) in
    ap (covers a) whole ∙ covered

-- no run ends before it begins
order_by : (core : List ℕ) (b : Bool) (o : Option DbrFields) (n : ℕ) (r : Run) → unpaged_first_run b (run_of_process core o n) ≡ Some r → r.first ≤ r.end
order_by core false o n r h = cc
order_by core true None n r h = cc
order_by core true (Some dbr) n r h = (runs_in_order core dbr).each n r h

pub joint_in_order : (core : List ℕ) (dbrs : List DbrFields) (firsts : List ℕ) → EndAfterBegin (joint_run core dbrs firsts)
unfolding joint_run
joint_in_order core dbrs firsts = record { each = λ i r h. order_by core (slice_index firsts (i / 256) == i / 256) (slice_get dbrs (i / 2 ^ 23)) (i % 2 ^ 23) r h }

module _ (core : List ℕ) (dbrs : List DbrFields) (firsts : List ℕ) (equal_descriptors : AreFirstEquals core dbrs (2 ^ 15 * length dbrs) firsts) (a : ℕ) where
  owned_word : (k x : ℕ) → k < length dbrs → OwnsSegmentWord core dbrs k a x → (n : Named) × HasWord core dbrs firsts a k n
  owned_word k x lt h = (
    record { first = slice_index firsts (2 ^ 15 * k + h.seg); w = h.w },
    record { below = lt; dbr = h.dbr; process = h.process; seg = h.seg; small = segment_small core h.dbr h.seg h.w a h.word; word = h.word; first_is = refl },
  )

  live_word : (k : ℕ) (x : Named) → (h : HasWord core dbrs firsts a k x) → LiveOf core dbrs k h.seg h.dbr
  live_word k x h =
      let live = word_live core h.dbr h.seg x.w a h.word in
      live_of core dbrs k h.seg h.dbr live.0 h.process live.1

  clash_breaks : Clash (HasWord core dbrs firsts a) → IsJointSegment core dbrs a
  clash_breaks c =
      record {
        dbr = c.has.dbr;
        other = c.has_other.dbr;
        two = record { first = c.one; second = c.other; at = c.has.process; other_at = c.has_other.process; differ = c.apart };
        seg = c.has.seg;
        w = c.thing.w;
        word = c.has.word;
        other_seg = c.has_other.seg;
        other_w = c.other_thing.w;
        other_word = c.has_other.word;
        differ = λ s. c.differ (λ i. record { first = firsts_are s i; w = s.word i });
      }
    where
      firsts_are : AreSameWord core c.has.dbr c.has_other.dbr c.has.seg c.thing.w c.has_other.seg c.other_thing.w → c.thing.first ≡ c.other_thing.first
      firsts_are s =
          c.has.first_is
          ∙ same_firsts core dbrs firsts equal_descriptors c.one c.other c.has.seg c.has_other.seg c.has.dbr c.has_other.dbr (live_word c.one c.thing c.has) (live_word c.other c.other_thing c.has_other) c.has.below c.has_other.below s.segment
          ∙ sym c.has_other.first_is

  -- a covered word of a segment with a first descriptor
  record FirstWord (i : ℕ) : Type 0 where
    pub named : Named
    pub has : HasWord core dbrs firsts a (i / 2 ^ 23) named
    pub first : named.first ≡ i / 256
    pub table_number : number_of core has.dbr has.seg named.w ≡ i % 2 ^ 23

  first_word : a < length core → (i : ℕ) → covers a (joint_run core dbrs firsts i) ≡ true → FirstWord i
  first_word inside i h =
      let k = run_parts core dbrs firsts i a h in
      let x = covered_word core k.dbr (i % 2 ^ 23) a inside (covers_is (run core k.dbr (i % 2 ^ 23)) a k.covered) in
      let at = word_number core k.dbr x.seg x.w a x.word in
      let low = at.low in
      let high = at.high in
      let is = x.numbered in
      let same : i / 256 ≡ 2 ^ 15 * (i / 2 ^ 23) + x.seg = omega arith in
      record {
        named = record { first = i / 256; w = x.w };
        has = record {
          below = slice_get_within dbrs (i / 2 ^ 23) k.dbr k.process;
          dbr = k.dbr;
          process = k.process;
          seg = x.seg;
          small = segment_small core k.dbr x.seg x.w a x.word;
          word = x.word;
          first_is = sym k.first ∙ ap (slice_index firsts) same;
        };
        first = refl;
        table_number = x.numbered;
      }

  numbers_differ : (i j : ℕ) (x : FirstWord i) (y : FirstWord j) → i ≢ j → x.named ≢ y.named
  numbers_differ i j x y apart e =
      let firsts_are : i / 256 ≡ j / 256 = sym x.first ∙ ap (λ (n : Named). n.first) e ∙ y.first in
      let process : i / 2 ^ 23 ≡ j / 2 ^ 23 = omega arith in
      let one = x.has.process in
      let other = y.has.process in
      let at : slice_get dbrs (i / 2 ^ 23) ≡ Some y.has.dbr = ap (slice_get dbrs) process ∙ other in
      let dbr : y.has.dbr ≡ x.has.dbr = cc in
      let low = (word_number core x.has.dbr x.has.seg x.named.w a x.has.word).low in
      let high = (word_number core x.has.dbr x.has.seg x.named.w a x.has.word).high in
      let low_too = (word_number core y.has.dbr y.has.seg y.named.w a y.has.word).low in
      let high_too = (word_number core y.has.dbr y.has.seg y.named.w a y.has.word).high in
      let table_number = x.table_number in
      let number_too = y.table_number in
      let seg : y.has.seg ≡ x.has.seg = omega arith in
      let w : y.named.w ≡ x.named.w = ap (λ (n : Named). n.w) (sym e) in
      let same : number_of core y.has.dbr y.has.seg y.named.w ≡ number_of core x.has.dbr x.has.seg x.named.w = λ t. number_of core (dbr t) (seg t) (w t) in
      apart (omega arith)

  -- two processes and two words
  counts_break : a < length core → (segments : ℕ) → IsRecorded (IsOfProcessBelow (OwnsSegmentWord core dbrs) (length dbrs) a) segments → segments ≡ several → 2 ≤ joint_coverage core dbrs firsts a → IsJointSegment core dbrs a
  counts_break inside segments s e more =
      let p = s.two e in
      let k = two (λ i. covers a (joint_run core dbrs firsts i)) (2 ^ 23 * length dbrs) more in
      let x = first_word inside k.at k.passes in
      let y = first_word inside k.other k.other_passes in
      let one = owned_word p.has.0 p.one p.has.1 p.has.2 in
      let other = owned_word p.has_other.0 p.other p.has_other.1 p.has_other.2 in
      let is = p.has.2.is in
      let is_too = p.has_other.2.is in
      clash_breaks (clash (HasWord core dbrs firsts a) same_named p.has.0 p.has_other.0 (k.at / 2 ^ 23) (k.other / 2 ^ 23) one.0 other.0 x.named y.named (λ g. p.differ (is ∙ ap (λ (n : ℕ). n + 1) g ∙ sym is_too)) one.1 other.1 x.has y.has (numbers_differ k.at k.other x y k.differ))

  -- the number of the run of the segment with the first descriptor that has the words of this one
  module _ (k : ℕ) (dbr : DbrFields) (process : slice_get dbrs k ≡ Some dbr) (seg w : ℕ) (word : IsSegmentWord core dbr seg w a) where
    below : k < length dbrs
    below = slice_get_within dbrs k dbr process

    live : LiveOf core dbrs k seg dbr
    live =
        let d = word_live core dbr seg w a word in
        live_of core dbrs k seg dbr d.0 process d.1

    first : FirstOf core dbrs firsts equal_descriptors k seg dbr
    first = first_of core dbrs firsts equal_descriptors k seg dbr live below

    word_first : IsSegmentWord core first.dbr_first (slice_index firsts (2 ^ 15 * k + seg) % 2 ^ 15) w a
    word_first =
        let p = word_parts core dbr seg w a word in
        word_is core first.dbr_first (slice_index firsts (2 ^ 15 * k + seg) % 2 ^ 15) w a (record { sdw = p.sdw; live = first.sdw ∙ p.live; order = p.order; bound = p.bound; lies = p.lies; inside = p.inside })

    first_number : ℕ
    first_number =
        2 ^ 23 * (slice_index firsts (2 ^ 15 * k + seg) / 2 ^ 15) + number_of core first.dbr_first (slice_index firsts (2 ^ 15 * k + seg) % 2 ^ 15) w

    record Numbers : Type 0 where
      pub process_is : first_number / 2 ^ 23 ≡ slice_index firsts (2 ^ 15 * k + seg) / 2 ^ 15
      pub run_is_at : first_number % 2 ^ 23 ≡ number_of core first.dbr_first (slice_index firsts (2 ^ 15 * k + seg) % 2 ^ 15) w
      pub segment_is : first_number / 256 ≡ slice_index firsts (2 ^ 15 * k + seg)
      pub few : first_number < 2 ^ 23 * length dbrs

    numbers : Numbers
    unfolding first_number
    numbers =
        let at = word_number core first.dbr_first (slice_index firsts (2 ^ 15 * k + seg) % 2 ^ 15) w a word_first in
        let low = at.low in
        let high = at.high in
        let small = word_below core first.dbr_first (slice_index firsts (2 ^ 15 * k + seg) % 2 ^ 15) w a word_first in
        let few = first.below in
        record { process_is = omega arith; run_is_at = omega arith; segment_is = omega arith; few = omega arith }

    first_passes : covers a (joint_run core dbrs firsts first_number) ≡ true
    first_passes =
        run_is core dbrs firsts first_number a (slice_index firsts (2 ^ 15 * k + seg) / 2 ^ 15) (number_of core first.dbr_first (slice_index firsts (2 ^ 15 * k + seg) % 2 ^ 15) w) first.dbr_first numbers.process_is numbers.run_is_at first.process
        (ap (slice_index firsts) numbers.segment_is ∙ first.first ∙ sym numbers.segment_is)
        (word_passes core first.dbr_first (slice_index firsts (2 ^ 15 * k + seg) % 2 ^ 15) w a word_first)

  same_numbers : (k l : ℕ) (dbr other : DbrFields) (at : slice_get dbrs k ≡ Some dbr) (at_too : slice_get dbrs l ≡ Some other) (seg w other_seg other_w : ℕ) (word : IsSegmentWord core dbr seg w a) (other_word : IsSegmentWord core other other_seg other_w a) → first_number k dbr at seg w word ≡ first_number l other at_too other_seg other_w other_word → AreSameWord core dbr other seg w other_seg other_w
  same_numbers k l dbr other at at_too seg w other_seg other_w word other_word e =
      let n = numbers k dbr at seg w word in
      let m = numbers l other at_too other_seg other_w other_word in
      let firsts_are : slice_index firsts (2 ^ 15 * k + seg) ≡ slice_index firsts (2 ^ 15 * l + other_seg) = sym n.segment_is ∙ ap (λ (x : ℕ). x / 256) e ∙ m.segment_is in
      let one = first k dbr at seg w word in
      let two_of = first l other at_too other_seg other_w other_word in
      let there : slice_get dbrs (slice_index firsts (2 ^ 15 * k + seg) / 2 ^ 15) ≡ Some two_of.dbr_first = ap (λ (x : ℕ). slice_get dbrs (x / 2 ^ 15)) firsts_are ∙ two_of.process in
      let here = one.process in
      let dbr_is : two_of.dbr_first ≡ one.dbr_first = cc in
      let seg_is : slice_index firsts (2 ^ 15 * l + other_seg) % 2 ^ 15 ≡ slice_index firsts (2 ^ 15 * k + seg) % 2 ^ 15 = ap (λ (x : ℕ). x % 2 ^ 15) (sym firsts_are) in
      let word_count = word_first l other at_too other_seg other_w other_word in
      let moved : IsSegmentWord core one.dbr_first (slice_index firsts (2 ^ 15 * k + seg) % 2 ^ 15) other_w a = (λ (P : DbrFields → ℕ → Type 0) (x : P two_of.dbr_first (slice_index firsts (2 ^ 15 * l + other_seg) % 2 ^ 15)). subst (λ (d : DbrFields). P d (slice_index firsts (2 ^ 15 * k + seg) % 2 ^ 15)) dbr_is (subst (P two_of.dbr_first) seg_is x)) (λ d s. IsSegmentWord core d s other_w a) word_count in
      let table_number : number_of core one.dbr_first (slice_index firsts (2 ^ 15 * k + seg) % 2 ^ 15) w ≡ number_of core one.dbr_first (slice_index firsts (2 ^ 15 * k + seg) % 2 ^ 15) other_w = sym n.run_is_at ∙ ap (λ (x : ℕ). x % 2 ^ 23) e ∙ m.run_is_at ∙ (λ t. number_of core (dbr_is t) (seg_is t) other_w) in
      record {
        segment = firsts_same core dbrs firsts equal_descriptors k l seg other_seg dbr other (live k dbr at seg w word) (live l other at_too other_seg other_w other_word) (below k dbr at seg w word) (below l other at_too other_seg other_w other_word) firsts_are;
        word = word_once core one.dbr_first (slice_index firsts (2 ^ 15 * k + seg) % 2 ^ 15) w other_w a (word_first k dbr at seg w word) moved table_number;
      }

  breaks_count : IsJointSegment core dbrs a → 2 ≤ joint_coverage core dbrs firsts a
  breaks_count b =
      at_least_two (λ i. covers a (joint_run core dbrs firsts i)) (2 ^ 23 * length dbrs)
      (first_number b.two.first b.dbr b.two.at b.seg b.w b.word) (first_number b.two.second b.other b.two.other_at b.other_seg b.other_w b.other_word)
      (numbers b.two.first b.dbr b.two.at b.seg b.w b.word).few (numbers b.two.second b.other b.two.other_at b.other_seg b.other_w b.other_word).few
      (λ e. b.differ (same_numbers b.two.first b.two.second b.dbr b.other b.two.at b.two.other_at b.seg b.w b.other_seg b.other_w b.word b.other_word e))
      (first_passes b.two.first b.dbr b.two.at b.seg b.w b.word) (first_passes b.two.second b.other b.two.other_at b.other_seg b.other_w b.other_word)

  segment_there : (l : ℕ) (other : DbrFields) (seg w : ℕ) → slice_get dbrs l ≡ Some other → IsSegmentWord core other seg w a → IsOfProcessBelow (OwnsSegmentWord core dbrs) (length dbrs) a (l + 1)
  segment_there l other seg w at word = (l, slice_get_within dbrs l other at, record { dbr = other; process = at; seg = seg; w = w; word = word; is = refl })

  breaks_told : (segments : ℕ) → IsRecorded (IsOfProcessBelow (OwnsSegmentWord core dbrs) (length dbrs) a) segments → IsJointSegment core dbrs a → segments ≡ several
  breaks_told segments s b = at (cases_eq segments several)
    where
      at : (segments ≡ several) ⊎ (segments ≡ several → ⊥) → segments ≡ several
      at (inl e) = e
      at (inr far) =
          let one = s.only far (b.two.first + 1) (segment_there b.two.first b.dbr b.seg b.w b.two.at b.word) in
          let other = s.only far (b.two.second + 1) (segment_there b.two.second b.other b.other_seg b.other_w b.two.other_at b.other_word) in
          absurd (b.two.differ (omega arith))

  pub joint_segment_decides : (segments open_runs : ℕ) → a < length core → IsRecorded (IsOfProcessBelow (OwnsSegmentWord core dbrs) (length dbrs) a) segments → open_runs ≡ joint_coverage core dbrs firsts a → Decides ((segments == several) && nat_lt 1 open_runs) (IsJointSegment core dbrs a)
  joint_segment_decides segments open_runs inside s e = (
    λ h.
        let k = and_parts (segments == several) (nat_lt 1 open_runs) h in
        let more : 1 < open_runs = ltb-true 1 open_runs k.1 in
        counts_break inside segments s (eqb-true segments several k.0) (omega arith),
    λ b.
        let more = breaks_count b in
        and_from (segments == several) (nat_lt 1 open_runs) (eq-eqb segments several (breaks_told segments s b)) (lt-ltb 1 open_runs (omega arith)),
  )

pub joint_segment_inside : (core : List ℕ) (dbrs : List DbrFields) (a : ℕ) → IsJointSegment core dbrs a → a < length core
joint_segment_inside core dbrs a b = word_inside core b.dbr b.seg b.w a b.word

-- the test of a core word
pub parted_at : (core : List ℕ) (dbrs : List DbrFields) (firsts : List ℕ) → AreFirstEquals core dbrs (2 ^ 15 * length dbrs) firsts → (a : ℕ) → a < length core → (segments : List ℕ) → AreRecorded (IsOfProcessBelow (OwnsSegmentWord core dbrs) (length dbrs)) (length core) segments → (x open_runs : ℕ) (b : Bool) → x ≡ slice_index segments a → open_runs ≡ joint_coverage core dbrs firsts a → b ≡ ((x == several) && nat_lt 1 open_runs) → Decides b (IsJointSegment core dbrs a)
parted_at core dbrs firsts equal_descriptors a inside segments s x open_runs b e f h =
    let same : b ≡ ((slice_index segments a == several) && nat_lt 1 open_runs) = h ∙ (λ i. (e i == several) && nat_lt 1 open_runs) in
    subst (λ (v : Bool). Decides v (IsJointSegment core dbrs a)) (sym same)
    (joint_segment_decides core dbrs firsts equal_descriptors a (slice_index segments a) open_runs inside (s.each a inside) f)
