-- Core is a store as the laws require, if the audit conditions hold of its tables.
use Rattle.std.proofs.Common.{◌≡◌, refl, sym, ◌∙◌, ap, subst, inl, inr, ⊎_elim, length-set, eqb-true}
use Rattle.std.specs.Prelude.{ℕ, ◌<◌, Bool, true, false, ◌==◌, if◌then◌else◌, List, [], ◌∷◌, length, slice_index, slice_set, Some, Result, Ok}
use Rattle.std.proofs.lemmas.Bool.{eqb-false, and_parts}
use Rattle.std.proofs.lemmas.List.{get_or-set_same, get_or-set_other}
use Rattle.m36_desc.specs.Fields.{SdwFields, DbrFields}
use Rattle.m36_desc.specs.Access.{has_ordered_brackets}
use Rattle.m36_model.specs.Act.{RequestKind, Part}
use Rattle.m36_model.specs.Store.{Spot, Core_word, Segment_word, Change, is_within_bound, is_placed, with_part_written}
use Rattle.m36_model.specs.Sight.{content_in}
use Rattle.m36_model.specs.Place.{core_sdw, core_spot, core_marked, marks}
use Rattle.m36_model.specs.Core.{core_store, core_word, put_one, core_put}
use Rattle.m36_model.specs.Audit.{Sdws, Directory, Pages, AreApart, IsAudited, IsSegmentWord}
use Rattle.m36_model.specs.StoreLaw.{Each, same_spot, overlay, IsPlacedWord, IsSegmentChange, Lawful}
use Rattle.m36_model.specs.CoreLaw.{HasTables, IsSegmentSpot, IsPtwWord, IsMarkedFrom}
use Rattle.m36_model.specs.declared.outcome.Refusal.{Refusal}
use Rattle.m36_isol.proofs.Spots.{each_map}
use Rattle.m36_isol.proofs.Places.{place_is, place_parts, content_placed, core_spot_inside}
use Rattle.m36_isol.proofs.CoreTables.{Matches, matches, has_tables, same_sdw, same_spot_of}
use Rattle.m36_isol.proofs.CoreMarks.{IsHarmless, set_matches, marks_match, marks_near, marks_are_ptws, marked_self, marked_then}

pub placed_within : (d : SdwFields) (w : ℕ) → is_placed d w ≡ true → is_within_bound d w ≡ true
placed_within d w h = (and_parts (has_ordered_brackets d) (is_within_bound d w) h).1

-- the word at an address after one write
word_put : (now : List ℕ) (spot : Spot) (part : Part) (v a : ℕ) → a < length now → core_word (put_one now spot part v) (Core_word a) ≡ (if same_spot spot (Core_word a) then with_part_written part (core_word now (Core_word a)) v else core_word now (Core_word a))
word_put now (Segment_word s w) part v a inside = refl
word_put now (Core_word b) part v a inside = by_test (b == a) refl
  where
    by_test : (t : Bool) → (b == a) ≡ t → slice_index (slice_set now b (with_part_written part (slice_index now b) v)) a ≡ (if t then with_part_written part (slice_index now a) v else slice_index now a)
    by_test true e =
        let same = eqb-true b a e in
        subst (λ (c : ℕ). slice_index (slice_set now c (with_part_written part (slice_index now c) v)) a ≡ with_part_written part (slice_index now a) v) (sym same) (get_or-set_same now a _ 0 inside)
    by_test false e = get_or-set_other now b a _ 0 (λ f. eqb-false b a e (sym f))

size_put : (now : List ℕ) (spot : Spot) (part : Part) (v : ℕ) → length (put_one now spot part v) ≡ length now
size_put now (Core_word a) part v = length-set now a _
size_put now (Segment_word s w) part v = refl

pub words_put : (now : List ℕ) (puts : List Change) (a : ℕ) → a < length now → core_word (core_put now puts) (Core_word a) ≡ overlay puts (Core_word a) (core_word now (Core_word a))
unfolding core_put
words_put now [] a inside = refl
words_put now (p ∷ puts) a inside =
    let next = put_one now p.spot p.part p.value in
    let more = words_put next puts a (subst (λ (n : ℕ). a < n) (sym (size_put now p.spot p.part p.value)) inside) in
    more ∙ ap (overlay puts (Core_word a)) (word_put now p.spot p.part p.value a inside)

-- three of the audit conditions say that table words and segment words are separate
pub are_apart : (core : List ℕ) (dbr : DbrFields) → IsAudited core dbr → AreApart core dbr
are_apart core dbr audited =
    record { tables = audited.second; segments = audited.third; words = audited.fourth }

module _ (core : List ℕ) (dbr : DbrFields) (apart : AreApart core dbr) where
  abbrev pub sdws_of : ℕ → Result SdwFields Refusal
  sdws_of = core_sdw core dbr

  abbrev pub spots_by : SdwFields → ℕ → ℕ → Result Spot Refusal
  spots_by d seg w = core_spot core dbr d seg w

  -- a word of a segment by the tables is a segment word in core
  pub segment_spot : (seg w a : ℕ) (p : Spot) → IsPlacedWord sdws_of spots_by seg w p → p ≡ Core_word a → IsSegmentWord core dbr seg w a
  segment_spot seg w a p h e =
      place_is core_store core dbr seg w (Core_word a) (record { sdw = h.sdw; live = h.live; inside = h.inside; found = h.found ∙ ap (λ (q : Spot). Ok q) e })

  pub lies_at : (seg w : ℕ) (p : Spot) → IsPlacedWord sdws_of spots_by seg w p → IsSegmentSpot core dbr p
  lies_at seg w p h =
      let inside = core_spot_inside core dbr h.sdw seg w p h.found in
      subst (λ (q : Spot). IsSegmentSpot core dbr q) (sym inside.spot) (seg, w, segment_spot seg w inside.address p h inside.spot)

  -- writes to segment words change no table word
  segment_harmless : (now : List ℕ) (a v : ℕ) → IsSegmentSpot core dbr (Core_word a) → IsHarmless core dbr now a v
  segment_harmless now a v h =
      record {
        descriptor = λ x here seg k. apart.segments a (record { table = Sdws; of = (seg, k); seg = h.0; w = h.1; word = h.2 });
        ptw = λ x here k. ⊎_elim (λ d. absurd (apart.segments a (record { table = Directory; of = d; seg = h.0; w = h.1; word = h.2 }))) (λ p. absurd (apart.segments a (record { table = Pages p.0; of = (p.1, p.2); seg = h.0; w = h.1; word = h.2 }))) k;
      }

  one_put : (now : List ℕ) (spot : Spot) (part : Part) (v : ℕ) → IsSegmentSpot core dbr spot → Matches core dbr now → Matches core dbr (put_one now spot part v)
  one_put now (Core_word a) part v h m = set_matches core dbr now a _ m (segment_harmless now a _ h)
  one_put now (Segment_word s w) part v h m = m

  pub puts_match : (now : List ℕ) (puts : List Change) → Each (λ (p : Change). IsSegmentSpot core dbr p.spot) puts → Matches core dbr now → Matches core dbr (core_put now puts)
  unfolding core_put
  puts_match now [] h m = m
  puts_match now (p ∷ puts) h m =
      puts_match (put_one now p.spot p.part p.value) puts h.1 (one_put now p.spot p.part p.value h.0 m)

  lies_each : (puts : List Change) → Each (IsSegmentChange sdws_of spots_by) puts → Each (λ (p : Change). IsSegmentSpot core dbr p.spot) puts
  lies_each puts h = each_map (IsSegmentChange sdws_of spots_by) (λ (p : Change). IsSegmentSpot core dbr p.spot) (λ p k. lies_at k.seg k.w p.spot k.word) puts h

  -- a word of a segment is in core
  pub inside_at : (a seg w : ℕ) → IsSegmentWord core dbr seg w a → a < length core
  inside_at a seg w h =
      let k = place_parts core_store core dbr seg w (Core_word a) h in
      let i = core_spot_inside core dbr k.sdw seg w (Core_word a) k.found in
      let e = i.spot in
      let same : a ≡ i.address = cc in
      subst (λ (b : ℕ). b < length core) (sym same) i.inside

  put_at : (now : List ℕ) → Matches core dbr now → (puts : List Change) (p : Spot) → IsSegmentSpot core dbr p → core_word (core_put now puts) p ≡ overlay puts p (core_word now p)
  put_at now m puts (Segment_word s w) lies = absurd lies
  put_at now m puts (Core_word a) lies =
      words_put now puts a (subst (λ (n : ℕ). a < n) (sym m.size) (inside_at a lies.0 lies.1 lies.2))

  -- marks
  marked_matches : (now : List ℕ) → Matches core dbr now → (kind : RequestKind) (seg w : ℕ) (p : Spot) → IsPlacedWord sdws_of spots_by seg w p → Matches core dbr (core_marked now dbr kind seg w)
  unfolding core_marked
  marked_matches now m kind seg w p h =
      marks_match core dbr apart now (marks now dbr kind seg w) m (marks_are_ptws core dbr now m kind seg w h.sdw h.live (placed_within h.sdw w h.inside))

  pub marked_near : (now : List ℕ) → Matches core dbr now → (kind : RequestKind) (seg w : ℕ) (p : Spot) → IsPlacedWord sdws_of spots_by seg w p → IsMarkedFrom core dbr now (core_marked now dbr kind seg w)
  unfolding core_marked
  marked_near now m kind seg w p h =
      marks_near core dbr now (marks now dbr kind seg w) (marks_are_ptws core dbr now m kind seg w h.sdw h.live (placed_within h.sdw w h.inside))

  ptw_no_segment : (a : ℕ) → IsPtwWord core dbr a → IsSegmentSpot core dbr (Core_word a) → ⊥
  ptw_no_segment a (inl d) h = apart.segments a (record { table = Directory; of = d; seg = h.0; w = h.1; word = h.2 })
  ptw_no_segment a (inr p) h = apart.segments a (record { table = Pages p.0; of = (p.1, p.2); seg = h.0; w = h.1; word = h.2 })

  pub marked_at : (now new : List ℕ) → IsMarkedFrom core dbr now new → (p : Spot) → IsSegmentSpot core dbr p → core_word new p ≡ core_word now p
  marked_at now new near (Segment_word s w) lies = absurd lies
  marked_at now new near (Core_word a) lies =
      ⊎_elim (λ e. e) (λ k. absurd (ptw_no_segment a k.0 lies)) (near.words a)

  -- different words of segments have different addresses
  same_place : (p p' : Spot) → same_spot p p' ≡ true → IsSegmentSpot core dbr p → p ≡ p'
  same_place (Core_word a) (Core_word b) e lies = ap (λ (c : ℕ). Core_word c) (eqb-true a b e)
  same_place (Core_word a) (Segment_word s w) e lies = cc
  same_place (Segment_word s w) p' e lies = absurd lies

  apart_by : (a seg w seg' w' : ℕ) → IsSegmentWord core dbr seg w a → IsSegmentWord core dbr seg' w' a → (s t : Bool) → (seg == seg') ≡ s → (w == w') ≡ t → (seg ≡ seg') × (w ≡ w')
  apart_by a seg w seg' w' h k true true e f = (eqb-true seg seg' e, eqb-true w w' f)
  apart_by a seg w seg' w' h k false t e f =
      absurd (apart.words a (record { seg = seg; w = w; word = h; other_seg = seg'; other_w = w'; other_word = k; differ = inl (eqb-false seg seg' e) }))
  apart_by a seg w seg' w' h k true false e f =
      absurd (apart.words a (record { seg = seg; w = w; word = h; other_seg = seg'; other_w = w'; other_word = k; differ = inr (eqb-false w w' f) }))

  pub apart_at : (seg w seg' w' : ℕ) (p p' : Spot) → IsPlacedWord sdws_of spots_by seg w p → IsPlacedWord sdws_of spots_by seg' w' p' → same_spot p p' ≡ true → (seg ≡ seg') × (w ≡ w')
  apart_at seg w seg' w' p p' h k e =
      let i = core_spot_inside core dbr h.sdw seg w p h.found in
      let same = same_place p p' e (lies_at seg w p h) in
      apart_by i.address seg w seg' w' (segment_spot seg w i.address p h i.spot) (segment_spot seg' w' i.address p' k (sym same ∙ i.spot)) (seg == seg') (w == w') refl refl

  pub word_at : (now : List ℕ) → Matches core dbr now → (seg w : ℕ) (p : Spot) → IsPlacedWord sdws_of spots_by seg w p → content_in core_store now dbr seg w ≡ Some (core_word now p)
  word_at now m seg w p h =
      content_placed core_store now dbr seg w p (record {
        sdw = h.sdw;
        live = same_sdw core dbr now m seg ∙ h.live;
        inside = h.inside;
        found = same_spot_of core dbr now m seg w h.sdw h.live (placed_within h.sdw w h.inside) ∙ h.found;
      })

  pub lawful : Lawful core_store dbr (HasTables core dbr) (IsSegmentSpot core dbr) (IsMarkedFrom core dbr)
  lawful =
      record {
        sdws = sdws_of;
        spots = spots_by;
        sdw_is = λ s has seg. same_sdw core dbr s (matches core dbr s has) seg;
        spot_is = λ s has seg w d live inside. same_spot_of core dbr s (matches core dbr s has) seg w d live (placed_within d w inside);
        lies = lies_at;
        word_is = λ s has seg w p word. word_at s (matches core dbr s has) seg w p word;
        apart = apart_at;
        marks_tables = λ s has kind seg w p word. has_tables core dbr _ (marked_matches s (matches core dbr s has) kind seg w p word);
        marks_word = λ s has kind seg w p p' word lies. marked_at s _ (marked_near s (matches core dbr s has) kind seg w p word) p' lies;
        marks_near = λ s has kind seg w p word. marked_near s (matches core dbr s has) kind seg w p word;
        near_self = marked_self core dbr;
        near_then = marked_then core dbr;
        put_tables = λ s has puts spots. has_tables core dbr _ (puts_match s puts (lies_each puts spots) (matches core dbr s has));
        put_word = λ s has puts spots p lies. put_at s (matches core dbr s has) puts p lies;
      }
