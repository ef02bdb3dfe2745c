-- The core of a booted image, with the kept words of pages in no frame, represents a flat memory,
-- and still does after marks and writes.
use Rattle.std.proofs.Common.{◌≡◌, refl, sym, ◌∙◌, ap, subst, inl, inr, ⊎_elim, arith, eqb-true}
use Rattle.std.specs.Prelude.{ℕ, zero, suc, ◌+◌, ◌*◌, ◌/◌, ◌%◌, ◌<◌, ◌≤◌, ◌⊎◌, Bool, true, false, ◌&&◌, ◌==◌, if◌then◌else◌, List, [], ◌∷◌, length, take, slice_get, Option, Some, option_map, Result, Ok, Err}
use Rattle.std.proofs.lemmas.Bool.{eqb-false, ltb-true, and_parts, eq-eqb}
use Rattle.std.proofs.lemmas.List.{take-set-le}
use Rattle.m36_desc.specs.Fields.{SdwFields}
use Rattle.m36_desc.specs.Access.{has_ordered_brackets}
use Rattle.m36_model.specs.Act.{RequestKind, Part}
use Rattle.m36_model.specs.Store.{Spot, Core_word, Segment_word, Change, is_within_bound, place, place_by, place_within, when_ordered, with_part_written}
use Rattle.m36_model.specs.Place.{wrapped_address, has_descriptor_in_bounds, directory_at, ptw_at, sdw_place_by, sdw_at, sdw_words, core_sdw, core_spot, core_marked, Mark, marks, with_mark, with_marks}
use Rattle.m36_model.specs.Core.{core_store, core_word, put_one, core_put, unmarked}
use Rattle.m36_model.specs.Audit.{IsSegmentWord, IsPageWord, AreApart}
use Rattle.m36_model.specs.StoreLaw.{Each, same_spot, overlay}
use Rattle.m36_model.specs.CoreLaw.{HasTables, IsSegmentSpot, IsPtwWord, IsMarkedFrom}
use Rattle.m36_model.specs.Isolation.{EachTwo}
use Rattle.m36_model.specs.Flat.{Flat, flat_sdw_by, flat_sdw, flat_word, flat_put, flat_store}
use Rattle.m36_model.specs.BootedCore.{descriptor_words, booted_dbr, table_at, absent_ptw, IsPage, page_word, IsInFrame, IsLaid}
use Rattle.m36_model.specs.Residence.{Paged, word_at, paged_content, flat_of, PageIsAbsent}
use Rattle.m36_model.specs.declared.outcome.Refusal.{Refusal}
use Rattle.m36_isol.proofs.Spots.{each_map}
use Rattle.m36_isol.proofs.Places.{place_parts, core_spot_inside}
use Rattle.m36_isol.proofs.Contents.{place_tables}
use Rattle.m36_isol.proofs.CoreTables.{Matches, matches, has_tables, same_sdw, same_spot_of}
use Rattle.m36_isol.proofs.CoreMarks.{marks_match, marks_near, marks_are_ptws}
use Rattle.m36_isol.proofs.CoreLaw.{lawful, words_put, puts_match, marked_at, inside_at}
use Rattle.m36_isol.proofs.FlatLaw.{put_descriptors, words_put as flat_words_put}
use Rattle.m36_isol.proofs.Mirror.{IsSpotted, both, lacking, ArePaired, Mirrors}
use Rattle.m36_isol.proofs.Laid.{page_of_word, page_address, absent_spot, resident_spot, word_high, one_word, laid_apart, table_inside, get_inside}

-- the first words of a list
get_take : (xs : List ℕ) (n i : ℕ) → i < n → slice_get (take n xs) i ≡ slice_get xs i
get_take [] zero i h = absurd (omega arith)
get_take [] (suc n) i h = refl
get_take (x ∷ xs) zero i h = absurd (omega arith)
get_take (x ∷ xs) (suc n) zero h = refl
get_take (x ∷ xs) (suc n) (suc i) h = get_take xs n i (omega arith)

-- the spot is not among the first words of core
abbrev IsPast : ℕ → Spot → Type 0
IsPast n (Core_word a) = n ≤ a
IsPast n (Segment_word seg w) = Unit {0}

take_put_one : (xs : List ℕ) (n : ℕ) (p : Spot) (part : Part) (v : ℕ) → IsPast n p → take n (put_one xs p part v) ≡ take n xs
take_put_one xs n (Core_word a) part v h = take-set-le n xs a _ h
take_put_one xs n (Segment_word seg w) part v h = refl

take_put : (xs : List ℕ) (n : ℕ) (puts : List Change) → Each (λ (c : Change). IsPast n c.spot) puts → take n (core_put xs puts) ≡ take n xs
unfolding core_put
take_put xs n [] h = refl
take_put xs n (c ∷ puts) h =
    take_put (put_one xs c.spot c.part c.value) n puts h.1 ∙ take_put_one xs n c.spot c.part c.value h.0

take_marks : (xs : List ℕ) (n : ℕ) (list : List Mark) → Each (λ (m : Mark). n ≤ m.address) list → take n (with_marks xs list) ≡ take n xs
unfolding with_marks
take_marks xs n [] h = refl
take_marks xs n (m ∷ list) h =
    take_marks (with_mark xs m) n list h.1 ∙ take-set-le n xs m.address _ h.0

-- a booted core and the flat memory have the same descriptors
low_place : (seg : ℕ) → has_descriptor_in_bounds booted_dbr seg ≡ true → (2 * seg < 2047) × (wrapped_address (0 + 2 * seg) ≡ 2 * seg)
low_place seg bounds =
    let parts = and_parts _ _ bounds in
    let k : 2 * seg < 16 * (127 + 1) = ltb-true (2 * seg) (16 * (127 + 1)) parts.0 in
    (omega arith, omega arith)

low_words : (core : List ℕ) (seg : ℕ) → has_descriptor_in_bounds booted_dbr seg ≡ true → sdw_at core (Ok (wrapped_address (0 + 2 * seg))) ≡ sdw_words (slice_get (take descriptor_words core) (2 * seg)) (slice_get (take descriptor_words core) (2 * seg + 1))
low_words core seg bounds =
    let k = low_place seg bounds in
    let low = k.0 in
    let at = k.1 in
    let next : wrapped_address (wrapped_address (0 + 2 * seg) + 1) ≡ 2 * seg + 1 = omega arith in
    let even : slice_get core (wrapped_address (0 + 2 * seg)) ≡ slice_get (take descriptor_words core) (2 * seg) = ap (slice_get core) at ∙ sym (get_take core 2048 (2 * seg) (omega arith)) in
    let odd : slice_get core (wrapped_address (wrapped_address (0 + 2 * seg) + 1)) ≡ slice_get (take descriptor_words core) (2 * seg + 1) = ap (slice_get core) next ∙ sym (get_take core 2048 (2 * seg + 1) (omega arith)) in
    λ i. sdw_words (even i) (odd i)

sdw_by : (core : List ℕ) (seg : ℕ) (b : Bool) → has_descriptor_in_bounds booted_dbr seg ≡ b → sdw_at core (sdw_place_by b true booted_dbr seg (ptw_at core (directory_at booted_dbr seg))) ≡ flat_sdw_by b (take descriptor_words core) seg
sdw_by core seg true bounds = low_words core seg bounds
sdw_by core seg false bounds = refl

pub flat_descriptor : (core : List ℕ) (f : Flat) → f.descriptors ≡ take descriptor_words core → (seg : ℕ) → core_sdw core booted_dbr seg ≡ flat_sdw f booted_dbr seg
unfolding core_sdw flat_sdw
flat_descriptor core f same seg =
    sdw_by core seg (has_descriptor_in_bounds booted_dbr seg) refl ∙ ap (λ (l : List ℕ). flat_sdw_by (has_descriptor_in_bounds booted_dbr seg) l seg) (sym same)

both_equal : (a b c d : ℕ) → a ≡ b → c ≡ d → ((a == b) && (c == d)) ≡ false → ⊥
both_equal a b c d e f h =
    let x = eq-eqb a b e in
    let y = eq-eqb c d f in
    let z : ((a == b) && (c == d)) ≡ true = λ i. x i && y i in
    cc

one_address : (v : Result Spot Refusal) (a b : ℕ) → v ≡ Ok (Core_word a) → v ≡ Ok (Core_word b) → a ≡ b
one_address v a b e f = cc

not_placed : (v : Result Spot Refusal) (a : ℕ) (why : Refusal) → v ≡ Ok (Core_word a) → v ≡ Err why → ⊥
not_placed v a why e f = cc

module _ (core : List ℕ) (frames : ℕ) (laid : IsLaid core frames) where
  apart : AreApart core booted_dbr
  apart = laid_apart core frames laid

  -- the place of a word depends only on the tables
  pub place_same : (now : List ℕ) → Matches core booted_dbr now → (seg w : ℕ) → place core_store now booted_dbr seg w ≡ place core_store core booted_dbr seg w
  place_same now m seg w =
      let L = lawful core booted_dbr apart in
      place_tables core_store booted_dbr (HasTables core booted_dbr) (IsSegmentSpot core booted_dbr) (IsMarkedFrom core booted_dbr) L now (has_tables core booted_dbr now m) seg w ∙ sym (place_tables core_store booted_dbr (HasTables core booted_dbr) (IsSegmentSpot core booted_dbr) (IsMarkedFrom core booted_dbr) L core refl seg w)

  -- core is still that of the image
  same_word : (v u : Option ℕ) (x y : ℕ) → v ≡ Some x → u ≡ Some y → option_map unmarked v ≡ option_map unmarked u → unmarked x ≡ unmarked y
  same_word v u x y e f h =
      let k : option_map unmarked (Some x) ≡ option_map unmarked (Some y) = sym (ap (option_map unmarked) e) ∙ h ∙ ap (option_map unmarked) f in
      cc

  pub same_page_word : (now : List ℕ) → Matches core booted_dbr now → (seg page : ℕ) → IsPage core seg page → page_word now seg page ≡ page_word core seg page
  same_page_word now m seg page p =
      let inside = table_inside core frames laid seg page p in
      let paged = (laid.segments seg p.sdw p.live).paged in
      let at = page_address core frames laid seg page p.sdw p.live p.begins in
      let ptw : IsPtwWord core booted_dbr (table_at seg + page) = inr (seg, page, record { sdw = p.sdw; live = p.live; paged = paged; begins = p.begins; found = sym at }) in
      let now_inside : table_at seg + page < length now = subst (λ (n : ℕ). table_at seg + page < n) (sym m.size) inside in
      same_word (slice_get now (table_at seg + page)) (slice_get core (table_at seg + page)) _ _ (get_inside now (table_at seg + page) now_inside) (get_inside core (table_at seg + page) inside) (m.ptws (table_at seg + page) ptw)

  page_before : (now : List ℕ) → Matches core booted_dbr now → (seg page : ℕ) → IsPage now seg page → IsPage core seg page
  page_before now m seg page p =
      record { sdw = p.sdw; live = sym (same_sdw core booted_dbr now m seg) ∙ p.live; begins = p.begins }

  pub still_laid : (now : List ℕ) → Matches core booted_dbr now → IsLaid now frames
  still_laid now m =
      record {
        size = m.size ∙ laid.size;
        most = laid.most;
        segments = λ seg d live. laid.segments seg d (sym (same_sdw core booted_dbr now m seg) ∙ live);
        dead = λ seg why e. laid.dead seg why (sym (same_sdw core booted_dbr now m seg) ∙ e);
        pages = λ seg page p. let before = page_before now m seg page p in let same = same_page_word now m seg page before in ⊎_elim (λ e. inl (same ∙ e)) (λ k. inr (k.0, record { word = same ∙ k.1.word; pageable = k.1.pageable })) (laid.pages seg page before);
        apart = λ seg page seg' page' frame p q e f. let before = page_before now m seg page p in let before' = page_before now m seg' page' q in laid.apart seg page seg' page' frame before before' (sym (same_page_word now m seg page before) ∙ e) (sym (same_page_word now m seg' page' before') ∙ f);
      }

  module _ (kept : ℕ → ℕ → ℕ) where
    abbrev with_kept : List ℕ → Paged
    with_kept now = record { core = now; kept = kept }

    -- core represents a flat memory
    pub record StandsFor (now : List ℕ) (f : Flat) : Type 0 where
      pub matching : Matches core booted_dbr now
      pub low : take descriptor_words now ≡ take descriptor_words core
      pub descriptors : f.descriptors ≡ take descriptor_words core
      pub content : (seg w : ℕ) → word_at (with_kept now) seg w (place core_store core booted_dbr seg w) ≡ f.content seg w

    -- the spots of one word in core and in the flat memory
    pub record IsPair (p q : Spot) : Type 0 where
      pub seg : ℕ
      pub w : ℕ
      pub address : ℕ
      pub here : p ≡ Core_word address
      pub there : q ≡ Segment_word seg w
      pub word : IsSegmentWord core booted_dbr seg w address

    pub flat_back : (now : List ℕ) (f : Flat) → StandsFor now f → flat_of (with_kept now) ≡ f
    unfolding flat_of paged_content
    flat_back now f h =
        let d = h.low ∙ sym h.descriptors in
        let content = h.content in
        let places = place_same now h.matching in
        let words : (seg w : ℕ) → word_at (with_kept now) seg w (place core_store now booted_dbr seg w) ≡ f.content seg w = λ seg w. ap (word_at (with_kept now) seg w) (places seg w) ∙ content seg w in
        λ i. record { descriptors = d i; content = λ seg w. words seg w i }

    pub stands_first : StandsFor core (flat_of (with_kept core))
    unfolding flat_of paged_content
    stands_first =
        record {
          matching = matches core booted_dbr core refl;
          low = refl;
          descriptors = refl;
          content = λ seg w. refl;
        }

    -- a word within the bound of a live segment
    placed_as : (seg w : ℕ) (d : SdwFields) → core_sdw core booted_dbr seg ≡ Ok d → has_ordered_brackets d ≡ true → is_within_bound d w ≡ true → place core_store core booted_dbr seg w ≡ core_spot core booted_dbr d seg w
    unfolding place
    placed_as seg w d live ordered inside =
        ap (λ (v : Result SdwFields Refusal). place_by v (λ x. core_spot core booted_dbr x seg w) w) live ∙ ap (λ (b : Bool). when_ordered b (place_within (is_within_bound d w) (core_spot core booted_dbr d seg w))) ordered ∙ ap (λ (b : Bool). place_within b (core_spot core booted_dbr d seg w)) inside

    spotted_by : (now : List ℕ) → Matches core booted_dbr now → (seg w : ℕ) (d : SdwFields) → core_sdw core booted_dbr seg ≡ Ok d → has_ordered_brackets d ≡ true → is_within_bound d w ≡ true → (page_word core seg (w / 1024) ≡ absent_ptw) ⊎ ((frame : ℕ) × IsInFrame core frames seg (w / 1024) frame) → IsSpotted IsPair (PageIsAbsent core) seg w (core_spot now booted_dbr d seg w) (Ok (Segment_word seg w))
    spotted_by now m seg w d live ordered inside (inl e) =
        let same = same_spot_of core booted_dbr now m seg w d live inside in
        let none = absent_spot core frames laid seg w d live inside e in
        lacking (same ∙ none) (placed_as seg w d live ordered inside ∙ none)
    spotted_by now m seg w d live ordered inside (inr k) =
        let same = same_spot_of core booted_dbr now m seg w d live inside in
        let found = resident_spot core frames laid seg w k.0 d live inside k.1 in
        both (Core_word (k.0 * 1024 + w % 1024)) (Segment_word seg w) (same ∙ found) refl (record { seg = seg; w = w; address = k.0 * 1024 + w % 1024; here = refl; there = refl; word = placed_as seg w d live ordered inside ∙ found })

    spotted : (now : List ℕ) (f : Flat) → StandsFor now f → (seg w : ℕ) (d : SdwFields) → core_sdw now booted_dbr seg ≡ Ok d → has_ordered_brackets d ≡ true → is_within_bound d w ≡ true → IsSpotted IsPair (PageIsAbsent core) seg w (core_spot now booted_dbr d seg w) (Ok (Segment_word seg w))
    spotted now f h seg w d live ordered inside =
        let first = sym (same_sdw core booted_dbr now h.matching seg) ∙ live in
        spotted_by now h.matching seg w d first ordered inside (laid.pages seg (w / 1024) (page_of_word core frames laid seg w d first inside))

    pair_word : (now : List ℕ) (f : Flat) → StandsFor now f → (p q : Spot) → IsPair p q → core_word now p ≡ flat_word f q
    pair_word now f h p q k =
        ap (core_word now) k.here ∙ sym (ap (word_at (with_kept now) k.seg k.w) k.word) ∙ h.content k.seg k.w ∙ sym (ap (flat_word f) k.there)

    no_segment_spot : (seg w s x : ℕ) → place core_store core booted_dbr seg w ≡ Ok (Segment_word s x) → ⊥
    no_segment_spot seg w s x h =
        let k = place_parts core_store core booted_dbr seg w (Segment_word s x) h in
        let i = core_spot_inside core booted_dbr k.sdw seg w (Segment_word s x) k.found in
        let e = i.spot in
        cc

    page_word_past : (seg page a : ℕ) → IsPageWord core booted_dbr seg page a → descriptor_words ≤ a
    page_word_past seg page a p =
        let at : a ≡ (2048 + 256 * seg) + page = p.found ∙ page_address core frames laid seg page p.sdw p.live p.begins in
        let past : 2048 ≤ a = omega arith in
        past

    -- words written at the two spots of a word
    spot_of_pair : (p q : Spot) → IsPair p q → IsSegmentSpot core booted_dbr p
    spot_of_pair p q k = subst (IsSegmentSpot core booted_dbr) (sym k.here) (k.seg, k.w, k.word)

    past_of_pair : (p q : Spot) → IsPair p q → IsPast descriptor_words p
    past_of_pair p q k =
        let high : 149504 ≤ k.address = word_high core frames laid k.seg k.w k.address k.word in
        let past : 2048 ≤ k.address = omega arith in
        subst (IsPast descriptor_words) (sym k.here) past

    firsts : (Q : Spot → Type 0) → ((p q : Spot) → IsPair p q → Q p) → (c d : List Change) → EachTwo (ArePaired IsPair) c d → Each (λ (x : Change). Q x.spot) c
    firsts Q f [] [] h = tt
    firsts Q f [] (y ∷ d) h = absurd h
    firsts Q f (x ∷ c) [] h = absurd h
    firsts Q f (x ∷ c) (y ∷ d) h = (f x.spot y.spot h.0.spot, firsts Q f c d h.1)

    -- two writes both change a word, or neither does
    test_by : (p q : Spot) → IsPair p q → (seg w a : ℕ) → IsSegmentWord core booted_dbr seg w a → (s t : Bool) → same_spot p (Core_word a) ≡ s → same_spot q (Segment_word seg w) ≡ t → s ≡ t
    test_by p q k seg w a word true true e f = refl
    test_by p q k seg w a word false false e f = refl
    test_by p q k seg w a word true false e f =
        let hit : (k.address == a) ≡ true = sym (ap (λ (x : Spot). same_spot x (Core_word a)) k.here) ∙ e in
        let same = one_word core frames laid k.seg k.w seg w a (subst (λ (n : ℕ). IsSegmentWord core booted_dbr k.seg k.w n) (eqb-true k.address a hit) k.word) word in
        let miss : ((k.seg == seg) && (k.w == w)) ≡ false = sym (ap (λ (x : Spot). same_spot x (Segment_word seg w)) k.there) ∙ f in
        let first = same.0 in
        let second = same.1 in
        absurd (both_equal k.seg seg k.w w first second miss)
    test_by p q k seg w a word false true e f =
        let hit : ((k.seg == seg) && (k.w == w)) ≡ true = sym (ap (λ (x : Spot). same_spot x (Segment_word seg w)) k.there) ∙ f in
        let same = and_parts (k.seg == seg) (k.w == w) hit in
        let miss : (k.address == a) ≡ false = sym (ap (λ (x : Spot). same_spot x (Core_word a)) k.here) ∙ e in
        let at : IsSegmentWord core booted_dbr seg w k.address = subst (λ (n : ℕ). IsSegmentWord core booted_dbr n w k.address) (eqb-true k.seg seg same.0) (subst (λ (n : ℕ). IsSegmentWord core booted_dbr k.seg n k.address) (eqb-true k.w w same.1) k.word) in
        absurd (eqb-false k.address a miss (one_address (place core_store core booted_dbr seg w) k.address a at word))

    overlays : (seg w a : ℕ) → IsSegmentWord core booted_dbr seg w a → (c d : List Change) → EachTwo (ArePaired IsPair) c d → (v : ℕ) → overlay c (Core_word a) v ≡ overlay d (Segment_word seg w) v
    overlays seg w a word [] [] h v = refl
    overlays seg w a word [] (y ∷ d) h v = absurd h
    overlays seg w a word (x ∷ c) [] h v = absurd h
    overlays seg w a word (x ∷ c) (y ∷ d) h v =
        let test = test_by x.spot y.spot h.0.spot seg w a word _ _ refl refl in
        let part = h.0.part in
        let value = h.0.value in
        let here : (if same_spot x.spot (Core_word a) then with_part_written x.part v x.value else v) ≡ (if same_spot y.spot (Segment_word seg w) then with_part_written y.part v y.value else v) = λ i. if test i then with_part_written (part i) v (value i) else v in
        ap (overlay c (Core_word a)) here ∙ overlays seg w a word c d h.1 _

    -- a word that has no place is not written
    missed : (seg w : ℕ) (why : Refusal) → place core_store core booted_dbr seg w ≡ Err why → (p q : Spot) → IsPair p q → (t : Bool) → same_spot q (Segment_word seg w) ≡ t → t ≡ false
    missed seg w why none p q k false e = refl
    missed seg w why none p q k true e =
        let hit : ((k.seg == seg) && (k.w == w)) ≡ true = sym (ap (λ (x : Spot). same_spot x (Segment_word seg w)) k.there) ∙ e in
        let same = and_parts (k.seg == seg) (k.w == w) hit in
        let at : IsSegmentWord core booted_dbr seg w k.address = subst (λ (n : ℕ). IsSegmentWord core booted_dbr n w k.address) (eqb-true k.seg seg same.0) (subst (λ (n : ℕ). IsSegmentWord core booted_dbr k.seg n k.address) (eqb-true k.w w same.1) k.word) in
        absurd (not_placed (place core_store core booted_dbr seg w) k.address why at none)

    overlay_missed : (seg w : ℕ) (why : Refusal) → place core_store core booted_dbr seg w ≡ Err why → (c d : List Change) → EachTwo (ArePaired IsPair) c d → (v : ℕ) → overlay d (Segment_word seg w) v ≡ v
    overlay_missed seg w why none [] [] h v = refl
    overlay_missed seg w why none [] (y ∷ d) h v = absurd h
    overlay_missed seg w why none (x ∷ c) [] h v = absurd h
    overlay_missed seg w why none (x ∷ c) (y ∷ d) h v =
        let test = missed seg w why none x.spot y.spot h.0.spot _ refl in
        ap (overlay d (Segment_word seg w)) (ap (λ (t : Bool). if t then with_part_written y.part v y.value else v) test) ∙ overlay_missed seg w why none c d h.1 v

    content_put : (now : List ℕ) (f : Flat) → StandsFor now f → (c d : List Change) → EachTwo (ArePaired IsPair) c d → (seg w : ℕ) (v : Result Spot Refusal) → place core_store core booted_dbr seg w ≡ v → word_at (with_kept now) seg w v ≡ f.content seg w → word_at (with_kept (core_put now c)) seg w v ≡ (flat_put f d).content seg w
    content_put now f h c d pairs seg w (Ok (Core_word a)) at e =
        let inside : a < length now = subst (λ (n : ℕ). a < n) (sym h.matching.size) (inside_at core booted_dbr apart a seg w at) in
        words_put now c a inside ∙ ap (overlay c (Core_word a)) e ∙ overlays seg w a at c d pairs (f.content seg w) ∙ sym (flat_words_put f d seg w)
    content_put now f h c d pairs seg w (Ok (Segment_word s x)) at e =
        absurd (no_segment_spot seg w s x at)
    content_put now f h c d pairs seg w (Err why) at e =
        e ∙ sym (overlay_missed seg w why at c d pairs (f.content seg w)) ∙ sym (flat_words_put f d seg w)

    put_stands : (now : List ℕ) (f : Flat) → StandsFor now f → (c d : List Change) → EachTwo (ArePaired IsPair) c d → StandsFor (core_put now c) (flat_put f d)
    put_stands now f h c d pairs =
        record {
          matching = puts_match core booted_dbr apart now c (firsts (IsSegmentSpot core booted_dbr) spot_of_pair c d pairs) h.matching;
          low = take_put now descriptor_words c (firsts (IsPast descriptor_words) past_of_pair c d pairs) ∙ h.low;
          descriptors = put_descriptors f d ∙ h.descriptors;
          content = λ seg w. content_put now f h c d pairs seg w (place core_store core booted_dbr seg w) refl (h.content seg w);
        }

    -- marks
    past_mark : (m : Mark) → IsPtwWord core booted_dbr m.address → descriptor_words ≤ m.address
    past_mark m (inl d) = let paged = d.1.paged in cc
    past_mark m (inr p) = page_word_past p.0 p.1 m.address p.2

    content_marked : (now new : List ℕ) → IsMarkedFrom core booted_dbr now new → (seg w : ℕ) (v : Result Spot Refusal) → place core_store core booted_dbr seg w ≡ v → word_at (with_kept new) seg w v ≡ word_at (with_kept now) seg w v
    content_marked now new near seg w (Ok (Core_word a)) at =
        marked_at core booted_dbr apart now new near (Core_word a) (seg, w, at)
    content_marked now new near seg w (Ok (Segment_word s x)) at = absurd (no_segment_spot seg w s x at)
    content_marked now new near seg w (Err why) at = refl

    marked_stands : (now : List ℕ) (f : Flat) → StandsFor now f → (kind : RequestKind) (seg w : ℕ) (d : SdwFields) → core_sdw now booted_dbr seg ≡ Ok d → is_within_bound d w ≡ true → StandsFor (core_marked now booted_dbr kind seg w) f
    unfolding core_marked
    marked_stands now f h kind seg w d live inside =
        let first = sym (same_sdw core booted_dbr now h.matching seg) ∙ live in
        let list = marks now booted_dbr kind seg w in
        let ptws = marks_are_ptws core booted_dbr now h.matching kind seg w d first inside in
        let near = marks_near core booted_dbr now list ptws in
        record {
          matching = marks_match core booted_dbr apart now list h.matching ptws;
          low = take_marks now descriptor_words list (each_map (λ (m : Mark). IsPtwWord core booted_dbr m.address) (λ (m : Mark). descriptor_words ≤ m.address) past_mark list ptws) ∙ h.low;
          descriptors = h.descriptors;
          content = λ s x. content_marked now (with_marks now list) near s x (place core_store core booted_dbr s x) refl ∙ h.content s x;
        }

    pub booted_mirrors : Mirrors core_store flat_store booted_dbr StandsFor IsPair (PageIsAbsent core)
    booted_mirrors =
        record {
          sdw = λ s f h seg. flat_descriptor s f (h.descriptors ∙ sym h.low) seg;
          dead = λ s f h seg why e. laid.dead seg why (sym (same_sdw core booted_dbr s h.matching seg) ∙ e);
          spot = spotted;
          word = pair_word;
          put = put_stands;
          marked = marked_stands;
          quiet = λ f kind seg w. refl;
        }
