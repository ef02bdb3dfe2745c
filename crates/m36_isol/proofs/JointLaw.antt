-- Core is a store as the laws require for each of several processes, if the joint audit conditions
-- hold: the tables of every process do not change except for marks, and no segment word of any of
-- them is marked.
use Rattle.std.proofs.Common.{◌≡◌, refl, sym, ◌∙◌, ap, subst, inl, inr, eqb-true}
use Rattle.std.specs.Prelude.{ℕ, ◌<◌, ◌⊎◌, Bool, true, false, ◌==◌, List, [], ◌∷◌, length, slice_get, slice_index, Some, Result}
use Rattle.std.proofs.lemmas.Bool.{eqb-false}
use Rattle.std.proofs.lemmas.Option.{slice_get_within}
use Rattle.m36_desc.specs.Fields.{SdwFields, DbrFields}
use Rattle.m36_model.specs.Act.{RequestKind, Part}
use Rattle.m36_model.specs.Store.{Spot, Core_word, Segment_word, Change}
use Rattle.m36_model.specs.Place.{Mark, with_mark, with_marks, marks, core_sdw, core_spot, core_marked}
use Rattle.m36_model.specs.Core.{core_store, core_word, put_one, core_put, unmarked}
use Rattle.m36_model.specs.Audit.{Table, Sdws, Directory, Pages, IsWordOfTable, IsSdwWord, IsSegmentWord, AreApart}
use Rattle.m36_model.specs.StoreLaw.{Each, overlay, IsPlacedWord, IsSegmentChange, Lawful}
use Rattle.m36_model.specs.CoreLaw.{HasTables, IsSegmentSpot, IsPtwWord, IsPtwMarked, IsMarkedFrom}
use Rattle.m36_model.specs.JointAudit.{IsJointlyAudited}
use Rattle.m36_model.specs.declared.outcome.Refusal.{Refusal}
use Rattle.m36_isol.proofs.Spots.{each_map}
use Rattle.m36_word.proofs.Lists.{index_of_get}
use Rattle.m36_isol.proofs.Places.{core_spot_inside}
use Rattle.m36_isol.proofs.CoreTables.{Matches, matches, has_tables, same_sdw, same_spot_of}
use Rattle.m36_isol.proofs.CoreMarks.{IsHarmless, ptw_apart, set_matches, unmarked_word, marks_are_ptws, marked_self, marked_then}
use Rattle.m36_isol.proofs.CoreLaw.{placed_within, are_apart, words_put, segment_spot, lies_at, inside_at, marked_near, apart_at, word_at}

module _ (core : List ℕ) (dbrs : List DbrFields) where
  -- core has the tables of every process, except for marks
  abbrev pub HasAll : List ℕ → Type 0
  HasAll now = (i : ℕ) (dbr : DbrFields) → slice_get dbrs i ≡ Some dbr → HasTables core dbr now

  -- a word of a segment of some process
  pub record IsSomeWord (a : ℕ) : Type 0 where
    pub process : ℕ
    pub dbr : DbrFields
    pub at : slice_get dbrs process ≡ Some dbr
    pub seg : ℕ
    pub w : ℕ
    pub word : IsSegmentWord core dbr seg w a

  abbrev pub LiesInSome : Spot → Type 0
  LiesInSome (Core_word a) = IsSomeWord a
  LiesInSome (Segment_word s w) = ⊥

  -- one index of the list has one DBR
  pub one_dbr : (i j : ℕ) (dbr other : DbrFields) → slice_get dbrs i ≡ Some dbr → slice_get dbrs j ≡ Some other → (i == j) ≡ true → other ≡ dbr
  one_dbr i j dbr other at there e =
      let same : slice_get dbrs i ≡ Some other = ap (slice_get dbrs) (eqb-true i j e) ∙ there in
      cc

  module _ (audited : IsJointlyAudited core dbrs) where
    -- a table word of any process is not a segment word of any process
    table_and_word : (i : ℕ) (dbr : DbrFields) → slice_get dbrs i ≡ Some dbr → (t : Table) (a : ℕ) → IsWordOfTable core dbr t a → IsSomeWord a → ⊥
    table_and_word i dbr at t a of k = by_test (i == k.process) refl
      where
        by_test : (b : Bool) → (i == k.process) ≡ b → ⊥
        by_test true e =
            let word = subst (λ (d : DbrFields). IsSegmentWord core d k.seg k.w a) (one_dbr i k.process dbr k.dbr at k.at e) k.word in
            (audited.each i dbr at).third a (record { table = t; of = of; seg = k.seg; w = k.w; word = word })
        by_test false e =
            audited.tables a (record {
              inside = inside_at core k.dbr (are_apart core k.dbr (audited.each k.process k.dbr k.at)) a k.seg k.w k.word;
              dbr = dbr;
              other = k.dbr;
              two = record { first = i; second = k.process; at = at; other_at = k.at; differ = eqb-false i k.process e };
              table = t;
              of = of;
              taken = inl (k.seg, k.w, k.word);
            })

    ptw_and_word : (i : ℕ) (dbr : DbrFields) → slice_get dbrs i ≡ Some dbr → (a : ℕ) → IsPtwWord core dbr a → IsSomeWord a → ⊥
    ptw_and_word i dbr at a (inl d) k = table_and_word i dbr at Directory a d k
    ptw_and_word i dbr at a (inr p) k = table_and_word i dbr at (Pages p.0) a (p.1, p.2) k

    -- a PTW of one process is not a descriptor word of another
    sdw_of_other : (i j : ℕ) (dbr other : DbrFields) → slice_get dbrs i ≡ Some dbr → slice_get dbrs j ≡ Some other → (i == j) ≡ false → (a seg : ℕ) → a < length core → IsPtwWord core dbr a → IsSdwWord core other seg a → ⊥
    sdw_of_other i j dbr other at there e a seg inside (inl d) h =
        audited.tables a (record {
          inside = inside;
          dbr = dbr;
          other = other;
          two = record { first = i; second = j; at = at; other_at = there; differ = eqb-false i j e };
          table = Directory;
          of = d;
          taken = inr (Sdws, (seg, h), (λ x. x));
        })
    sdw_of_other i j dbr other at there e a seg inside (inr p) h =
        audited.tables a (record {
          inside = inside;
          dbr = dbr;
          other = other;
          two = record { first = i; second = j; at = at; other_at = there; differ = eqb-false i j e };
          table = Pages p.0;
          of = (p.1, p.2);
          taken = inr (Sdws, (seg, h), (λ x. x));
        })

    ptw_and_sdw : (i j : ℕ) (dbr other : DbrFields) → slice_get dbrs i ≡ Some dbr → slice_get dbrs j ≡ Some other → (a seg : ℕ) → a < length core → IsPtwWord core dbr a → IsSdwWord core other seg a → ⊥
    ptw_and_sdw i j dbr other at there a seg inside ptw h = by_test (i == j) refl
      where
        by_test : (b : Bool) → (i == j) ≡ b → ⊥
        by_test true e =
            ptw_apart core dbr (are_apart core dbr (audited.each i dbr at)) a seg inside ptw (subst (λ (d : DbrFields). IsSdwWord core d seg a) (one_dbr i j dbr other at there e) h)
        by_test false e = sdw_of_other i j dbr other at there e a seg inside ptw h

    -- writes to segment words change no table word of any process
    word_harmless : (j : ℕ) (other : DbrFields) → slice_get dbrs j ≡ Some other → (now : List ℕ) (a v : ℕ) → IsSomeWord a → IsHarmless core other now a v
    word_harmless j other there now a v k =
        record {
          descriptor = λ x here seg h. table_and_word j other there Sdws a (seg, h) k;
          ptw = λ x here h. absurd (ptw_and_word j other there a h k);
        }

    put_matches : (j : ℕ) (other : DbrFields) → slice_get dbrs j ≡ Some other → (now : List ℕ) (spot : Spot) (part : Part) (v : ℕ) → LiesInSome spot → Matches core other now → Matches core other (put_one now spot part v)
    put_matches j other there now (Core_word a) part v k m =
        set_matches core other now a _ m (word_harmless j other there now a _ k)
    put_matches j other there now (Segment_word s w) part v k m = m

    puts_match : (j : ℕ) (other : DbrFields) → slice_get dbrs j ≡ Some other → (now : List ℕ) (puts : List Change) → Each (λ (p : Change). LiesInSome p.spot) puts → Matches core other now → Matches core other (core_put now puts)
    unfolding core_put
    puts_match j other there now [] h m = m
    puts_match j other there now (p ∷ puts) h m =
        puts_match j other there (put_one now p.spot p.part p.value) puts h.1 (put_matches j other there now p.spot p.part p.value h.0 m)

    -- marks of one process on its PTWs change no table of any process, except for marks
    mark_matches : (i j : ℕ) (dbr other : DbrFields) → slice_get dbrs i ≡ Some dbr → slice_get dbrs j ≡ Some other → (now : List ℕ) (m : Mark) → Matches core other now → IsPtwWord core dbr m.address → Matches core other (with_mark now m)
    mark_matches i j dbr other at there now m k ptw =
        set_matches core other now m.address _ k (record {
          descriptor = λ x here seg h. ptw_and_sdw i j dbr other at there m.address seg (subst (λ (n : ℕ). m.address < n) k.size (slice_get_within now m.address x here)) ptw h;
          ptw = λ x here h. unmarked_word m.modified _ ∙ ap unmarked (index_of_get now m.address x here);
        })

    marks_match : (i j : ℕ) (dbr other : DbrFields) → slice_get dbrs i ≡ Some dbr → slice_get dbrs j ≡ Some other → (now : List ℕ) (list : List Mark) → Matches core other now → Each (λ (m : Mark). IsPtwWord core dbr m.address) list → Matches core other (with_marks now list)
    unfolding with_marks
    marks_match i j dbr other at there now [] k h = k
    marks_match i j dbr other at there now (m ∷ list) k h =
        marks_match i j dbr other at there (with_mark now m) list (mark_matches i j dbr other at there now m k h.0) h.1

    module _ (i : ℕ) (dbr : DbrFields) (at : slice_get dbrs i ≡ Some dbr) where
      abbrev own : AreApart core dbr
      own = are_apart core dbr (audited.each i dbr at)

      abbrev own_sdws : ℕ → Result SdwFields Refusal
      own_sdws = core_sdw core dbr

      abbrev own_spots : SdwFields → ℕ → ℕ → Result Spot Refusal
      own_spots d seg w = core_spot core dbr d seg w

      matches_own : (now : List ℕ) → HasAll now → Matches core dbr now
      matches_own now has = matches core dbr now (has i dbr at)

      lies_by : (p : Spot) → IsSegmentSpot core dbr p → LiesInSome p
      lies_by (Core_word a) k =
          record { process = i; dbr = dbr; at = at; seg = k.0; w = k.1; word = k.2 }
      lies_by (Segment_word s w) k = absurd k

      lies_in_some : (seg w : ℕ) (p : Spot) → IsPlacedWord own_sdws own_spots seg w p → LiesInSome p
      lies_in_some seg w p word = lies_by p (lies_at core dbr own seg w p word)

      marked_all : (now : List ℕ) → HasAll now → (kind : RequestKind) (seg w : ℕ) (p : Spot) → IsPlacedWord own_sdws own_spots seg w p → HasAll (core_marked now dbr kind seg w)
      unfolding core_marked
      marked_all now has kind seg w p h j other there =
          has_tables core other _ (marks_match i j dbr other at there now (marks now dbr kind seg w) (matches core other now (has j other there)) (marks_are_ptws core dbr now (matches_own now has) kind seg w h.sdw h.live (placed_within h.sdw w h.inside)))

      near_by : (now : List ℕ) → HasAll now → (kind : RequestKind) (seg w : ℕ) (p : Spot) → IsPlacedWord own_sdws own_spots seg w p → IsMarkedFrom core dbr now (core_marked now dbr kind seg w)
      near_by now has kind seg w p h = marked_near core dbr own now (matches_own now has) kind seg w p h

      marked_at : (now new : List ℕ) → IsMarkedFrom core dbr now new → (p : Spot) → LiesInSome p → core_word new p ≡ core_word now p
      marked_at now new near (Segment_word s w) lies = absurd lies
      marked_at now new near (Core_word a) lies = by_case (near.words a)
        where
          by_case : (slice_index new a ≡ slice_index now a) ⊎ (IsPtwWord core dbr a × IsPtwMarked (slice_index now a) (slice_index new a)) → core_word new (Core_word a) ≡ core_word now (Core_word a)
          by_case (inl e) = e
          by_case (inr k) = absurd (ptw_and_word i dbr at a k.0 lies)

      put_at : (now : List ℕ) → HasAll now → (puts : List Change) (p : Spot) → LiesInSome p → core_word (core_put now puts) p ≡ overlay puts p (core_word now p)
      put_at now has puts (Segment_word s w) lies = absurd lies
      put_at now has puts (Core_word a) lies =
          let inside = inside_at core lies.dbr (are_apart core lies.dbr (audited.each lies.process lies.dbr lies.at)) a lies.seg lies.w lies.word in
          words_put now puts a (subst (λ (n : ℕ). a < n) (sym (matches_own now has).size) inside)

      puts_all : (now : List ℕ) → HasAll now → (puts : List Change) → Each (IsSegmentChange own_sdws own_spots) puts → HasAll (core_put now puts)
      puts_all now has puts spots j other there =
          has_tables core other _ (puts_match j other there now puts (each_map (IsSegmentChange own_sdws own_spots) (λ (p : Change). LiesInSome p.spot) (λ p k. lies_in_some k.seg k.w p.spot k.word) puts spots) (matches core other now (has j other there)))

      pub joint_lawful : Lawful core_store dbr HasAll LiesInSome (IsMarkedFrom core dbr)
      joint_lawful =
          record {
            sdws = own_sdws;
            spots = own_spots;
            sdw_is = λ s has seg. same_sdw core dbr s (matches_own s has) seg;
            spot_is = λ s has seg w d live inside. same_spot_of core dbr s (matches_own s has) seg w d live (placed_within d w inside);
            lies = lies_in_some;
            word_is = λ s has seg w p word. word_at core dbr own s (matches_own s has) seg w p word;
            apart = apart_at core dbr own;
            marks_tables = marked_all;
            marks_word = λ s has kind seg w p p' word lies. marked_at s _ (near_by s has kind seg w p word) p' lies;
            marks_near = near_by;
            near_self = marked_self core dbr;
            near_then = marked_then core dbr;
            put_tables = puts_all;
            put_word = λ s has puts spots p lies. put_at s has puts p lies;
          }

      -- its descriptors, and the places of its words
      pub joint_sdws : joint_lawful.sdws ≡ core_sdw core dbr
      unfolding joint_lawful
      joint_sdws = refl

      pub record LiesAt (seg w : ℕ) (p : Spot) : Type 0 where
        pub address : ℕ
        pub spot : p ≡ Core_word address
        pub word : IsSegmentWord core dbr seg w address

      pub joint_word : (seg w : ℕ) (p : Spot) → IsPlacedWord joint_lawful.sdws joint_lawful.spots seg w p → LiesAt seg w p
      unfolding joint_lawful
      joint_word seg w p h =
          let k = core_spot_inside core dbr h.sdw seg w p h.found in
          record { address = k.address; spot = k.spot; word = segment_spot core dbr own seg w k.address p h k.spot }
