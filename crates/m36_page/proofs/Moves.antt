-- Pages that move.
use Rattle.std.proofs.Common.{ℕ, ◌≡◌, ◌≢◌, ◌+◌, ◌-◌, ◌*◌, ◌/◌, ◌%◌, ◌^◌, ◌<◌, ◌≤◌, ◌⊎◌, true, List, length, get_or, Some, None, refl, sym, ap, subst, inl, inr, ◌∙◌, arith}
use Rattle.std.proofs.lemmas.Bool.{cases_eq, cases_lt}
use Rattle.m36_model.specs.Core.{unmarked}
use Rattle.m36_page.specs.Fields.{PagerFields}
use Rattle.m36_page.specs.Residence.{has_page, spot_of, kept_word, absent_ptw, resident_ptw, frame_in, frame_of, word_in, page_word, Holds, IsPager, AgreesWithCore, IsConsistent}
use Rattle.m36_page.specs.Changes.{IsPtwPlace, IsChangeable, KeepsContents}
use Rattle.m36_page.specs.Moved.{IsEvicted, IsTakenIn}
use Rattle.m36_page.proofs.Frames.{frame_absent, frame_resident, absent_unmarked, resident_unmarked, bounded, whereabouts, content_same, word_stays}

-- ---- `KeepsContents` twice

paged_back : (a : PagerFields) (ac : List ℕ) (b : PagerFields) (bc : List ℕ) → KeepsContents a ac b bc → (x : ℕ) → IsChangeable b x → IsChangeable a x
paged_back a ac b bc one x paged =
    elim paged [
      | inl spot ↦
          inl (record {
            seg = spot.seg;
            page = spot.page;
            has = sym (one.shape.pages spot.seg spot.page) ∙ spot.has;
            is = sym (one.shape.spots spot.seg spot.page) ∙ spot.is;
          })
      | inr range ↦
          let first = one.shape.first in
          let frames = one.shape.frames in
          let low = range.0 in
          let high = range.1 in
          inr (omega (arith, first, low), rw (sym first) (rw (sym frames) high))
    ]

pub kept_then : (a : PagerFields) (ac : List ℕ) (b : PagerFields) (bc : List ℕ) (c : PagerFields) (cc' : List ℕ)
    → KeepsContents a ac b bc → KeepsContents b bc c cc' → KeepsContents a ac c cc'
kept_then a ac b bc c cc' one two =
    let first : c.first ≡ a.first = two.shape.first ∙ one.shape.first in
    let frames : length c.holders ≡ length a.holders = two.shape.frames ∙ one.shape.frames in
    record {
      shape = record {
        first = first;
        frames = frames;
        pages = λ seg page. two.shape.pages seg page ∙ one.shape.pages seg page;
        spots = λ seg page. two.shape.spots seg page ∙ one.shape.spots seg page;
      };
      size = two.size ∙ one.size;
      content = λ seg w. two.content seg w ∙ one.content seg w;
      others = λ x out. two.others x (λ paged. out (paged_back a ac b bc one x paged)) ∙ one.others x out;
    }

-- ---- used marks that are cleared

pub record AreMarks (p : PagerFields) (core now : List ℕ) : Type 0 where
  pub size : length now ≡ length core
  pub unmarks : (a : ℕ) → unmarked (get_or now a 0) ≡ unmarked (get_or core a 0)
  pub others : (a : ℕ) → (IsPtwPlace p a → ⊥) → get_or now a 0 ≡ get_or core a 0

-- a word of a frame is not a page table word
no_spot : (p : PagerFields) (a : ℕ) → IsPager p → 1024 * p.first ≤ a → IsPtwPlace p a → ⊥
no_spot p a pager above spot =
    let below = pager.below spot.seg spot.page spot.has in
    let is = spot.is in
    absurd (omega (arith, below, is, above))

marks_reads : (p : PagerFields) (core now : List ℕ) → AgreesWithCore p core → AreMarks p core now → AgreesWithCore p now
marks_reads p core now reads marks = record {
  pages = λ seg page has.
      elim (reads.pages seg page has) [
        | inl absent ↦ inl (marks.unmarks (spot_of p seg page) ∙ absent)
        | inr there ↦ inr (there.0, there.1, marks.unmarks (spot_of p seg page) ∙ there.2)
      ];
  frames = λ k seg page h. marks.unmarks (spot_of p seg page) ∙ reads.frames k seg page h;
}

pub marks_settled : (p : PagerFields) (core now : List ℕ) → IsConsistent p core → AreMarks p core now → IsConsistent p now
marks_settled p core now s marks = record {
  pager = s.pager;
  reads = marks_reads p core now s.reads marks;
  frames = let size = marks.size in let room = s.frames in omega (arith, size, room);
  most = let size = marks.size in let room = s.most in omega (arith, size, room);
}

pub marks_frame : (p : PagerFields) (core now : List ℕ) (seg page : ℕ) → IsConsistent p core → AreMarks p core now → has_page p seg page ≡ true
    → frame_of p now seg page ≡ frame_of p core seg page
unfolding frame_of
marks_frame p core now seg page s marks has =
    elim (whereabouts p core seg page s has) [
      | inl out ↦
          frame_absent (get_or now (spot_of p seg page) 0) (marks.unmarks (spot_of p seg page) ∙ out.word) ∙ sym out.frame
      | inr there ↦
          frame_resident (get_or now (spot_of p seg page) 0) (p.first + there.k) (bounded p core there.k seg page s there.holds).1
          (marks.unmarks (spot_of p seg page) ∙ there.word) ∙ sym there.frame
    ]

-- the frame that a page is in is a pageable one
pub frame_range : (p : PagerFields) (core : List ℕ) (seg page frame : ℕ) → IsConsistent p core → has_page p seg page ≡ true
    → frame_of p core seg page ≡ Some frame → (k : ℕ) × (frame ≡ p.first + k) × Holds p k seg page
frame_range p core seg page frame s has e =
    elim (whereabouts p core seg page s has) [
      | inl out ↦ let none = out.frame in absurd (cc)
      | inr there ↦ let some = there.frame in let same : frame ≡ p.first + there.k = cc in (there.k, same, there.holds)
    ]

pub marks_kept : (p : PagerFields) (core now : List ℕ) → IsConsistent p core → AreMarks p core now → KeepsContents p core p now
marks_kept p core now s marks = record {
  shape = record { first = refl; frames = refl; pages = λ seg page. refl; spots = λ seg page. refl };
  size = marks.size;
  content =
      content_same p core p now (λ seg page. refl)
      (λ seg w has.
      word_stays p core p now seg w (marks_frame p core now seg (w / 1024) s marks has) (λ none. refl)
      (λ frame e.
      let range = frame_range p core seg (w / 1024) frame s has e in
      let is = range.1 in
      marks.others (1024 * frame + w % 1024) (no_spot p (1024 * frame + w % 1024) s.pager (omega (arith, is)))));
  others = λ a out. marks.others a (λ spot. out (inl spot));
}

-- ---- a page that is evicted

-- the frame that holds a page is the one that it is in
pub resident_frame : (p : PagerFields) (core : List ℕ) (k seg page : ℕ) → IsConsistent p core → Holds p k seg page
    → frame_of p core seg page ≡ Some (p.first + k)
unfolding frame_of
resident_frame p core k seg page s h =
    frame_resident (get_or core (spot_of p seg page) 0) (p.first + k) (bounded p core k seg page s h).1 (s.reads.frames k seg page h)

-- one pair of numbers or another
pub same_page : (s q seg page : ℕ) → ((s ≡ seg) × (q ≡ page)) ⊎ ((s ≡ seg) × (q ≡ page) → ⊥)
same_page s q seg page =
    elim (cases_eq s seg) [
      | inl e ↦ elim (cases_eq q page) [ inl f ↦ inl (e, f) | inr other ↦ inr (λ both. other both.1) ]
      | inr other ↦ inr (λ both. other both.0)
    ]

-- the page table word of another page has another place
other_spot : (p : PagerFields) (s q seg page : ℕ) → IsPager p → has_page p s q ≡ true → has_page p seg page ≡ true
    → ((s ≡ seg) × (q ≡ page) → ⊥) → spot_of p s q ≢ spot_of p seg page
other_spot p s q seg page pager has has' other = λ same. other (pager.apart s q seg page has has' same)

away_word : (p : PagerFields) (core : List ℕ) (new : PagerFields) (now : List ℕ) (k seg page s q : ℕ)
    → IsConsistent p core → IsEvicted p core new now k seg page → has_page p s q ≡ true → ((s ≡ seg) × (q ≡ page) → ⊥)
    → get_or now (spot_of new s q) 0 ≡ get_or core (spot_of p s q) 0
away_word p core new now k seg page s q settled away has other =
    ap (λ a. get_or now a 0) (away.shape.spots s q)
    ∙ away.others (spot_of p s q) (other_spot p s q seg page settled.pager has (settled.pager.held k seg page away.held) other)

pub away_frame : (p : PagerFields) (core : List ℕ) (new : PagerFields) (now : List ℕ) (k seg page s q : ℕ)
    → IsConsistent p core → IsEvicted p core new now k seg page → has_page p s q ≡ true → ((s ≡ seg) × (q ≡ page) → ⊥)
    → frame_of new now s q ≡ frame_of p core s q
unfolding frame_of
away_frame p core new now k seg page s q settled away has other =
    ap frame_in (away_word p core new now k seg page s q settled away has other)

pub away_out : (p : PagerFields) (core : List ℕ) (new : PagerFields) (now : List ℕ) (k seg page : ℕ)
    → IsEvicted p core new now k seg page → frame_of new now seg page ≡ None
unfolding frame_of
away_out p core new now k seg page away =
    let word : get_or now (spot_of new seg page) 0 ≡ absent_ptw = ap (λ a. get_or now a 0) (away.shape.spots seg page) ∙ away.spot in
    frame_absent (get_or now (spot_of new seg page) 0) (ap unmarked word ∙ absent_unmarked)

-- a page is held by at most one frame
pub one_frame : (p : PagerFields) (core : List ℕ) (k j seg page : ℕ) → AgreesWithCore p core → Holds p k seg page → Holds p j seg page → k ≡ j
one_frame p core k j seg page reads h i =
    let a = reads.frames k seg page h in
    let b = reads.frames j seg page i in
    omega (arith, a, b)

pub same_some : (a b : ℕ × ℕ) → Some a ≡ Some b → a ≡ b
same_some a b e = cc

away_reads : (p : PagerFields) (core : List ℕ) (new : PagerFields) (now : List ℕ) (k seg page : ℕ)
    → IsConsistent p core → IsEvicted p core new now k seg page → AgreesWithCore new now
away_reads p core new now k seg page settled away = record {
  pages = λ s q has'.
      let has : has_page p s q ≡ true = sym (away.shape.pages s q) ∙ has' in
      elim (same_page s q seg page) [
        | inl same ↦
            let at : spot_of new s q ≡ spot_of p seg page =
            away.shape.spots s q ∙ ap (λ x. spot_of p x q) same.0 ∙ ap (λ y. spot_of p seg y) same.1 in
            inl (ap (λ a. unmarked (get_or now a 0)) at ∙ ap unmarked away.spot ∙ absent_unmarked)
        | inr other ↦
            let word = ap unmarked (away_word p core new now k seg page s q settled away has other) in
            elim (settled.reads.pages s q has) [
              | inl absent ↦ inl (word ∙ absent)
              | inr there ↦
                  let apart : there.0 ≢ k = λ e.
                  let P : ℕ → Type 0 = λ j. get_or p.holders j None ≡ Some (s, q) in
                  let here : get_or p.holders k None ≡ Some (s, q) = subst P e there.1 in
                  let held = away.held in
                  let pair : Some (s, q) ≡ Some (seg, page) = sym here ∙ held in
                  let both : (s, q) ≡ (seg, page) = same_some (s, q) (seg, page) pair in
                  other (ap (λ (x : ℕ × ℕ). x.0) both, ap (λ (x : ℕ × ℕ). x.1) both) in
                  inr (
                    there.0,
                    away.stay there.0 s q there.1 apart,
                    word ∙ there.2 ∙ ap (λ f. resident_ptw (f + there.0)) (sym away.shape.first),
                  )
            ]
      ];
  frames = λ j s q h.
      let from = away.left j s q h in
      let has = settled.pager.held j s q from.0 in
      elim (same_page s q seg page) [
        | inl same ↦
            let P : ℕ → Type 0 = λ x. Holds p j x q in
            let Q : ℕ → Type 0 = λ y. Holds p j seg y in
            let moved : Holds p j seg page = subst Q same.1 (subst P same.0 from.0) in
            absurd (from.1 (one_frame p core j k seg page settled.reads moved away.held))
        | inr other ↦
            ap unmarked (away_word p core new now k seg page s q settled away has other) ∙ settled.reads.frames j s q from.0
            ∙ ap (λ f. resident_ptw (f + j)) (sym away.shape.first)
      ];
}

pub away_settled : (p : PagerFields) (core : List ℕ) (new : PagerFields) (now : List ℕ) (k seg page : ℕ)
    → IsConsistent p core → IsEvicted p core new now k seg page → IsConsistent new now
away_settled p core new now k seg page s away =
    let size = away.size in
    let first = away.shape.first in
    let frames = away.shape.frames in
    let room = s.frames in
    let most = s.most in
    record {
      pager = away.words;
      reads = away_reads p core new now k seg page s away;
      frames = rw first (rw frames (rw size room));
      most = omega (arith, size, most);
    }

pub away_kept : (p : PagerFields) (core : List ℕ) (new : PagerFields) (now : List ℕ) (k seg page : ℕ)
    → IsConsistent p core → IsEvicted p core new now k seg page → KeepsContents p core new now
unfolding page_word
away_kept p core new now k seg page s away =
    let has_it : has_page p seg page ≡ true = s.pager.held k seg page away.held in
    let spot_below = s.pager.below seg page has_it in
    record {
      shape = away.shape;
      size = away.size;
      content =
          content_same p core new now away.shape.pages
          (λ x w has.
          elim (same_page x (w / 1024) seg page) [
            | inl same ↦
                let was : frame_of p core x (w / 1024) ≡ Some (p.first + k) =
                ap (λ y. frame_of p core y (w / 1024)) same.0 ∙ ap (λ q. frame_of p core seg q) same.1
                ∙ resident_frame p core k seg page s away.held in
                let is : frame_of new now x (w / 1024) ≡ None =
                ap (λ y. frame_of new now y (w / 1024)) same.0 ∙ ap (λ q. frame_of new now seg q) same.1
                ∙ away_out p core new now k seg page away in
                ap (λ f. word_in f now w (kept_word new x w)) is
                ∙ ap (λ y. kept_word new y w) same.0
                ∙ away.kept_page w same.1
                ∙ sym (ap (λ f. word_in f core w (kept_word p x w)) was)
            | inr other ↦
                word_stays p core new now x w (away_frame p core new now k seg page x (w / 1024) s away has other)
                (λ none. away.kept_others x w other)
                (λ frame e.
                let range = frame_range p core x (w / 1024) frame s has e in
                let is = range.1 in
                away.others (1024 * frame + w % 1024) (λ at. absurd (omega (arith, at, is, spot_below))))
          ]);
      others = λ a out. away.others a (λ at. out (inl (record { seg = seg; page = page; has = has_it; is = sym at })));
    }

-- ---- a page that is taken in

taken_few : (p : PagerFields) (core : List ℕ) (k : ℕ) → IsConsistent p core → k < length p.holders → p.first + k < 16384
taken_few p core k s inside =
    let room = s.frames in
    let most = s.most in
    omega (arith, inside, room, most)

taken_word : (p : PagerFields) (core : List ℕ) (new : PagerFields) (now : List ℕ) (k seg page s q : ℕ)
    → IsConsistent p core → IsTakenIn p core new now k seg page → has_page p s q ≡ true → ((s ≡ seg) × (q ≡ page) → ⊥)
    → get_or now (spot_of new s q) 0 ≡ get_or core (spot_of p s q) 0
taken_word p core new now k seg page s q settled taken has other =
    let below = settled.pager.below s q has in
    ap (λ a. get_or now a 0) (taken.shape.spots s q)
    ∙ taken.others (spot_of p s q) (other_spot p s q seg page settled.pager has taken.has other) (inl (omega (arith, below)))

pub taken_frame : (p : PagerFields) (core : List ℕ) (new : PagerFields) (now : List ℕ) (k seg page s q : ℕ)
    → IsConsistent p core → IsTakenIn p core new now k seg page → has_page p s q ≡ true → ((s ≡ seg) × (q ≡ page) → ⊥)
    → frame_of new now s q ≡ frame_of p core s q
unfolding frame_of
taken_frame p core new now k seg page s q settled taken has other =
    ap frame_in (taken_word p core new now k seg page s q settled taken has other)

taken_spot : (p : PagerFields) (core : List ℕ) (new : PagerFields) (now : List ℕ) (k seg page : ℕ) → IsTakenIn p core new now k seg page
    → unmarked (get_or now (spot_of new seg page) 0) ≡ resident_ptw (p.first + k)
taken_spot p core new now k seg page taken =
    ap (λ a. unmarked (get_or now a 0)) (taken.shape.spots seg page) ∙ ap unmarked taken.spot ∙ resident_unmarked (p.first + k)

pub taken_in : (p : PagerFields) (core : List ℕ) (new : PagerFields) (now : List ℕ) (k seg page : ℕ)
    → IsConsistent p core → IsTakenIn p core new now k seg page → frame_of new now seg page ≡ Some (p.first + k)
unfolding frame_of
taken_in p core new now k seg page s taken =
    frame_resident (get_or now (spot_of new seg page) 0) (p.first + k) (taken_few p core k s taken.inside)
    (taken_spot p core new now k seg page taken)

-- a page that is in a frame is not the one that is taken in
pub taken_other : (p : PagerFields) (core : List ℕ) (new : PagerFields) (now : List ℕ) (k seg page s q frame : ℕ)
    → IsTakenIn p core new now k seg page → frame_of p core s q ≡ Some frame → (s ≡ seg) × (q ≡ page) → ⊥
taken_other p core new now k seg page s q frame taken e same =
    let out = taken.out in
    let is : frame_of p core seg page ≡ Some frame =
    sym (ap (λ y. frame_of p core y q) same.0 ∙ ap (λ y. frame_of p core seg y) same.1) ∙ e in
    absurd (cc)

taken_reads : (p : PagerFields) (core : List ℕ) (new : PagerFields) (now : List ℕ) (k seg page : ℕ)
    → IsConsistent p core → IsTakenIn p core new now k seg page → AgreesWithCore new now
taken_reads p core new now k seg page settled taken = record {
  pages = λ s q has'.
      let has : has_page p s q ≡ true = sym (taken.shape.pages s q) ∙ has' in
      elim (same_page s q seg page) [
        | inl same ↦
            let P : ℕ → Type 0 = λ x. Holds new k x q in
            let Q : ℕ → Type 0 = λ y. Holds new k seg y in
            let here : Holds new k s q = subst P (sym same.0) (subst Q (sym same.1) taken.here) in
            inr (
              k,
              here,
              ap (λ x. unmarked (get_or now (spot_of new x q) 0)) same.0 ∙ ap (λ y. unmarked (get_or now (spot_of new seg y) 0)) same.1
                  ∙ taken_spot p core new now k seg page taken ∙ ap (λ f. resident_ptw (f + k)) (sym taken.shape.first),
            )
        | inr other ↦
            let word = ap unmarked (taken_word p core new now k seg page s q settled taken has other) in
            elim (settled.reads.pages s q has) [
              | inl absent ↦ inl (word ∙ absent)
              | inr there ↦
                  inr (
                    there.0,
                    taken.stay there.0 s q there.1,
                    word ∙ there.2 ∙ ap (λ f. resident_ptw (f + there.0)) (sym taken.shape.first),
                  )
            ]
      ];
  frames = λ j s q h.
      elim (taken.left j s q h) [
        | inl same ↦
            ap (λ x. unmarked (get_or now (spot_of new x q) 0)) same.1 ∙ ap (λ y. unmarked (get_or now (spot_of new seg y) 0)) same.2
            ∙ taken_spot p core new now k seg page taken ∙ ap (λ f. resident_ptw (f + k)) (sym taken.shape.first)
            ∙ ap (λ x. resident_ptw (new.first + x)) (sym same.0)
        | inr from ↦
            let has = settled.pager.held j s q from in
            let in_frame = resident_frame p core j s q settled from in
            ap unmarked (taken_word p core new now k seg page s q settled taken has
            (taken_other p core new now k seg page s q (p.first + j) taken in_frame))
            ∙ settled.reads.frames j s q from ∙ ap (λ f. resident_ptw (f + j)) (sym taken.shape.first)
      ];
}

pub taken_settled : (p : PagerFields) (core : List ℕ) (new : PagerFields) (now : List ℕ) (k seg page : ℕ)
    → IsConsistent p core → IsTakenIn p core new now k seg page → IsConsistent new now
taken_settled p core new now k seg page s taken =
    let size = taken.size in
    let first = taken.shape.first in
    let frames = taken.shape.frames in
    let room = s.frames in
    let most = s.most in
    record {
      pager = taken.words;
      reads = taken_reads p core new now k seg page s taken;
      frames = rw first (rw frames (rw size room));
      most = omega (arith, size, most);
    }

-- another page is in another frame
taken_apart : (p : PagerFields) (core : List ℕ) (new : PagerFields) (now : List ℕ) (k seg page j s q : ℕ)
    → IsTakenIn p core new now k seg page → Holds p j s q → j ≢ k
taken_apart p core new now k seg page j s q taken h = λ same.
    let P : ℕ → Type 0 = λ x. get_or p.holders x None ≡ Some (s, q) in
    let at : get_or p.holders k None ≡ Some (s, q) = subst P same h in
    let empty = taken.empty in
    absurd (cc)

pub taken_kept : (p : PagerFields) (core : List ℕ) (new : PagerFields) (now : List ℕ) (k seg page : ℕ)
    → IsConsistent p core → IsTakenIn p core new now k seg page → KeepsContents p core new now
unfolding page_word
taken_kept p core new now k seg page s taken =
    let spot_below = s.pager.below seg page taken.has in
    let inside = taken.inside in
    record {
      shape = taken.shape;
      size = taken.size;
      content =
          content_same p core new now taken.shape.pages
          (λ x w has.
          elim (same_page x (w / 1024) seg page) [
            | inl same ↦
                let was : frame_of p core x (w / 1024) ≡ None =
                ap (λ y. frame_of p core y (w / 1024)) same.0 ∙ ap (λ q. frame_of p core seg q) same.1 ∙ taken.out in
                let is : frame_of new now x (w / 1024) ≡ Some (p.first + k) =
                ap (λ y. frame_of new now y (w / 1024)) same.0 ∙ ap (λ q. frame_of new now seg q) same.1
                ∙ taken_in p core new now k seg page s taken in
                let number = same.1 in
                let at : 1024 * page + w % 1024 ≡ w = omega (arith, number) in
                ap (λ f. word_in f now w (kept_word new x w)) is
                ∙ taken.page_in (w % 1024) (omega arith)
                ∙ ap (λ v. kept_word p seg v) at
                ∙ ap (λ y. kept_word p y w) (sym same.0)
                ∙ sym (ap (λ f. word_in f core w (kept_word p x w)) was)
            | inr other ↦
                word_stays p core new now x w (taken_frame p core new now k seg page x (w / 1024) s taken has other)
                (λ none. taken.kept x w)
                (λ frame e.
                let range = frame_range p core x (w / 1024) frame s has e in
                let is = range.1 in
                let apart = taken_apart p core new now k seg page range.0 x (w / 1024) taken range.2 in
                taken.others (1024 * frame + w % 1024) (λ at. absurd (omega (arith, at, is, spot_below)))
                (elim (cases_lt range.0 k) [
                  | inl low ↦ inl (omega (arith, low, is))
                  | inr high ↦ inr (omega (arith, high, is, apart))
                ]))
          ]);
      others = λ a out.
          taken.others a (λ at. out (inl (record { seg = seg; page = page; has = taken.has; is = sym at })))
          (elim (cases_lt a (1024 * (p.first + k))) [
            | inl low ↦ inl low
            | inr high ↦
                elim (cases_lt a (1024 * (p.first + k) + 1024)) [
                  | inl within ↦ absurd (out (inr (omega (arith, high), omega (arith, within, inside))))
                  | inr past ↦ inr past
                ]
          ]);
    }
