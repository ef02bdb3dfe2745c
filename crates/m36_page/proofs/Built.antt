-- The code of the pager evicts a page, or takes one in.
use Rattle.std.proofs.Common.{ℕ, ◌≡◌, ◌≢◌, ◌+◌, ◌-◌, ◌*◌, ◌/◌, ◌%◌, ◌^◌, ◌<◌, ◌≤◌, ◌⊎◌, true, List, length, get_or, set, Option, Some, None, refl, sym, ap, subst, inl, inr, ◌∙◌, arith}
use Rattle.std.specs.Prelude.{position, All, IsSome}
use Rattle.std.proofs.lemmas.Bool.{cases_eq, cases_lt, ltb-true}
use Rattle.std.proofs.lemmas.List.{get_or-set_same, get_or-set_other, length-set}
use Rattle.std.proofs.lemmas.List.Elements.{All-get_or}
use Rattle.m36_page.specs.Fields.{TableFields, PagerFields}
use Rattle.m36_page.specs.Copied.{IsCopied}
use Rattle.m36_page.specs.Residence.{is_table_of, table_of, has_page_in, spot_in, kept_in, has_page, spot_of, kept_word, absent_ptw, resident_ptw, frame_of, Holds, IsPager, IsConsistent}
use Rattle.m36_page.specs.Changes.{OthersStay}
use Rattle.m36_page.proofs.Frames.{held_inside}
use Rattle.m36_page.proofs.Tables.{found, words_pages, words_spots, words_kept, words_were, words_others, words_whole}
use Rattle.m36_page.specs.Moved.{HasWords, IsEvicted, IsTakenIn, IsEmptied}
use Rattle.m36_page.proofs.Moves.{resident_frame, away_kept, away_settled, away_frame, away_out, same_page, same_some}

-- ---- evicted

pub away_from : (p : PagerFields) (core : List ℕ) (new : PagerFields) (now : List ℕ) (k seg page i : ℕ) (d : TableFields) (words : List ℕ)
    → IsConsistent p core → Holds p k seg page → HasWords p new seg i d words
    → new.first ≡ p.first → new.holders ≡ set p.holders k None
    → IsCopied core (1024 * (p.first + k)) (get_or p.tables i d).words (1024 * page) words
    → now ≡ set core (spot_of p seg page) absent_ptw
    → IsEvicted p core new now k seg page
away_from p core new now k seg page i d words s held h first holders copied e =
    let has = s.pager.held k seg page held in
    let below = s.pager.below seg page has in
    let room = s.frames in
    let spot_in : spot_of p seg page < length core = omega (arith, below, room) in
    let inside = held_inside p.holders k (seg, page) held in
    let pages = words_pages p new seg i d words h in
    let spots = words_spots p new seg i d words h in
    let was = words_were p seg i d h.at in
    let left : (j x q : ℕ) → Holds new j x q → Holds p j x q × (j ≢ k) = λ j x q holds.
    let at : get_or (set p.holders k None) j None ≡ Some (x, q) = sym (ap (λ hs. get_or hs j None) holders) ∙ holds in
    elim (cases_eq j k) [
      | inl same ↦
          let none : get_or (set p.holders k None) j None ≡ None =
          ap (λ n. get_or (set p.holders k None) n None) same ∙ get_or-set_same p.holders k None None inside in
          absurd (cc)
      | inr other ↦ (sym (get_or-set_other p.holders k j None None other) ∙ at, other)
    ] in
    record {
      held = held;
      shape = record {
        first = first;
        frames = ap length holders ∙ length-set p.holders k None;
        pages = pages;
        spots = spots;
      };
      words = record {
        words = words_whole p new seg i d words h copied.size s.pager.words;
        below = λ x q has'.
            let old = s.pager.below x q (sym (pages x q) ∙ has') in
            let same = spots x q in
            omega (arith, old, same, first);
        apart = λ x q x' q' a b same.
            s.pager.apart x q x' q' (sym (pages x q) ∙ a) (sym (pages x' q') ∙ b) (sym (spots x q) ∙ same ∙ spots x' q');
        held = λ j x q holds. pages x q ∙ s.pager.held j x q (left j x q holds).0;
      };
      left = left;
      stay = λ j x q holds other.
          ap (λ hs. get_or hs j None) holders ∙ get_or-set_other p.holders k j None None other ∙ holds;
      kept_others = λ x w other.
          elim (cases_eq x seg) [
            | inl same ↦
                let elsewhere : (w < 1024 * page) ⊎ (1024 * page + 1024 ≤ w) =
                elim (cases_lt w (1024 * page)) [
                  | inl low ↦ inl low
                  | inr high ↦
                      elim (cases_lt w (1024 * page + 1024)) [
                        | inl within ↦ absurd (other (same, omega (arith, high, within)))
                        | inr past ↦ inr past
                      ]
                ] in
                ap (λ y. kept_word new y w) same ∙ words_kept p new seg i d words h w ∙ copied.outside w elsewhere ∙ sym (was w)
                ∙ sym (ap (λ y. kept_word p y w) same)
            | inr apart ↦ words_others p new seg i d words h x w apart
          ];
      kept_page = λ w is.
          let at : w ≡ 1024 * page + w % 1024 = omega (arith, is) in
          words_kept p new seg i d words h w ∙ ap (λ n. get_or words n 0) at ∙ copied.inside (w % 1024) (omega arith);
      size = ap length e ∙ length-set core (spot_of p seg page) absent_ptw;
      spot = ap (λ c. get_or c (spot_of p seg page) 0) e ∙ get_or-set_same core (spot_of p seg page) absent_ptw 0 spot_in;
      others = λ a other. ap (λ c. get_or c a 0) e ∙ get_or-set_other core (spot_of p seg page) a absent_ptw 0 other;
    }

-- ---- taken in

same_pages : (p new : PagerFields) → new.tables ≡ p.tables → (s q : ℕ) → has_page new s q ≡ has_page p s q
unfolding has_page
same_pages p new e s q = ap (λ ts. has_page_in (table_of ts s) q) e

same_spots : (p new : PagerFields) → new.tables ≡ p.tables → (s q : ℕ) → spot_of new s q ≡ spot_of p s q
unfolding spot_of
same_spots p new e s q = ap (λ ts. spot_in (table_of ts s) q) e

same_words : (p new : PagerFields) → new.tables ≡ p.tables → (s w : ℕ) → kept_word new s w ≡ kept_word p s w
unfolding kept_word
same_words p new e s w = ap (λ ts. kept_in (table_of ts s) w) e

pub taken_from : (p : PagerFields) (core : List ℕ) (new : PagerFields) (mid now : List ℕ) (k seg page i : ℕ) (d : TableFields)
    → IsConsistent p core → has_page p seg page ≡ true → frame_of p core seg page ≡ None
    → get_or p.holders k None ≡ None → k < length p.holders
    → position (is_table_of seg) p.tables ≡ Some i
    → new.first ≡ p.first → new.tables ≡ p.tables → new.holders ≡ set p.holders k (Some (seg, page))
    → IsCopied (get_or p.tables i d).words (1024 * page) core (1024 * (p.first + k)) mid
    → now ≡ set mid (spot_of p seg page) (resident_ptw (p.first + k))
    → IsTakenIn p core new now k seg page
taken_from p core new mid now k seg page i d s has out empty inside at first tables holders copied e =
    let below = s.pager.below seg page has in
    let room = s.frames in
    let size = copied.size in
    let spot_in : spot_of p seg page < length mid = omega (arith, below, room, size) in
    let pages = same_pages p new tables in
    let spots = same_spots p new tables in
    let kept = same_words p new tables in
    let was = words_were p seg i d at in
    let left : (j x q : ℕ) → Holds new j x q → ((j ≡ k) × (x ≡ seg) × (q ≡ page)) ⊎ Holds p j x q = λ j x q holds.
    let there : get_or (set p.holders k (Some (seg, page))) j None ≡ Some (x, q) = sym (ap (λ hs. get_or hs j None) holders) ∙ holds in
    elim (cases_eq j k) [
      | inl same ↦
          let some : get_or (set p.holders k (Some (seg, page))) j None ≡ Some (seg, page) =
          ap (λ n. get_or (set p.holders k (Some (seg, page))) n None) same ∙ get_or-set_same p.holders k (Some (seg, page)) None inside in
          let both : (x, q) ≡ (seg, page) = same_some (x, q) (seg, page) (sym there ∙ some) in
          inl (same, ap (λ (y : ℕ × ℕ). y.0) both, ap (λ (y : ℕ × ℕ). y.1) both)
      | inr other ↦ inr (sym (get_or-set_other p.holders k j (Some (seg, page)) None other) ∙ there)
    ] in
    record {
      has = has;
      out = out;
      empty = empty;
      inside = inside;
      shape = record {
        first = first;
        frames = ap length holders ∙ length-set p.holders k (Some (seg, page));
        pages = pages;
        spots = spots;
      };
      words = record {
        words = let P : List TableFields → Type 0 = λ ts. All (λ t. length t.words ≡ 1024 * t.pages) ts in subst P (sym tables) s.pager.words;
        below = λ x q has'.
            let old = s.pager.below x q (sym (pages x q) ∙ has') in
            let same = spots x q in
            omega (arith, old, same, first);
        apart = λ x q x' q' a b same.
            s.pager.apart x q x' q' (sym (pages x q) ∙ a) (sym (pages x' q') ∙ b) (sym (spots x q) ∙ same ∙ spots x' q');
        held = λ j x q holds.
            elim (left j x q holds) [
              | inl same ↦ pages x q ∙ ap (λ y. has_page p y q) same.1 ∙ ap (λ y. has_page p seg y) same.2 ∙ has
              | inr from ↦ pages x q ∙ s.pager.held j x q from
            ];
      };
      here = ap (λ hs. get_or hs k None) holders ∙ get_or-set_same p.holders k (Some (seg, page)) None inside;
      left = left;
      stay = λ j x q holds.
          let other : j ≢ k = λ same.
          let P : ℕ → Type 0 = λ n. get_or p.holders n None ≡ Some (x, q) in
          let moved : get_or p.holders k None ≡ Some (x, q) = subst P same holds in
          absurd (cc) in
          ap (λ hs. get_or hs j None) holders ∙ get_or-set_other p.holders k j (Some (seg, page)) None other ∙ holds;
      kept = kept;
      size = ap length e ∙ length-set mid (spot_of p seg page) (resident_ptw (p.first + k)) ∙ size;
      spot = ap (λ c. get_or c (spot_of p seg page) 0) e ∙ get_or-set_same mid (spot_of p seg page) (resident_ptw (p.first + k)) 0 spot_in;
      page_in = λ j small.
          let apart : 1024 * (p.first + k) + j ≢ spot_of p seg page = λ same. absurd (omega (arith, same, below)) in
          ap (λ c. get_or c (1024 * (p.first + k) + j) 0) e
          ∙ get_or-set_other mid (spot_of p seg page) (1024 * (p.first + k) + j) (resident_ptw (p.first + k)) 0 apart
          ∙ copied.inside j small ∙ sym (was (1024 * page + j));
      others = λ a other range.
          ap (λ c. get_or c a 0) e ∙ get_or-set_other mid (spot_of p seg page) a (resident_ptw (p.first + k)) 0 other ∙ copied.outside a range;
    }

-- ---- emptied

some_same : (a b : ℕ) → Some a ≡ Some b → a ≡ b
some_same a b e = cc

holder_gone : (new : PagerFields) (k seg page : ℕ) (p : PagerFields) → ((x q : ℕ) → Holds new k x q → ⊥)
    → (o : Option (ℕ × ℕ)) → get_or new.holders k None ≡ o → get_or new.holders k None ≡ None
holder_gone new k seg page p never None e = e
holder_gone new k seg page p never (Some h) e = absurd (never h.0 h.1 e)

-- if a frame holds the same pages before and after, its holder is the same
same_holder : (p new : PagerFields) (j : ℕ) → ((x q : ℕ) → Holds new j x q → Holds p j x q) → ((x q : ℕ) → Holds p j x q → Holds new j x q)
    → (o o' : Option (ℕ × ℕ)) → get_or p.holders j None ≡ o → get_or new.holders j None ≡ o' → get_or new.holders j None ≡ get_or p.holders j None
same_holder p new j left stay None None e f = f ∙ sym e
same_holder p new j left stay None (Some h) e f = let held : get_or p.holders j None ≡ Some h = left h.0 h.1 f in absurd (cc)
same_holder p new j left stay (Some h) o' e f = stay h.0 h.1 e ∙ sym e

-- frames other than the one that a page was taken into hold what they held
pub taken_holders : (p : PagerFields) (core : List ℕ) (new : PagerFields) (now : List ℕ) (k seg page : ℕ)
    → IsTakenIn p core new now k seg page → (j : ℕ) → j ≢ k → get_or new.holders j None ≡ get_or p.holders j None
taken_holders p core new now k seg page taken j other =
    same_holder p new j
    (λ x q h. elim (taken.left j x q h) [ inl here ↦ absurd (other here.0) | inr from ↦ from ])
    (λ x q h. taken.stay j x q h)
    (get_or p.holders j None) (get_or new.holders j None) refl refl

away_stay : (p : PagerFields) (core : List ℕ) (new : PagerFields) (now : List ℕ) (k seg page : ℕ)
    → IsEvicted p core new now k seg page → OthersStay p core new now k
away_stay p core new now k seg page away = record {
  holders = λ j other.
      same_holder p new j (λ x q h. (away.left j x q h).0) (λ x q h. away.stay j x q h other)
      (get_or p.holders j None) (get_or new.holders j None) refl refl;
  words = λ a out. away.others a (out seg page away.held);
  kept = λ x w out.
      away.kept_others x w
      (λ same.
      let P : ℕ → ℕ → Type 0 = λ a b. Holds p k a b in
      out (subst (λ a. P a (w / 1024)) (sym same.0) (subst (P seg) (sym same.1) away.held)));
}

held_some : (p : PagerFields) (k seg page : ℕ) → Holds p k seg page → get_or p.holders k None ≡ None → ⊥
held_some p k seg page held none = cc

pub emptied : (p : PagerFields) (core : List ℕ) (new : PagerFields) (now : List ℕ) (k seg page : ℕ)
    → IsConsistent p core → IsEvicted p core new now k seg page → IsEmptied p core new now k
emptied p core new now k seg page s away = record {
  kept = away_kept p core new now k seg page s away;
  settled = away_settled p core new now k seg page s away;
  empty = holder_gone new k seg page p (λ x q h. (away.left k x q h).1 refl) (get_or new.holders k None) refl;
  spot = λ x q h.
      let both : (x, q) ≡ (seg, page) = same_some (x, q) (seg, page) (sym h ∙ away.held) in
      ap (λ (y : ℕ × ℕ). get_or now (spot_of p y.0 y.1) 0) both ∙ away.spot;
  same = λ none. absurd (held_some p k seg page away.held none);
  others = away_stay p core new now k seg page away;
  stays = λ x q frame has e apart.
      let other : (x ≡ seg) × (q ≡ page) → ⊥ = λ same.
      let is : frame_of p core x q ≡ Some (p.first + k) =
      ap (λ y. frame_of p core y q) same.0 ∙ ap (λ y. frame_of p core seg y) same.1 ∙ resident_frame p core k seg page s away.held in
      let number : frame ≡ p.first + k = some_same frame (p.first + k) (sym e ∙ is) in
      apart number in
      away_frame p core new now k seg page x q s away has other ∙ e;
  out = λ x q has e.
      elim (same_page x q seg page) [
        | inl same ↦
            ap (λ y. frame_of new now y q) same.0 ∙ ap (λ y. frame_of new now seg y) same.1 ∙ away_out p core new now k seg page away
        | inr other ↦ away_frame p core new now k seg page x q s away has other ∙ e
      ];
}

-- ---- the place of a page table word

table_some : (o : Option TableFields) (page : ℕ) → has_page_in o page ≡ true → IsSome o
table_some None page e = absurd (cc)
table_some (Some t) page e = refl

pub has_table : (p : PagerFields) (seg page : ℕ) → has_page p seg page ≡ true → IsSome (table_of p.tables seg)
unfolding has_page
has_table p seg page e = table_some (table_of p.tables seg) page e

pub spot_by : (p : PagerFields) (seg page i : ℕ) (d : TableFields) → position (is_table_of seg) p.tables ≡ Some i
    → spot_of p seg page ≡ (get_or p.tables i d).at + page
unfolding spot_of
spot_by p seg page i d at = ap (λ t. spot_in t page) (found p.tables seg i d at).2

pub page_inside : (p : PagerFields) (seg page i : ℕ) (d : TableFields) → position (is_table_of seg) p.tables ≡ Some i
    → has_page p seg page ≡ true → page < (get_or p.tables i d).pages
unfolding has_page
page_inside p seg page i d at has =
    ltb-true page (get_or p.tables i d).pages (sym (ap (λ t. has_page_in t page) (found p.tables seg i d at).2) ∙ has)

-- a table has the words of a page of it
pub page_room : (p : PagerFields) (seg page i : ℕ) (d : TableFields) → IsPager p → position (is_table_of seg) p.tables ≡ Some i
    → has_page p seg page ≡ true → 1024 * page + 1024 ≤ length (get_or p.tables i d).words
page_room p seg page i d pager at has =
    let is = found p.tables seg i d at in
    let inside = page_inside p seg page i d at has in
    let whole : length (get_or p.tables i d).words ≡ 1024 * (get_or p.tables i d).pages =
    All-get_or (λ (t : TableFields). length t.words ≡ 1024 * t.pages) p.tables i d is.0 pager.words in
    omega (arith, inside, whole)
