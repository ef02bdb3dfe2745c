-- A word of a segment that is set.
use Rattle.std.proofs.Common.{ℕ, ◌≡◌, ◌≢◌, ◌+◌, ◌-◌, ◌*◌, ◌/◌, ◌%◌, ◌^◌, ◌<◌, ◌≤◌, ◌⊎◌, true, List, length, get_or, set, Option, Some, None, refl, sym, ap, subst, inl, inr, ◌∙◌, arith}
use Rattle.std.specs.Prelude.{position}
use Rattle.std.proofs.lemmas.Bool.{cases_eq, cases_Bool}
use Rattle.std.proofs.lemmas.List.{get_or-set_same, get_or-set_other, length-set}
use Rattle.m36_model.specs.Core.{unmarked}
use Rattle.m36_page.specs.Fields.{TableFields, PagerFields}
use Rattle.std.specs.Bool.{then_some}
use Rattle.m36_page.specs.Residence.{is_table_of, has_page, spot_of, kept_word, resident_ptw, frame_in, frame_of, page_word, content_of, IsPager, NamesFrame, AgreesWithCore, IsConsistent, HasPtwPlaces}
use Rattle.m36_page.specs.Changes.{IsSameShape, IsSet}
use Rattle.m36_page.specs.Moved.{HasWords, IsKeptWordSet}
use Rattle.m36_page.proofs.Frames.{held_inside, word_stays}
use Rattle.m36_page.proofs.Tables.{words_pages, words_spots, words_kept, words_were, words_others, words_whole}
use Rattle.m36_page.proofs.Moves.{frame_range, same_some}
use Rattle.m36_page.proofs.Parts.{parts, content_some, content_kept}

-- the content of a word that is not the one that is set
content_other : (old : PagerFields) (core : List ℕ) (new : PagerFields) (now : List ℕ) (s w : ℕ)
    → has_page new s (w / 1024) ≡ has_page old s (w / 1024)
    → (has_page old s (w / 1024) ≡ true → page_word new now s w ≡ page_word old core s w)
    → content_of new now s w ≡ content_of old core s w
unfolding content_of
content_other old core new now s w pages words =
    elim (cases_Bool (has_page old s (w / 1024))) [
      | inl has ↦
          ap (λ b. then_some b (page_word new now s w)) pages ∙ ap (λ v. then_some (has_page old s (w / 1024)) v) (words has)
      | inr lacks ↦
          ap (λ b. then_some b (page_word new now s w)) (pages ∙ lacks) ∙ sym (ap (λ b. then_some b (page_word old core s w)) lacks)
    ]

-- ---- in a frame

-- no page table word is a word of a frame
spot_apart : (p : PagerFields) (core : List ℕ) (s q a : ℕ) → IsConsistent p core → has_page p s q ≡ true → 1024 * p.first ≤ a → spot_of p s q ≢ a
spot_apart p core s q a settled has above = λ same.
    let below = settled.pager.below s q has in
    absurd (omega (arith, same, below, above))

frame_same : (p : PagerFields) (core : List ℕ) (s q a v : ℕ) → IsConsistent p core → has_page p s q ≡ true → 1024 * p.first ≤ a
    → frame_of p (set core a v) s q ≡ frame_of p core s q
unfolding frame_of
frame_same p core s q a v settled has above =
    ap frame_in (get_or-set_other core a (spot_of p s q) v 0 (spot_apart p core s q a settled has above))

same_word : (w word : ℕ) → w / 1024 ≡ word / 1024 → w % 1024 ≡ word % 1024 → w ≡ word
same_word w word high low = omega (arith, high, low)

-- another word of a segment has another place
elsewhere : (p : PagerFields) (core : List ℕ) (s w seg word f frame : ℕ) → IsConsistent p core
    → has_page p s (w / 1024) ≡ true → has_page p seg (word / 1024) ≡ true
    → frame_of p core s (w / 1024) ≡ Some f → frame_of p core seg (word / 1024) ≡ Some frame
    → ((s ≡ seg) × (w ≡ word) → ⊥) → 1024 * f + w % 1024 ≢ 1024 * frame + word % 1024
elsewhere p core s w seg word f frame settled has has' e e' other = λ same.
    let one = frame_range p core s (w / 1024) f settled has e in
    let two = frame_range p core seg (word / 1024) frame settled has' e' in
    let a = one.1 in
    let b = two.1 in
    let k : one.0 ≡ two.0 = omega (arith, same, a, b) in
    let low : w % 1024 ≡ word % 1024 = omega (arith, same) in
    let P : ℕ → Type 0 = λ n. get_or p.holders n None ≡ Some (s, w / 1024) in
    let there : get_or p.holders two.0 None ≡ Some (s, w / 1024) = subst P k one.2 in
    let held = two.2 in
    let pair : Some (s, w / 1024) ≡ Some (seg, word / 1024) = sym there ∙ held in
    let both : (s, w / 1024) ≡ (seg, word / 1024) = same_some (s, w / 1024) (seg, word / 1024) pair in
    other (ap (λ (x : ℕ × ℕ). x.0) both, same_word w word (ap (λ (x : ℕ × ℕ). x.1) both) low)

same_reads : (p : PagerFields) (core : List ℕ) (a v : ℕ) → IsConsistent p core → 1024 * p.first ≤ a → AgreesWithCore p (set core a v)
same_reads p core a v settled above = record {
  pages = λ s q has.
      let P : ℕ → Type 0 = λ x. NamesFrame p s q x in
      subst P (sym (get_or-set_other core a (spot_of p s q) v 0 (spot_apart p core s q a settled has above))) (settled.reads.pages s q has);
  frames = λ k s q h.
      ap unmarked (get_or-set_other core a (spot_of p s q) v 0 (spot_apart p core s q a settled (settled.pager.held k s q h) above))
      ∙ settled.reads.frames k s q h;
}

some_same : (a b : ℕ) → Some a ≡ Some b → a ≡ b
some_same a b e = cc

some_none : (o : Option ℕ) (f : ℕ) → o ≡ Some f → o ≡ None → ⊥
some_none o f e none = cc

pub set_in_frame : (p : PagerFields) (core now : List ℕ) (seg word frame v : ℕ) → IsConsistent p core → has_page p seg (word / 1024) ≡ true
    → frame_of p core seg (word / 1024) ≡ Some frame → now ≡ set core (1024 * frame + word % 1024) v
    → IsSet p core p now seg word v × AgreesWithCore p now
set_in_frame p core now seg word frame v s has e written =
    let range = frame_range p core seg (word / 1024) frame s has e in
    let is = range.1 in
    let a : ℕ = 1024 * frame + word % 1024 in
    let above : 1024 * p.first ≤ 1024 * frame + word % 1024 = omega (arith, is) in
    let inside = held_inside p.holders range.0 (seg, word / 1024) range.2 in
    let frames = s.frames in
    let room : 1024 * frame + word % 1024 < length core = omega (arith, is, inside, frames) in
    let after : List ℕ = set core (1024 * frame + word % 1024) v in
    let P : List ℕ → Type 0 = λ c. IsSet p core p c seg word v × AgreesWithCore p c in
    subst P (sym written) (
      record {
        shape = record { first = refl; frames = refl; pages = λ x q. refl; spots = λ x q. refl };
        holders = refl;
        size = length-set core (1024 * frame + word % 1024) v;
        here =
            content_some p after seg word frame has (frame_same p core seg (word / 1024) (1024 * frame + word % 1024) v s has above ∙ e)
            ∙ ap (λ x. Some x) (get_or-set_same core (1024 * frame + word % 1024) v 0 room);
        content = λ x w other.
            content_other p core p after x w refl
            (λ has'.
            word_stays p core p after x w (frame_same p core x (w / 1024) (1024 * frame + word % 1024) v s has' above) (λ none. refl)
            (λ f e'.
            get_or-set_other core (1024 * frame + word % 1024) (1024 * f + w % 1024) v 0
            (elsewhere p core x w seg word f frame s has' has e' e other)));
        others = λ b out.
            get_or-set_other core (1024 * frame + word % 1024) b v 0
            (λ same. out (inr (omega (arith, same, above), omega (arith, same, is, inside))));
        in_frame = λ f e'. (refl, ap (λ x. set core (1024 * x + word % 1024) v) (some_same frame f (sym e ∙ e')));
        in_none = λ none. absurd (some_none (frame_of p core seg (word / 1024)) frame e none);
        kept = λ x w other. refl;
      },
      same_reads p core (1024 * frame + word % 1024) v s above,
    )

-- ---- kept

kept_frame : (p new : PagerFields) (core : List ℕ) (s q : ℕ) → IsSameShape p new → frame_of new core s q ≡ frame_of p core s q
unfolding frame_of
kept_frame p new core s q shape = ap (λ a. frame_in (get_or core a 0)) (shape.spots s q)

pub set_kept : (p new : PagerFields) (core : List ℕ) (seg word v : ℕ) → IsConsistent p core → has_page p seg (word / 1024) ≡ true
    → frame_of p core seg (word / 1024) ≡ None → IsKeptWordSet p new seg word v
    → IsSet p core new core seg word v × AgreesWithCore new core
set_kept p new core seg word v s has e kept = (
  record {
    shape = kept.shape;
    holders = kept.holders;
    size = refl;
    here =
        content_kept new core seg word (kept.shape.pages seg (word / 1024) ∙ has) (kept_frame p new core seg (word / 1024) kept.shape ∙ e)
        ∙ ap (λ x. Some x) kept.here;
    content = λ x w other.
        content_other p core new core x w (kept.shape.pages x (w / 1024))
        (λ has'. word_stays p core new core x w (kept_frame p new core x (w / 1024) kept.shape) (λ none. kept.others x w other) (λ f e'. refl));
    others = λ a out. refl;
    in_frame = λ f e'. absurd (some_none (frame_of p core seg (word / 1024)) f e' e);
    in_none = λ none. refl;
    kept = kept.others;
  },
  record {
    pages = λ x q has'.
        elim (s.reads.pages x q (sym (kept.shape.pages x q) ∙ has')) [
          | inl absent ↦ inl (ap (λ a. unmarked (get_or core a 0)) (kept.shape.spots x q) ∙ absent)
          | inr there ↦
              inr (
                there.0,
                ap (λ hs. get_or hs there.0 None) kept.holders ∙ there.1,
                ap (λ a. unmarked (get_or core a 0)) (kept.shape.spots x q) ∙ there.2 ∙ ap (λ f. resident_ptw (f + there.0)) (sym kept.shape.first),
              )
        ];
    frames = λ k x q h.
        ap (λ a. unmarked (get_or core a 0)) (kept.shape.spots x q)
        ∙ s.reads.frames k x q (sym (ap (λ hs. get_or hs k None) kept.holders) ∙ h) ∙ ap (λ f. resident_ptw (f + k)) (sym kept.shape.first);
  },
)

-- a word of a table
pub kept_from : (p new : PagerFields) (seg word v i : ℕ) (d : TableFields) → IsPager p
    → word < length (get_or p.tables i d).words
    → HasWords p new seg i d (set (get_or p.tables i d).words word v) → new.first ≡ p.first → new.holders ≡ p.holders
    → IsKeptWordSet p new seg word v
kept_from p new seg word v i d pager room h first holders =
    let words : List ℕ = set (get_or p.tables i d).words word v in
    let pages = words_pages p new seg i d words h in
    let spots = words_spots p new seg i d words h in
    let was = words_were p seg i d h.at in
    record {
      shape = record { first = first; frames = ap length holders; pages = pages; spots = spots };
      holders = holders;
      pager = record {
        words = words_whole p new seg i d words h (length-set (get_or p.tables i d).words word v) pager.words;
        below = λ x q has'.
            let old = pager.below x q (sym (pages x q) ∙ has') in
            let same = spots x q in
            omega (arith, old, same, first);
        apart = λ x q x' q' a b same.
            pager.apart x q x' q' (sym (pages x q) ∙ a) (sym (pages x' q') ∙ b) (sym (spots x q) ∙ same ∙ spots x' q');
        held = λ j x q holds. pages x q ∙ pager.held j x q (sym (ap (λ hs. get_or hs j None) holders) ∙ holds);
      };
      here = words_kept p new seg i d words h word ∙ get_or-set_same (get_or p.tables i d).words word v 0 room;
      others = λ x w other.
          elim (cases_eq x seg) [
            | inl same ↦
                ap (λ y. kept_word new y w) same ∙ words_kept p new seg i d words h w
                ∙ get_or-set_other (get_or p.tables i d).words word w v 0 (λ equal. other (same, equal)) ∙ sym (was w)
                ∙ sym (ap (λ y. kept_word p y w) same)
            | inr apart ↦ words_others p new seg i d words h x w apart
          ];
    }

pub kept_parts : (first : ℕ) (holders : List (Option (ℕ × ℕ))) (spots : List ℕ) (tables ts : List TableFields) (p : PagerFields)
    (seg word v i : ℕ) (t t' : TableFields)
    → parts first holders tables ≡ p → HasPtwPlaces (parts first holders tables) spots
    → ts ≡ tables → position (is_table_of seg) ts ≡ Some i → t ≡ get_or tables i t → word < length t.words
    → t' ≡ (record t { words = set t.words word v })
    → IsKeptWordSet p (parts first holders (set tables i t')) seg word v
kept_parts first holders spots tables ts p seg word v i t t' e inside same place item room others =
    let q : PagerFields = parts first holders tables in
    let new : PagerFields = parts first holders (set tables i t') in
    let words : length t.words ≡ length (get_or tables i t).words = ap (λ (x : TableFields). length x.words) item in
    let has : HasWords q new seg i t (set (get_or tables i t).words word v) = record {
      at = sym (ap (position (is_table_of seg)) same) ∙ place;
      tables = ap (λ x. set tables i x) (others ∙ ap (λ (x : TableFields). record x { words = set x.words word v }) item);
    } in
    let A : PagerFields → Type 0 = λ x. IsKeptWordSet x new seg word v in
    subst A e (kept_from q new seg word v i t inside.pager (omega (arith, room, words)) has refl refl)

pub inside_kept : (p new : PagerFields) (seg word v : ℕ) (spots : List ℕ) → HasPtwPlaces p spots → IsKeptWordSet p new seg word v → HasPtwPlaces new spots
inside_kept p new seg word v spots inside kept = record {
  pager = kept.pager;
  count = inside.count ∙ sym kept.shape.frames;
  spots = λ j s q h. inside.spots j s q (sym (ap (λ hs. get_or hs j None) kept.holders) ∙ h) ∙ sym (kept.shape.spots s q);
}
