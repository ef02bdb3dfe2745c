-- Tables of which one has its words replaced.
use Rattle.std.proofs.Common.{ℕ, zero, suc, ◌≡◌, ◌≢◌, ◌+◌, ◌-◌, ◌*◌, ◌/◌, ◌%◌, ◌^◌, ◌<◌, ◌≤◌, ◌⊎◌, true, false, cond, List, [], ◌∷◌, length, get_or, set, Option, Some, None, refl, sym, ap, subst, inl, inr, ◌∙◌, arith}
use Rattle.std.specs.Prelude.{nat_eq, nat_lt, not, position, slice_get, All, IsSome, is_some, option_and_then}
use Rattle.std.specs.List.{position_or_len}
use Rattle.std.proofs.lemmas.Bool.{eqb-true, cases_eq}
use Rattle.std.proofs.lemmas.List.{get_or-set_same, get_or-set_other, length-set}
use Rattle.std.proofs.lemmas.List.Elements.{All-set, All-get_or}
use Rattle.std.proofs.lemmas.List.Quantifiers.{position-Some}
use Rattle.std.proofs.lemmas.Option.{slice_get-get_or}
use Rattle.m36_page.specs.Fields.{TableFields, PagerFields}
use Rattle.m36_page.specs.Residence.{is_table_of, table_of, has_page_in, spot_in, kept_in, has_page, spot_of, kept_word}
use Rattle.m36_page.specs.Moved.{HasWords}

-- the index of a table is the same as before
place_set : (tables : List TableFields) (i seg : ℕ) (t d : TableFields) → t.seg ≡ (get_or tables i d).seg
    → position_or_len (is_table_of seg) (set tables i t) ≡ position_or_len (is_table_of seg) tables
place_set [] i seg t d e = refl
place_set (x ∷ tables) zero seg t d e = ap (λ s. cond (not (nat_eq s seg)) (1 + position_or_len (is_table_of seg) tables) 0) e
place_set (x ∷ tables) (suc i) seg t d e = ap (λ n. cond (not (nat_eq x.seg seg)) (1 + n) 0) (place_set tables i seg t d e)

position_set : (tables : List TableFields) (i seg : ℕ) (t d : TableFields) → t.seg ≡ (get_or tables i d).seg
    → position (is_table_of seg) (set tables i t) ≡ position (is_table_of seg) tables
position_set tables i seg t d e =
    ap (λ n. cond (nat_lt n (length (set tables i t))) (Some n) None) (place_set tables i seg t d e)
    ∙ ap (λ n. cond (nat_lt (position_or_len (is_table_of seg) tables) n) (Some (position_or_len (is_table_of seg) tables)) None) (length-set tables i t)

-- the table of a segment, by its index
pub found : (tables : List TableFields) (seg i : ℕ) (d : TableFields) → position (is_table_of seg) tables ≡ Some i
    → (i < length tables) × ((get_or tables i d).seg ≡ seg) × (table_of tables seg ≡ Some (get_or tables i d))
unfolding table_of
found tables seg i d at =
    let is = position-Some (is_table_of seg) tables i d at in (
      is.0,
      eqb-true (get_or tables i d).seg seg is.1,
      ap (λ o. option_and_then (slice_get tables) o) at ∙ slice_get-get_or tables i d is.0,
    )

-- the table of a segment if one table has its words replaced
table_at : (tables : List TableFields) (seg i : ℕ) (t d : TableFields) → position (is_table_of seg) tables ≡ Some i → t.seg ≡ seg
    → table_of (set tables i t) seg ≡ Some t
unfolding table_of
table_at tables seg i t d at same =
    let is = found tables seg i d at in
    let inside : i < length (set tables i t) = let n = length-set tables i t in omega (arith, n, is.0) in
    ap (λ o. option_and_then (slice_get (set tables i t)) o) (position_set tables i seg t d (same ∙ sym is.1) ∙ at)
    ∙ slice_get-get_or (set tables i t) i d inside ∙ ap (λ x. Some x) (get_or-set_same tables i t d is.0)

other_by : (tables : List TableFields) (i : ℕ) (t d : TableFields) (o : Option ℕ)
    → ((j : ℕ) → o ≡ Some j → (j < length tables) × (j ≢ i))
    → option_and_then (slice_get (set tables i t)) o ≡ option_and_then (slice_get tables) o
other_by tables i t d None apart = refl
other_by tables i t d (Some j) apart =
    let here = apart j refl in
    let inside : j < length (set tables i t) = let n = length-set tables i t in omega (arith, n, here.0) in
    slice_get-get_or (set tables i t) j d inside ∙ ap (λ x. Some x) (get_or-set_other tables i j t d here.1)
    ∙ sym (slice_get-get_or tables j d here.0)

table_other : (tables : List TableFields) (seg s i : ℕ) (t d : TableFields) → position (is_table_of seg) tables ≡ Some i → t.seg ≡ seg → s ≢ seg
    → table_of (set tables i t) s ≡ table_of tables s
unfolding table_of
table_other tables seg s i t d at same other =
    let is = found tables seg i d at in
    ap (λ o. option_and_then (slice_get (set tables i t)) o) (position_set tables i s t d (same ∙ sym is.1))
    ∙ other_by tables i t d (position (is_table_of s) tables)
    (λ j e.
    let there = found tables s j d e in (
      there.0,
      λ equal.
          let P : ℕ → Type 0 = λ n. (get_or tables n d).seg ≡ s in
          let moved : (get_or tables i d).seg ≡ s = subst P equal there.1 in
          other (sym moved ∙ is.1),
    ))

-- ---- the pager after the words of one table have changed

table_now : (p new : PagerFields) (seg i : ℕ) (d : TableFields) (words : List ℕ) → HasWords p new seg i d words
    → table_of new.tables seg ≡ Some (record (get_or p.tables i d) { words = words })
table_now p new seg i d words h =
    let is = found p.tables seg i d h.at in
    ap (λ ts. table_of ts seg) h.tables ∙ table_at p.tables seg i (record (get_or p.tables i d) { words = words }) d h.at is.1

table_still : (p new : PagerFields) (seg s i : ℕ) (d : TableFields) (words : List ℕ) → HasWords p new seg i d words → s ≢ seg
    → table_of new.tables s ≡ table_of p.tables s
table_still p new seg s i d words h other =
    let is = found p.tables seg i d h.at in
    ap (λ ts. table_of ts s) h.tables ∙ table_other p.tables seg s i (record (get_or p.tables i d) { words = words }) d h.at is.1 other

pub words_pages : (p new : PagerFields) (seg i : ℕ) (d : TableFields) (words : List ℕ) → HasWords p new seg i d words
    → (s q : ℕ) → has_page new s q ≡ has_page p s q
unfolding has_page
words_pages p new seg i d words h s q =
    elim (cases_eq s seg) [
      | inl same ↦
          ap (λ x. has_page_in (table_of new.tables x) q) same ∙ ap (λ t. has_page_in t q) (table_now p new seg i d words h)
          ∙ sym (ap (λ x. has_page_in (table_of p.tables x) q) same ∙ ap (λ t. has_page_in t q) (found p.tables seg i d h.at).2)
      | inr other ↦ ap (λ t. has_page_in t q) (table_still p new seg s i d words h other)
    ]

pub words_spots : (p new : PagerFields) (seg i : ℕ) (d : TableFields) (words : List ℕ) → HasWords p new seg i d words
    → (s q : ℕ) → spot_of new s q ≡ spot_of p s q
unfolding spot_of
words_spots p new seg i d words h s q =
    elim (cases_eq s seg) [
      | inl same ↦
          ap (λ x. spot_in (table_of new.tables x) q) same ∙ ap (λ t. spot_in t q) (table_now p new seg i d words h)
          ∙ sym (ap (λ x. spot_in (table_of p.tables x) q) same ∙ ap (λ t. spot_in t q) (found p.tables seg i d h.at).2)
      | inr other ↦ ap (λ t. spot_in t q) (table_still p new seg s i d words h other)
    ]

pub words_kept : (p new : PagerFields) (seg i : ℕ) (d : TableFields) (words : List ℕ) → HasWords p new seg i d words
    → (w : ℕ) → kept_word new seg w ≡ get_or words w 0
unfolding kept_word
words_kept p new seg i d words h w = ap (λ t. kept_in t w) (table_now p new seg i d words h)

pub words_were : (p : PagerFields) (seg i : ℕ) (d : TableFields) → position (is_table_of seg) p.tables ≡ Some i
    → (w : ℕ) → kept_word p seg w ≡ get_or (get_or p.tables i d).words w 0
unfolding kept_word
words_were p seg i d at w = ap (λ t. kept_in t w) (found p.tables seg i d at).2

pub words_others : (p new : PagerFields) (seg i : ℕ) (d : TableFields) (words : List ℕ) → HasWords p new seg i d words
    → (s w : ℕ) → s ≢ seg → kept_word new s w ≡ kept_word p s w
unfolding kept_word
words_others p new seg i d words h s w other = ap (λ t. kept_in t w) (table_still p new seg s i d words h other)

-- each table still has the words of all its pages
pub words_whole : (p new : PagerFields) (seg i : ℕ) (d : TableFields) (words : List ℕ) → HasWords p new seg i d words
    → length words ≡ length (get_or p.tables i d).words
    → All (λ t. length t.words ≡ 1024 * t.pages) p.tables → All (λ t. length t.words ≡ 1024 * t.pages) new.tables
words_whole p new seg i d words h size all =
    let is = found p.tables seg i d h.at in
    let P : List TableFields → Type 0 = λ ts. All (λ t. length t.words ≡ 1024 * t.pages) ts in
    let was : length (get_or p.tables i d).words ≡ 1024 * (get_or p.tables i d).pages =
    All-get_or (λ (t : TableFields). length t.words ≡ 1024 * t.pages) p.tables i d is.0 all in
    subst P (sym h.tables)
    (All-set (λ (t : TableFields). length t.words ≡ 1024 * t.pages) p.tables i (record (get_or p.tables i d) { words = words }) (size ∙ was) all)

-- the table of a segment that has one has an index
pub placed : (tables : List TableFields) (seg : ℕ) → IsSome (table_of tables seg) → position (is_table_of seg) tables ≡ None → ⊥
unfolding table_of
placed tables seg some none =
    let is : option_and_then (slice_get tables) (position (is_table_of seg) tables) ≡ None = ap (λ o. option_and_then (slice_get tables) o) none in
    let lacks : is_some (option_and_then (slice_get tables) (position (is_table_of seg) tables)) ≡ false = ap is_some is in
    absurd (cc)
