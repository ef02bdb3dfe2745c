-- Tables that share no core word make a pager.
use Rattle.std.proofs.Common.{ℕ, zero, suc, ◌≡◌, ◌≢◌, ◌+◌, ◌-◌, ◌*◌, ◌<◌, ◌≤◌, ◌⊎◌, Bool, true, false, List, [], ◌∷◌, ◌++◌, length, get_or, take, drop, map, replicate, Option, Some, None, refl, sym, ap, subst, inl, inr, ⊎_elim, ◌∙◌, arith, length-append, length-drop}
use Rattle.std.specs.Prelude.{nat_le, ◌&&◌, ◌||◌, position, All}
use Rattle.std.specs.List.{list_all}
use Rattle.std.proofs.lemmas.Bool.{leb-true, ltb-true, and_parts, or_cases, cases_lt, cases_order}
use Rattle.std.proofs.lemmas.List.{at_drop_more, at_drop_all, length-replicate, get_or_past, get_or-replicate, get_or-map, length-map}
use Rattle.std.proofs.lemmas.List.Elements.{All-nil, All-cons}
use Rattle.std.proofs.Math.Seq.{take-length}
use Rattle.m36_page.specs.declared.table.PageTable.{PageTable}
use Rattle.m36_page.specs.Fields.{TableFields, PagerFields}
use Rattle.m36_page.specs.Residence.{is_table_of, table_of, has_page_in, spot_in, has_page, spot_of, Holds, IsPager, HasPtwPlaces}
use Rattle.m36_page.specs.Given.{filled_table, initial_pager, fits_below, is_apart, are_placed}
use Rattle.m36_page.proofs.Tables.{found, placed}
use Rattle.m36_page.proofs.Built.{has_table}

-- ---- the loop

placed_law : (first : ℕ) (t : PageTable) (tables : List PageTable)
    → are_placed first (t ∷ tables) ≡ (fits_below first t && list_all (is_apart t) tables && are_placed first tables)
unfolding are_placed
placed_law first t tables = refl

placed_here : (first : ℕ) (tables : List PageTable) (i : ℕ) (t : PageTable) → i < length tables → t ≡ get_or tables i t
    → are_placed first (drop i tables) ≡ (fits_below first t && list_all (is_apart t) (drop (i + 1) tables) && are_placed first (drop (i + 1) tables))
placed_here first tables i t lt is =
    at_drop_more (are_placed first) tables i t lt
    ∙ ap (λ (x : PageTable). are_placed first (x ∷ drop (i + 1) tables)) (sym is)
    ∙ placed_law first t (drop (i + 1) tables)

-- the tables after index i
pub rest_of : (tables : List PageTable) (i : ℕ) → take (length tables - i) (drop i tables) ≡ drop i tables
rest_of tables i = ap (λ n. take n (drop i tables)) (sym (length-drop i tables)) ∙ take-length (drop i tables)

placed_step : (b : Bool) (first : ℕ) (tables behind : List PageTable) (i : ℕ) (t : PageTable) (total : Bool)
    → i < length tables → t ≡ get_or tables i t → behind ≡ drop (i + 1) tables → b ≡ (fits_below first t && list_all (is_apart t) behind)
    → are_placed first (drop i tables) ≡ total → (b && are_placed first (drop (i + 1) tables)) ≡ total
placed_step b first tables behind i t total lt is after test so_far =
    ap (λ x. x && are_placed first (drop (i + 1) tables)) (test ∙ ap (λ (ts : List PageTable). fits_below first t && list_all (is_apart t) ts) after)
    ∙ sym (placed_here first tables i t lt is) ∙ so_far

pub placed_stop : (b : Bool) (first : ℕ) (tables behind : List PageTable) (i : ℕ) (t : PageTable) (total : Bool)
    → i < length tables → t ≡ get_or tables i t → behind ≡ drop (i + 1) tables → b ≡ (fits_below first t && list_all (is_apart t) behind)
    → b ≡ false → are_placed first (drop i tables) ≡ total → false ≡ total
placed_stop b first tables behind i t total lt is after test fails so_far =
    ap (λ x. x && are_placed first (drop (i + 1) tables)) (sym fails) ∙ placed_step b first tables behind i t total lt is after test so_far

pub placed_more : (b : Bool) (first : ℕ) (tables behind : List PageTable) (i : ℕ) (t : PageTable) (total : Bool)
    → i < length tables → t ≡ get_or tables i t → behind ≡ drop (i + 1) tables → b ≡ (fits_below first t && list_all (is_apart t) behind)
    → b ≡ true → are_placed first (drop i tables) ≡ total → are_placed first (drop (i + 1) tables) ≡ total
placed_more b first tables behind i t total lt is after test holds so_far =
    ap (λ x. x && are_placed first (drop (i + 1) tables)) (sym holds) ∙ placed_step b first tables behind i t total lt is after test so_far

pub placed_done : (first : ℕ) (tables : List PageTable) (i : ℕ) (total : Bool) → length tables ≤ i
    → are_placed first (drop i tables) ≡ total → true ≡ total
unfolding are_placed
placed_done first tables i total le so_far = sym (at_drop_all (are_placed first) tables i le) ∙ so_far

-- ---- what holds for each table

first_two : (a b c : Bool) → (a && b && c) ≡ true → (a ≡ true) × (b ≡ true) × (c ≡ true)
first_two a b c e =
    let outer = and_parts (a && b) c e in
    let inner = and_parts a b outer.0 in
    (inner.0, inner.1, outer.1)

pub split : (first : ℕ) (t : PageTable) (tables : List PageTable) → are_placed first (t ∷ tables) ≡ true
    → (fits_below first t ≡ true) × (list_all (is_apart t) tables ≡ true) × (are_placed first tables ≡ true)
split first t tables e =
    first_two (fits_below first t) (list_all (is_apart t) tables) (are_placed first tables) (sym (placed_law first t tables) ∙ e)

each_fits : (first : ℕ) (tables : List PageTable) (i : ℕ) (d : PageTable) → are_placed first tables ≡ true → i < length tables
    → fits_below first (get_or tables i d) ≡ true
each_fits first [] i d e lt = absurd (omega arith)
each_fits first (t ∷ tables) zero d e lt = (split first t tables e).0
each_fits first (t ∷ tables) (suc i) d e lt = each_fits first tables i d (split first t tables e).2 (omega arith)

all_at : (p : PageTable → Bool) (tables : List PageTable) (i : ℕ) (d : PageTable) → list_all p tables ≡ true → i < length tables
    → p (get_or tables i d) ≡ true
all_at p [] i d e lt = absurd (omega arith)
all_at p (t ∷ tables) zero d e lt = (and_parts (p t) (list_all p tables) e).0
all_at p (t ∷ tables) (suc i) d e lt = all_at p tables i d (and_parts (p t) (list_all p tables) e).1 (omega arith)

each_apart : (first : ℕ) (tables : List PageTable) (i j : ℕ) (d : PageTable) → are_placed first tables ≡ true → i < j → j < length tables
    → is_apart (get_or tables i d) (get_or tables j d) ≡ true
each_apart first [] i j d e lt below = absurd (omega arith)
each_apart first (t ∷ tables) i zero d e lt below = absurd (omega arith)
each_apart first (t ∷ tables) zero (suc j) d e lt below = all_at (is_apart t) tables j d (split first t tables e).1 (omega arith)
each_apart first (t ∷ tables) (suc i) (suc j) d e lt below = each_apart first tables i j d (split first t tables e).2 (omega arith) (omega arith)

-- ---- the pager

none : PageTable
none = record { words = []; at = 0; seg = 0; pages = 0 }

-- a page of the pager, by its table
record IsPlaced (first frames : ℕ) (tables : List PageTable) (s q : ℕ) : Type 0 where
  i : ℕ
  inside : i < length tables
  seg : (get_or tables i none).seg ≡ s
  page : q < (get_or tables i none).pages
  spot : spot_of (initial_pager first frames tables) s q ≡ (get_or tables i none).at + q

pub position_some : (tables : List TableFields) (seg : ℕ) (o : Option ℕ) → position (is_table_of seg) tables ≡ o → (position (is_table_of seg) tables ≡ None → ⊥)
    → (i : ℕ) × (position (is_table_of seg) tables ≡ Some i)
position_some tables seg None e never = absurd (never e)
position_some tables seg (Some i) e never = (i, e)

placed_at : (first frames : ℕ) (tables : List PageTable) (s q : ℕ) → has_page (initial_pager first frames tables) s q ≡ true
    → IsPlaced first frames tables s q
unfolding has_page spot_of none
placed_at first frames tables s q has =
    let p : PagerFields = initial_pager first frames tables in
    let at = position_some (map filled_table tables) s (position (is_table_of s) (map filled_table tables)) refl
    (placed (map filled_table tables) s (has_table p s q has)) in
    let is = found (map filled_table tables) s at.0 (filled_table none) at.1 in
    let inside : at.0 < length tables = let n = length-map tables filled_table in omega (arith, n, is.0) in
    let here : get_or (map filled_table tables) at.0 (filled_table none) ≡ filled_table (get_or tables at.0 none) =
    get_or-map filled_table tables at.0 none (filled_table none) inside in
    let table : table_of (map filled_table tables) s ≡ Some (filled_table (get_or tables at.0 none)) = is.2 ∙ ap (λ x. Some x) here in
    record {
      i = at.0;
      inside = inside;
      seg = sym (ap (λ (x : TableFields). x.seg) here) ∙ is.1;
      page = ltb-true q (get_or tables at.0 none).pages (sym (ap (λ t. has_page_in t q) table) ∙ has);
      spot = ap (λ t. spot_in t q) table;
    }

pub below_end : (first : ℕ) (t : PageTable) → fits_below first t ≡ true → (t.at + t.pages ≤ 1024 * first) × (length t.words ≤ 1024 * t.pages)
below_end first t e =
    let both = and_parts (nat_le (t.at + t.pages) (1024 * first)) (nat_le (length t.words) (1024 * t.pages)) e in
    (leb-true (t.at + t.pages) (1024 * first) both.0, leb-true (length t.words) (1024 * t.pages) both.1)

apart_ends : (a b : PageTable) → is_apart a b ≡ true → (a.at + a.pages ≤ b.at) ⊎ (b.at + b.pages ≤ a.at)
apart_ends a b e =
    ⊎_elim (λ left. inl (leb-true (a.at + a.pages) b.at left)) (λ right. inr (leb-true (b.at + b.pages) a.at right))
    (or_cases (nat_le (a.at + a.pages) b.at) (nat_le (b.at + b.pages) a.at) e)

whole_words : (first : ℕ) (tables : List PageTable) → are_placed first tables ≡ true
    → All (λ (t : TableFields). length t.words ≡ 1024 * t.pages) (map filled_table tables)
whole_words first [] e = All-nil (λ (t : TableFields). length t.words ≡ 1024 * t.pages)
whole_words first (t ∷ tables) e =
    let parts = split first t tables e in
    let room = (below_end first t parts.0).1 in
    let size = length-append t.words (replicate (1024 * t.pages - length t.words) 0) in
    let nought : ℕ = 0 in
    let zeros = length-replicate (1024 * t.pages - length t.words) nought in
    All-cons (λ (t : TableFields). length t.words ≡ 1024 * t.pages) (filled_table t) (map filled_table tables)
    (omega (arith, room, size, zeros)) (whole_words first tables parts.2)

pub room_given : (first : ℕ) (tables : List PageTable) → are_placed first tables ≡ true → All (λ t. length t.words ≤ 1024 * t.pages) tables
room_given first [] e = All-nil (λ (t : PageTable). length t.words ≤ 1024 * t.pages)
room_given first (t ∷ tables) e =
    let parts = split first t tables e in
    All-cons (λ (t : PageTable). length t.words ≤ 1024 * t.pages) t tables (below_end first t parts.0).1 (room_given first tables parts.2)

pub never_held : (first frames : ℕ) (tables : List PageTable) (k s q : ℕ) → Holds (initial_pager first frames tables) k s q → ⊥
never_held first frames tables k s q h =
    elim (cases_lt k frames) [
      | inl inside ↦ let none = get_or-replicate frames k (let o : Option (ℕ × ℕ) = None in o) None inside in absurd (cc)
      | inr past ↦
          let size : length (replicate frames (let o : Option (ℕ × ℕ) = None in o)) ≡ frames = length-replicate frames None in
          let none = get_or_past (replicate frames (let o : Option (ℕ × ℕ) = None in o)) k None (omega (arith, past, size)) in
          absurd (cc)
    ]

-- tables with a common place are one table
one_place : (first frames : ℕ) (tables : List PageTable) (s q s' q' : ℕ) → are_placed first tables ≡ true
    → (a : IsPlaced first frames tables s q) (b : IsPlaced first frames tables s' q')
    → spot_of (initial_pager first frames tables) s q ≡ spot_of (initial_pager first frames tables) s' q'
    → a.i ≡ b.i
one_place first frames tables s q s' q' e a b same =
    let is = a.spot in
    let is' = b.spot in
    let page = a.page in
    let page' = b.page in
    elim (cases_order a.i b.i) [
      | inl equal ↦ equal
      | inr (inl less) ↦
          elim (apart_ends (get_or tables a.i none) (get_or tables b.i none) (each_apart first tables a.i b.i none e less b.inside)) [
            | inl left ↦ absurd (omega (arith, is, is', page, page', same, left))
            | inr right ↦ absurd (omega (arith, is, is', page, page', same, right))
          ]
      | inr (inr more) ↦
          elim (apart_ends (get_or tables b.i none) (get_or tables a.i none) (each_apart first tables b.i a.i none e more a.inside)) [
            | inl left ↦ absurd (omega (arith, is, is', page, page', same, left))
            | inr right ↦ absurd (omega (arith, is, is', page, page', same, right))
          ]
    ]

pub pager_placed : (first frames : ℕ) (tables : List PageTable) → are_placed first tables ≡ true → IsPager (initial_pager first frames tables)
pager_placed first frames tables e = record {
  words = whole_words first tables e;
  below = λ s q has.
      let a = placed_at first frames tables s q has in
      let end = (below_end first (get_or tables a.i none) (each_fits first tables a.i none e a.inside)).0 in
      let page = a.page in
      let spot = a.spot in
      omega (arith, end, page, spot);
  apart = λ s q s' q' has has' same.
      let a = placed_at first frames tables s q has in
      let b = placed_at first frames tables s' q' has' in
      let equal = one_place first frames tables s q s' q' e a b same in
      let segs : s ≡ s' = sym a.seg ∙ ap (λ n. (get_or tables n none).seg) equal ∙ b.seg in
      let ats : (get_or tables a.i none).at ≡ (get_or tables b.i none).at = ap (λ n. (get_or tables n none).at) equal in
      let spot = a.spot in
      let spot' = b.spot in
      (segs, omega (arith, ats, spot, spot', same));
  held = λ k s q h. absurd (never_held first frames tables k s q h);
}

pub inside_given : (first frames : ℕ) (tables : List PageTable) → are_placed first tables ≡ true
    → HasPtwPlaces (initial_pager first frames tables) (replicate frames 0)
inside_given first frames tables e = record {
  pager = pager_placed first frames tables e;
  count = length-replicate frames 0 ∙ sym (length-replicate frames None);
  spots = λ k s q h. absurd (never_held first frames tables k s q h);
}

pub inside_made : (first frames : ℕ) (given : List PageTable) (holders : List (Option (ℕ × ℕ))) (spots : List ℕ) (tables : List TableFields)
    → are_placed first given ≡ true → holders ≡ replicate frames None → spots ≡ replicate frames 0 → tables ≡ map filled_table given
    → HasPtwPlaces (record { first = first; holders = holders; tables = tables }) spots
inside_made first frames given holders spots tables e h s t =
    let P : List (Option (ℕ × ℕ)) → Type 0 = λ x. HasPtwPlaces (record { first = first; holders = x; tables = tables }) spots in
    let Q : List ℕ → Type 0 = λ x. HasPtwPlaces (record { first = first; holders = replicate frames None; tables = tables }) x in
    let R : List TableFields → Type 0 = λ x. HasPtwPlaces (record { first = first; holders = replicate frames None; tables = x }) (replicate frames 0) in
    subst P (sym h) (subst Q (sym s) (subst R (sym t) (inside_given first frames given e)))
