-- The content of each segment, and the whole image.
use Rattle.std.proofs.Common.{ℕ, zero, suc, ◌≡◌, ◌+◌, ◌-◌, ◌*◌, ◌/◌, ◌<◌, ◌≤◌, Bool, true, false, cond, List, [], ◌∷◌, ◌++◌, length, get_or, map, replicate, Option, Some, None, refl, sym, ap, subst, inl, inr, ◌∙◌, arith, eq-eqb}
use Rattle.std.specs.Prelude.{slice_get, nat_eq, nat_lt, not, position, option_map, option_and_then}
use Rattle.std.specs.List.{position_or_len}
use Rattle.std.proofs.lemmas.Bool.{lt-ltb, ltb-true, cases_lt, eqb-true}
use Rattle.std.proofs.lemmas.List.{length-replicate, get_or_past, get_or_append_left, get_or-append_right}
use Rattle.std.proofs.lemmas.List.Quantifiers.{position-Some}
use Rattle.std.proofs.lemmas.Option.{slice_get-map, slice_get-get_or}
use Rattle.m36_desc.specs.Fields.{SdwFields}
use Rattle.m36_model.specs.BootedCore.{wired_frames, absent_ptw}
use Rattle.m36_model.specs.Residence.{flat_of}
use Rattle.m36_model.specs.Registers.{RegsFields}
use Rattle.m36_dir.specs.Catalog.{CatalogFields}
use Rattle.m36_page.specs.declared.table.PageTable.{PageTable}
use Rattle.m36_page.specs.Fields.{TableFields, PagerFields}
use Rattle.m36_page.specs.Changes.{AreAbsent}
use Rattle.m36_page.specs.Given.{filled_table, initial_pager}
use Rattle.std.specs.Bool.{then_some}
use Rattle.m36_page.specs.Residence.{is_table_of, table_of, has_page_in, spot_in, kept_in, has_page, spot_of, kept_word, frame_in, frame_of, word_in, page_word, content_of, HasFrames}
use Rattle.m36_link.specs.Fields.{NewSectionFields, SnapFields}
use Rattle.m36_boot.specs.Segments.{booted_sdw, booted_words}
use Rattle.m36_boot.specs.Start.{start_regs}
use Rattle.m36_model.specs.Place.{page_count}
use Rattle.m36_boot.specs.Image.{booted_tables, booted_content, booted_flat, AreDescribed, IsImage}
use Rattle.m36_boot.specs.Image.{content_by as booted_by}
use Rattle.m36_boot.proofs.Sizes.{AreFiles}
use Rattle.m36_boot.proofs.ImageTables.{page_table, has_table, table_is}
use Rattle.m36_boot.proofs.LaidCore.{given_from, some_same, IsMade, zeros_at, absent_at, word_here, size_of}

-- ---- the table of a segment

place_by : (b : Bool) (n m : ℕ) → n < m → cond (not b) (1 + n) 0 < suc m
place_by true n m lt = omega arith
place_by false n m lt = omega (arith, lt)

first_by : (b : Bool) (n m : ℕ) → b ≡ true → cond (not b) (1 + n) 0 < suc m
first_by true n m e = omega arith
first_by false n m e = absurd (cc)

equal_of : (t u : TableFields) → Some u ≡ Some t → u ≡ t
equal_of t u e = cc

in_list : (tables : List TableFields) (seg j : ℕ) (t : TableFields) → slice_get tables j ≡ Some t → is_table_of seg t ≡ true
    → position_or_len (is_table_of seg) tables < length tables
in_list [] seg j t at is = absurd (cc)
in_list (u ∷ tables) seg zero t at is =
    first_by (is_table_of seg u) (position_or_len (is_table_of seg) tables) (length tables) (ap (is_table_of seg) (equal_of t u at) ∙ is)
in_list (u ∷ tables) seg (suc j) t at is =
    place_by (is_table_of seg u) (position_or_len (is_table_of seg) tables) (length tables) (in_list tables seg j t at is)

eq_self : (n : ℕ) → nat_eq n n ≡ true
eq_self n = eq-eqb n n refl

no_table : TableFields
no_table = record { seg = 0; at = 0; pages = 0; words = [] }

-- the table that is found has the segment's number
found_seg : (catalog : CatalogFields) (files : List (List ℕ)) (lay : Option NewSectionFields) (seg i : ℕ)
    → position (is_table_of seg) (map filled_table (booted_tables catalog files lay)) ≡ Some i
    → (d : SdwFields) × (booted_sdw catalog files seg ≡ Some d)
    × (slice_get (map filled_table (booted_tables catalog files lay)) i ≡ Some (filled_table (page_table catalog files lay seg d)))
found_seg catalog files lay seg i e =
    let tables = map filled_table (booted_tables catalog files lay) in
    let is = position-Some (is_table_of seg) tables i no_table e in
    let at : slice_get tables i ≡ Some (get_or tables i no_table) = slice_get-get_or tables i no_table is.0 in
    let u = given_from (slice_get (booted_tables catalog files lay) i) (get_or tables i no_table) (sym (slice_get-map filled_table (booted_tables catalog files lay) i) ∙ at) in
    let of = table_is catalog files lay i u.0 u.1 in
    let number : of.seg ≡ seg =
    sym (ap (λ (t : PageTable). t.seg) of.is) ∙ ap (λ (t : TableFields). t.seg) u.2 ∙ eqb-true (get_or tables i no_table).seg seg is.1 in
    let P : ℕ → Type 0 = λ k. (booted_sdw catalog files k ≡ Some of.sdw) × (slice_get tables i ≡ Some (filled_table (page_table catalog files lay k of.sdw))) in
    let all = subst P number (of.has, at ∙ ap (λ t. Some t) (sym u.2 ∙ ap (λ (t : PageTable). filled_table t) of.is)) in
    (of.sdw, all.0, all.1)

-- given the index of the table
table_by : (catalog : CatalogFields) (files : List (List ℕ)) (lay : Option NewSectionFields) (seg : ℕ) (d : SdwFields) (o : Option ℕ)
    → position (is_table_of seg) (map filled_table (booted_tables catalog files lay)) ≡ o → (o ≡ None → ⊥) → booted_sdw catalog files seg ≡ Some d
    → option_and_then (slice_get (map filled_table (booted_tables catalog files lay))) o ≡ Some (filled_table (page_table catalog files lay seg d))
table_by catalog files lay seg d None e some has = absurd (some refl)
table_by catalog files lay seg d (Some i) e some has =
    let is = found_seg catalog files lay seg i e in
    let same : is.0 ≡ d = some_same is.0 d (booted_sdw catalog files seg) is.1 has in
    is.2 ∙ ap (λ (s : SdwFields). Some (filled_table (page_table catalog files lay seg s))) same

some_place : (b : Bool) (i : ℕ) → b ≡ true → cond b (Some i) None ≡ None → ⊥
some_place true i e f = absurd (cc)
some_place false i e f = absurd (cc)

pub table_live : (catalog : CatalogFields) (files : List (List ℕ)) (lay : Option NewSectionFields) (seg : ℕ) (d : SdwFields) → AreFiles catalog files
    → booted_sdw catalog files seg ≡ Some d
    → table_of (map filled_table (booted_tables catalog files lay)) seg ≡ Some (filled_table (page_table catalog files lay seg d))
unfolding table_of
table_live catalog files lay seg d are has =
    let tables = map filled_table (booted_tables catalog files lay) in
    let there = has_table catalog files lay seg d are has in
    let at : slice_get tables there.0 ≡ Some (filled_table (page_table catalog files lay seg d)) =
    slice_get-map filled_table (booted_tables catalog files lay) there.0 ∙ ap (λ o. option_map filled_table o) there.1 in
    let inside = in_list tables seg there.0 (filled_table (page_table catalog files lay seg d)) at (eq_self seg) in
    table_by catalog files lay seg d (position (is_table_of seg) tables) refl
    (some_place (nat_lt (position_or_len (is_table_of seg) tables) (length tables)) (position_or_len (is_table_of seg) tables)
    (lt-ltb (position_or_len (is_table_of seg) tables) (length tables) inside)) has

dead_by : (catalog : CatalogFields) (files : List (List ℕ)) (lay : Option NewSectionFields) (seg : ℕ) (o : Option ℕ)
    → position (is_table_of seg) (map filled_table (booted_tables catalog files lay)) ≡ o → booted_sdw catalog files seg ≡ None
    → option_and_then (slice_get (map filled_table (booted_tables catalog files lay))) o ≡ None
dead_by catalog files lay seg None e none = refl
dead_by catalog files lay seg (Some i) e none =
    let is = found_seg catalog files lay seg i e in
    never_both is.0 (booted_sdw catalog files seg) none is.1
  where
    never_both : {P : Type 0} (d : SdwFields) (o : Option SdwFields) → o ≡ None → o ≡ Some d → P
    never_both d o f g = absurd (cc)

pub table_dead : (catalog : CatalogFields) (files : List (List ℕ)) (lay : Option NewSectionFields) (seg : ℕ) → booted_sdw catalog files seg ≡ None
    → table_of (map filled_table (booted_tables catalog files lay)) seg ≡ None
unfolding table_of
table_dead catalog files lay seg none =
    dead_by catalog files lay seg (position (is_table_of seg) (map filled_table (booted_tables catalog files lay))) refl none

-- ---- content

-- words with zeros after them
pub filled_at : (words : List ℕ) (n w z : ℕ) → get_or (words ++ replicate n z) w z ≡ get_or words w z
filled_at words n w z =
    elim (cases_lt w (length words)) [
      | inl inside ↦ get_or_append_left words (replicate n z) z w inside
      | inr past ↦
          get_or-append_right words (replicate n z) (length words) w z refl past
          ∙ zeros_at n (w - length words) z ∙ sym (get_or_past words w z past)
    ]

absent_frame : frame_in absent_ptw ≡ None
unfolding frame_in
absent_frame = refl

-- the content of a word, given the table of its segment
content_in : (p : PagerFields) (core : List ℕ) (seg w : ℕ) (t : TableFields) → table_of p.tables seg ≡ Some t
    → (w / 1024 < t.pages → get_or core (t.at + w / 1024) 0 ≡ absent_ptw)
    → content_of p core seg w ≡ cond (nat_lt (w / 1024) t.pages) (Some (get_or t.words w 0)) None
unfolding content_of has_page page_word frame_of spot_of kept_word
content_in p core seg w t at out =
    ap (λ o. then_some (has_page_in o (w / 1024)) (word_in (frame_in (get_or core (spot_in o (w / 1024)) 0)) core w (kept_in o w))) at
    ∙ decided (nat_lt (w / 1024) t.pages) (λ e. ap frame_in (out (ltb-true (w / 1024) t.pages e)) ∙ absent_frame)
  where
    decided : (b : Bool) → (b ≡ true → frame_in (get_or core (t.at + w / 1024) 0) ≡ None)
        → then_some b (word_in (frame_in (get_or core (t.at + w / 1024) 0)) core w (get_or t.words w 0)) ≡ cond b (Some (get_or t.words w 0)) None
    decided true away = ap (λ o. Some (word_in o core w (get_or t.words w 0))) (away refl)
    decided false away = refl

content_none : (p : PagerFields) (core : List ℕ) (seg w : ℕ) → table_of p.tables seg ≡ None → content_of p core seg w ≡ None
unfolding content_of has_page
content_none p core seg w at = ap (λ o. then_some (has_page_in o (w / 1024)) (page_word p core seg w)) at

content_from : (catalog : CatalogFields) (files : List (List ℕ)) (lay : Option NewSectionFields) (n seg w : ℕ) (core : List ℕ) (o : Option SdwFields) → AreFiles catalog files
    → IsMade catalog files lay n core → booted_sdw catalog files seg ≡ o
    → content_of (initial_pager wired_frames catalog.frames (booted_tables catalog files lay)) core seg w
    ≡ booted_by o (booted_words files lay seg) w
content_from catalog files lay n seg w core None are made e =
    content_none (initial_pager wired_frames catalog.frames (booted_tables catalog files lay)) core seg w (table_dead catalog files lay seg e)
content_from catalog files lay n seg w core (Some d) are made e =
    content_in (initial_pager wired_frames catalog.frames (booted_tables catalog files lay)) core seg w (filled_table (page_table catalog files lay seg d))
    (table_live catalog files lay seg d are e) (λ inside. absent_at catalog files lay n seg (w / 1024) core d are made e inside)
    ∙ ap (λ v. cond (nat_lt (w / 1024) (page_count d)) (Some v) None)
    (filled_at (booted_words files lay seg) (1024 * page_count d - length (booted_words files lay seg)) w 0)

content_at : (catalog : CatalogFields) (files : List (List ℕ)) (lay : Option NewSectionFields) (n seg w : ℕ) (core : List ℕ) → AreFiles catalog files
    → IsMade catalog files lay n core
    → content_of (initial_pager wired_frames catalog.frames (booted_tables catalog files lay)) core seg w ≡ booted_content catalog files lay seg w
unfolding booted_content
content_at catalog files lay n seg w core are made = content_from catalog files lay n seg w core (booted_sdw catalog files seg) are made refl

-- ---- the image

pub image_made : (catalog : CatalogFields) (files : List (List ℕ)) (s : SnapFields) (core : List ℕ) (pager : PagerFields) (regs : RegsFields) (snap : SnapFields)
    → AreFiles catalog files → length catalog.segments ≤ 512 → IsMade catalog files s.lay (1024 * (wired_frames + catalog.frames)) core
    → pager ≡ initial_pager wired_frames catalog.frames (booted_tables catalog files s.lay)
    → flat_of (record { core = core; kept = kept_word pager }) ≡ booted_flat catalog files s → regs ≡ start_regs catalog.start.ring s
    → IsImage catalog files s (record { core = core; pager = pager; regs = regs; snap = snap })
image_made catalog files s core pager regs snap are few made given flat at = record {
  size = size_of catalog files s.lay (1024 * (wired_frames + catalog.frames)) core made;
  core = λ a. word_here catalog files s.lay (1024 * (wired_frames + catalog.frames)) a core are made few;
  pager = given;
  content = λ seg w.
      ap (λ (x : PagerFields). content_of x core seg w) given
      ∙ content_at catalog files s.lay (1024 * (wired_frames + catalog.frames)) seg w core are made;
  flat = flat;
  regs = at;
}

-- the pager and the core, from the contracts of the calls that make them
pub given_from_calls : (catalog : CatalogFields) (files : List (List ℕ)) (s : SnapFields) (tables : List PageTable) (frames : ℕ) (pager : PagerFields)
    → tables ≡ booted_tables catalog files s.lay → frames ≡ catalog.frames → pager ≡ initial_pager wired_frames frames tables
    → pager ≡ initial_pager wired_frames catalog.frames (booted_tables catalog files s.lay)
given_from_calls catalog files s tables frames pager made count given =
    given ∙ ap (λ n. initial_pager wired_frames n tables) count ∙ ap (λ (ts : List PageTable). initial_pager wired_frames catalog.frames ts) made

pub made_from : (catalog : CatalogFields) (files : List (List ℕ)) (s : SnapFields) (frames : ℕ) (pager : PagerFields) (fresh mid core : List ℕ)
    → frames ≡ catalog.frames → pager ≡ initial_pager wired_frames catalog.frames (booted_tables catalog files s.lay)
    → fresh ≡ replicate (1024 * (wired_frames + frames)) 0 → AreDescribed catalog files (64 + length catalog.segments) fresh mid
    → AreAbsent pager.tables (length pager.tables) mid core → IsMade catalog files s.lay (1024 * (wired_frames + catalog.frames)) core
made_from catalog files s frames pager fresh mid core count given zeros described absent =
    let zeros' : fresh ≡ replicate (1024 * (wired_frames + catalog.frames)) 0 = zeros ∙ ap (λ n. replicate (1024 * (wired_frames + n)) 0) count in
    let D : List ℕ → Type 0 = λ x. AreDescribed catalog files (64 + length catalog.segments) x mid in
    let A : List TableFields → Type 0 = λ x. AreAbsent x (length x) mid core in
    record {
      mid = mid;
      described = subst D zeros' described;
      absent = subst A (ap (λ (x : PagerFields). x.tables) given) absent;
    }

pub frames_in : (catalog : CatalogFields) (files : List (List ℕ)) (s : SnapFields) (pager : PagerFields) (core : List ℕ) (regs : RegsFields) (snap : SnapFields)
    → IsImage catalog files s (record { core = core; pager = pager; regs = regs; snap = snap }) → HasFrames pager core
frames_in catalog files s pager core regs snap is =
    let first : pager.first ≡ wired_frames = ap (λ (x : PagerFields). x.first) is.pager in
    let holders : length pager.holders ≡ catalog.frames =
    ap (λ (x : PagerFields). length x.holders) is.pager ∙ length-replicate catalog.frames (let o : Option (ℕ × ℕ) = None in o) in
    let size = is.size in
    omega (arith, first, holders, size)
