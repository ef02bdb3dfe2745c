-- Which segments an image has, and how long they are.
use Rattle.std.proofs.Common.{ℕ, ◌≡◌, ◌+◌, ◌-◌, ◌*◌, ◌/◌, ◌^◌, ◌<◌, ◌≤◌, ◌⊎◌, Bool, true, false, cond, List, [], ◌∷◌, ◌++◌, length, replicate, Option, Some, None, refl, ap, subst, inl, inr, ◌∙◌, arith, length-append}
use Rattle.std.specs.Prelude.{slice_get, nat_eq, nat_lt, All}
use Rattle.std.proofs.lemmas.Bool.{ltb-true, ltb-false, cases_lt}
use Rattle.std.proofs.lemmas.List.{length-replicate, get_or_past}
use Rattle.std.proofs.lemmas.List.Elements.{All-get_or}
use Rattle.std.proofs.lemmas.Option.{slice_get_within}
use Rattle.m36_desc.specs.Fields.{SdwFields}
use Rattle.m36_desc.specs.Descriptors.{ptr_even, ptr_odd}
use Rattle.m36_model.specs.Pointers.{pointer}
use Rattle.m36_model.specs.BootedCore.{table_at}
use Rattle.m36_dir.specs.Fields.{SegmentFields}
use Rattle.m36_dir.specs.Catalog.{CatalogFields}
use Rattle.m36_link.specs.Fields.{NewSectionFields}
use Rattle.m36_link.specs.Known.{linkage_segment, lot_words, lot_word}
use Rattle.m36_boot.specs.Segments.{file_at, ring_descriptor, catalog_descriptor_at, catalog_descriptor, limit_of, last_block, booted_sdw, stack_pages, linkage_pages, stack_words, linkage_words, lot_of, booted_words}

-- No file is longer than a segment, and there are as many files as segments.
pub record AreFiles (catalog : CatalogFields) (files : List (List ℕ)) : Type 0 where
  pub count : length files ≡ length catalog.segments
  pub short : All (λ w. length w ≤ 2 ^ 18) files

-- a segment of the image: of a ring, or of the catalog
pub record IsLive (catalog : CatalogFields) (seg : ℕ) (d : SdwFields) : Type 0 where
  pub rings : 8 ≤ seg
  pub given : (seg < 24) ⊎ (64 ≤ seg)
  pub last : seg < 64 + length catalog.segments
  pub table : d.addr ≡ table_at seg
  pub bound : d.bound < 2 ^ 14
  pub paged : d.unpaged ≡ false
  pub on : d.f ≡ true

choice : {A : Type 0} (b : Bool) (x y : Option A) (d : A) → cond b x y ≡ Some d → ((b ≡ true) × (x ≡ Some d)) ⊎ ((b ≡ false) × (y ≡ Some d))
choice true x y d e = inl (refl, e)
choice false x y d e = inr (refl, e)

never : {A : Type 0} {P : Type 0} (d : A) → None ≡ Some d → P
never d e = absurd (cc)

the_same : (a b d : SdwFields) → a ≡ b → Some b ≡ Some d → a ≡ d
the_same a b d e f = cc

ring_live : (catalog : CatalogFields) (seg ring pages : ℕ) (d : SdwFields) → 8 ≤ seg → seg < 24 → pages ≤ 256 → Some (ring_descriptor seg ring pages) ≡ Some d
    → IsLive catalog seg d
ring_live catalog seg ring pages d low high few e =
    let is : ring_descriptor seg ring pages ≡ d = the_same _ _ d refl e in
    let P : SdwFields → Type 0 = λ x. IsLive catalog seg x in
    subst P is (record { rings = low; given = inl high; last = omega (arith, high); table = refl; bound = omega (arith, few); paged = refl; on = refl })

pub file_short : (catalog : CatalogFields) (files : List (List ℕ)) (i : ℕ) → AreFiles catalog files → length (file_at files i) ≤ 2 ^ 18
unfolding file_at
file_short catalog files i are =
    elim (cases_lt i (length files)) [
      | inl inside ↦ All-get_or (λ (w : List ℕ). length w ≤ 2 ^ 18) files i [] inside are.short
      | inr past ↦ let n = ap (λ (w : List ℕ). length w) (get_or_past files i [] past) in omega (arith, n)
    ]

given_live : (catalog : CatalogFields) (o : Option SegmentFields) (seg : ℕ) (words : List ℕ) (d : SdwFields) → slice_get catalog.segments (seg - 64) ≡ o
    → 64 ≤ seg → length words ≤ 2 ^ 18 → catalog_descriptor_at seg o words ≡ Some d → IsLive catalog seg d
given_live catalog None seg words d at low few e = never d e
given_live catalog (Some s) seg words d at low few e =
    let is : catalog_descriptor seg s words (limit_of s words) ≡ d = the_same _ _ d refl e in
    let inside = slice_get_within catalog.segments (seg - 64) s at in
    let P : SdwFields → Type 0 = λ x. IsLive catalog seg x in
    let bound : last_block words < 2 ^ 14 = omega (arith, few) in
    subst P is (record { rings = omega (arith, low); given = inr low; last = omega (arith, inside, low); table = refl; bound = bound; paged = refl; on = refl })

-- the descriptor of a segment, number by number
pub live : (catalog : CatalogFields) (files : List (List ℕ)) (seg : ℕ) (d : SdwFields) → AreFiles catalog files → booted_sdw catalog files seg ≡ Some d
    → IsLive catalog seg d
unfolding booted_sdw
live catalog files seg d are e =
    elim (choice (nat_lt seg 8) _ _ d e) [
      | inl low ↦ never d low.1
      | inr stacks ↦
          let above = ltb-false seg 8 stacks.0 in
          elim (choice (nat_lt seg 16) _ _ d stacks.1) [
            | inl here ↦ let under = ltb-true seg 16 here.0 in ring_live catalog seg (seg - 8) stack_pages d above (omega (arith, under)) (omega arith) here.1
            | inr linkages ↦
                elim (choice (nat_lt seg 24) _ _ d linkages.1) [
                  | inl here ↦ ring_live catalog seg (seg - 16) linkage_pages d above (ltb-true seg 24 here.0) (omega arith) here.1
                  | inr rest ↦
                      elim (choice (nat_lt seg 64) _ _ d rest.1) [
                        | inl gap ↦ never d gap.1
                        | inr catalogued ↦
                            given_live catalog (slice_get catalog.segments (seg - 64)) seg (file_at files (seg - 64)) d refl (ltb-false seg 64 catalogued.0)
                            (file_short catalog files (seg - 64) are) catalogued.1
                      ]
                ]
          ]
    ]

-- ---- a segment's words fit its pages

-- a linkage section fits a linkage segment, after the LOT
pub record IsFitting (l : NewSectionFields) : Type 0 where
  pub seg : l.seg < 576
  pub words : 1024 + length l.words ≤ 2 ^ 18

abbrev pub IsFirst : Option NewSectionFields → Type 0
IsFirst None = Unit {0}
IsFirst (Some l) = IsFitting l

stack_size : (ring : ℕ) → length (stack_words ring) ≡ 24
unfolding stack_words
stack_size ring =
    let nought : ℕ = 0 in
    let zeros = length-replicate 22 nought in
    let all = length-append (replicate 22 nought) (ptr_even (pointer (linkage_segment ring) ring 0) ∷ ptr_odd (pointer (linkage_segment ring) ring 0) ∷ []) in
    omega (arith, zeros, all)

pub lot_size : (l : NewSectionFields) → l.seg < 1024 → length (lot_of l) ≡ 1024
lot_size l lt =
    let nought : ℕ = 0 in
    let before = length-replicate l.seg nought in
    let behind = length-replicate (lot_words - 1 - l.seg) nought in
    let all = length-append (replicate l.seg nought) (lot_word l ∷ replicate (lot_words - 1 - l.seg) nought) in
    omega (arith, before, behind, all, lt)

linkage_if : (b : Bool) (words : List ℕ) → length words ≤ 2 ^ 18 → length (cond b words []) ≤ 2 ^ 18
linkage_if true words le = le
linkage_if false words le = omega arith

linkage_size : (ring : ℕ) (lay : Option NewSectionFields) → IsFirst lay → length (linkage_words lay ring) ≤ 2 ^ 18
unfolding linkage_words
linkage_size ring None is = omega arith
linkage_size ring (Some l) is =
    let lot = lot_size l (let t = is.seg in omega (arith, t)) in
    let all = length-append (lot_of l) l.words in
    let section = is.words in
    linkage_if (nat_eq ring l.ring) (lot_of l ++ l.words) (omega (arith, lot, all, section))

-- the blocks in a segment's descriptor cover the words that are given for it
fits_by : (words given : List ℕ) (d x : SdwFields) → words ≡ given → x ≡ d → length given ≤ 16 * (x.bound + 1)
    → length words ≤ 16 * (d.bound + 1)
fits_by words given d x same is le =
    let P : SdwFields → Type 0 = λ s. length words ≤ 16 * (s.bound + 1) in
    let n = ap (λ (w : List ℕ). length w) same in
    subst P is (omega (arith, n, le))

chosen_true : {A : Type 0} (b : Bool) (x y : A) → b ≡ true → cond b x y ≡ x
chosen_true true x y e = refl
chosen_true false x y e = absurd (cc)

chosen_false : {A : Type 0} (b : Bool) (x y : A) → b ≡ false → cond b x y ≡ y
chosen_false true x y e = absurd (cc)
chosen_false false x y e = refl

pub stack_here : (files : List (List ℕ)) (lay : Option NewSectionFields) (seg : ℕ) → nat_lt seg 8 ≡ false → nat_lt seg 16 ≡ true
    → booted_words files lay seg ≡ stack_words (seg - 8)
unfolding booted_words
stack_here files lay seg d e = chosen_false (nat_lt seg 8) _ _ d ∙ chosen_true (nat_lt seg 16) _ _ e

pub linkage_here : (files : List (List ℕ)) (lay : Option NewSectionFields) (seg : ℕ) → nat_lt seg 8 ≡ false → nat_lt seg 16 ≡ false → nat_lt seg 24 ≡ true
    → booted_words files lay seg ≡ linkage_words lay (seg - 16)
unfolding booted_words
linkage_here files lay seg d e f =
    chosen_false (nat_lt seg 8) _ _ d ∙ chosen_false (nat_lt seg 16) _ _ e ∙ chosen_true (nat_lt seg 24) _ _ f

pub file_here : (files : List (List ℕ)) (lay : Option NewSectionFields) (seg : ℕ) → nat_lt seg 8 ≡ false → nat_lt seg 16 ≡ false → nat_lt seg 24 ≡ false
    → nat_lt seg 64 ≡ false → booted_words files lay seg ≡ file_at files (seg - 64)
unfolding booted_words
file_here files lay seg d e f g =
    chosen_false (nat_lt seg 8) _ _ d ∙ chosen_false (nat_lt seg 16) _ _ e ∙ chosen_false (nat_lt seg 24) _ _ f
    ∙ chosen_false (nat_lt seg 64) _ _ g

given_fit : (words : List ℕ) (o : Option SegmentFields) (seg : ℕ) (file : List ℕ) (d : SdwFields) → words ≡ file
    → catalog_descriptor_at seg o file ≡ Some d → length words ≤ 16 * (d.bound + 1)
given_fit words None seg file d same e = never d e
given_fit words (Some s) seg file d same e =
    let room : length file ≤ 16 * (last_block file + 1) = omega arith in
    fits_by words file d (catalog_descriptor seg s file (limit_of s file)) same (the_same _ _ d refl e) room

pub blocks_fit : (catalog : CatalogFields) (files : List (List ℕ)) (lay : Option NewSectionFields) (seg : ℕ) (d : SdwFields) → IsFirst lay
    → booted_sdw catalog files seg ≡ Some d → length (booted_words files lay seg) ≤ 16 * (d.bound + 1)
unfolding booted_sdw
blocks_fit catalog files lay seg d is e =
    elim (choice (nat_lt seg 8) _ _ d e) [
      | inl low ↦ never d low.1
      | inr stacks ↦
          elim (choice (nat_lt seg 16) _ _ d stacks.1) [
            | inl here ↦
                let size = stack_size (seg - 8) in
                fits_by (booted_words files lay seg) (stack_words (seg - 8)) d (ring_descriptor seg (seg - 8) stack_pages)
                (stack_here files lay seg stacks.0 here.0) (the_same _ _ d refl here.1) (omega (arith, size))
            | inr linkages ↦
                elim (choice (nat_lt seg 24) _ _ d linkages.1) [
                  | inl here ↦
                      let size = linkage_size (seg - 16) lay is in
                      fits_by (booted_words files lay seg) (linkage_words lay (seg - 16)) d (ring_descriptor seg (seg - 16) linkage_pages)
                      (linkage_here files lay seg stacks.0 linkages.0 here.0) (the_same _ _ d refl here.1) (omega (arith, size))
                  | inr rest ↦
                      elim (choice (nat_lt seg 64) _ _ d rest.1) [
                        | inl gap ↦ never d gap.1
                        | inr catalogued ↦
                            given_fit (booted_words files lay seg) (slice_get catalog.segments (seg - 64)) seg (file_at files (seg - 64)) d
                            (file_here files lay seg stacks.0 linkages.0 rest.0 catalogued.0) catalogued.1
                      ]
                ]
          ]
    ]

pub pages_fit : (catalog : CatalogFields) (files : List (List ℕ)) (lay : Option NewSectionFields) (seg : ℕ) (d : SdwFields) → IsFirst lay
    → booted_sdw catalog files seg ≡ Some d → length (booted_words files lay seg) ≤ 1024 * (d.bound / 64 + 1)
pages_fit catalog files lay seg d is e = let blocks = blocks_fit catalog files lay seg d is e in omega (arith, blocks)
