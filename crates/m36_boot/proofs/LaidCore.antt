-- Core, word by word.
use Rattle.std.proofs.Common.{ℕ, ◌≡◌, ◌≢◌, ◌+◌, ◌-◌, ◌*◌, ◌/◌, ◌%◌, ◌<◌, ◌≤◌, Bool, true, false, cond, List, length, get_or, set, map, replicate, Option, Some, None, refl, sym, ap, subst, inl, inr, ◌∙◌, arith}
use Rattle.std.specs.Prelude.{slice_get, nat_lt, option_map, IfSome}
use Rattle.std.proofs.lemmas.Bool.{lt-ltb, le-ltb, ltb-true, ltb-false, cases_lt, cases_eq}
use Rattle.std.proofs.lemmas.List.{length-replicate, get_or-replicate, get_or_past, get_or-set_same, get_or-set_other, length-set}
use Rattle.std.proofs.lemmas.Option.{slice_get-map, slice_get_within}
use Rattle.m36_desc.specs.Fields.{SdwFields}
use Rattle.m36_desc.specs.Access.{has_ordered_brackets}
use Rattle.m36_desc.specs.Descriptors.{sdw_of, sdw_even, sdw_odd}
use Rattle.m36_model.specs.BootedCore.{table_at, wired_frames, descriptor_words, absent_ptw}
use Rattle.m36_dir.specs.Catalog.{CatalogFields}
use Rattle.m36_page.specs.declared.table.PageTable.{PageTable}
use Rattle.m36_page.specs.Fields.{TableFields}
use Rattle.m36_page.specs.Changes.{IsTableWord, AreAbsent}
use Rattle.m36_page.specs.Given.{filled_table}
use Rattle.m36_link.specs.Fields.{NewSectionFields}
use Rattle.m36_boot.specs.Segments.{booted_sdw}
use Rattle.m36_model.specs.Place.{page_count}
use Rattle.m36_boot.specs.Image.{descriptor_word, page_table_word, booted_word, booted_tables, IsWellFormed, AreDescribed}
use Rattle.m36_boot.proofs.Sizes.{AreFiles, live}
use Rattle.m36_boot.proofs.ImageTables.{page_table, has_table, table_is}

-- ---- descriptors

-- the words after two words were written
pair_even : (core : List ℕ) (s e o : ℕ) → 2 * s + 1 < length core → get_or (set (set core (2 * s) e) (2 * s + 1) o) (2 * s) 0 ≡ e
pair_even core s e o lt =
    let n = length-set core (2 * s) e in
    get_or-set_other (set core (2 * s) e) (2 * s + 1) (2 * s) o 0 (omega arith) ∙ get_or-set_same core (2 * s) e 0 (omega (arith, lt))

pair_odd : (core : List ℕ) (s e o : ℕ) → 2 * s + 1 < length core → get_or (set (set core (2 * s) e) (2 * s + 1) o) (2 * s + 1) 0 ≡ o
pair_odd core s e o lt =
    let n = length-set core (2 * s) e in
    get_or-set_same (set core (2 * s) e) (2 * s + 1) o 0 (omega (arith, lt, n))

pair_other : (core : List ℕ) (s e o a : ℕ) → a ≢ 2 * s → a ≢ 2 * s + 1 → get_or (set (set core (2 * s) e) (2 * s + 1) o) a 0 ≡ get_or core a 0
pair_other core s e o a first second =
    get_or-set_other (set core (2 * s) e) (2 * s + 1) a o 0 second ∙ get_or-set_other core (2 * s) a e 0 first

-- a word of a segment's descriptor
pub even_of : (catalog : CatalogFields) (files : List (List ℕ)) (s : ℕ) → descriptor_word ((2 * s) % 2) (booted_sdw catalog files ((2 * s) / 2)) ≡ descriptor_word 0 (booted_sdw catalog files s)
even_of catalog files s =
    let half : (2 * s) % 2 ≡ 0 = omega arith in
    let seg : (2 * s) / 2 ≡ s = omega arith in
    ap (λ h. descriptor_word h (booted_sdw catalog files ((2 * s) / 2))) half ∙ ap (λ k. descriptor_word 0 (booted_sdw catalog files k)) seg

pub odd_of : (catalog : CatalogFields) (files : List (List ℕ)) (s : ℕ) → descriptor_word ((2 * s + 1) % 2) (booted_sdw catalog files ((2 * s + 1) / 2)) ≡ descriptor_word 1 (booted_sdw catalog files s)
odd_of catalog files s =
    let half : (2 * s + 1) % 2 ≡ 1 = omega arith in
    let seg : (2 * s + 1) / 2 ≡ s = omega arith in
    ap (λ h. descriptor_word h (booted_sdw catalog files ((2 * s + 1) / 2))) half ∙ ap (λ k. descriptor_word 1 (booted_sdw catalog files k)) seg

whole_by : (o : Option SdwFields) (d : SdwFields) → o ≡ Some d → IfSome o (λ x. has_ordered_brackets x ≡ true) → IfSome o (λ x. sdw_of (sdw_even x) (sdw_odd x) ≡ x)
    → IsWellFormed d
whole_by None d e ordered back = absurd (cc)
whole_by (Some c) d e ordered back =
    let P : SdwFields → Type 0 = λ x. IsWellFormed x in
    subst P (let same : c ≡ d = cc in same) (record { back = back; ordered = ordered })

pub described_more : (catalog : CatalogFields) (files : List (List ℕ)) (s e o : ℕ) (old mid new : List ℕ) (d : Option SdwFields) → 2 * s + 1 < length mid
    → AreDescribed catalog files s old mid → d ≡ booted_sdw catalog files s → e ≡ descriptor_word 0 d → o ≡ descriptor_word 1 d
    → IfSome d (λ x. has_ordered_brackets x ≡ true) → IfSome d (λ x. sdw_of (sdw_even x) (sdw_odd x) ≡ x)
    → new ≡ set (set mid (2 * s) e) (2 * s + 1) o → AreDescribed catalog files (s + 1) old new
described_more catalog files s e o old mid new d inside so_far is even odd ordered back put =
    let P : List ℕ → Type 0 = λ x. AreDescribed catalog files (s + 1) old x in
    let W : ℕ → Type 0 = λ a. get_or (set (set mid (2 * s) e) (2 * s + 1) o) a 0 ≡ descriptor_word (a % 2) (booted_sdw catalog files (a / 2)) in
    subst P (sym put) (record {
      size = length-set (set mid (2 * s) e) (2 * s + 1) o ∙ length-set mid (2 * s) e ∙ so_far.size;
      written = λ a lt.
          elim (cases_eq a (2 * s)) [
            | inl first ↦
                subst W (sym first) (pair_even mid s e o inside ∙ even ∙ ap (λ x. descriptor_word 0 x) is ∙ sym (even_of catalog files s))
            | inr after ↦
                elim (cases_eq a (2 * s + 1)) [
                  | inl second ↦
                      subst W (sym second) (pair_odd mid s e o inside ∙ odd ∙ ap (λ x. descriptor_word 1 x) is ∙ sym (odd_of catalog files s))
                  | inr before ↦
                      pair_other mid s e o a after before ∙ so_far.written a (omega (arith, lt, after, before))
                ]
          ];
      others = λ a le. pair_other mid s e o a (omega (arith, le)) (omega (arith, le)) ∙ so_far.others a (omega (arith, le));
      whole = λ k x lt has.
          elim (cases_eq k s) [
            | inl last ↦ whole_by d x (is ∙ ap (λ m. booted_sdw catalog files m) (sym last) ∙ has) ordered back
            | inr before ↦ so_far.whole k x (omega (arith, lt, before)) has
          ];
    })

-- ---- all words

pub zeros_at : (n a z : ℕ) → get_or (replicate n z) a z ≡ z
zeros_at n a z =
    elim (cases_lt a n) [
      | inl inside ↦ get_or-replicate n a z z inside
      | inr past ↦ let size = length-replicate n z in get_or_past (replicate n z) a z (omega (arith, past, size))
    ]

-- a page table word, with its segment
record IsWordOf (catalog : CatalogFields) (files : List (List ℕ)) (a : ℕ) : Type 0 where
  seg : ℕ
  sdw : SdwFields
  has : booted_sdw catalog files seg ≡ Some sdw
  low : table_at seg ≤ a
  high : a < table_at seg + page_count sdw

pub given_from : (o : Option PageTable) (t : TableFields) → option_map filled_table o ≡ Some t → (u : PageTable) × (o ≡ Some u) × (filled_table u ≡ t)
given_from None t e = absurd (cc)
given_from (Some u) t e = (u, refl, cc)

word_of : (catalog : CatalogFields) (files : List (List ℕ)) (lay : Option NewSectionFields) (a : ℕ) → IsTableWord (map filled_table (booted_tables catalog files lay)) a
    → IsWordOf catalog files a
word_of catalog files lay a w =
    let u = given_from (slice_get (booted_tables catalog files lay) w.0) w.1 (sym (slice_get-map filled_table (booted_tables catalog files lay) w.0) ∙ w.2) in
    let is = table_is catalog files lay w.0 u.0 u.1 in
    let at : w.1.at ≡ table_at is.seg = sym (ap (λ (t : TableFields). t.at) u.2) ∙ ap (λ (t : PageTable). t.at) is.is in
    let pages : w.1.pages ≡ page_count is.sdw = sym (ap (λ (t : TableFields). t.pages) u.2) ∙ ap (λ (t : PageTable). t.pages) is.is in
    let low = w.3 in
    let high = w.4 in
    record { seg = is.seg; sdw = is.sdw; has = is.has; low = omega (arith, at, low); high = omega (arith, at, pages, high) }

-- The contents of core: zeros, the descriptors, and absent pages.
pub record IsMade (catalog : CatalogFields) (files : List (List ℕ)) (lay : Option NewSectionFields) (n : ℕ) (core : List ℕ) : Type 0 where
  pub mid : List ℕ
  pub described : AreDescribed catalog files (64 + length catalog.segments) (replicate n 0) mid
  pub absent : AreAbsent (map filled_table (booted_tables catalog files lay)) (length (map filled_table (booted_tables catalog files lay))) mid core

pub absent_at : (catalog : CatalogFields) (files : List (List ℕ)) (lay : Option NewSectionFields) (n k q : ℕ) (core : List ℕ) (d : SdwFields) → AreFiles catalog files
    → IsMade catalog files lay n core → booted_sdw catalog files k ≡ Some d → q < page_count d → get_or core (table_at k + q) 0 ≡ absent_ptw
absent_at catalog files lay n k q core d are made e lt =
    let has = has_table catalog files lay k d are e in
    let t = page_table catalog files lay k d in
    let at : slice_get (map filled_table (booted_tables catalog files lay)) has.0 ≡ Some (filled_table t) =
    slice_get-map filled_table (booted_tables catalog files lay) has.0 ∙ ap (λ o. option_map filled_table o) has.1 in
    made.absent.absent has.0 (filled_table t) q (slice_get_within (map filled_table (booted_tables catalog files lay)) has.0 (filled_table t) at) at lt

-- a word after the descriptors that is in no page table
zero_at : (catalog : CatalogFields) (files : List (List ℕ)) (lay : Option NewSectionFields) (n a : ℕ) (core : List ℕ) → IsMade catalog files lay n core
    → 2 * (64 + length catalog.segments) ≤ a → (IsWordOf catalog files a → ⊥) → get_or core a 0 ≡ 0
zero_at catalog files lay n a core made past out =
    made.absent.others a (λ w. out (word_of catalog files lay a w)) ∙ made.described.others a past ∙ zeros_at n a 0

dead_by : (catalog : CatalogFields) (files : List (List ℕ)) (o : Option SdwFields) (half seg : ℕ) → AreFiles catalog files → booted_sdw catalog files seg ≡ o
    → 64 + length catalog.segments ≤ seg → descriptor_word half o ≡ 0
dead_by catalog files None half seg are e past = refl
dead_by catalog files (Some d) half seg are e past = let last = (live catalog files seg d are e).last in absurd (omega (arith, last, past))

pub descriptor_here : (catalog : CatalogFields) (files : List (List ℕ)) (lay : Option NewSectionFields) (n a : ℕ) (core : List ℕ) → AreFiles catalog files
    → IsMade catalog files lay n core → a < 2048 → get_or core a 0 ≡ descriptor_word (a % 2) (booted_sdw catalog files (a / 2))
descriptor_here catalog files lay n a core are made low =
    let out : IsWordOf catalog files a → ⊥ = λ w. let from = w.low in absurd (omega (arith, from, low)) in
    elim (cases_lt a (2 * (64 + length catalog.segments))) [
      | inl written ↦ made.absent.others a (λ w. out (word_of catalog files lay a w)) ∙ made.described.written a written
      | inr past ↦
          zero_at catalog files lay n a core made past out
          ∙ sym (dead_by catalog files (booted_sdw catalog files (a / 2)) (a % 2) (a / 2) are refl (omega (arith, past)))
    ]

pub some_same : (d e : SdwFields) (o : Option SdwFields) → o ≡ Some d → o ≡ Some e → d ≡ e
some_same d e o f g = cc

some_none : (d : SdwFields) (o : Option SdwFields) → o ≡ None → o ≡ Some d → ⊥
some_none d o f g = absurd (cc)

page_by : (catalog : CatalogFields) (files : List (List ℕ)) (lay : Option NewSectionFields) (n k q : ℕ) (core : List ℕ) (o : Option SdwFields) → AreFiles catalog files
    → IsMade catalog files lay n core → length catalog.segments ≤ 512 → q < 256 → booted_sdw catalog files k ≡ o
    → get_or core (table_at k + q) 0 ≡ page_table_word q o
page_by catalog files lay n k q core None are made few lt e =
    zero_at catalog files lay n (table_at k + q) core made (omega (arith, few)) (λ w.
    let bound = (live catalog files w.seg w.sdw are w.has).bound in
    let low = w.low in
    let high = w.high in
    let same : w.seg ≡ k = omega (arith, bound, low, high, lt) in
    some_none w.sdw (booted_sdw catalog files k) e (ap (λ m. booted_sdw catalog files m) (sym same) ∙ w.has))
page_by catalog files lay n k q core (Some d) are made few lt e =
    elim (cases_lt q (page_count d)) [
      | inl inside ↦
          absent_at catalog files lay n k q core d are made e inside
          ∙ ap (λ b. cond b absent_ptw 0) (sym (lt-ltb q (page_count d) inside))
      | inr past ↦
          zero_at catalog files lay n (table_at k + q) core made (omega (arith, few)) (λ w.
          let bound = (live catalog files w.seg w.sdw are w.has).bound in
          let low = w.low in
          let high = w.high in
          let same : w.seg ≡ k = omega (arith, bound, low, high, lt) in
          let equal = some_same w.sdw d (booted_sdw catalog files k) (ap (λ m. booted_sdw catalog files m) (sym same) ∙ w.has) e in
          let pages = ap (λ (s : SdwFields). page_count s) equal in
          absurd (omega (arith, same, low, high, pages, past)))
          ∙ ap (λ b. cond b absent_ptw 0) (sym (le-ltb q (page_count d) past))
    ]

page_here : (catalog : CatalogFields) (files : List (List ℕ)) (lay : Option NewSectionFields) (n a : ℕ) (core : List ℕ) → AreFiles catalog files
    → IsMade catalog files lay n core → length catalog.segments ≤ 512 → 2048 ≤ a
    → get_or core a 0 ≡ page_table_word ((a - 2048) % 256) (booted_sdw catalog files ((a - 2048) / 256))
page_here catalog files lay n a core are made few low =
    let there : table_at ((a - 2048) / 256) + (a - 2048) % 256 ≡ a = omega (arith, low) in
    ap (λ m. get_or core m 0) (sym there)
    ∙ page_by catalog files lay n ((a - 2048) / 256) ((a - 2048) % 256) core (booted_sdw catalog files ((a - 2048) / 256)) are made few (omega arith) refl

frame_here : (catalog : CatalogFields) (files : List (List ℕ)) (lay : Option NewSectionFields) (n a : ℕ) (core : List ℕ) → AreFiles catalog files
    → IsMade catalog files lay n core → length catalog.segments ≤ 512 → 149504 ≤ a → get_or core a 0 ≡ 0
frame_here catalog files lay n a core are made few low =
    zero_at catalog files lay n a core made (omega (arith, few, low)) (λ w.
    let l = live catalog files w.seg w.sdw are w.has in
    let bound = l.bound in
    let last = l.last in
    let high = w.high in
    absurd (omega (arith, bound, last, high, few, low)))

chosen : (b c : Bool) (x y z v : ℕ) → (b ≡ true → v ≡ x) → (b ≡ false → c ≡ true → v ≡ y) → (b ≡ false → c ≡ false → v ≡ z)
    → v ≡ cond b x (cond c y z)
chosen true c x y z v first second third = first refl
chosen false true x y z v first second third = second refl refl
chosen false false x y z v first second third = third refl refl

pub word_here : (catalog : CatalogFields) (files : List (List ℕ)) (lay : Option NewSectionFields) (n a : ℕ) (core : List ℕ) → AreFiles catalog files
    → IsMade catalog files lay n core → length catalog.segments ≤ 512 → get_or core a 0 ≡ booted_word catalog files a
unfolding booted_word
word_here catalog files lay n a core are made few =
    chosen (nat_lt a descriptor_words) (nat_lt a (1024 * wired_frames)) _ _ 0 (get_or core a 0)
    (λ b. descriptor_here catalog files lay n a core are made (ltb-true a descriptor_words b))
    (λ b c. page_here catalog files lay n a core are made few (ltb-false a descriptor_words b))
    (λ b c. frame_here catalog files lay n a core are made few (ltb-false a (1024 * wired_frames) c))

pub size_of : (catalog : CatalogFields) (files : List (List ℕ)) (lay : Option NewSectionFields) (n : ℕ) (core : List ℕ) → IsMade catalog files lay n core → length core ≡ n
size_of catalog files lay n core made = let nought : ℕ = 0 in made.absent.size ∙ made.described.size ∙ length-replicate n nought
