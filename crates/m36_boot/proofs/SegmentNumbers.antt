-- What an image has under the numbers of its segments: the stack and the linkage segment of each ring, and the places
-- of the catalog.
use Rattle.std.proofs.Common.{ℕ, ◌≡◌, ◌+◌, ◌-◌, ◌<◌, Bool, true, false, cond, List, Option, Some, None, refl, ap, ◌∙◌, arith}
use Rattle.std.specs.Prelude.{slice_get, nat_lt}
use Rattle.std.proofs.lemmas.Bool.{lt-ltb, le-ltb}
use Rattle.m36_dir.specs.Catalog.{CatalogFields}
use Rattle.m36_link.specs.Fields.{NewSectionFields}
use Rattle.m36_link.specs.Known.{linkage_segment, catalog_number}
use Rattle.m36_boot.specs.Segments.{stack_segment, stack_pages, linkage_pages, file_at, ring_descriptor, catalog_descriptor_at, booted_sdw, stack_words, linkage_words, booted_words}
use Rattle.m36_boot.proofs.Sizes.{stack_here, linkage_here, file_here}

second : {A : Type 0} (a b : Bool) (w x y : A) → a ≡ false → b ≡ true → cond a w (cond b x y) ≡ x
second false true w x y e f = refl
second true b w x y e f = absurd (cc)
second false false w x y e f = absurd (cc)

third : {A : Type 0} (a b c : Bool) (w x y z : A) → a ≡ false → b ≡ false → c ≡ true → cond a w (cond b x (cond c y z)) ≡ y
third false false true w x y z e f g = refl
third true b c w x y z e f g = absurd (cc)
third false true c w x y z e f g = absurd (cc)
third false false false w x y z e f g = absurd (cc)

fifth : {A : Type 0} (a b c d : Bool) (v w x y z : A) → a ≡ false → b ≡ false → c ≡ false → d ≡ false → cond a v (cond b w (cond c x (cond d y z))) ≡ z
fifth false false false false v w x y z e f g h = refl
fifth true b c d v w x y z e f g h = absurd (cc)
fifth false true c d v w x y z e f g h = absurd (cc)
fifth false false true d v w x y z e f g h = absurd (cc)
fifth false false false true v w x y z e f g h = absurd (cc)

-- ---- descriptors

pub stack_sdw : (catalog : CatalogFields) (files : List (List ℕ)) (ring : ℕ) → ring < 8
    → booted_sdw catalog files (stack_segment ring) ≡ Some (ring_descriptor (stack_segment ring) ring stack_pages)
unfolding booted_sdw
stack_sdw catalog files ring lt =
    second (nat_lt (8 + ring) 8) (nat_lt (8 + ring) 16) None (Some (ring_descriptor (8 + ring) (8 + ring - 8) stack_pages)) _
    (le-ltb (8 + ring) 8 (omega arith)) (lt-ltb (8 + ring) 16 (omega (arith, lt)))
    ∙ ap (λ r. Some (ring_descriptor (8 + ring) r stack_pages)) (let same : 8 + ring - 8 ≡ ring = omega arith in same)

pub linkage_sdw : (catalog : CatalogFields) (files : List (List ℕ)) (ring : ℕ) → ring < 8
    → booted_sdw catalog files (linkage_segment ring) ≡ Some (ring_descriptor (linkage_segment ring) ring linkage_pages)
unfolding booted_sdw
linkage_sdw catalog files ring lt =
    third (nat_lt (16 + ring) 8) (nat_lt (16 + ring) 16) (nat_lt (16 + ring) 24) None _ (Some (ring_descriptor (16 + ring) (16 + ring - 16) linkage_pages)) _
    (le-ltb (16 + ring) 8 (omega arith)) (le-ltb (16 + ring) 16 (omega arith)) (lt-ltb (16 + ring) 24 (omega (arith, lt)))
    ∙ ap (λ r. Some (ring_descriptor (16 + ring) r linkage_pages)) (let same : 16 + ring - 16 ≡ ring = omega arith in same)

pub file_sdw : (catalog : CatalogFields) (files : List (List ℕ)) (i : ℕ)
    → booted_sdw catalog files (catalog_number i) ≡ catalog_descriptor_at (catalog_number i) (slice_get catalog.segments i) (file_at files i)
unfolding booted_sdw
file_sdw catalog files i =
    fifth (nat_lt (64 + i) 8) (nat_lt (64 + i) 16) (nat_lt (64 + i) 24) (nat_lt (64 + i) 64) None _ _ None
    (catalog_descriptor_at (64 + i) (slice_get catalog.segments (64 + i - 64)) (file_at files (64 + i - 64)))
    (le-ltb (64 + i) 8 (omega arith)) (le-ltb (64 + i) 16 (omega arith)) (le-ltb (64 + i) 24 (omega arith)) (le-ltb (64 + i) 64 (omega arith))
    ∙ ap (λ n. catalog_descriptor_at (64 + i) (slice_get catalog.segments n) (file_at files n)) (let same : 64 + i - 64 ≡ i = omega arith in same)

-- ---- words

pub stack_has : (files : List (List ℕ)) (lay : Option NewSectionFields) (ring : ℕ) → ring < 8 → booted_words files lay (stack_segment ring) ≡ stack_words ring
stack_has files lay ring lt =
    stack_here files lay (8 + ring) (le-ltb (8 + ring) 8 (omega arith)) (lt-ltb (8 + ring) 16 (omega (arith, lt)))
    ∙ ap (λ r. stack_words r) (let same : 8 + ring - 8 ≡ ring = omega arith in same)

pub linkage_has : (files : List (List ℕ)) (lay : Option NewSectionFields) (ring : ℕ) → ring < 8 → booted_words files lay (linkage_segment ring) ≡ linkage_words lay ring
linkage_has files lay ring lt =
    linkage_here files lay (16 + ring) (le-ltb (16 + ring) 8 (omega arith)) (le-ltb (16 + ring) 16 (omega arith)) (lt-ltb (16 + ring) 24 (omega (arith, lt)))
    ∙ ap (λ r. linkage_words lay r) (let same : 16 + ring - 16 ≡ ring = omega arith in same)

pub file_has : (files : List (List ℕ)) (lay : Option NewSectionFields) (i : ℕ) → booted_words files lay (catalog_number i) ≡ file_at files i
file_has files lay i =
    file_here files lay (64 + i) (le-ltb (64 + i) 8 (omega arith)) (le-ltb (64 + i) 16 (omega arith)) (le-ltb (64 + i) 24 (omega arith))
    (le-ltb (64 + i) 64 (omega arith))
    ∙ ap (λ n. file_at files n) (let same : 64 + i - 64 ≡ i = omega arith in same)
