-- Which word of a linkage section belongs to which link.
use Rattle.std.proofs.Common.{ℕ, zero, suc, ◌≡◌, ◌+◌, ◌-◌, ◌*◌, ◌/◌, ◌%◌, ◌<◌, ◌≤◌, cond, ◌&&◌, eqb, List, [], ◌∷◌, ◌++◌, length, get_or, slice_get, slice_index, option_and_then, Some, None, refl, ap, ◌∙◌, arith}
use Rattle.std.proofs.lemmas.Bool.{le-leb, eq-eqb}
use Rattle.std.proofs.lemmas.List.{get_or-append-add, get_or-append_right}
use Rattle.obj36_parts.specs.Fields.{LinkFields}
use Rattle.obj36_parts.specs.PartsFields.{PartsFields}
use Rattle.obj36_parts.specs.Halves.{word_with_halves}
use Rattle.obj36_parts.specs.ObjectSegment.{inner_statics, first_expression_at, link_head, link_words, first_link_at, link_offset, linkage_part, linkage_section, first_link}
use Rattle.m36_link.specs.Fields.{PlacedSectionFields}
use Rattle.m36_link.specs.Known.{object_in}
use Rattle.m36_link.specs.Links.{link_from, link_in}
use Rattle.m36_link.specs.Laws.{LinksFound}

-- ---- the link that a service finds

found_at : (first word i : ℕ) (links : List LinkFields) → word ≡ first + 2 * i → link_from first word links ≡ slice_get links i
unfolding link_from
found_at first word i links is =
    let low : first ≤ word = omega (arith, is) in
    let even : (word - first) % 2 ≡ 0 = omega (arith, is) in
    let number : (word - first) / 2 ≡ i = omega (arith, is) in
    ap (λ b. cond (b && eqb ((word - first) % 2) 0) (slice_get links ((word - first) / 2)) None) (le-leb first word low)
    ∙ ap (λ b. cond b (slice_get links ((word - first) / 2)) None) (eq-eqb ((word - first) % 2) 0 even)
    ∙ ap (λ n. slice_get links n) number

-- the links in a laid section are those of its object
pub object_links : (files : List (List ℕ)) (word : ℕ) (l : PlacedSectionFields) (o : PartsFields) → object_in files l.seg ≡ Some o
    → link_in files word l ≡ link_from (l.base + first_link o) word o.links
unfolding link_in
object_links files word l o read = ap (option_and_then (λ (x : PartsFields). link_from (l.base + first_link x) word x.links)) read

behind_base : (base first i : ℕ) → base + (first + 2 * i) ≡ base + first + 2 * i
behind_base base first i = omega arith

link_found : (files : List (List ℕ)) (l : PlacedSectionFields) (o : PartsFields) (i : ℕ) → object_in files l.seg ≡ Some o
    → link_in files (l.base + link_offset (first_link o) i) l ≡ slice_get o.links i
link_found files l o i read =
    object_links files (l.base + link_offset (first_link o) i) l o read
    ∙ found_at (l.base + first_link o) (l.base + link_offset (first_link o) i) i o.links (behind_base l.base (first_link o) i)

-- ---- the first word of a link

head_among : (ls : List LinkFields) (at expression i : ℕ) → i < length ls → get_or (link_words ls at expression) (2 * i) 0 ≡ link_head (link_offset at i)
unfolding link_words
head_among [] at expression i lt = absurd (omega (arith, lt))
head_among (l ∷ ls) at expression zero lt = ap link_head (let e : at ≡ at + 2 * 0 = omega arith in e)
head_among (l ∷ ls) at expression (suc i) lt =
    let twice : 2 * suc i ≡ suc (suc (2 * i)) = omega arith in
    let place : at + 2 + 2 * i ≡ at + 2 * suc i = omega arith in
    ap (λ n. get_or (link_head at ∷ word_with_halves expression l.modifier ∷ link_words ls (at + 2) (expression + 2)) n 0) twice
    ∙ head_among ls (at + 2) (expression + 2) i (omega (arith, lt))
    ∙ ap link_head place

head_in : (statics : List ℕ) (ls : List LinkFields) (expressions i : ℕ) → i < length ls
    → get_or (linkage_part statics ls expressions) (link_offset (first_link_at (length statics)) i) 0 ≡ link_head (link_offset (first_link_at (length statics)) i)
unfolding linkage_part
head_in statics ls expressions i lt =
    let first : ℕ = first_link_at (length statics) in
    let ahead : List ℕ = 0 ∷ word_with_halves first (length ls) ∷ 0 ∷ 0 ∷ 0 ∷ 0 ∷ 0 ∷ 0 ∷ [] in
    let links : List ℕ = link_words ls first expressions in
    let past : first + 2 * i - 8 ≡ length statics + 2 * i = omega arith in
    get_or-append_right ahead (statics ++ links) 8 (first + 2 * i) 0 refl (omega arith)
    ∙ ap (λ n. get_or (statics ++ links) n 0) past
    ∙ get_or-append-add statics links (2 * i) 0
    ∙ head_among ls first expressions i lt

head_stands : (o : PartsFields) (i : ℕ) → i < length o.links
    → slice_index (linkage_section o) (link_offset (first_link o) i) ≡ link_head (link_offset (first_link o) i)
unfolding linkage_section
head_stands o i lt = head_in (inner_statics o) o.links (first_expression_at (length o.definitions)) i lt

pub links_found : LinksFound
links_found = record { link = link_found; head = head_stands }
