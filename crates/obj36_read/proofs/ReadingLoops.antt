-- Steps of the loops that read tables.
use Rattle.std.proofs.Common.{ℕ, zero, suc, ◌≡◌, ◌+◌, ◌-◌, ◌%◌, ◌^◌, ◌<◌, ◌≤◌, List, [], ◌∷◌, ◌++◌, length, take, set, refl, sym, ap, ◌∙◌, append_assoc, arith}
use Rattle.std.proofs.lemmas.List.{append-nil, take_more_set}
use Rattle.std.specs.Prelude.{slice_index}
use Rattle.obj36_parts.specs.Fields.{LinkFields, RelocFields}
use Rattle.obj36_parts.specs.declared.definition.Named.{Named}
use Rattle.obj36_read.specs.Reading.{quarter_at, characters, definition_at, definitions_in, link_at, links_in, relocation_in, relocations_in}

-- one more item of a table, of which `count - i` items are left; `read` decodes items from an index
-- on
one_more : {X : Type 0} (left count i : ℕ) (first_words next total rest all : List X) (x : X) → all ≡ x ∷ rest → next ≡ first_words ++ x ∷ [] → first_words ++ all ≡ total → next ++ rest ≡ total
one_more left count i first_words next total rest all x a e so_far = ap (λ f. f ++ rest) e ∙ append_assoc first_words (x ∷ []) rest ∙ ap (λ r. first_words ++ r) (sym a) ∙ so_far

pub definition_read : (words : List ℕ) (at count i : ℕ) (first_words next total : List Named) → i < count → next ≡ first_words ++ definition_at words at ∷ []
    → first_words ++ definitions_in words at (count - i) ≡ total → next ++ definitions_in words (at + 2) (count - (i + 1)) ≡ total
unfolding definitions_in
definition_read words at count i first_words next total lt e so_far =
    let k : count - i ≡ suc (count - (i + 1)) = omega arith in
    one_more 0 count i first_words next total (definitions_in words (at + 2) (count - (i + 1))) (definitions_in words at (count - i)) (definition_at words at) (ap (definitions_in words at) k) e so_far

pub definitions_read : (words : List ℕ) (at count i : ℕ) (first_words total : List Named) → count ≤ i → first_words ++ definitions_in words at (count - i) ≡ total → first_words ≡ total
unfolding definitions_in
definitions_read words at count i first_words total le so_far =
    let k : count - i ≡ 0 = omega arith in
    sym (append-nil first_words) ∙ ap (λ n. first_words ++ definitions_in words at n) (sym k) ∙ so_far

pub link_read : (words : List ℕ) (at : ℕ) (linkage : List ℕ) (place count i : ℕ) (first_words next total : List LinkFields) → i < count → next ≡ first_words ++ link_at words at linkage place ∷ []
    → first_words ++ links_in words at linkage place (count - i) ≡ total → next ++ links_in words (at + 2) linkage (place + 2) (count - (i + 1)) ≡ total
unfolding links_in
link_read words at linkage place count i first_words next total lt e so_far =
    let k : count - i ≡ suc (count - (i + 1)) = omega arith in
    one_more 0 count i first_words next total (links_in words (at + 2) linkage (place + 2) (count - (i + 1))) (links_in words at linkage place (count - i)) (link_at words at linkage place) (ap (links_in words at linkage place) k) e so_far

pub links_read : (words : List ℕ) (at : ℕ) (linkage : List ℕ) (place count i : ℕ) (first_words total : List LinkFields) → count ≤ i → first_words ++ links_in words at linkage place (count - i) ≡ total → first_words ≡ total
unfolding links_in
links_read words at linkage place count i first_words total le so_far =
    let k : count - i ≡ 0 = omega arith in
    sym (append-nil first_words) ∙ ap (λ n. first_words ++ links_in words at linkage place n) (sym k) ∙ so_far

pub relocation_read : (words : List ℕ) (at w count i : ℕ) (first_words next total : List RelocFields) → i < count → w ≡ slice_index words at → next ≡ first_words ++ relocation_in w ∷ []
    → first_words ++ relocations_in words at (count - i) ≡ total → next ++ relocations_in words (at + 1) (count - (i + 1)) ≡ total
unfolding relocations_in
relocation_read words at w count i first_words next total lt is e so_far =
    let k : count - i ≡ suc (count - (i + 1)) = omega arith in
    one_more 0 count i first_words next total (relocations_in words (at + 1) (count - (i + 1))) (relocations_in words at (count - i)) (relocation_in w)
    (ap (relocations_in words at) k ∙ ap (λ n. relocation_in n ∷ relocations_in words (at + 1) (count - (i + 1))) (sym is)) e so_far

pub relocations_read : (words : List ℕ) (at count i : ℕ) (first_words total : List RelocFields) → count ≤ i → first_words ++ relocations_in words at (count - i) ≡ total → first_words ≡ total
unfolding relocations_in
relocations_read words at count i first_words total le so_far =
    let k : count - i ≡ 0 = omega arith in
    sym (append-nil first_words) ∙ ap (λ n. first_words ++ relocations_in words at n) (sym k) ∙ so_far

-- ---- characters

characters_last_suc : (words : List ℕ) (at i count : ℕ) → characters words at i (suc count) ≡ characters words at i count ++ quarter_at words at (i + count) % 2 ^ 8 ∷ []
unfolding characters
characters_last_suc words at i zero = ap (λ n. quarter_at words at n % 2 ^ 8 ∷ []) (let e : i ≡ i + 0 = omega arith in e)
characters_last_suc words at i (suc count) =
    ap (λ (cs : List ℕ). quarter_at words at i % 2 ^ 8 ∷ cs)
    (characters_last_suc words at (i + 1) count ∙ ap (λ n. characters words at (i + 1) count ++ quarter_at words at n % 2 ^ 8 ∷ []) (let e : i + 1 + count ≡ i + suc count = omega arith in e))

pub characters_last : (words bytes : List ℕ) (at i quarter_from : ℕ) → i < length bytes → quarter_from ≡ quarter_at words at (i + 1) → take i bytes ≡ characters words at 1 i
    → take (i + 1) (set bytes i (quarter_from % 256)) ≡ characters words at 1 (i + 1)
characters_last words bytes at i quarter_from lt e so_far =
    take_more_set bytes i (quarter_from % 256) lt ∙ ap (λ (cs : List ℕ). cs ++ quarter_from % 256 ∷ []) so_far
    ∙ ap (λ n. characters words at 1 i ++ n % 256 ∷ []) (e ∙ ap (quarter_at words at) (let o : i + 1 ≡ 1 + i = omega arith in o))
    ∙ sym (characters_last_suc words at 1 i) ∙ ap (characters words at 1) (let o : suc i ≡ i + 1 = omega arith in o)

pub no_characters : (words : List ℕ) (at i : ℕ) → [] ≡ characters words at i 0
unfolding characters
no_characters words at i = refl
