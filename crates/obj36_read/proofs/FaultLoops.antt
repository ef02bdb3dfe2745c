-- Steps of the loops that look for faults.
use Rattle.std.proofs.Common.{ℕ, suc, ◌≡◌, ◌+◌, ◌-◌, ◌<◌, ◌≤◌, ◌≢◌, Bool, true, false, cond, eqb, leb, ltb, ◌&&◌, List, Option, Some, None, refl, sym, ap, ◌∙◌, arith}
use Rattle.std.specs.Prelude.{min, slice_index, not}
use Rattle.std.proofs.lemmas.Bool.{cond-true, cond-false, lt-leb, eq-eqb, ne_eqb}
use Rattle.obj36_read.specs.declared.map.Extents.{Extents}
use Rattle.obj36_read.specs.MapFaults.{sections_covering, first_shared_word}
use Rattle.obj36_read.specs.Reading.{quarter_at}
use Rattle.obj36_parts.specs.Names.{is_name_character}
use Rattle.obj36_read.specs.TableFaults.{earlier, index_if_bad, next_definition, has_room_for_definition, chain_fault, class_at, first_bad_class, name_offset_at, same_quarters, first_repeat, are_characters, are_zeros, name_fault, defined_names_fault, expression_fault, linked_names_fault}
use Rattle.obj36_read.specs.LinkFaults.{is_expression_type, first_bad_type, is_valid_link_at, first_bad_link}

-- ---- shared words

less_of_two : (b : Bool) (at : ℕ) (rest : Option ℕ) → b ≡ false → cond b (Some at) rest ≡ rest
less_of_two true at rest e = absurd cc
less_of_two false at rest e = refl

pub not_shared : (e : Extents) (at end n : ℕ) (total : Option ℕ) → at < end → n < 2 → n ≡ sections_covering e at → first_shared_word e at (end - at) ≡ total → first_shared_word e (at + 1) (end - (at + 1)) ≡ total
unfolding first_shared_word
not_shared e at end n total lt few is so_far =
    let k : end - at ≡ suc (end - (at + 1)) = omega arith in
    let other : leb 2 (sections_covering e at) ≡ false = lt-leb 2 (sections_covering e at) (omega arith) in
    sym (ap (first_shared_word e at) k ∙ less_of_two (leb 2 (sections_covering e at)) at (first_shared_word e (at + 1) (end - (at + 1))) other) ∙ so_far

-- ---- the least of what is found

pub earlier-assoc : (a b c : Option ℕ) → earlier (earlier a b) c ≡ earlier a (earlier b c)
earlier-assoc None b c = refl
earlier-assoc (Some p) None c = refl
earlier-assoc (Some p) (Some q) None = refl
earlier-assoc (Some p) (Some q) (Some r) = ap Some (let e : min (min p q) r ≡ min p (min q r) = omega arith in e)

pub earlier-none : (a : Option ℕ) → earlier a None ≡ a
earlier-none None = refl
earlier-none (Some p) = refl

pub found_more : (found here next rest all total : Option ℕ) → next ≡ earlier found here → all ≡ earlier here rest → earlier found all ≡ total → earlier next rest ≡ total
found_more found here next rest all total e f so_far = ap (λ x. earlier x rest) e ∙ earlier-assoc found here rest ∙ ap (earlier found) (sym f) ∙ so_far

pub found_all : (found all total : Option ℕ) → all ≡ None → earlier found all ≡ total → found ≡ total
found_all found all total e so_far = sym (earlier-none found) ∙ ap (earlier found) (sym e) ∙ so_far

-- ---- the chain

pub chain_goes_on : (d : List ℕ) (count i holder at next : ℕ) (total : Option ℕ) (b : Bool) → i < count → next ≡ next_definition d at → b ≡ has_room_for_definition d at → b ≡ true → chain_fault d (count - i) holder at ≡ total
    → chain_fault d (count - (i + 1)) at next ≡ total
unfolding chain_fault
chain_goes_on d count i holder at next total b lt n e t so_far =
    let k : count - i ≡ suc (count - (i + 1)) = omega arith in
    ap (chain_fault d (count - (i + 1)) at) n ∙ sym (ap (λ n. chain_fault d n holder at) k ∙ cond-true (has_room_for_definition d at) (chain_fault d (count - (i + 1)) at (next_definition d at)) (Some 0) (sym e ∙ t)) ∙ so_far

pub chain_breaks : (d : List ℕ) (count i holder at : ℕ) (total : Option ℕ) (b : Bool) → i < count → b ≡ has_room_for_definition d at → b ≡ false → chain_fault d (count - i) holder at ≡ total → Some 0 ≡ total
unfolding chain_fault
chain_breaks d count i holder at total b lt e t so_far =
    let k : count - i ≡ suc (count - (i + 1)) = omega arith in
    sym (ap (λ n. chain_fault d n holder at) k ∙ cond-false (has_room_for_definition d at) (chain_fault d (count - (i + 1)) at (next_definition d at)) (Some 0) (sym e ∙ t)) ∙ so_far

pub chain_ends : (d : List ℕ) (count i holder at : ℕ) (total : Option ℕ) → count ≤ i → chain_fault d (count - i) holder at ≡ total → chain_fault d 0 holder at ≡ total
chain_ends d count i holder at total le so_far = let k : count - i ≡ 0 = omega arith in ap (λ n. chain_fault d n holder at) (sym k) ∙ so_far

-- ---- classes

pub class_step : (last : ℕ) (d : List ℕ) (count i at next class : ℕ) (here : Option ℕ) → i < count → next ≡ next_definition d at → class ≡ class_at d at → here ≡ index_if_bad (ltb last class) at
    → first_bad_class last d (count - i) at ≡ earlier here (first_bad_class last d (count - (i + 1)) next)
unfolding first_bad_class
class_step last d count i at next class here lt n e f =
    let k : count - i ≡ suc (count - (i + 1)) = omega arith in
    let rest = first_bad_class last d (count - (i + 1)) (next_definition d at) in
    ap (λ m. first_bad_class last d m at) k ∙ ap (λ h. earlier h rest) (ap (λ m. index_if_bad (ltb last m) at) (sym e) ∙ sym f)
    ∙ ap (λ m. earlier here (first_bad_class last d (count - (i + 1)) m)) (sym n)

pub class_end : (last : ℕ) (d : List ℕ) (count i at : ℕ) → count ≤ i → first_bad_class last d (count - i) at ≡ None
unfolding first_bad_class
class_end last d count i at le = let k : count - i ≡ 0 = omega arith in ap (λ n. first_bad_class last d n at) k

-- ---- names that occur twice

pub same_end : (d : List ℕ) (at other i count : ℕ) (total : Bool) → count ≤ i → same_quarters d at other i (count - i) ≡ total → true ≡ total
unfolding same_quarters
same_end d at other i count total le so_far = let k : count - i ≡ 0 = omega arith in sym (ap (same_quarters d at other i) k) ∙ so_far

pub repeats_end : (d : List ℕ) (count i at : ℕ) → count ≤ i → first_repeat d (count - i) at ≡ None
unfolding first_repeat
repeats_end d count i at le = let k : count - i ≡ 0 = omega arith in ap (λ n. first_repeat d n at) k

-- ---- names

pub character_more : (d : List ℕ) (at from i count : ℕ) (total b : Bool) (u : ℕ) → i < count → u ≡ quarter_at d at (from + i) → b ≡ is_name_character u → b ≡ true
    → are_characters d at (from + i) (count - i) ≡ total → are_characters d at (from + (i + 1)) (count - (i + 1)) ≡ total
unfolding are_characters
character_more d at from i count total b u lt e f t so_far =
    let k : count - i ≡ suc (count - (i + 1)) = omega arith in
    let next : from + (i + 1) ≡ from + i + 1 = omega arith in
    let good : is_name_character (quarter_at d at (from + i)) ≡ true = ap is_name_character (sym e) ∙ sym f ∙ t in
    ap (λ n. are_characters d at n (count - (i + 1))) next
    ∙ sym (ap (are_characters d at (from + i)) k ∙ ap (λ x. x && are_characters d at (from + i + 1) (count - (i + 1))) good) ∙ so_far

pub character_not : (d : List ℕ) (at from i count : ℕ) (total b : Bool) (u : ℕ) → i < count → u ≡ quarter_at d at (from + i) → b ≡ is_name_character u → b ≡ false
    → are_characters d at (from + i) (count - i) ≡ total → false ≡ total
unfolding are_characters
character_not d at from i count total b u lt e f t so_far =
    let k : count - i ≡ suc (count - (i + 1)) = omega arith in
    let bad : is_name_character (quarter_at d at (from + i)) ≡ false = ap is_name_character (sym e) ∙ sym f ∙ t in
    sym (ap (are_characters d at (from + i)) k ∙ ap (λ x. x && are_characters d at (from + i + 1) (count - (i + 1))) bad) ∙ so_far

pub characters_end : (d : List ℕ) (at from i count : ℕ) (total : Bool) → count ≤ i → are_characters d at (from + i) (count - i) ≡ total → true ≡ total
unfolding are_characters
characters_end d at from i count total le so_far = let k : count - i ≡ 0 = omega arith in sym (ap (are_characters d at (from + i)) k) ∙ so_far

pub zero_more : (d : List ℕ) (at from i count : ℕ) (total : Bool) (u : ℕ) → i < count → u ≡ quarter_at d at (from + i) → u ≡ 0
    → are_zeros d at (from + i) (count - i) ≡ total → are_zeros d at (from + (i + 1)) (count - (i + 1)) ≡ total
unfolding are_zeros
zero_more d at from i count total u lt e t so_far =
    let k : count - i ≡ suc (count - (i + 1)) = omega arith in
    let next : from + (i + 1) ≡ from + i + 1 = omega arith in
    let good : eqb (quarter_at d at (from + i)) 0 ≡ true = eq-eqb _ _ (sym e ∙ t) in
    ap (λ n. are_zeros d at n (count - (i + 1))) next
    ∙ sym (ap (are_zeros d at (from + i)) k ∙ ap (λ x. x && are_zeros d at (from + i + 1) (count - (i + 1))) good) ∙ so_far

pub zero_not : (d : List ℕ) (at from i count : ℕ) (total : Bool) (u : ℕ) → i < count → u ≡ quarter_at d at (from + i) → u ≢ 0
    → are_zeros d at (from + i) (count - i) ≡ total → false ≡ total
unfolding are_zeros
zero_not d at from i count total u lt e t so_far =
    let k : count - i ≡ suc (count - (i + 1)) = omega arith in
    let bad : eqb (quarter_at d at (from + i)) 0 ≡ false = ne_eqb _ _ (λ h. t (e ∙ h)) in
    sym (ap (are_zeros d at (from + i)) k ∙ ap (λ x. x && are_zeros d at (from + i + 1) (count - (i + 1))) bad) ∙ so_far

pub zeros_end : (d : List ℕ) (at from i count : ℕ) (total : Bool) → count ≤ i → are_zeros d at (from + i) (count - i) ≡ total → true ≡ total
unfolding are_zeros
zeros_end d at from i count total le so_far = let k : count - i ≡ 0 = omega arith in sym (ap (are_zeros d at (from + i)) k) ∙ so_far

pub from_start : (from : ℕ) → from + 0 ≡ from
from_start from = omega arith

pub defined_name_step : (d : List ℕ) (count i at next name : ℕ) (here : Option ℕ) → i < count → next ≡ next_definition d at → name ≡ name_offset_at d at → here ≡ name_fault d (at + 1) name
    → defined_names_fault d (count - i) at ≡ earlier here (defined_names_fault d (count - (i + 1)) next)
unfolding defined_names_fault
defined_name_step d count i at next name here lt x n f =
    let k : count - i ≡ suc (count - (i + 1)) = omega arith in
    ap (λ m. defined_names_fault d m at) k
    ∙ ap (λ m. earlier (name_fault d (at + 1) (name_offset_at d at)) (defined_names_fault d (count - (i + 1)) m)) (sym x)
    ∙ ap (λ h. earlier h (defined_names_fault d (count - (i + 1)) next)) (ap (name_fault d (at + 1)) (sym n) ∙ sym f)

pub defined_names_end : (d : List ℕ) (count i at : ℕ) → count ≤ i → defined_names_fault d (count - i) at ≡ None
unfolding defined_names_fault
defined_names_end d count i at le = let k : count - i ≡ 0 = omega arith in ap (λ n. defined_names_fault d n at) k

pub linked_name_step : (d : List ℕ) (count i at : ℕ) (here : Option ℕ) → i < count → here ≡ expression_fault d at
    → linked_names_fault d (count - i) at ≡ earlier here (linked_names_fault d (count - (i + 1)) (at + 2))
unfolding linked_names_fault
linked_name_step d count i at here lt f =
    let k : count - i ≡ suc (count - (i + 1)) = omega arith in
    ap (λ m. linked_names_fault d m at) k ∙ ap (λ h. earlier h (linked_names_fault d (count - (i + 1)) (at + 2))) (sym f)

pub linked_names_end : (d : List ℕ) (count i at : ℕ) → count ≤ i → linked_names_fault d (count - i) at ≡ None
unfolding linked_names_fault
linked_names_end d count i at le = let k : count - i ≡ 0 = omega arith in ap (λ n. linked_names_fault d n at) k

-- ---- links

pub type_step : (version : ℕ) (d : List ℕ) (count i at w : ℕ) (b : Bool) (here : Option ℕ) → i < count → w ≡ slice_index d at → b ≡ is_expression_type version w → here ≡ index_if_bad (not b) at
    → first_bad_type version d (count - i) at ≡ earlier here (first_bad_type version d (count - (i + 1)) (at + 2))
unfolding first_bad_type
type_step version d count i at w b here lt e t f =
    let k : count - i ≡ suc (count - (i + 1)) = omega arith in
    ap (λ m. first_bad_type version d m at) k
    ∙ ap (λ h. earlier h (first_bad_type version d (count - (i + 1)) (at + 2))) (ap (λ n. index_if_bad (not (is_expression_type version n)) at) (sym e) ∙ ap (λ c. index_if_bad (not c) at) (sym t) ∙ sym f)

pub types_end : (version : ℕ) (d : List ℕ) (count i at : ℕ) → count ≤ i → first_bad_type version d (count - i) at ≡ None
unfolding first_bad_type
types_end version d count i at le = let k : count - i ≡ 0 = omega arith in ap (λ n. first_bad_type version d n at) k

pub link_more : (k : List ℕ) (at expression count i : ℕ) (total : Option ℕ) (b : Bool) → i < count → b ≡ is_valid_link_at k at expression → b ≡ true
    → first_bad_link k at expression (count - i) ≡ total → first_bad_link k (at + 2) (expression + 2) (count - (i + 1)) ≡ total
unfolding first_bad_link
link_more k at expression count i total b lt e t so_far =
    let n : count - i ≡ suc (count - (i + 1)) = omega arith in
    sym (ap (first_bad_link k at expression) n ∙ cond-true (is_valid_link_at k at expression) (first_bad_link k (at + 2) (expression + 2) (count - (i + 1))) (Some at) (sym e ∙ t)) ∙ so_far

pub link_not : (k : List ℕ) (at expression count i : ℕ) (total : Option ℕ) (b : Bool) → i < count → b ≡ is_valid_link_at k at expression → b ≡ false
    → first_bad_link k at expression (count - i) ≡ total → Some at ≡ total
unfolding first_bad_link
link_not k at expression count i total b lt e t so_far =
    let n : count - i ≡ suc (count - (i + 1)) = omega arith in
    sym (ap (first_bad_link k at expression) n ∙ cond-false (is_valid_link_at k at expression) (first_bad_link k (at + 2) (expression + 2) (count - (i + 1))) (Some at) (sym e ∙ t)) ∙ so_far

pub links_end : (k : List ℕ) (at expression count i : ℕ) (total : Option ℕ) → count ≤ i → first_bad_link k at expression (count - i) ≡ total → None ≡ total
unfolding first_bad_link
links_end k at expression count i total le so_far = let n : count - i ≡ 0 = omega arith in sym (ap (first_bad_link k at expression) n) ∙ so_far
