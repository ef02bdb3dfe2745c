-- The result of reading is the object of the list.
use Rattle.std.proofs.Common.{ℕ, ◌≡◌, Bool, true, false, cond, ◌&&◌, List, Option, Some, None, Ok, Err, refl, sym, ap, subst, ◌∙◌}
use Rattle.std.proofs.lemmas.Bool.{cond-true, cond-false, and_parts, and_from, and_left, and_right}
use Rattle.obj36_parts.specs.Names.{same}
use Rattle.obj36_parts.specs.PartsFields.{PartsFields}
use Rattle.obj36_parts.specs.ObjectSegment.{words_of, is_well_formed, Encodes}
use Rattle.obj36_read.specs.Reading.{parts_of}
use Rattle.obj36_parts.proofs.SizeLaws.{same_is, same_self}
use Rattle.obj36.specs.Faults.{length_or_map_fault, first_fault, IsValueOf}
use Rattle.obj36.proofs.ReadingBack.{stands_back}
use Rattle.obj36.proofs.ReaderLaws.{outline_stands}
use Rattle.obj36.specs.ObjectOf.{encoded_parts, parts_or_fault, object_of, IsObjectOf}
use Rattle.obj36.specs.declared.fault.ObjectFault.{ObjectFault}
use Rattle.obj36.specs.declared.fault.ObjectFault.TheVariants.{O1, O2, O3, O4, O5, O6, O7, O8, NoMemory}

pub no_value_of : (words : List ℕ) (parts : PartsFields) (b : Bool) → parts ≡ parts_of words → b ≡ is_well_formed parts → b ≡ false → None ≡ encoded_parts words
unfolding encoded_parts
no_value_of words parts b e f bad =
    sym (cond-false (is_well_formed (parts_of words) && same (words_of (parts_of words)) words) (Some (parts_of words)) None
    (and_left (is_well_formed (parts_of words)) (same (words_of (parts_of words)) words) (ap is_well_formed (sym e) ∙ sym f ∙ bad)))

other_value : (words written : List ℕ) (parts : PartsFields) (b : Bool) → parts ≡ parts_of words → Encodes parts written → b ≡ same written words → b ≡ false → None ≡ encoded_parts words
unfolding encoded_parts
other_value words written parts b e t f other =
    sym (cond-false (is_well_formed (parts_of words) && same (words_of (parts_of words)) words) (Some (parts_of words)) None
    (and_right (is_well_formed (parts_of words)) (same (words_of (parts_of words)) words)
    (ap (λ (p : PartsFields). same (words_of p) words) (sym e) ∙ ap (λ (ws : List ℕ). same ws words) (sym t.spelled) ∙ sym f ∙ other)))

pub outline_value : (words : List ℕ) (f : ObjectFault) → Some f ≡ length_or_map_fault words → None ≡ encoded_parts words
unfolding encoded_parts
outline_value words f e = by (is_well_formed (parts_of words) && same (words_of (parts_of words)) words) refl
  where
    by : (b : Bool) → (is_well_formed (parts_of words) && same (words_of (parts_of words)) words) ≡ b → None ≡ cond b (Some (parts_of words)) None
    by false g = refl
    by true g =
        let both = and_parts (is_well_formed (parts_of words)) (same (words_of (parts_of words)) words) g in
        absurd (outline_stands words f e (parts_of words) (record { formed = both.0; spelled = sym (same_is (words_of (parts_of words)) words both.1) }))

own_value : (words written : List ℕ) (parts : PartsFields) (b : Bool) → parts ≡ parts_of words → Encodes parts written → b ≡ same written words → b ≡ true → Some parts ≡ encoded_parts words
unfolding encoded_parts
own_value words written parts b e t f alike =
    ap Some e
    ∙ sym (cond-true (is_well_formed (parts_of words) && same (words_of (parts_of words)) words) (Some (parts_of words)) None
    (and_from (is_well_formed (parts_of words)) (same (words_of (parts_of words)) words) (ap is_well_formed (sym e) ∙ t.formed)
    (ap (λ (p : PartsFields). same (words_of p) words) (sym e) ∙ ap (λ (ws : List ℕ). same ws words) (sym t.spelled) ∙ sym f ∙ alike)))

-- the cases of whether the list encodes its parts
pub value_by : (words written : List ℕ) (parts : PartsFields) (b : Bool) → parts ≡ parts_of words → Encodes parts written → b ≡ same written words → cond b (Some parts) None ≡ encoded_parts words
value_by words written parts true e t f = own_value words written parts true e t f refl
value_by words written parts false e t f = other_value words written parts false e t f refl

-- the parts of a list that encodes some
stands_value : (words : List ℕ) (p : PartsFields) → Encodes p words → Some p ≡ encoded_parts words
stands_value words p s =
    own_value words (words_of p) p true (sym (stands_back p words s)) (record { formed = s.formed; spelled = refl })
    (sym (ap (λ (ws : List ℕ). same (words_of p) ws) s.spelled ∙ same_self (words_of p))) refl

pub found_by_value : (words : List ℕ) (found : Option PartsFields) → found ≡ encoded_parts words → IsValueOf words found
unfolding encoded_parts
found_by_value words found e = by (is_well_formed (parts_of words) && same (words_of (parts_of words)) words) refl found e
  where
    no_value : (words : List ℕ) → (is_well_formed (parts_of words) && same (words_of (parts_of words)) words) ≡ false → (p : PartsFields) → Some p ≡ encoded_parts words → ⊥
    no_value words g p e =
        let none : Some p ≡ None = e ∙ ap (λ (b : Bool). cond b (Some (parts_of words)) None) g in
        absurd cc

    by : (b : Bool) → (is_well_formed (parts_of words) && same (words_of (parts_of words)) words) ≡ b → (found : Option PartsFields) → found ≡ cond b (Some (parts_of words)) None → IsValueOf words found
    by true g found e =
        let both = and_parts (is_well_formed (parts_of words)) (same (words_of (parts_of words)) words) g in
        subst (IsValueOf words) (sym e) (record { formed = both.0; spelled = sym (same_is (words_of (parts_of words)) words both.1) })
    by false g found e =
        subst (IsValueOf words) (sym e) (λ p s. absurd (no_value words g p (stands_value words p s)))

pub object_there : (words : List ℕ) (parts : PartsFields) → Some parts ≡ encoded_parts words → IsObjectOf words (Ok parts)
unfolding object_of
object_there words parts e = ap (λ (v : Option PartsFields). parts_or_fault v (first_fault words)) (sym e)

fault_is : (words : List ℕ) (f : ObjectFault) → f ≡ first_fault words → None ≡ encoded_parts words → object_of words ≡ Err f
unfolding object_of
fault_is words f e none = ap (λ (v : Option PartsFields). parts_or_fault v (first_fault words)) (sym none) ∙ ap Err (sym e)

pub object_refused : (words : List ℕ) (f : ObjectFault) → f ≡ first_fault words → None ≡ encoded_parts words → IsObjectOf words (Err f)
object_refused words (O1 place) e none = fault_is words (O1 place) e none
object_refused words (O2 place) e none = fault_is words (O2 place) e none
object_refused words (O3 place) e none = fault_is words (O3 place) e none
object_refused words (O4 place) e none = fault_is words (O4 place) e none
object_refused words (O5 place) e none = fault_is words (O5 place) e none
object_refused words (O6 place) e none = fault_is words (O6 place) e none
object_refused words (O7 place) e none = fault_is words (O7 place) e none
object_refused words (O8 place) e none = fault_is words (O8 place) e none
object_refused words NoMemory e none = tt
