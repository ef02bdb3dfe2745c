-- The meaning of the assembler's tags in the machine.
use Rattle.std.proofs.Common.{ℕ, zero, suc, ◌≡◌, ◌+◌, ◌/◌, ◌%◌, ◌<◌, ◌||◌, ◌==◌, Bool, true, false, List, [], ◌∷◌, ◌++◌, Option, Some, refl, sym, ap, ◌∙◌, arith}
use Rattle.std.specs.Prelude.{codes, option_map, slice_index}
use Rattle.std.proofs.lemmas.Bool.{eqb-true}
use Rattle.m36_text.specs.Digits.{digit_character}
use Rattle.m36_text.specs.Reading.{first_non_digit, number_of, number_read}
use Rattle.m36_text.specs.Numbers.{octal_in}
use Rattle.m36_model.specs.Registers.{RegsFields}
use Rattle.m36_model.specs.Tally.{is_tally_tag}
use Rattle.m36_model.specs.Modification.{Point, Counts, modifier_value, move_of_point, move_register, move_register_then_indirect, move_indirect_then_register}
use Rattle.alm_tokens.specs.Modifiers.{register_tag, star_tag, indirect_first_modifier}
use Rattle.m36_list.specs.Modifiers.{tally_tag}
use Rattle.m36_list.specs.Tags.{register_value_named, RegisterNamesSelect, TagsSelectModifications}

-- ---- names of registers

indexed : (g : RegsFields) (n : ℕ) → n < 8 → register_value_named g (codes "x" ++ digit_character n ∷ []) ≡ Some (slice_index g.x n)
unfolding register_tag modifier_value octal_in number_read first_non_digit number_of
indexed g zero low = refl
indexed g (suc zero) low = refl
indexed g (suc (suc zero)) low = refl
indexed g (suc (suc (suc zero))) low = refl
indexed g (suc (suc (suc (suc zero)))) low = refl
indexed g (suc (suc (suc (suc (suc zero))))) low = refl
indexed g (suc (suc (suc (suc (suc (suc zero)))))) low = refl
indexed g (suc (suc (suc (suc (suc (suc (suc zero))))))) low = refl
indexed g (suc (suc (suc (suc (suc (suc (suc (suc n)))))))) low = absurd (omega arith)

pub registers_mean : RegisterNamesSelect
unfolding register_tag modifier_value octal_in number_read first_non_digit number_of
registers_mean =
    record {
      none = λ g. refl;
      a_upper = λ g. refl;
      q_upper = λ g. refl;
      counter = λ g. refl;
      a_lower = λ g. refl;
      q_lower = λ g. refl;
      index = indexed;
      upper = refl;
      lower = refl;
    }

-- ---- tags: Tm is the tag divided by 16, and Td the remainder

by_register : (g : RegsFields) (p : Point) (n : ℕ) → n < 16 → p.tag ≡ n → move_of_point g p ≡ move_register g p n p.held
unfolding move_of_point
by_register g p n low e =
    let tm : p.tag / 16 ≡ 0 = omega arith in
    let td : p.tag % 16 ≡ n = omega arith in
    rw (tm, td) refl

star_behind : (g : RegsFields) (p : Point) (n : ℕ) → n < 16 → p.tag ≡ star_tag + n → move_of_point g p ≡ move_register_then_indirect g p n
unfolding move_of_point
star_behind g p n low e =
    let tm : p.tag / 16 ≡ 1 = omega arith in
    let td : p.tag % 16 ≡ n = omega arith in
    rw (tm, td) refl

first_is : (r : Option ℕ) (n tag : ℕ) → r ≡ Some n → option_map (λ (m : ℕ). 48 + m) r ≡ Some tag → tag ≡ 48 + n
first_is r n tag named e =
    let given : Some (48 + n) ≡ Some tag = ap (λ (o : Option ℕ). option_map (λ (m : ℕ). 48 + m) o) (sym named) ∙ e in
    cc

star_before :
    (g : RegsFields) (p : Point) (bytes : List ℕ) (n : ℕ) → n < 16 → register_tag bytes ≡ Some n → indirect_first_modifier (codes "*" ++ bytes) ≡ Some p.tag
    → move_of_point g p ≡ move_indirect_then_register g p n
unfolding move_of_point
star_before g p bytes n low named first =
    let e : p.tag ≡ 48 + n = first_is (register_tag bytes) n p.tag named first in
    let tm : p.tag / 16 ≡ 3 = omega arith in
    let td : p.tag % 16 ≡ n = omega arith in
    rw (tm, td) refl

counts_at : (td n : ℕ) (p : Point) → (td == n) ≡ true → p.tag ≡ tally_tag td → p.tag ≡ tally_tag n
counts_at td n p same e = e ∙ ap (λ (t : ℕ). tally_tag t) (eqb-true td n same)

counts_by :
    (g : RegsFields) (p : Point) (td : ℕ) (a b c d f : Bool) → (td == 4) ≡ a → (td == 9) ≡ b → (td == 11) ≡ c → (td == 12) ≡ d → (td == 14) ≡ f
    → (a || b || c || d || f) ≡ true → p.tag ≡ tally_tag td → move_of_point g p ≡ Counts
unfolding move_of_point
counts_by g p td true b c d f ea eb ec ed ef one e = let is : p.tag ≡ 36 = counts_at td 4 p ea e in rw is refl
counts_by g p td false true c d f ea eb ec ed ef one e = let is : p.tag ≡ 41 = counts_at td 9 p eb e in rw is refl
counts_by g p td false false true d f ea eb ec ed ef one e = let is : p.tag ≡ 43 = counts_at td 11 p ec e in rw is refl
counts_by g p td false false false true f ea eb ec ed ef one e = let is : p.tag ≡ 44 = counts_at td 12 p ed e in rw is refl
counts_by g p td false false false false true ea eb ec ed ef one e = let is : p.tag ≡ 46 = counts_at td 14 p ef e in rw is refl
counts_by g p td false false false false false ea eb ec ed ef one e = absurd (cc)

counts : (g : RegsFields) (p : Point) (td : ℕ) → is_tally_tag td ≡ true → p.tag ≡ tally_tag td → move_of_point g p ≡ Counts
counts g p td one e = counts_by g p td (td == 4) (td == 9) (td == 11) (td == 12) (td == 14) refl refl refl refl refl one e

pub tags_mean : TagsSelectModifications
tags_mean =
    record {
      register = by_register;
      behind = star_behind;
      before = star_before;
      alone = λ g p is. star_behind g p 0 (omega arith) is;
      tally = counts;
    }
