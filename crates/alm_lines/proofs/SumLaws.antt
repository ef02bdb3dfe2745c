-- Bounds of sums.
use Rattle.std.proofs.Common.{◌≡◌, ℕ, ◌+◌, ◌-◌, ◌*◌, ◌^◌, ◌<◌, ◌≤◌, ◌&&◌, not, true, false, List, is_some, leb, arith}
use Rattle.std.proofs.lemmas.Bool.{and_parts, leb-true}
use Rattle.alm_tokens.specs.declared.expression.Term.{Term}
use Rattle.alm_lines.specs.Sums.{zero_sum, sum_plus, kind_of, IsAtMost, IsTerm}
use Rattle.alm_lines.specs.Expressions.{sum_of, first_undefined_place}
use Rattle.alm_lines.specs.Layout.{number_sum}
use Rattle.alm_lines.specs.Refusals.{fits_field, is_kind_allowed, is_expressible}
use Rattle.alm_lines.specs.Values.{has_value}
use Rattle.alm_lines.specs.declared.sum.Sum.{Sum}
use Rattle.alm_lines.specs.SpotFields.{LocationCounter}
use Rattle.alm_lines.specs.declared.refusal.ValueField.TheVariants.{Half}

-- of no terms
pub sum_begun : (terms left : ℕ) → IsAtMost ((terms - left) * (2 ^ 96 - 1)) zero_sum
sum_begun terms left =
    record {
      value_up = omega arith;
      value_down = omega arith;
      text_up = omega arith;
      text_down = omega arith;
      inner_up = omega arith;
      inner_down = omega arith;
      outer_up = omega arith;
      outer_down = omega arith;
    }

-- of a part of the terms, of which there are at most 2^32
pub sum_room : (terms left : ℕ) (s : Sum) → terms ≤ 2 ^ 32 → 0 < left → left ≤ terms → IsAtMost ((terms - left) * (2 ^ 96 - 1)) s → IsAtMost (2 ^ 128 - 2 ^ 96) s
sum_room terms left s few some within so =
    record {
      value_up = omega (arith, few, some, within, so.value_up);
      value_down = omega (arith, few, some, within, so.value_down);
      text_up = omega (arith, few, some, within, so.text_up);
      text_down = omega (arith, few, some, within, so.text_down);
      inner_up = omega (arith, few, some, within, so.inner_up);
      inner_down = omega (arith, few, some, within, so.inner_down);
      outer_up = omega (arith, few, some, within, so.outer_up);
      outer_down = omega (arith, few, some, within, so.outer_down);
    }

-- with one more term
pub sum_more : (terms left more : ℕ) (a b c : Sum) → left ≡ more + 1 → left ≤ terms → IsAtMost ((terms - left) * (2 ^ 96 - 1)) a → IsTerm b → c ≡ sum_plus a b
    → IsAtMost ((terms - more) * (2 ^ 96 - 1)) c
unfolding sum_plus
sum_more terms left more a b c e within so small is =
    rw is record {
      value_up = omega (arith, e, within, so.value_up, small.value_up);
      value_down = omega (arith, e, within, so.value_down, small.value_down);
      text_up = omega (arith, e, within, so.text_up, small.text_up);
      text_down = omega (arith, e, within, so.text_down, small.text_down);
      inner_up = omega (arith, e, within, so.inner_up, small.inner_up);
      inner_down = omega (arith, e, within, so.inner_down, small.inner_down);
      outer_up = omega (arith, e, within, so.outer_up, small.outer_up);
      outer_down = omega (arith, e, within, so.outer_down, small.outer_down);
    }

pub ruleset sums = (sum_begun, sum_room, sum_more)

-- the number of an expression with a value fits its field
pub valued_fits : (text : List ℕ) (symbols : List (List ℕ × Sum)) (spot : LocationCounter) (terms : List Term) → has_value text symbols spot terms Half false ≡ true
    → fits_field Half (sum_of text symbols spot terms).value ≡ true
unfolding has_value is_expressible
valued_fits text symbols spot terms e =
    let sum = sum_of text symbols spot terms in
    let said = and_parts (not (is_some (first_undefined_place text symbols terms)) && not sum.unknown) (is_expressible Half false sum) e in
    (and_parts (fits_field Half sum.value) (is_kind_allowed false (kind_of sum)) said.1).0

-- and is small
pub number_small : (s : Sum) → fits_field Half s.value ≡ true → IsTerm (number_sum s)
number_small s e =
    let room = and_parts (leb (s.value.down - s.value.up) 131072) (leb (s.value.up - s.value.down) 262143) e in
    let low : s.value.down - s.value.up ≤ 131072 = leb-true (s.value.down - s.value.up) 131072 room.0 in
    let high : s.value.up - s.value.down ≤ 262143 = leb-true (s.value.up - s.value.down) 262143 room.1 in
    record {
      value_up = omega (arith, high);
      value_down = omega (arith, low);
      text_up = omega arith;
      text_down = omega arith;
      inner_up = omega arith;
      inner_down = omega arith;
      outer_up = omega arith;
      outer_down = omega arith;
    }
