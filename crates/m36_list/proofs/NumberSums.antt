-- The sum of an expression of one number, by the definitions of the assembler.
use Rattle.std.proofs.Common.{ℕ, ◌≡◌, ◌+◌, ◌-◌, ◌*◌, ◌/◌, ◌%◌, ◌^◌, ◌<◌, ◌≤◌, Bool, true, false, List, [], ◌∷◌, Option, Some, None, refl, sym, ◌∙◌, arith}
use Rattle.std.proofs.lemmas.Bool.{le-leb}
use Rattle.m36_inst.specs.Fields.{InstFields}
use Rattle.alm_tokens.specs.declared.span.Span.{Span}
use Rattle.alm_tokens.specs.declared.expression.Atom.TheVariants.{Number}
use Rattle.alm_tokens.specs.declared.expression.Term.{Term}
use Rattle.alm_lines.specs.declared.sum.Sum.{Sum}
use Rattle.alm_lines.specs.declared.sum.Kind.TheVariants.{Absolute}
use Rattle.alm_lines.specs.SpotFields.{LocationCounter}
use Rattle.alm_lines.specs.Sums.{balance, zero_balance, half_of, offset_of, absolute, sum_plus, negated_sum, kind_of}
use Rattle.alm_lines.specs.Expressions.{term_sum, with_terms, sum_of, is_undefined, first_undefined_place}
use Rattle.alm_lines.specs.Refusals.{fits_field}
use Rattle.alm_asm.specs.LineRefusals.{internal_operand_field}
use Rattle.alm_asm.specs.Words.{internal_instruction}

abbrev pub number_term : Bool → ℕ → Span → Term
number_term minus v span = record { what = Number v; span = span; minus = minus }

-- a number that is added, and one that is subtracted
abbrev pub number_sum : Bool → ℕ → Sum
number_sum false v = absolute v
number_sum true v = record { value = balance 0 v; text = zero_balance; inner = zero_balance; outer = zero_balance; unknown = false }

pub sum_is : (text : List ℕ) (symbols : List (List ℕ × Sum)) (spot : LocationCounter) (minus : Bool) (v : ℕ) (span : Span) → sum_of text symbols spot (number_term minus v span ∷ []) ≡ number_sum minus v
unfolding with_terms term_sum sum_plus negated_sum
sum_is text symbols spot false v span =
    let same : 0 + v ≡ v = omega arith in
    λ k. record { value = balance (same k) 0; text = zero_balance; inner = zero_balance; outer = zero_balance; unknown = false }
sum_is text symbols spot true v span =
    let same : 0 + v ≡ v = omega arith in
    λ k. record { value = balance 0 (same k); text = zero_balance; inner = zero_balance; outer = zero_balance; unknown = false }

-- the sum is a number, and no symbol is missing
pub kind_is : (minus : Bool) (v : ℕ) → kind_of (number_sum minus v) ≡ Absolute
unfolding kind_of
kind_is false v = refl
kind_is true v = refl

pub known_is : (minus : Bool) (v : ℕ) → (number_sum minus v).unknown ≡ false
known_is false v = refl
known_is true v = refl

pub none_missing : (text : List ℕ) (symbols : List (List ℕ × Sum)) (minus : Bool) (v : ℕ) (span : Span) → first_undefined_place text symbols (number_term minus v span ∷ []) ≡ None
unfolding first_undefined_place is_undefined
none_missing text symbols minus v span = refl

-- an expression of one number, alone or relative to a pointer register, that is the address of an
-- instruction and fits
pub record GivesAddress (pr : Option ℕ) (minus : Bool) (v : ℕ) (i : InstFields) : Type 0 where
  pub back : (code : ℕ) (bit27 : Bool) (tag : ℕ) → internal_instruction code bit27 pr (half_of (number_sum minus v).value) (offset_of (number_sum minus v).value) tag ≡ record { y = i.y; code = code % 2 ^ 9; bit27 = bit27; inhibit = false; by_pr = i.by_pr; tag = tag % 2 ^ 6 }
  pub room : fits_field (internal_operand_field pr) (number_sum minus v).value ≡ true

half_is : (v : ℕ) → v < 2 ^ 18 → half_of (number_sum false v).value ≡ v
unfolding half_of
half_is v fits = omega arith

pub gives_plain : (v : ℕ) (i : InstFields) → v < 2 ^ 18 → i.y ≡ v → i.by_pr ≡ false → GivesAddress None false v i
gives_plain v i fits same off =
    let y_back : half_of (number_sum false v).value ≡ i.y = half_is v fits ∙ sym same in
    let off_back = sym off in
    record {
      back = λ code bit27 tag. λ k. record { y = y_back k; code = code % 2 ^ 9; bit27 = bit27; inhibit = false; by_pr = off_back k; tag = tag % 2 ^ 6 };
      room = rw (le-leb (0 - v) 131072 (omega arith), le-leb (v - 0) 262143 (omega arith)) refl;
    }

-- the offset after a pointer register, from -16384 to 16383
pub record GivesOffset (minus : Bool) (v offset : ℕ) : Type 0 where
  pub back : offset_of (number_sum minus v).value ≡ offset
  pub low : (number_sum minus v).value.down - (number_sum minus v).value.up ≤ 16384
  pub high : (number_sum minus v).value.up - (number_sum minus v).value.down ≤ 16383

pub gives_added : (offset : ℕ) → offset < 2 ^ 14 → GivesOffset false offset offset
unfolding offset_of
gives_added offset low = record { back = omega arith; low = omega arith; high = omega arith }

pub gives_taken : (offset : ℕ) → 2 ^ 14 ≤ offset → offset < 2 ^ 15 → GivesOffset true (2 ^ 15 - offset) offset
unfolding offset_of
gives_taken offset high fits = record { back = omega arith; low = omega arith; high = omega arith }

pub gives_through : (minus : Bool) (v : ℕ) (i : InstFields) → i.y < 2 ^ 18 → i.by_pr ≡ true → GivesOffset minus v (i.y % 2 ^ 15) → GivesAddress (Some (i.y / 2 ^ 15)) minus v i
gives_through minus v i fits on offset =
    let same = offset.back in
    let y_back : i.y / 2 ^ 15 % 2 ^ 3 * 2 ^ 15 + offset_of (number_sum minus v).value ≡ i.y = rw (same) (omega arith) in
    let on_back = sym on in
    record {
      back = λ code bit27 tag. λ k. record { y = y_back k; code = code % 2 ^ 9; bit27 = bit27; inhibit = false; by_pr = on_back k; tag = tag % 2 ^ 6 };
      room = rw (le-leb ((number_sum minus v).value.down - (number_sum minus v).value.up) 16384 offset.low, le-leb ((number_sum minus v).value.up - (number_sum minus v).value.down) 16383 offset.high) refl;
    }
