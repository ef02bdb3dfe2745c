-- Sums of terms: numbers, and how often the places of each section count in them.
use Rattle.std.specs.Prelude.{ℕ, ◌≤◌, ◌+◌, ◌-◌, ◌%◌, ◌^◌, Bool, true, false, ◌&&◌, ◌||◌, nat_eq}
use Rattle.std.specs.Prelude.{nat_lt, nat_le, if◌then◌else◌}
use Rattle.obj36_parts.specs.declared.section.Section.TheVariants.{Text, Linkage, Static}
use Rattle.alm_lines.specs.declared.sum.Balance.{Balance}
use Rattle.alm_lines.specs.declared.sum.Sum.{Sum}
use Rattle.alm_lines.specs.declared.sum.Kind.{Kind}
use Rattle.alm_lines.specs.declared.sum.Kind.TheVariants.{Absolute, Moved, Inexpressible}

-- ---- integers, as differences of natural numbers

-- the integer `up` - `down`
abbrev pub balance : ℕ → ℕ → Balance
balance up down = record { up = up; down = down }

-- the integer 0
abbrev pub zero_balance : Balance
zero_balance = record { up = 0; down = 0 }

-- the sum of two integers
abbrev pub balance_plus : Balance → Balance → Balance
balance_plus a b = record { up = a.up + b.up; down = a.down + b.down }

-- the negative of an integer
abbrev pub negated : Balance → Balance
negated b = record { up = b.down; down = b.up }

-- whether the integer is 0
abbrev pub is_zero : Balance → Bool
is_zero b = nat_eq b.up b.down

-- whether the integer is 1
abbrev pub is_one : Balance → Bool
is_one b = nat_lt b.down b.up && nat_eq (b.up - b.down) 1

-- whether the integer is from -`low` to `high`
abbrev pub is_within : ℕ → ℕ → Balance → Bool
is_within low high b = nat_le (b.down - b.up) low && nat_le (b.up - b.down) high

-- the integer modulo m
abbrev pub balance_modulo : ℕ → Balance → ℕ
balance_modulo m b = (b.up % m + (m - b.down % m)) % m

-- the integer modulo 2^18
unfoldable pub half_of : Balance → ℕ
half_of b = balance_modulo (2 ^ 18) b

-- the integer modulo 2^15
unfoldable pub offset_of : Balance → ℕ
offset_of b = balance_modulo (2 ^ 15) b

-- the same integer, with the lesser of `up` and `down` reduced to 0
abbrev pub normalized : Balance → Balance
normalized b = record { up = b.up - b.down; down = b.down - b.up }

-- ---- sums

-- the sum that is the number n
abbrev pub absolute : ℕ → Sum
absolute n =
    record {
      value = balance n 0;
      text = zero_balance;
      inner = zero_balance;
      outer = zero_balance;
      unknown = false;
    }

-- the sum that is 0
abbrev pub zero_sum : Sum
zero_sum = absolute 0

-- the sum of the symbol of a refused `equ`; a sum that depends on it is unknown too
abbrev pub unknown_sum : Sum
unknown_sum = record zero_sum { unknown = true }

-- the sum of two sums
unfoldable pub sum_plus : Sum → Sum → Sum
sum_plus a b =
    record {
      value = balance_plus a.value b.value;
      text = balance_plus a.text b.text;
      inner = balance_plus a.inner b.inner;
      outer = balance_plus a.outer b.outer;
      unknown = a.unknown || b.unknown;
    }

-- the negative of a sum
unfoldable pub negated_sum : Sum → Sum
negated_sum a =
    record {
      value = negated a.value;
      text = negated a.text;
      inner = negated a.inner;
      outer = negated a.outer;
      unknown = a.unknown;
    }

-- What a sum is: a number, if no section counts in it; a place of a section, if this counts once
-- and no other; and otherwise something that an object cannot express.
unfoldable pub kind_of : Sum → Kind
kind_of s =
    if is_zero s.text && is_zero s.inner && is_zero s.outer
    then Absolute
    else (if is_one s.text && is_zero s.inner && is_zero s.outer
    then Moved Text
    else (if is_zero s.text && is_one s.inner && is_zero s.outer
    then Moved Linkage
    else (if is_zero s.text && is_zero s.inner && is_one s.outer then Moved Static else
    Inexpressible)))

-- ---- bounds of sums

-- Each part of the sum is at most `most`.
pub record IsAtMost (most : ℕ) (s : Sum) : Type 0 where
  pub value_up : s.value.up ≤ most
  pub value_down : s.value.down ≤ most
  pub text_up : s.text.up ≤ most
  pub text_down : s.text.down ≤ most
  pub inner_up : s.inner.up ≤ most
  pub inner_down : s.inner.down ≤ most
  pub outer_up : s.outer.up ≤ most
  pub outer_down : s.outer.down ≤ most

-- Each part of the sum of one term is less than 2^96, since fewer than 2^32 lines place fewer than
-- 2^64 words each.
abbrev pub IsTerm : Sum → Type 0
IsTerm s = IsAtMost (2 ^ 96 - 1) s
