-- Lengths of texts.
use Rattle.std.proofs.Common.{ℕ, zero, suc, ◌%◌, ◌^◌, ◌<◌, ◌≤◌, Bool, true, false, cond, List, [], ◌∷◌, ◌++◌, length, arith}
use Rattle.std.specs.Prelude.{codes}
use Rattle.std.specs.Int.Digits.{digits_of}
use Rattle.std.proofs.lemmas.Int.Digits.{length-digits_of-le, length-digits_of_step}
use Rattle.std.proofs.lemmas.List.{length-map}
use Rattle.m36_text.specs.Digits.{digit_character, decimal_text}
use Rattle.m36_inst.specs.Fields.{InstFields}
use Rattle.m36_inst.specs.Instruction.{pr_number}
use Rattle.m36_list.specs.Disassembly.{signed_text, address_text}

-- a number of 18 bits has at most six decimal digits
pub short_decimal : (v : ℕ) → v < 2 ^ 18 → length (decimal_text v) ≤ 6
unfolding decimal_text
short_decimal zero fits = omega arith
short_decimal (suc v) fits =
    let digits = length-digits_of-le 10 6 (suc v) (omega arith) (omega arith) in
    let same = length-map (digits_of 10 (suc v)) digit_character in
    omega arith

-- a number has at least one digit, so an address is not empty
decimal_is_some : (v : ℕ) → 0 < length (decimal_text v)
unfolding decimal_text
decimal_is_some zero = omega arith
decimal_is_some (suc v) =
    let digits = length-digits_of_step 10 (suc v) (omega arith) (omega arith) in
    let same = length-map (digits_of 10 (suc v)) digit_character in
    omega arith

address_is_some_by : (i : InstFields) (b : Bool) (text : List ℕ) → 0 < length (cond b ((((codes "pr" ++ digit_character (pr_number i) ∷ []) ++ codes "|") ++ text)) (decimal_text i.y))
address_is_some_by i true text = omega arith
address_is_some_by i false text = decimal_is_some i.y

pub address_is_some : (i : InstFields) → 0 < length (address_text i)
address_is_some i = address_is_some_by i i.by_pr (signed_text (i.y % 2 ^ 15))
