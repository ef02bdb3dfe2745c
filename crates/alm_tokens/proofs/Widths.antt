-- The numbers of a line are within their ranges.
use Rattle.std.proofs.Common.{◌≡◌, ℕ, ◌+◌, ◌-◌, ◌<◌, ◌≤◌, ◌&&◌, ◌==◌, Bool, true, false, cond, List, [], ◌∷◌, length, take, Option, Some, None, Ok, Err, refl, arith, leb}
use Rattle.std.specs.Prelude.{IfSome, option_map, slice_index, nat_lt}
use Rattle.std.proofs.lemmas.Bool.{and_parts, leb-true, ltb-true}
use Rattle.std.specs.List.{list_all}
use Rattle.std.specs.Result.{result_ok}
use Rattle.m36_text.specs.Reading.{number_read, parsed_number, first_non_digit, number_of}
use Rattle.m36_text.specs.Numbers.{octal_in}
use Rattle.m36_text.specs.declared.reading.NumberFault.TheVariants.{T2}
use Rattle.alm_tokens.specs.declared.expression.Atom.TheVariants.{Number, Symbol, Here}
use Rattle.alm_tokens.specs.Tokens.{is_text, greatest_number, parsed_expression_number, number_or_zero}
use Rattle.alm_tokens.specs.Numerals.{is_number}
use Rattle.alm_tokens.specs.Expressions.{is_current_place, atom_of, IsSmall}
use Rattle.std.specs.Option.{option_or}
use Rattle.alm_tokens.specs.Modifiers.{NumberedName, without_x, register_tag, pr_number_by_digit, pr_number_by_name, pr_number, single_tag, indirect_first_modifier, indirect_last_modifier, tag_of, registers, pointer_registers, single_name_tags, number_of_name}

abbrev pub Below : ℕ → Option ℕ → Type 0
Below bound o = IfSome o (λ n. n < bound)

chosen_below : (bound : ℕ) (b : Bool) (n : ℕ) (o : Option ℕ) → n < bound → Below bound o → Below bound (cond b (Some n) o)
chosen_below bound true n o h k = h
chosen_below bound false n o h k = k

or_below : (bound : ℕ) (a b : Option ℕ) → Below bound a → Below bound b → Below bound (option_or a b)
or_below bound (Some n) b h k = h
or_below bound None b h k = k

plus_below : (bound more : ℕ) (o : Option ℕ) → Below bound o → Below (more + bound) (option_map (λ n. more + n) o)
plus_below bound more (Some n) h = omega (arith, h)
plus_below bound more None h = tt

cond_below : (bound : ℕ) (b : Bool) (o : Option ℕ) → Below bound o → Below bound (cond b o None)
cond_below bound true o h = h
cond_below bound false o h = tt

fits_below : (b : Bool) (v : ℕ) → leb v 7 ≡ b → Below 8 (result_ok (cond b (Ok v) (Err T2)))
fits_below true v e =
    let high : v ≤ 7 = leb-true v 7 e in
    omega (arith, high)
fits_below false v e = tt

judged_below : (o : Option ℕ) (v : ℕ) → Below 8 (result_ok (parsed_number o v 7))
judged_below (Some place) v = tt
judged_below None v = fits_below (leb v 7) v refl

digit_below : (bytes : List ℕ) → Below 8 (octal_in 1 bytes)
unfolding octal_in number_read
digit_below [] = tt
digit_below (d ∷ rest) =
    cond_below 8 (length (d ∷ rest) == 1) (result_ok (parsed_number (first_non_digit 8 (d ∷ rest)) (number_of 8 (d ∷ rest)) 7)) (judged_below (first_non_digit 8 (d ∷ rest)) (number_of 8 (d ∷ rest)))

-- a table whose numbers are all below a bound
beside_below :
    (bound : ℕ) (rows : List NumberedName) (bytes : List ℕ) → list_all (λ row. nat_lt row.number bound) rows ≡ true
    → Below bound (number_of_name rows bytes)
beside_below bound [] bytes e = tt
beside_below bound (row ∷ rows) bytes e =
    let separates = and_parts (nat_lt row.number bound) (list_all (λ row. nat_lt row.number bound) rows) e in
    chosen_below bound (is_text row.name bytes) row.number (number_of_name rows bytes) (ltb-true row.number bound separates.0) (beside_below bound rows bytes separates.1)

wider : (low high : ℕ) (o : Option ℕ) → low ≤ high → Below low o → Below high o
wider low high (Some n) order h = omega (arith, order, h)
wider low high None order h = tt

register_below : (bytes : List ℕ) → Below 16 (register_tag bytes)
unfolding register_tag
register_below bytes =
    or_below 16 (number_of_name registers bytes) (option_map (λ n. 8 + n) (octal_in 1 (without_x bytes))) (wider 8 16 (number_of_name registers bytes) (omega arith) (beside_below 8 registers bytes refl)) (plus_below 8 8 (octal_in 1 (without_x bytes)) (digit_below (without_x bytes)))

pr_digit_below : (bytes : List ℕ) → Below 8 (pr_number_by_digit bytes)
pr_digit_below [] = tt
pr_digit_below (p ∷ []) = tt
pr_digit_below (p ∷ r ∷ rest) = cond_below 8 ((p == 112) && (r == 114)) (octal_in 1 rest) (digit_below rest)

pr_name_below : (bytes : List ℕ) → Below 8 (pr_number_by_name bytes)
unfolding pr_number_by_name
pr_name_below bytes = beside_below 8 pointer_registers bytes refl

pub pr_below : (bytes : List ℕ) → Below 8 (pr_number bytes)
unfolding pr_number
pr_below bytes = or_below 8 (pr_number_by_digit bytes) (pr_number_by_name bytes) (pr_digit_below bytes) (pr_name_below bytes)

single_below : (bytes : List ℕ) → Below 64 (single_tag bytes)
unfolding single_tag
single_below bytes = beside_below 64 single_name_tags bytes refl

first_below : (bytes : List ℕ) → Below 64 (indirect_first_modifier bytes)
first_below [] = tt
first_below (b ∷ rest) =
    cond_below 64 (b == 42) (option_map (λ n. 48 + n) (register_tag rest)) (plus_below 16 48 (register_tag rest) (register_below rest))

last_below : (bytes : List ℕ) → Below 64 (indirect_last_modifier bytes)
last_below bytes =
    let register = register_tag (take (length bytes - 1) bytes) in
    cond_below 64 (slice_index bytes (length bytes - 1) == 42) (option_map (λ n. 16 + n) register) (wider 32 64 (option_map (λ n. 16 + n) register) (omega arith) (plus_below 16 16 register (register_below (take (length bytes - 1) bytes))))

pub tag_below : (bytes : List ℕ) → Below 64 (tag_of bytes)
unfolding tag_of
tag_below bytes =
    or_below 64 (single_tag bytes) (option_or (register_tag bytes) (option_or (indirect_first_modifier bytes) (indirect_last_modifier bytes))) (single_below bytes) (or_below 64 (register_tag bytes) (option_or (indirect_first_modifier bytes) (indirect_last_modifier bytes)) (wider 16 64 (register_tag bytes) (omega arith) (register_below bytes)) (or_below 64 (indirect_first_modifier bytes) (indirect_last_modifier bytes) (first_below bytes) (last_below bytes)))

-- numbers of expressions
over_by : (b : Bool) (v max : ℕ) → leb v max ≡ b → number_or_zero (cond b (Ok v) (Err T2)) ≤ max
over_by true v max e = leb-true v max e
over_by false v max e = omega arith

judged_by : (o : Option ℕ) (v max : ℕ) → number_or_zero (parsed_number o v max) ≤ max
judged_by (Some place) v max = omega arith
judged_by None v max = over_by (leb v max) v max refl

small_below : (bytes : List ℕ) → number_or_zero (parsed_expression_number bytes) ≤ greatest_number
unfolding number_read
small_below [] = omega arith
small_below (b ∷ bytes) = judged_by (first_non_digit 10 (b ∷ bytes)) (number_of 10 (b ∷ bytes)) greatest_number

atom_by : (b c : Bool) (n : ℕ) → n ≤ greatest_number → IsSmall (cond b Here (cond c (Number n) Symbol))
atom_by true c n h = tt
atom_by false true n h = h
atom_by false false n h = tt

pub atom_small : (bytes : List ℕ) → IsSmall (atom_of bytes)
unfolding atom_of
atom_small bytes = atom_by (is_current_place bytes) (is_number bytes) (number_or_zero (parsed_expression_number bytes)) (small_below bytes)
