-- The rows of each block of 64 codes are those of the table. Each block is computed, and then
-- looked up.
use Rattle.std.proofs.Common.{◌≡◌, ℕ, ◌*◌, ◌/◌, ◌%◌, ◌==◌, ◌&&◌, refl, sym, ap, ◌∙◌, true, false, None, Bool, List, [], ◌∷◌, Option, slice_index_or, map, arith}
use Rattle.std.specs.Prelude.{option_map}
use Rattle.std.specs.List.{find, filter, list_all, range_with_len}
use Rattle.std.proofs.lemmas.Bool.{and_parts, and_from, eqb-true, eq-eqb}
use Rattle.std.proofs.lemmas.List.FromFn.{get_or-map-range_with_len}
use Rattle.m36_inst.specs.Lookup.{entry_at, has_code, same_bit}
use Rattle.m36_inst.specs.Named.{named_row_at, named_of, block}
use Rattle.m36_inst.specs.Table.{Entry, table}
use Rattle.m36_inst.specs.declared.rows.Named.{Named}
use Rattle.m36_inst.specs.declared.codes.below_400.TheConstants.{ROWS_000, ROWS_100, ROWS_200, ROWS_300}
use Rattle.m36_inst.proofs.Halves.{found_in_part}
use Rattle.m36_inst.specs.declared.codes.from_400.TheConstants.{ROWS_400, ROWS_500, ROWS_600, ROWS_700}
use Rattle.m36_inst.specs.declared.codes.bit_27.TheConstants.{ROWS_000_ON, ROWS_100_ON, ROWS_200_ON, ROWS_300_ON, ROWS_400_ON, ROWS_500_ON, ROWS_600_ON, ROWS_700_ON}

-- a code of nine bits is found in its block
pub in_block : (bit27 : Bool) (rows : List (Option Named)) (code : ℕ) → rows ≡ block bit27 (64 * (code / 64)) → slice_index_or rows (code % 64) None ≡ named_row_at bit27 code
unfolding block
in_block bit27 rows code same =
    ap (λ r. slice_index_or r (code % 64) None) same ∙ get_or-map-range_with_len (named_row_at bit27) (64 * (code / 64)) 64 (code % 64) code None (omega arith) (omega arith)

-- the entries of a block are enough to compute the rows of its codes
abbrev in_part : Bool → ℕ → Entry → Bool
in_part bit27 high e = (e.code / 64 == high) && same_bit e.bit27 bit27

abbrev part_of : Bool → ℕ → List Entry
part_of bit27 high = filter (in_part bit27 high) table

abbrev placed_in : List Entry → Bool → ℕ → Option Named
placed_in part bit27 code = option_map named_of (find (has_code code bit27) part)

abbrev block_in : List Entry → Bool → ℕ → List (Option Named)
block_in part bit27 high = map (placed_in part bit27) (range_with_len (64 * high) 64)

abbrev are_of : ℕ → List ℕ → Bool
are_of high codes = list_all (λ code. code / 64 == high) codes

within : (bit27 : Bool) (high code : ℕ) → code / 64 ≡ high → (e : Entry) → has_code code bit27 e ≡ true → in_part bit27 high e ≡ true
within bit27 high code of e h =
    let parts = and_parts (e.code == code) (same_bit e.bit27 bit27) h in
    let same : e.code / 64 ≡ high = ap (λ c. c / 64) (eqb-true e.code code parts.0) ∙ of in
    and_from (e.code / 64 == high) (same_bit e.bit27 bit27) (eq-eqb (e.code / 64) high same) parts.1

placed : (bit27 : Bool) (high code : ℕ) → code / 64 ≡ high → named_row_at bit27 code ≡ placed_in (part_of bit27 high) bit27 code
unfolding entry_at
placed bit27 high code of =
    ap (λ (found : Option Entry). option_map named_of found) (found_in_part (has_code code bit27) (in_part bit27 high) table (within bit27 high code of))

all_placed : (bit27 : Bool) (high : ℕ) (codes : List ℕ) → are_of high codes ≡ true → map (named_row_at bit27) codes ≡ map (placed_in (part_of bit27 high) bit27) codes
all_placed bit27 high [] h = refl
all_placed bit27 high (code ∷ codes) h =
    let parts = and_parts (code / 64 == high) (are_of high codes) h in
    let here = placed bit27 high code (eqb-true (code / 64) high parts.0) in
    let later = all_placed bit27 high codes parts.1 in
    λ i. here i ∷ later i

is_block :
    (bit27 : Bool) (high : ℕ) (rows : List (Option Named)) → rows ≡ block_in (part_of bit27 high) bit27 high
    → are_of high (range_with_len (64 * high) 64) ≡ true → rows ≡ block bit27 (64 * high)
unfolding block
is_block bit27 high rows same of = same ∙ sym (all_placed bit27 high (range_with_len (64 * high) 64) of)

pub codes_000 : ROWS_000 ≡ block false 0o000
codes_000 = is_block false 0 ROWS_000 refl refl

pub codes_100 : ROWS_100 ≡ block false 0o100
codes_100 = is_block false 1 ROWS_100 refl refl

pub codes_200 : ROWS_200 ≡ block false 0o200
codes_200 = is_block false 2 ROWS_200 refl refl

pub codes_300 : ROWS_300 ≡ block false 0o300
codes_300 = is_block false 3 ROWS_300 refl refl

pub codes_400 : ROWS_400 ≡ block false 0o400
codes_400 = is_block false 4 ROWS_400 refl refl

pub codes_500 : ROWS_500 ≡ block false 0o500
codes_500 = is_block false 5 ROWS_500 refl refl

pub codes_600 : ROWS_600 ≡ block false 0o600
codes_600 = is_block false 6 ROWS_600 refl refl

pub codes_700 : ROWS_700 ≡ block false 0o700
codes_700 = is_block false 7 ROWS_700 refl refl

pub codes_000_on : ROWS_000_ON ≡ block true 0o000
codes_000_on = is_block true 0 ROWS_000_ON refl refl

pub codes_100_on : ROWS_100_ON ≡ block true 0o100
codes_100_on = is_block true 1 ROWS_100_ON refl refl

pub codes_200_on : ROWS_200_ON ≡ block true 0o200
codes_200_on = is_block true 2 ROWS_200_ON refl refl

pub codes_300_on : ROWS_300_ON ≡ block true 0o300
codes_300_on = is_block true 3 ROWS_300_ON refl refl

pub codes_400_on : ROWS_400_ON ≡ block true 0o400
codes_400_on = is_block true 4 ROWS_400_ON refl refl

pub codes_500_on : ROWS_500_ON ≡ block true 0o500
codes_500_on = is_block true 5 ROWS_500_ON refl refl

pub codes_600_on : ROWS_600_ON ≡ block true 0o600
codes_600_on = is_block true 6 ROWS_600_ON refl refl

pub codes_700_on : ROWS_700_ON ≡ block true 0o700
codes_700_on = is_block true 7 ROWS_700_ON refl refl
