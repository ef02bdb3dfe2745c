-- The rows of the quick table are those of the table. Each part is computed, and then looked up.
use Rattle.std.proofs.Common.{◌≡◌, ℕ, ◌*◌, ◌/◌, ◌%◌, ◌^◌, ◌==◌, lit<, Some, None, refl, subst, sym, ap, ◌∙◌, true, Bool, List, [], ◌∷◌, Option, slice_index_or, map, arith}
use Rattle.std.specs.Prelude.{option_map}
use Rattle.std.specs.List.{find, filter, list_all, range_with_len}
use Rattle.std.proofs.lemmas.Bool.{and_parts, eqb-true, eq-eqb}
use Rattle.std.proofs.lemmas.List.FromFn.{get_or-map-range_with_len}
use Rattle.m36_inst.specs.Instruction.{inst_of}
use Rattle.m36_inst.specs.Lookup.{entry_at, has_code, same_bit, row_of, row_at}
use Rattle.m36_inst.specs.Quick.{quick_of, quick_at, quick_part, quick_table, quick_row_of, IsQuick}
use Rattle.m36_inst.specs.Table.{Entry, table}
use Rattle.m36_inst.specs.declared.rows.Quick.{Quick}
use Rattle.m36_inst.specs.declared.rows.Row.{Row}
use Rattle.m36_inst.specs.declared.codes.quick.TheConstants.{QUICK, QUICK_000, QUICK_100, QUICK_200, QUICK_300, QUICK_400, QUICK_500, QUICK_600, QUICK_700}
use Rattle.m36_inst.proofs.Halves.{found_in_part}
use Rattle.m36_inst.proofs.OneToOne.{rows_fit}

-- the entries of a part are enough to compute its rows
abbrev in_part : ℕ → Entry → Bool
in_part high e = e.code / 64 == high

abbrev part_of : ℕ → List Entry
part_of high = filter (in_part high) table

abbrev row_in : List Entry → ℕ → Quick
row_in part place = quick_of (option_map (λ e. row_of e.effect e.reg) (find (has_code (place / 2) (place % 2 == 1)) part))

abbrev rows_in : List Entry → ℕ → List Quick
rows_in part high = map (row_in part) (range_with_len (128 * high) 128)

abbrev are_of : ℕ → List ℕ → Bool
are_of high places = list_all (λ place. place / 128 == high) places

within : (high place : ℕ) → place / 128 ≡ high → (e : Entry) → has_code (place / 2) (place % 2 == 1) e ≡ true → in_part high e ≡ true
within high place of e h =
    let code : e.code ≡ place / 2 = eqb-true e.code (place / 2) (and_parts (e.code == place / 2) (same_bit e.bit27 (place % 2 == 1)) h).0 in
    eq-eqb (e.code / 64) high (omega arith)

placed : (high place : ℕ) → place / 128 ≡ high → quick_at place ≡ row_in (part_of high) place
unfolding entry_at
placed high place of =
    ap (λ (found : Option Entry). quick_of (option_map (λ e. row_of e.effect e.reg) found)) (found_in_part (has_code (place / 2) (place % 2 == 1)) (in_part high) table (within high place of))

all_placed : (high : ℕ) (places : List ℕ) → are_of high places ≡ true → map quick_at places ≡ map (row_in (part_of high)) places
all_placed high [] h = refl
all_placed high (place ∷ places) h =
    let parts = and_parts (place / 128 == high) (are_of high places) h in
    let here = placed high place (eqb-true (place / 128) high parts.0) in
    let later = all_placed high places parts.1 in
    λ i. here i ∷ later i

is_part : (high : ℕ) (rows : List Quick) → rows ≡ rows_in (part_of high) high → are_of high (range_with_len (128 * high) 128) ≡ true → rows ≡ quick_part high
unfolding quick_part
is_part high rows same of = same ∙ sym (all_placed high (range_with_len (128 * high) 128) of)

part_000 : QUICK_000 ≡ quick_part 0
part_000 = is_part 0 QUICK_000 refl refl

part_100 : QUICK_100 ≡ quick_part 1
part_100 = is_part 1 QUICK_100 refl refl

part_200 : QUICK_200 ≡ quick_part 2
part_200 = is_part 2 QUICK_200 refl refl

part_300 : QUICK_300 ≡ quick_part 3
part_300 = is_part 3 QUICK_300 refl refl

part_400 : QUICK_400 ≡ quick_part 4
part_400 = is_part 4 QUICK_400 refl refl

part_500 : QUICK_500 ≡ quick_part 5
part_500 = is_part 5 QUICK_500 refl refl

part_600 : QUICK_600 ≡ quick_part 6
part_600 = is_part 6 QUICK_600 refl refl

part_700 : QUICK_700 ≡ quick_part 7
part_700 = is_part 7 QUICK_700 refl refl

pub all_parts : QUICK ≡ quick_table
unfolding quick_table
all_parts = λ i. part_000 i ∷ part_100 i ∷ part_200 i ∷ part_300 i ∷ part_400 i ∷ part_500 i ∷ part_600 i ∷ part_700 i ∷ []

-- the row of a word
place_of_word : (w : ℕ) → quick_at (w / 256 % 1024) ≡ quick_row_of w
unfolding quick_row_of
place_of_word w =
    let code : w / 256 % 1024 / 2 ≡ w / 2 ^ 9 % 2 ^ 9 = omega arith in
    let bit : w / 256 % 1024 % 2 ≡ w / 2 ^ 8 % 2 ^ 1 = omega arith in
    λ i. quick_of (row_at (code i) (bit i == 1))

pub found_row : (w : ℕ) (rows : List (List Quick)) (d : List Quick) (e : Quick) → rows ≡ quick_table
    → slice_index_or (slice_index_or rows (w / 256 % 1024 / 128) d) (w / 256 % 1024 % 128) e ≡ quick_row_of w
unfolding quick_table quick_part
found_row w rows d e same =
    let place = w / 256 % 1024 in
    ap (λ (r : List (List Quick)). slice_index_or (slice_index_or r (place / 128) d) (place % 128) e) same
    ∙ ap (λ (r : List Quick). slice_index_or r (place % 128) e) (get_or-map-range_with_len quick_part 0 8 (place / 128) (place / 128) d (omega arith) (omega arith))
    ∙ get_or-map-range_with_len quick_at (128 * (place / 128)) 128 (place % 128) place e (omega arith) (omega arith)
    ∙ place_of_word w

is_quick : (code : ℕ) (bit27 : Bool) (o : Option Row) → row_at code bit27 ≡ o → IsQuick (quick_of o)
is_quick code bit27 None h = record { group = refl; reg = lit< tt }
is_quick code bit27 (Some row) h = record { group = refl; reg = (rows_fit code bit27 row h).parts.reg }

row_is_quick : (w : ℕ) → IsQuick (quick_row_of w)
unfolding quick_row_of
row_is_quick w = is_quick (inst_of w).code (inst_of w).bit27 (row_at (inst_of w).code (inst_of w).bit27) refl

pub found_quick : (w : ℕ) (rows : List (List Quick)) (d : List Quick) (e : Quick) → rows ≡ quick_table
    → IsQuick (slice_index_or (slice_index_or rows (w / 256 % 1024 / 128) d) (w / 256 % 1024 % 128) e)
found_quick w rows d e same =
    let P : Quick → Type 0 = λ q. IsQuick q in
    subst P (sym (found_row w rows d e same)) (row_is_quick w)
