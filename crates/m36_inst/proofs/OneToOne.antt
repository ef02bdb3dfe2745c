-- Names and codes are one to one.
use Rattle.std.proofs.Common.{◌≡◌, ℕ, ◌↔◌, Bool, Option, Some, None, List, refl, subst, arith}
use Rattle.std.specs.Prelude.{option_map, IsSome}
use Rattle.std.proofs.lemmas.Option.{some_pair_parts}
use Rattle.m36_inst.specs.Table.{Entry}
use Rattle.m36_inst.specs.Lookup.{entry_at, entry_named, row_of, name_at, code_of, code_named, IsRow, IsRowAt, OneToOne, RowsHaveNames, RowsFit}
use Rattle.m36_inst.specs.declared.rows.Row.{Row}
use Rattle.m36_inst.proofs.Entries.{found, named_row}

-- from a code to its name, and back
code_by : (code : ℕ) (bit27 : Bool) (name : List ℕ) (o : Option Entry) → entry_at code bit27 ≡ o → option_map (λ e. e.name) o ≡ Some name → code_named name ≡ Some (code, bit27)
code_by code bit27 name None e h = cc
code_by code bit27 name (Some x) e h =
    let f = found code bit27 x e in
    let same : x.name ≡ name = cc in
    let there : entry_named name ≡ Some x = rw (← same) f.named_row in
    let a = f.same_code in
    let b = f.same_bit27 in
    rw there cc

pub named_code : (code : ℕ) (bit27 : Bool) (name : List ℕ) → name_at code bit27 ≡ Some name → code_named name ≡ Some (code, bit27)
named_code code bit27 name h = code_by code bit27 name (entry_at code bit27) refl h

name_by : (code : ℕ) (bit27 : Bool) (name : List ℕ) (o : Option Entry) → entry_named name ≡ o → option_map code_of o ≡ Some (code, bit27) → name_at code bit27 ≡ Some name
name_by code bit27 name None e h = cc
name_by code bit27 name (Some x) e h =
    let f = named_row name x e in
    let parts = some_pair_parts x.code code x.bit27 bit27 h in
    let a = parts.0 in
    let b = parts.1 in
    let there : entry_at code bit27 ≡ Some x = rw (← a, ← b) f.placed in
    let same = f.same_name in
    rw there cc

pub code_name : (code : ℕ) (bit27 : Bool) (name : List ℕ) → code_named name ≡ Some (code, bit27) → name_at code bit27 ≡ Some name
code_name code bit27 name h = name_by code bit27 name (entry_named name) refl h

pub one_to_one : OneToOne
one_to_one code bit27 name = (named_code code bit27 name, code_name code bit27 name)

-- a name that no code has is not found
unnamed_by : (name : List ℕ) (o : Option Entry) → entry_named name ≡ o → ((code : ℕ) (bit27 : Bool) → name_at code bit27 ≡ Some name → ⊥) → o ≡ None
unnamed_by name None e h = refl
unnamed_by name (Some x) e h =
    let f = named_row name x e in
    let same = f.same_name in
    let there : name_at x.code x.bit27 ≡ Some name = rw f.placed cc in
    absurd (h x.code x.bit27 there)

pub unnamed : (name : List ℕ) → ((code : ℕ) (bit27 : Bool) → name_at code bit27 ≡ Some name → ⊥) → code_named name ≡ None
unnamed name h = rw (unnamed_by name (entry_named name) refl h) refl

rows_by : (o : Option Entry) → IsSome (option_map (λ e. row_of e.effect e.reg) o) ↔ IsSome (option_map (λ e. e.name) o)
rows_by None = (λ h. h, λ h. h)
rows_by (Some e) = (λ h. h, λ h. h)

pub rows_have_names : RowsHaveNames
rows_have_names code bit27 = rows_by (entry_at code bit27)

fit_by : (code : ℕ) (bit27 : Bool) (row : Row) (o : Option Entry) → entry_at code bit27 ≡ o → option_map (λ e. row_of e.effect e.reg) o ≡ Some row → IsRowAt code row
fit_by code bit27 row None e h = cc
fit_by code bit27 row (Some x) e h =
    let f = found code bit27 x e in
    let code_fits = f.sound.code in
    let same_code = f.same_code in
    let reg_fits = f.sound.reg in
    let same : row_of x.effect x.reg ≡ row = cc in
    let P : Row → Type 0 = λ r. IsRow r in
    let of_effect : IsRow (row_of x.effect x.reg) = record { operand = refl; direct = refl; privileged = refl; reg = reg_fits } in
    record { code_fits = omega arith; parts = subst P same of_effect }

pub rows_fit : RowsFit
rows_fit code bit27 row h = fit_by code bit27 row (entry_at code bit27) refl h

pub ruleset laws = (one_to_one, rows_have_names, rows_fit)
