-- The entry of the table for an operation code with bit 27, and the one for a name.
use Rattle.std.specs.Prelude.{ℕ, ◌≡◌, ◌^◌, ◌<◌, ◌↔◌, Bool, true, false, not, ◌&&◌, ◌==◌, nat_eq}
use Rattle.std.specs.Prelude.{List, Option, Some, option_map, IsSome}
use Rattle.std.specs.List.{find}
use Rattle.std.specs.Cmp.Lexicographic.{pointwise}
use Rattle.m36_inst.specs.Operands.{operand_of, takes_direct, is_privileged}
use Rattle.m36_inst.specs.Table.{Entry, table}
use Rattle.m36_inst.specs.declared.effect.Effect.{Effect}
use Rattle.m36_inst.specs.declared.rows.Row.{Row}

-- two Booleans are equal
abbrev pub same_bit : Bool → Bool → Bool
same_bit true b = b
same_bit false b = not b

-- whether an entry has this operation code and bit 27
abbrev pub has_code : ℕ → Bool → Entry → Bool
has_code code bit27 e = (e.code == code) && same_bit e.bit27 bit27

-- whether an entry has this name
abbrev pub has_name : List ℕ → Entry → Bool
has_name name e = pointwise nat_eq e.name name

-- the entry with an operation code and bit 27, if there is one
unfoldable pub entry_at : ℕ → Bool → Option Entry
entry_at code bit27 = find (has_code code bit27) table

-- the entry with a name, if there is one
unfoldable pub entry_named : List ℕ → Option Entry
entry_named name = find (has_name name) table

-- the row of an instruction; everything except the register depends only on the effect
abbrev pub row_of : Effect → ℕ → Row
row_of effect reg =
    record {
      effect = effect;
      reg = reg;
      operand = operand_of effect;
      direct = takes_direct effect;
      privileged = is_privileged effect;
    }

-- the row of an operation code with bit 27, if it has an instruction
abbrev pub row_at : ℕ → Bool → Option Row
row_at code bit27 = option_map (λ e. row_of e.effect e.reg) (entry_at code bit27)

-- the name of an operation code with bit 27, if it has an instruction
abbrev pub name_at : ℕ → Bool → Option (List ℕ)
name_at code bit27 = option_map (λ e. e.name) (entry_at code bit27)

-- the operation code of an entry and its bit 27
abbrev pub code_of : Entry → ℕ × Bool
code_of e = (e.code, e.bit27)

-- the operation code and bit 27 of a name, if an instruction has it
abbrev pub code_named : List ℕ → Option (ℕ × Bool)
code_named name = option_map code_of (entry_named name)

-- What holds of each row: the operand, `direct` and `privileged` are those of its effect, and its
-- register is below 8.
pub record IsRow (row : Row) : Type 0 where
  pub operand : row.operand ≡ operand_of row.effect
  pub direct : row.direct ≡ takes_direct row.effect
  pub privileged : row.privileged ≡ is_privileged row.effect
  pub reg : row.reg < 8

-- Names and codes are one to one: a code with bit 27 has a name if and only if that name has this
-- code with bit 27.
abbrev pub OneToOne : Type 0
OneToOne =
    (code : ℕ) (bit27 : Bool) (name : List ℕ)
    → (name_at code bit27 ≡ Some name) ↔ (code_named name ≡ Some (code, bit27))

-- A code has a row if and only if it has a name.
abbrev pub RowsHaveNames : Type 0
RowsHaveNames = (code : ℕ) (bit27 : Bool) → IsSome (row_at code bit27) ↔ IsSome (name_at code bit27)

-- A code with a row has nine bits, and its row is that of its effect and register.
pub record IsRowAt (code : ℕ) (row : Row) : Type 0 where
  pub code_fits : code < 2 ^ 9
  pub parts : IsRow row

-- the row of every code is one that `IsRowAt` allows
abbrev pub RowsFit : Type 0
RowsFit = (code : ℕ) (bit27 : Bool) (row : Row) → row_at code bit27 ≡ Some row → IsRowAt code row
