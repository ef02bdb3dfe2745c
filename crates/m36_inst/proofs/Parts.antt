-- A row of the processor's table has the row, name and register of its entry.
use Rattle.std.proofs.Common.{◌≡◌, ℕ, Bool, Option, Some, None, refl, sym, ap, subst}
use Rattle.std.specs.Prelude.{option_map, IfSome, List}
use Rattle.m36_inst.specs.Table.{Entry}
use Rattle.m36_inst.specs.Lookup.{entry_at, row_of, row_at, name_at, IsRow}
use Rattle.m36_inst.specs.Named.{named_of, text_of, IsPlain}
use Rattle.m36_inst.specs.declared.rows.Named.{Named}
use Rattle.m36_inst.proofs.Entries.{found}

rows_by : (o : Option Entry) → option_map (λ n. n.row) (option_map named_of o) ≡ option_map (λ e. row_of e.effect e.reg) o
rows_by None = refl
rows_by (Some e) = refl

pub rows : (code : ℕ) (bit27 : Bool) (o : Option Named) → o ≡ option_map named_of (entry_at code bit27) → option_map (λ n. n.row) o ≡ row_at code bit27
rows code bit27 o h = rw h (rows_by (entry_at code bit27))

names_by : (code : ℕ) (bit27 : Bool) (o : Option Entry) → entry_at code bit27 ≡ o → option_map (λ n. text_of n.name) (option_map named_of o) ≡ option_map (λ e. e.name) o
names_by code bit27 None h = refl
names_by code bit27 (Some e) h = ap (λ (name : List ℕ). Some name) (found code bit27 e h).sound.text

pub names : (code : ℕ) (bit27 : Bool) (o : Option Named) → o ≡ option_map named_of (entry_at code bit27) → option_map (λ n. text_of n.name) o ≡ name_at code bit27
names code bit27 o h = rw h (names_by code bit27 (entry_at code bit27) refl)

plain_by : (code : ℕ) (bit27 : Bool) (o : Option Entry) → entry_at code bit27 ≡ o → IfSome (option_map named_of o) (λ n. IsPlain (text_of n.name))
plain_by code bit27 None h = tt
plain_by code bit27 (Some e) h =
    let s = (found code bit27 e h).sound in
    let P : List ℕ → Type 0 = λ name. IsPlain name in
    subst P (sym s.text) s.plain

pub plain : (code : ℕ) (bit27 : Bool) (o : Option Named) → o ≡ option_map named_of (entry_at code bit27) → IfSome o (λ n. IsPlain (text_of n.name))
plain code bit27 o h = rw h (plain_by code bit27 (entry_at code bit27) refl)

own_row : (code : ℕ) (bit27 : Bool) (o : Option Entry) → entry_at code bit27 ≡ o → IfSome (option_map named_of o) (λ n. IsRow n.row)
own_row code bit27 None h = tt
own_row code bit27 (Some e) h =
    record { operand = refl; direct = refl; privileged = refl; reg = (found code bit27 e h).sound.reg }

pub row_parts : (code : ℕ) (bit27 : Bool) (o : Option Named) → o ≡ option_map named_of (entry_at code bit27) → IfSome o (λ n. IsRow n.row)
row_parts code bit27 o h = rw h (own_row code bit27 (entry_at code bit27) refl)
