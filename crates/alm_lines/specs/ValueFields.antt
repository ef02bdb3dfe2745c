-- The value of an expression, as far as a word, a relocation or a refusal needs it.
use Rattle.std.specs.Prelude.{ℕ, Bool, Option}
use Rattle.alm_lines.specs.declared.sum.Kind.{Kind}

-- The fields of `Value`: the value modulo 2^18 (`half`) and modulo 2^15 (`offset`), the index of
-- the first symbol that is not defined, the kind, which fields it fits, and whether it depends on a
-- refused `equ`.
pub record ValueFields : Type 0 where
  pub half : ℕ
  pub undefined : Option ℕ
  pub offset : ℕ
  pub kind : Kind
  pub fits_half : Bool
  pub fits_offset : Bool
  pub unknown : Bool
