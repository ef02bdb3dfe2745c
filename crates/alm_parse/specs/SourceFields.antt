-- A source: its text and its parsed lines.
use Rattle.std.specs.Prelude.{ℕ, List}
use Rattle.alm_parse.specs.declared.line.Line36.{Line36}

-- The fields of `Lines36`: the text of a source, and its lines as they were parsed.
pub record Source : Type 0 where
  pub text : List ℕ
  pub lines : List Line36
