-- Reports: files that are written, and a text that is then printed line by line.
use Rattle.std.specs.Prelude.{ℕ, List}
use Rattle.m36_status.specs.declared.setting.Set.{Set}

-- a report: the files that are written, and the text that is printed
pub record ReportFields : Type 0 where
  pub sets : List Set
  pub text : List ℕ
