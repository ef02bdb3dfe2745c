-- The report of `access USER`: a line for each segment of the catalog.
use Rattle.std.specs.Prelude.{ℕ, List, []}
use Rattle.m36_dir.specs.Catalog.{CatalogFields}
use Rattle.m36_acl.specs.AccessLists.{Lists}
use Rattle.m36_acl.specs.AccessText.{access_text}
use Rattle.cmd_tools.specs.Reports.{ReportFields}

-- the report of a catalog with its access lists
abbrev pub report_of_access : List ℕ → CatalogFields → Lists → ReportFields
report_of_access user catalog lists = record { sets = []; text = access_text lists user catalog }
