-- The reports of `print NAME` and `alm NAME`.
use Rattle.std.specs.Prelude.{ℕ, List, [], ◌∷◌, Result, Ok, Err}
use Rattle.alm_parse.specs.declared.fault.AlmFault.{AlmFault}
use Rattle.alm_parse.specs.declared.fault.AlmFault.TheVariants as alm
use Rattle.obj36_parts.specs.PartsFields.{PartsFields}
use Rattle.m36_list.specs.Print.{print_of}
use Rattle.m36_list.specs.Listing.{listing_of}
use Rattle.m36_status.specs.declared.status.Code.TheVariants as code
use Rattle.m36_status.specs.declared.refusal.Refusal.{Refusal}
use Rattle.m36_status.specs.declared.refusal.Refusal.TheVariants.{NoMemory}
use Rattle.m36_status.specs.Refusing.{RuleResult}
use Rattle.m36_status.specs.Rules.{file_refusal_at}
use Rattle.cmd_tools.specs.declared.alm_files.AlmFiles.{AlmFiles}
use Rattle.cmd_tools.specs.Reports.{ReportFields}
use Rattle.cmd_tools.specs.Assemblies.{Assembly, object_set, IsMadeOrFault}

-- ---- `print NAME`

-- the report of an object: its print, and no file
abbrev pub report_of_print : List ℕ → PartsFields → ReportFields
report_of_print name parts = record { sets = []; text = print_of name parts }

-- ---- `alm NAME`

-- the refusal of a source, at a line and a column
abbrev pub source_refused : List ℕ → AlmFault → Refusal
source_refused name (alm.E1 line column) = file_refusal_at name code.E1 line column
source_refused name (alm.E2 line column) = file_refusal_at name code.E2 line column
source_refused name (alm.E3 line column) = file_refusal_at name code.E3 line column
source_refused name (alm.E4 line column) = file_refusal_at name code.E4 line column
source_refused name (alm.E5 line column) = file_refusal_at name code.E5 line column
source_refused name (alm.E6 line column) = file_refusal_at name code.E6 line column
source_refused name (alm.E7 line column) = file_refusal_at name code.E7 line column
source_refused name (alm.E8 line column) = file_refusal_at name code.E8 line column
source_refused name alm.NoMemory = NoMemory

-- the report of an assembly: the file with the object, and the listing
abbrev pub report_of_assembly : List ℕ → Assembly → ReportFields
report_of_assembly name a =
    record { sets = object_set name a.parts ∷ []; text = listing_of name a.source a.parts }

-- the report of an assembled source, or the refusal of the source
abbrev pub alm_report_or_refusal : AlmFiles → Result Assembly AlmFault → RuleResult ReportFields
alm_report_or_refusal files (Ok a) = Ok (report_of_assembly files.object a)
alm_report_or_refusal files (Err fault) = Err (source_refused files.source fault)

-- ---- the contract of the part of `alm` that works without files

-- The result is the report of the assembly of a source, or the refusal of the source, or NoMemory.
abbrev pub IsReportOrFault :
    List ℕ → Result ReportFields AlmFault → Result Assembly AlmFault → Type 0
IsReportOrFault name result given = IsMadeOrFault (report_of_assembly name) result given
