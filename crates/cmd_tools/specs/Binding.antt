-- The report of `bind NAME`: what follows from the bind file and the bound object.
use Rattle.std.specs.Prelude.{ℕ, List, [], ◌∷◌, Result, Ok, Err}
use Rattle.obj36_parts.specs.PartsFields.{PartsFields}
use Rattle.m36_list.specs.Print.{print_of}
use Rattle.m36_bindfile.specs.declared.fault.BindFault.{BindFault}
use Rattle.m36_bindfile.specs.declared.fault.BindFault.TheVariants as bind
use Rattle.m36_status.specs.declared.status.Code.TheVariants as code
use Rattle.m36_status.specs.declared.refusal.Refusal.{Refusal}
use Rattle.m36_status.specs.declared.refusal.Refusal.TheVariants.{NoMemory}
use Rattle.m36_status.specs.Refusing.{RuleResult}
use Rattle.m36_status.specs.Rules.{file_refusal}
use Rattle.cmd_tools.specs.declared.bind_files.BindFiles.{BindFiles}
use Rattle.cmd_tools.specs.Reports.{ReportFields}
use Rattle.cmd_tools.specs.Assemblies.{object_set}

-- the refusal of a bind file, at a line
abbrev pub bind_refused : List ℕ → BindFault → Refusal
bind_refused name (bind.B1 line) = file_refusal name code.B1 line
bind_refused name (bind.B2 line) = file_refusal name code.B2 line
bind_refused name (bind.B3 line) = file_refusal name code.B3 line
bind_refused name (bind.B4 line) = file_refusal name code.B4 line
bind_refused name (bind.B5 line) = file_refusal name code.B5 line
bind_refused name bind.NoMemory = NoMemory

-- the names of the components, or the refusal of the bind file
abbrev pub names_or_refusal : List ℕ → Result (List (List ℕ)) BindFault → RuleResult (List (List ℕ))
names_or_refusal file (Ok names) = Ok names
names_or_refusal file (Err fault) = Err (bind_refused file fault)

-- the report of a bound object: the file with the object, and the print of it
abbrev pub report_of_bound_object : List ℕ → PartsFields → ReportFields
report_of_bound_object name parts =
    record { sets = object_set name parts ∷ []; text = print_of name parts }

-- the report of the bound object, or the refusal of the bind file
abbrev pub bind_report_or_refusal :
    BindFiles → Result PartsFields BindFault → RuleResult ReportFields
bind_report_or_refusal files (Ok parts) = Ok (report_of_bound_object files.object parts)
bind_report_or_refusal files (Err fault) = Err (bind_refused files.bindfile fault)
