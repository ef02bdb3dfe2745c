-- The line that reports how a call ended.
use Rattle.std.specs.Prelude.{ℕ, List, [], ◌++◌, codes}
use Rattle.m36_text.specs.Digits.{decimal_text}
use Rattle.m36_text.specs.Lines.{as_line}
use Rattle.m36_status.specs.Names.{status_name, code_name}
use Rattle.m36_status.specs.declared.status.Bad.{Bad}
use Rattle.m36_status.specs.declared.status.Status.{Status}
use Rattle.m36_status.specs.declared.status.Status.TheVariants.{Done, Usage, ReadFault, WriteFault}
use Rattle.m36_status.specs.declared.status.Status.TheVariants.{BadFile, AuditNo, MachineStop}
use Rattle.m36_status.specs.declared.status.Status.TheVariants.{Steps, NoMemory}

-- the name of the file, the code, the place and the column, each after a blank
abbrev pub bad_file_details : Bad → List ℕ
bad_file_details bad =
    ((((((codes " " ++ bad.name) ++ codes " ") ++ code_name bad.code) ++ codes " ")
    ++ decimal_text bad.at) ++ codes " ")
    ++ decimal_text bad.column

-- what follows the name of a status in its line: the refusal after BadFile, otherwise nothing
abbrev pub status_details : Status → List ℕ
status_details (BadFile bad) = bad_file_details bad
status_details Done = []
status_details Usage = []
status_details ReadFault = []
status_details WriteFault = []
status_details AuditNo = []
status_details (MachineStop end) = []
status_details Steps = []
status_details NoMemory = []

-- `m36: `, the name of the status, and after BadFile its details
abbrev pub status_line : Status → List ℕ
status_line status = as_line ((codes "m36: " ++ status_name status) ++ status_details status)

-- what is printed to standard error: the line of the status, or nothing after Done
abbrev pub report_of : Status → List ℕ
report_of Done = []
report_of Usage = status_line Usage
report_of ReadFault = status_line ReadFault
report_of WriteFault = status_line WriteFault
report_of (BadFile bad) = status_line (BadFile bad)
report_of AuditNo = status_line AuditNo
report_of (MachineStop end) = status_line (MachineStop end)
report_of Steps = status_line Steps
report_of NoMemory = status_line NoMemory
