-- The names and numbers of statuses, and the names of codes.
use Rattle.std.specs.Prelude.{ℕ, List, codes}
use Rattle.m36_status.specs.declared.status.Status.{Status}
use Rattle.m36_status.specs.declared.status.Status.TheVariants.{Done, Usage, ReadFault, WriteFault}
use Rattle.m36_status.specs.declared.status.Status.TheVariants.{BadFile, AuditNo, MachineStop}
use Rattle.m36_status.specs.declared.status.Status.TheVariants.{Steps, NoMemory}
use Rattle.m36_status.specs.declared.status.Code.{Code}
use Rattle.m36_status.specs.declared.status.Code.TheVariants.{F1, F2, F3, T3, T4, S1, I1, I2, I3}
use Rattle.m36_status.specs.declared.status.Code.TheVariants.{P1, P2, D1, D2, D3, D4, D5, D6, C1}
use Rattle.m36_status.specs.declared.status.Code.TheVariants.{C2, C3, U1, U2, U3, U4, O1, O2, O3}
use Rattle.m36_status.specs.declared.status.Code.TheVariants.{O4, O5, O6, O7, O8, E1, E2, E3, E4}
use Rattle.m36_status.specs.declared.status.Code.TheVariants.{E5, E6, E7, E8, B1, B2, B3, B4, B5}

-- the name of a status, as it is printed
abbrev pub status_name : Status → List ℕ
status_name Done = codes "Done"
status_name Usage = codes "Usage"
status_name ReadFault = codes "ReadFault"
status_name WriteFault = codes "WriteFault"
status_name (BadFile bad) = codes "BadFile"
status_name AuditNo = codes "AuditNo"
status_name (MachineStop end) = codes "MachineStop"
status_name Steps = codes "Steps"
status_name NoMemory = codes "NoMemory"

-- the number of a status, with which the program `m36` exits
abbrev pub status_number : Status → ℕ
status_number Done = 0
status_number Usage = 1
status_number ReadFault = 2
status_number WriteFault = 3
status_number (BadFile bad) = 4
status_number AuditNo = 5
status_number (MachineStop end) = 6
status_number Steps = 7
status_number NoMemory = 8

-- the name of a code, as it is printed
abbrev pub code_name : Code → List ℕ
code_name F1 = codes "F1"
code_name F2 = codes "F2"
code_name F3 = codes "F3"
code_name T3 = codes "T3"
code_name T4 = codes "T4"
code_name S1 = codes "S1"
code_name I1 = codes "I1"
code_name I2 = codes "I2"
code_name I3 = codes "I3"
code_name P1 = codes "P1"
code_name P2 = codes "P2"
code_name D1 = codes "D1"
code_name D2 = codes "D2"
code_name D3 = codes "D3"
code_name D4 = codes "D4"
code_name D5 = codes "D5"
code_name D6 = codes "D6"
code_name C1 = codes "C1"
code_name C2 = codes "C2"
code_name C3 = codes "C3"
code_name U1 = codes "U1"
code_name U2 = codes "U2"
code_name U3 = codes "U3"
code_name U4 = codes "U4"
code_name O1 = codes "O1"
code_name O2 = codes "O2"
code_name O3 = codes "O3"
code_name O4 = codes "O4"
code_name O5 = codes "O5"
code_name O6 = codes "O6"
code_name O7 = codes "O7"
code_name O8 = codes "O8"
code_name E1 = codes "E1"
code_name E2 = codes "E2"
code_name E3 = codes "E3"
code_name E4 = codes "E4"
code_name E5 = codes "E5"
code_name E6 = codes "E6"
code_name E7 = codes "E7"
code_name E8 = codes "E8"
code_name B1 = codes "B1"
code_name B2 = codes "B2"
code_name B3 = codes "B3"
code_name B4 = codes "B4"
code_name B5 = codes "B5"
