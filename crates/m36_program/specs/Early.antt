-- Converts between the status of a whole command and the result of the call that performs it.
use Rattle.std.specs.Prelude.{⊤, Result, Ok, Err}
use Rattle.m36_status.specs.declared.status.Status.{Status}
use Rattle.m36_status.specs.declared.status.Status.TheVariants as status
use Rattle.m36_program.specs.Program.{May, Program, done, stops}

-- the result of a call for the status of a command: Done becomes the value, any other status an
-- error
abbrev pub result_of_status : Status → Result (Unit {0}) Status
result_of_status status.Done = Ok tt
result_of_status status.Usage = Err status.Usage
result_of_status status.ReadFault = Err status.ReadFault
result_of_status status.WriteFault = Err status.WriteFault
result_of_status (status.BadFile bad) = Err (status.BadFile bad)
result_of_status status.AuditNo = Err status.AuditNo
result_of_status (status.MachineStop end) = Err (status.MachineStop end)
result_of_status status.Steps = Err status.Steps
result_of_status status.NoMemory = Err status.NoMemory

-- the status of a command for the result of a call: Done if it has the value
abbrev pub status_of_result : Result (Unit {0}) Status → Status
status_of_result (Ok u) = status.Done
status_of_result (Err s) = s

-- A result that a program may have. It has a value instead of Done, and never Usage.
abbrev pub IsProgramResult : {A : Type 0} → Result A Status → Type 0
IsProgramResult (Ok a) = ⊤
IsProgramResult (Err status.Done) = ⊥
IsProgramResult (Err status.Usage) = ⊥
IsProgramResult (Err status.ReadFault) = ⊤
IsProgramResult (Err status.WriteFault) = ⊤
IsProgramResult (Err (status.BadFile bad)) = ⊤
IsProgramResult (Err status.AuditNo) = ⊤
IsProgramResult (Err (status.MachineStop end)) = ⊤
IsProgramResult (Err status.Steps) = ⊤
IsProgramResult (Err status.NoMemory) = ⊤

-- a status that a command itself may end with
abbrev pub MayEnd : Status → Type 0
MayEnd status.Done = ⊤
MayEnd status.Usage = ⊥
MayEnd status.ReadFault = ⊥
MayEnd status.WriteFault = ⊥
MayEnd (status.BadFile bad) = ⊤
MayEnd status.AuditNo = ⊤
MayEnd (status.MachineStop end) = ⊤
MayEnd status.Steps = ⊤
MayEnd status.NoMemory = ⊥

-- the program that ends with a status
unfoldable pub ends : {may : May} → (s : Status) → MayEnd s → Program may (Unit {0})
ends status.Done own = done tt
ends status.Usage own = stops status.Usage own
ends status.ReadFault own = stops status.ReadFault own
ends status.WriteFault own = stops status.WriteFault own
ends (status.BadFile bad) own = stops (status.BadFile bad) own
ends status.AuditNo own = stops status.AuditNo own
ends (status.MachineStop end) own = stops (status.MachineStop end) own
ends status.Steps own = stops status.Steps own
ends status.NoMemory own = stops status.NoMemory own
