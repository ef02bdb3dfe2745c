-- What the results of parsing a text of processes imply. `NoMemory` is always allowed.
use Rattle.std.specs.Prelude.{ℕ, ◌≡◌, ⊤, Result, Ok, Err}
use Rattle.m36_procs.specs.ProcsFields.{ProcsFields}
use Rattle.m36_procs.specs.declared.fault.ProcsCode.{ProcsCode}
use Rattle.m36_procs.specs.declared.fault.ProcsCode.TheVariants as code
use Rattle.m36_procs.specs.declared.fault.LineFault.{LineFault}
use Rattle.m36_procs.specs.declared.fault.LineFault.TheVariants as fault
use Rattle.m36_procs.specs.declared.fault.ProcsFault.{ProcsFault}
use Rattle.m36_procs.specs.declared.fault.ProcsFault.TheVariants.{P1, P2, NoMemory}

-- the fault with a code at a line
abbrev pub fault_at : ℕ × ProcsCode → ProcsFault
fault_at (line, code.P1) = P1 line
fault_at (line, code.P2) = P2 line

-- the fault of the text, for the fault of a line
abbrev pub line_fault_at : ℕ → LineFault → ProcsFault
line_fault_at line (fault.Refused code) = fault_at (line, code)
line_fault_at line fault.NoMemory = NoMemory

-- The result of parsing is that of the definition, or `NoMemory`.
abbrev pub ProcsResult : Result ProcsFields ProcsFault → Result ProcsFields (ℕ × ProcsCode) → Type 0
ProcsResult (Ok procs) definition = definition ≡ Ok procs
ProcsResult (Err (P1 line)) definition = definition ≡ Err (line, code.P1)
ProcsResult (Err (P2 line)) definition = definition ≡ Err (line, code.P2)
ProcsResult (Err NoMemory) definition = ⊤
