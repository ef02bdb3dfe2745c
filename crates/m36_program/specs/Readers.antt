-- Programs that several commands share: to refuse a file, read the bytes of a file, put a piece,
-- and write a file.
use Rattle.std.specs.Prelude.{ℕ, ◌≡◌, true, ⊤, List}
use Rattle.m36_status.specs.declared.status.Bad.{Bad}
use Rattle.m36_status.specs.declared.status.Code.{Code}
use Rattle.m36_status.specs.declared.status.Code.TheVariants as code
use Rattle.m36_status.specs.declared.status.Status.{Status}
use Rattle.m36_status.specs.declared.status.Status.TheVariants.{Done, Usage, ReadFault, WriteFault}
use Rattle.m36_status.specs.declared.status.Status.TheVariants.{BadFile, AuditNo, MachineStop}
use Rattle.m36_status.specs.declared.status.Status.TheVariants.{Steps, NoMemory}
use Rattle.m36_program.specs.Program.{Found, Content, Absent, TooLarge, May, Program}
use Rattle.m36_program.specs.Program.{done, stops, reads, writes, puts, wants}

-- a refused file: its name, a code, a place and a column
abbrev pub bad_file_at : List ℕ → Code → ℕ → ℕ → Bad
bad_file_at name code at column = record { name = name; code = code; at = at; column = column }

-- a refused file without columns, whose column is 0
abbrev pub bad_file : List ℕ → Code → ℕ → Bad
bad_file name code at = bad_file_at name code at 0

-- The file is refused. Memory may run out for its name.
unfoldable pub refuses : {may : May} {A : Type 0} → Bad → Program may A
refuses bad = wants (stops (BadFile bad) tt)

-- the status of a call that refuses a file: BadFile, or NoMemory
abbrev pub IsRefusal : Status → Bad → Type 0
IsRefusal Done bad = ⊥
IsRefusal Usage bad = ⊥
IsRefusal ReadFault bad = ⊥
IsRefusal WriteFault bad = ⊥
IsRefusal (BadFile given) bad = given ≡ bad
IsRefusal AuditNo bad = ⊥
IsRefusal (MachineStop end) bad = ⊥
IsRefusal Steps bad = ⊥
IsRefusal NoMemory bad = ⊤

-- refuses with F1 if the file is absent, and with F2 if it has more than 16,777,216 bytes
abbrev pub bytes_found : {may : May} → List ℕ → Found → Program may (List ℕ)
bytes_found name (Content bytes) = done bytes
bytes_found name Absent = refuses (bad_file name code.F1 0)
bytes_found name TooLarge = refuses (bad_file name code.F2 0)

-- reads the bytes of a file
unfoldable pub file_bytes : {may : May} → List ℕ → Program may (List ℕ)
file_bytes name = reads name (bytes_found name)

-- puts a piece of output
unfoldable pub put_one : {may : May} → List ℕ → Program may (Unit {0})
put_one piece = puts piece (done tt)

-- writes a file; the program has to be one that may write
unfoldable pub write_one :
    {may : May} → may.writes ≡ true → List ℕ → List ℕ → Program may (Unit {0})
write_one allowed name content = writes allowed name content (done tt)
