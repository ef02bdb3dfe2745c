-- Programs that only read files: what they end with over given files, and what it means that a
-- call read a value by such a program.
use Rattle.std.specs.Prelude.{◌≡◌, ⊤, List, ◌++◌, Option, Some, None, IfSome, Result, Ok, Err}
use Rattle.std.specs.List.{flat_map}
use Rattle.m36_outside.specs.Files.{Files}
use Rattle.m36_outside.specs.FolderCalls.{Asked}
use Rattle.m36_world.specs.Logs.{read_of}
use Rattle.m36_world.specs.Seen.{Seen}
use Rattle.m36_world.specs.declared.event.Event.{Event}
use Rattle.m36_status.specs.declared.status.Status.{Status}
use Rattle.m36_program.specs.Program.{Found, May, Program}
use Rattle.m36_program.specs.Program.{done, stops, reads, writes, puts, takes, some, wants}
use Rattle.m36_program.specs.Found.{found_in}
use Rattle.m36_program.specs.Goes.{Goes}

-- The program reads files, one after another, and then ends. Memory may run out. If it has a choice
-- to make, no value has the property.
unfoldable pub IsReader : {may : May} {A : Type 0} → Program may A → Type 0
IsReader (done a) = ⊤
IsReader (stops status own) = ⊤
IsReader (reads name go) = (found : Found) → IsReader (go found)
IsReader (writes allowed name content rest) = ⊥
IsReader (puts piece rest) = ⊥
IsReader (takes allowed go) = ⊥
IsReader {may} {A} (some {B} Is go) = (b : B) → Is b → ⊥
IsReader (wants rest) = IsReader rest

-- What a reader ends with over these files, if nothing fails: its value, or the status that refuses
-- a file. None if it comes to a choice, or is no reader.
unfoldable pub reader_result :
    {may : May} {A : Type 0} → Files → Program may A → Option (Result A Status)
reader_result files (done a) = Some (Ok a)
reader_result files (stops status own) = Some (Err status)
reader_result files (reads name go) = reader_result files (go (found_in (files name)))
reader_result files (writes allowed name content rest) = None
reader_result files (puts piece rest) = None
reader_result files (takes allowed go) = None
reader_result files (some Is go) = None
reader_result files (wants rest) = reader_result files rest

-- A call begins with the reads of a reader, and the folder's answers to them lead the reader to
-- this value. If the folder shows its files, it is the value by these files.
pub record ReadBy {may : May} {A : Type 0} (reader : Program may A) (value : A) (old new : Seen)
    : Type 0 where
  -- the events of the reader, which are the first reads of the call
  pub first : List Event
  pub goes : Goes reader first (Ok value)
  pub later : List Asked
  pub logged : new.reads ≡ (old.reads ++ flat_map read_of first) ++ later
  pub by_files : IfSome old.files (λ files. reader_result files reader ≡ Some (Ok value))
