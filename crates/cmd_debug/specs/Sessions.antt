-- What a call of `debug FILE` and of `debug` is: it reads the image or the folder, and then holds a
-- session over the machine. And that calls over the same files and the same bytes of input have one
-- text.
use Rattle.std.specs.Prelude.{ℕ, ◌≡◌, ◌⊎◌, List, ◌++◌, None, Some, Result, Err}
use Rattle.std.specs.List.{flat_map}
use Rattle.m36_outside.specs.Files.{Files}
use Rattle.m36_outside.specs.Passing.{joined}
use Rattle.m36_outside.specs.Written.{GrewWithin}
use Rattle.m36_world.specs.Logs.{read_of}
use Rattle.m36_world.specs.Seen.{Seen}
use Rattle.m36_world.specs.declared.event.Event.{Event}
use Rattle.m36_model.specs.Store.{State}
use Rattle.m36_super.specs.BootResult.{IsBooted}
use Rattle.m36_super.specs.SuperFields.{SuperFields}
use Rattle.m36_super.specs.TurnLaws.{IsPlainTurn}
use Rattle.m36_status.specs.declared.status.Status.{Status}
use Rattle.m36_status.specs.declared.status.Status.TheVariants.{NoMemory}
use Rattle.m36_program.specs.Alike.{IsEnd, OneText}
use Rattle.m36_program.specs.Goes.{Goes}
use Rattle.m36_program.specs.Objects.{PerformsOver}
use Rattle.m36_program.specs.Performs.{Performs}
use Rattle.m36_program.specs.Program.{Program}
use Rattle.m36_program.specs.Reader.{ReadBy}
use Rattle.m36_program.specs.MayHappen.{FilesKept, InputKept, output_of, pieces_of}
use Rattle.cmd_folder.specs.Folder.{FolderFields}
use Rattle.m36_debug.specs.LinesTaken.{IsFirstPart}
use Rattle.m36_debug.specs.Session.{MachineRelations}
use Rattle.m36_debug.specs.SessionProgram.{talking}
use Rattle.m36_debug.specs.SessionText.{IsHeld, EachTurn}
use Rattle.cmd_image.specs.ImageProgram.{image_state}
use Rattle.cmd_folder.specs.FolderProgram.{folder_given}
use Rattle.cmd_debug.specs.DebugProgram.{debug_image, debug_folder}
use Rattle.cmd_debug.specs.Held.{new_history, past_turning, super_turning}

-- No file changed, no input was requested, and nothing was put.
pub record NothingDone (old new : Seen) : Type 0 where
  pub files : FilesKept old new
  pub input : InputKept old new
  pub output : output_of new ≡ output_of old

-- ---- a session, after what was read

-- Memory ran out before the session.
pub record IsNotHeld (result : Result (Unit {0}) Status) (old new : Seen) : Type 0 where
  pub result_is : result ≡ Err NoMemory
  pub nothing : NothingDone old new

-- A session over a machine was held, or memory ran out before it.
abbrev pub IsHeldOver :
    {M : Type 0} → MachineRelations M → M → Result (Unit {0}) Status → Seen → Seen → Type 0
IsHeldOver o m result old new = IsHeld o m result old new ⊎ IsNotHeld result old new

-- A session over the machine of an image was held, or memory ran out before it.
abbrev pub HoldsImage : State (List ℕ) → Result (Unit {0}) Status → Seen → Seen → Type 0
HoldsImage state result old new = IsHeldOver past_turning (new_history state) result old new

-- A session over the system that a folder boots to was held, or memory ran out before it. There is
-- at most one such system. Which page is evicted from a frame is left open.
pub record HoldsFolder (given : FolderFields) (result : Result (Unit {0}) Status) (old new : Seen)
    : Type 0 where
  pub system : SuperFields
  pub booted : IsBooted given.lib system
  pub held : IsHeldOver super_turning system result old new

-- ---- a call

-- A value was read, and the call continued with it as `Holds` says. The session began at `between`,
-- where files, input and output were as at the beginning of the call.
pub record ReadAndHeld {A : Type 0} (reader : Program talking A)
    (Holds : A → Result (Unit {0}) Status → Seen → Seen → Type 0)
    (result : Result (Unit {0}) Status) (old new : Seen) : Type 0 where
  pub value : A
  pub read : ReadBy reader value old new
  pub between : Seen
  pub nothing : NothingDone old between
  pub held : Holds value result between new

-- The reader ended the call: it refused a file or could not read it, or memory ran out. Its reads
-- are those of the call.
pub record IsNotRead {A : Type 0} (reader : Program talking A) (result : Result (Unit {0}) Status)
    (old new : Seen) : Type 0 where
  pub status : Status
  pub result_is : result ≡ Err status
  pub events : List Event
  pub goes : Goes reader events (Err status)
  pub logged : new.reads ≡ old.reads ++ flat_map read_of events
  pub nothing : NothingDone old new

-- The call of a reader and a session: the reader gave a value and the call continued as `Holds`
-- says, or the reader ended the call.
abbrev pub IsDebugCall :
    {A : Type 0} → Program talking A → (A → Result (Unit {0}) Status → Seen → Seen → Type 0)
    → Result (Unit {0}) Status → Seen → Seen → Type 0
IsDebugCall reader Holds result old new =
    ReadAndHeld reader Holds result old new ⊎ IsNotRead reader result old new

-- a call of `debug FILE`
abbrev pub IsImageCall : List ℕ → Result (Unit {0}) Status → Seen → Seen → Type 0
IsImageCall name result old new = IsDebugCall (image_state name) HoldsImage result old new

-- a call of `debug`
abbrev pub IsFolderCall : Result (Unit {0}) Status → Seen → Seen → Type 0
IsFolderCall result old new = IsDebugCall (folder_given None) HoldsFolder result old new

-- Each call that performs the program of a command is such a call, over a world and over a folder,
-- an input and an output. So the lines that were answered are those of the bytes that were taken,
-- and only a session takes input or puts output.
pub record DebugLaw : Type 0 where
  pub image :
      (name : List ℕ) (result : Result (Unit {0}) Status) (old new : Seen)
      → Performs (debug_image name) result old new → IsImageCall name result old new
  pub folder :
      (result : Result (Unit {0}) Status) (old new : Seen)
      → Performs debug_folder result old new → IsFolderCall result old new
  pub image_over :
      (name : List ℕ) (result : Result (Unit {0}) Status) (old new : Seen)
      → PerformsOver (debug_image name) result old new → IsImageCall name result old new
  pub folder_over :
      (result : Result (Unit {0}) Status) (old new : Seen)
      → PerformsOver debug_folder result old new → IsFolderCall result old new

-- ---- one text

-- A call of `debug` in whose session each turn is plain: it executes no ABSA and no LDBR, and does
-- not run out of memory.
pub record IsPlainCall (result : Result (Unit {0}) Status) (old new : Seen) : Type 0 where
  pub given : FolderFields
  pub read : ReadBy {may = talking} (folder_given None) given old new
  pub between : Seen
  pub nothing : NothingDone old between
  pub system : SuperFields
  pub booted : IsBooted given.lib system
  pub held : IsHeld super_turning system result between new
  pub plain : EachTurn IsPlainTurn held.says.session.events

-- Two calls of `debug FILE` over the same files and the same bytes of input, whatever the pieces in
-- which these come. The second ends as the program says (`IsEnd`). The pieces that the first puts
-- are a prefix of those of the second, and what is written grows by a prefix of their bytes. If the
-- first also ends as the program says, the pieces and the results are equal.
pub record DebugTextLaw : Type 0 where
  pub one_text :
      (name : List ℕ) (files : Files) (bytes : List ℕ) (result end : Result (Unit {0}) Status)
      (old new old' new' : Seen)
      → IsEnd end → old.files ≡ Some files → old'.files ≡ Some files
      → old.left ≡ Some bytes → old'.left ≡ Some bytes
      → (one : Performs (debug_image name) result old new)
      (other : Performs (debug_image name) end old' new')
      → OneText (pieces_of one.events) (pieces_of other.events) result end
  pub written :
      (name : List ℕ) (files : Files) (bytes : List ℕ) (result end : Result (Unit {0}) Status)
      (old new old' new' : Seen)
      → IsEnd end → old.files ≡ Some files → old'.files ≡ Some files
      → old.left ≡ Some bytes → old'.left ≡ Some bytes
      → Performs (debug_image name) result old new
      → (other : Performs (debug_image name) end old' new')
      → GrewWithin old.written new.written (joined (pieces_of other.events))
  -- The same of `debug` over a folder, if each turn of the session of the second call is plain:
  -- what the first puts is a prefix of what this session writes.
  pub folder :
      (files : Files) (bytes : List ℕ) (result end : Result (Unit {0}) Status)
      (old new old' new' : Seen)
      → IsEnd end → old.files ≡ Some files → old'.files ≡ Some files
      → old.left ≡ Some bytes → old'.left ≡ Some bytes
      → (one : Performs debug_folder result old new) (other : IsPlainCall end old' new')
      → IsFirstPart (pieces_of one.events) other.held.says.lines
