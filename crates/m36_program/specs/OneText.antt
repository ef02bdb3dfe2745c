-- What it means that a program has one text over given files.
use Rattle.std.specs.Prelude.{◌≡◌, Some, Result}
use Rattle.m36_outside.specs.Files.{Files}
use Rattle.m36_outside.specs.Passing.{joined}
use Rattle.m36_outside.specs.Written.{GrewWithin}
use Rattle.m36_world.specs.Seen.{Seen}
use Rattle.m36_status.specs.declared.status.Status.{Status}
use Rattle.m36_program.specs.Alike.{Alike, IsEnd, OneText}
use Rattle.m36_program.specs.Performs.{Performs}
use Rattle.m36_program.specs.Program.{May, Program}
use Rattle.m36_program.specs.MayHappen.{pieces_of}

-- Over the same files all calls of a program put prefixes of one text: that of a call that ends.
pub record HasOneText {may : May} (program : Program may (Unit {0})) : Type 0 where
  -- Over the same files the program has the same steps in each call.
  pub alike : Alike program program
  -- The pieces of a call, however it ends, are the first pieces of a call that ends. If both end,
  -- pieces and results are the same.
  pub one_text :
      (files : Files) (result end : Result (Unit {0}) Status) (old new old' new' : Seen)
      → IsEnd end → old.files ≡ Some files → old'.files ≡ Some files
      → (one : Performs program result old new) (other : Performs program end old' new')
      → OneText (pieces_of one.events) (pieces_of other.events) result end
  -- The output of a call grows by a prefix of the text of a call that ends.
  pub written :
      (files : Files) (result end : Result (Unit {0}) Status) (old new old' new' : Seen)
      → IsEnd end → old.files ≡ Some files → old'.files ≡ Some files
      → Performs program result old new → (other : Performs program end old' new')
      → GrewWithin old.written new.written (joined (pieces_of other.events))
