-- What a program finds if the files of the folder are known.
use Rattle.std.specs.Prelude.{ℕ, nat_lt, if◌then◌else◌, List, length, Option, Some, None}
use Rattle.m36_outside.specs.ReadAnswer.{file_limit}
use Rattle.m36_program.specs.Program.{Found, Content, Absent, TooLarge}

-- what a read of a file finds, from the content of the file, or None if there is no such file
abbrev pub found_in : Option (List ℕ) → Found
found_in None = Absent
found_in (Some bytes) = if nat_lt file_limit (length bytes) then TooLarge else Content bytes
