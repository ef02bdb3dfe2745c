-- What a command that writes files may do.
use Rattle.std.specs.Prelude.{true, false}
use Rattle.m36_program.specs.Program.{May}

-- what a program may do that writes files and takes no input
abbrev pub may_write_files : May
may_write_files = record { writes = true; takes = false }
