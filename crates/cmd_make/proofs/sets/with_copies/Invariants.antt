use Rattle.std.proofs.Common.{◌≡◌, ◌++◌, map, drop}
use Rattle.cmd_make.specs.Making.{set_of}
use Rattle.cmd_make.proofs.sets.with_copies.Given as goal

-- the files so far with copies of the rest are all files
abbrev pub invariant-loop-file : goal.invariant-loop-file
invariant-loop-file l = l.sets ++ map set_of (drop l.file-index l.files) ≡ l.fn.sets ++ map set_of l.files
