use Rattle.std.proofs.Common.{◌≡◌, drop}
use Rattle.m36_outside.specs.FileList.{file_named}
use Rattle.cmd_make.specs.Making.{with_files, files_in}
use Rattle.cmd_make.proofs.folder.folder_of.Given as goal

-- the files of the folder so far, with those that are left, are all files
abbrev pub invariant-loop-set : goal.invariant-loop-set
invariant-loop-set l = with_files (drop l.set-index l.sets) (file_named l.folder.files) ≡ files_in l.sets
