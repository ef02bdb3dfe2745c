use Rattle.std.proofs.Common.{◌≡◌, ◌+◌, drop}
use Rattle.std.specs.List.{position_or_len}
use Rattle.m36_outside.specs.FileList.{has_name}
use Rattle.m36_outside.proofs.file_list.index_of_file.Given as goal

-- None of the files so far has the name.
abbrev pub invariant-loop-place : goal.invariant-loop-place
invariant-loop-place l =
    position_or_len (has_name l.name) l.files ≡ l.place + position_or_len (has_name l.name) (drop l.place l.files)
