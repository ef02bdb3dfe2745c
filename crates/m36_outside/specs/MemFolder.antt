-- A folder in memory: its files, its calls, and which of them fail.
use Rattle.std.specs.Prelude.{ℕ, List, [], ◌∷◌, ◌++◌, if◌then◌else◌}
use Rattle.m36_outside.specs.Counts.{raised}
use Rattle.m36_outside.specs.CallPlan.{CallPlan, new_plan, next_fails, after_call}
use Rattle.m36_outside.specs.FolderCalls.{Asked, Wrote}
use Rattle.m36_outside.specs.declared.file_list.NamedFile.{NamedFile}
use Rattle.m36_outside.specs.declared.folder.ReadAnswer.{ReadAnswer}
use Rattle.m36_outside.specs.declared.folder.WriteAnswer.{WriteAnswer}

-- the files, the plans of reads and writes, the logs of calls, and the counts of faults
pub record MemFolderFields : Type 0 where
  pub files : List NamedFile
  pub reads : CallPlan
  pub writes : CallPlan
  pub asked : List Asked
  pub wrote : List Wrote
  pub read_faults : ℕ
  pub write_faults : ℕ

-- a folder without files, with the numbers of the reads and writes that fail
abbrev pub new_folder : List ℕ → List ℕ → MemFolderFields
new_folder reads writes = record {
  files = [];
  reads = new_plan reads;
  writes = new_plan writes;
  asked = [];
  wrote = [];
  read_faults = 0;
  write_faults = 0;
}

-- the folder after a read: the read is counted and logged, and counted as a fault if it had to
-- fail
abbrev pub after_read : MemFolderFields → List ℕ → ReadAnswer → MemFolderFields
after_read folder name answer = record {
  files = folder.files;
  reads = after_call folder.reads;
  writes = folder.writes;
  asked = folder.asked ++ (name, answer) ∷ [];
  wrote = folder.wrote;
  read_faults = if next_fails folder.reads then raised folder.read_faults else folder.read_faults;
  write_faults = folder.write_faults;
}

-- the folder after a write that left these files: the write is counted and logged, and counted as
-- a fault if it had to fail
abbrev pub after_write :
    MemFolderFields → List NamedFile → List ℕ → List ℕ → WriteAnswer → MemFolderFields
after_write folder files name content answer = record {
  files = files;
  reads = folder.reads;
  writes = after_call folder.writes;
  asked = folder.asked;
  wrote = folder.wrote ++ (name, content, answer) ∷ [];
  read_faults = folder.read_faults;
  write_faults =
      if next_fails folder.writes then raised folder.write_faults else folder.write_faults;
}
