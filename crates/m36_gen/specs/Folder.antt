-- The files of the folder that a seed makes: the sources, the data and the boot text, in this
-- order.
use Rattle.std.specs.Prelude.{ℕ, ◌+◌, ◌<◌, List, [], ◌∷◌, ◌++◌, map, replicate}
use Rattle.std.specs.List.{range_with_len}
use Rattle.m36_text.specs.FileNames.{source_of_object, boot_name}
use Rattle.m36_text.specs.Packing.{packed}
use Rattle.m36_gen.specs.declared.files.File.{File}
use Rattle.m36_gen.specs.Draws.{offset_bound, draws_from, state_at}
use Rattle.m36_gen.specs.Lines.{program_count, data_name, gate_name, source_name}
use Rattle.m36_gen.specs.Sources.{source_text, stop_text}
use Rattle.m36_gen.specs.BootText.{boot_text}

-- a file with this name and content
abbrev pub file : List ℕ → List ℕ → File
file name content = record { name = name; content = content }

-- the source of program i, made by three draws after those of the programs before it
unfoldable pub source_file : ℕ → ℕ → File
source_file seed i = file (source_name i) (source_text i (draws_from (state_at seed i)))

-- the sources of the first `count` programs
unfoldable pub source_files : ℕ → ℕ → List File
source_files seed count = map (source_file seed) (range_with_len 0 count)

-- The number of words of the data, enough for the words of each program: the first is at its offset
-- plus 1.
unfoldable pub data_words : ℕ
data_words = offset_bound + 256

-- The last word that a program stores is within the data.
abbrev pub DataHoldsAll : Type 0
DataHoldsAll = (x : ℕ) → (draws_from x).offset + (draws_from x).count < data_words

-- this many zero words
unfoldable pub zeros : ℕ → List ℕ
zeros count = replicate count 0

-- the sources of all programs, and that of the gate
unfoldable pub sources_of : ℕ → List File
sources_of seed =
    source_files seed program_count ++ file (source_of_object gate_name) stop_text ∷ []

-- the files that are the same for each seed
unfoldable pub fixed_files : List File
fixed_files =
    file data_name (packed (zeros data_words)) ∷ file boot_name boot_text ∷ []

-- all files that a seed makes, in order
unfoldable pub files_of : ℕ → List File
files_of seed = sources_of seed ++ fixed_files
