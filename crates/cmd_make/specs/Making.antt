-- The files that are made from a seed: the sources, the object of each source, the data and the
-- boot text, in this order.
use Rattle.std.specs.Prelude.{ℕ, nat_lt, if◌then◌else◌, List, [], ◌∷◌, ◌++◌, map, length}
use Rattle.std.specs.Prelude.{Some, None, Result, Ok, Err}
use Rattle.m36_outside.specs.Files.{Files, with_file}
use Rattle.m36_outside.specs.ReadAnswer.{file_limit}
use Rattle.m36_text.specs.FileNames.{object_of_source}
use Rattle.m36_text.specs.Results.{and_then}
use Rattle.alm_parse.specs.declared.fault.AlmFault.{AlmFault}
use Rattle.m36_gen.specs.declared.files.File.{File}
use Rattle.m36_gen.specs.Folder.{sources_of, fixed_files}
use Rattle.m36_status.specs.declared.setting.Set.{Set}
use Rattle.m36_status.specs.declared.status.Code.TheVariants as code
use Rattle.m36_status.specs.Refusing.{RuleResult}
use Rattle.m36_status.specs.Rules.{file_refusal}
use Rattle.cmd_tools.specs.Assemblies.{Assembly, assembly_of, object_bytes, object_set}
use Rattle.cmd_tools.specs.Assemblies.{IsMadeOrFault}
use Rattle.cmd_tools.specs.PrintAndAlm.{source_refused}

-- a file of the generator, as a file to write
abbrev pub set_of : File → Set
set_of file = record { name = file.name; content = file.content }

-- ---- objects

-- The name of an object is that of its source without `.alm`.
unfoldable pub object_name : List ℕ → List ℕ
object_name source = object_of_source source

-- the file of the object that the source of this name assembles to, or the refusal of the source
abbrev pub object_set_or_refusal : List ℕ → Result Assembly AlmFault → RuleResult Set
object_set_or_refusal source (Ok a) = Ok (object_set (object_name source) a.parts)
object_set_or_refusal source (Err fault) = Err (source_refused source fault)

-- the bytes of a source, or F2 if there are more than a file may have
abbrev pub source_bytes : File → RuleResult (List ℕ)
source_bytes source =
    if nat_lt file_limit (length source.content) then Err (file_refusal source.name code.F2 0)
    else Ok source.content

-- what `alm` makes of a source, or why the source is refused
unfoldable pub object_of : File → RuleResult Set
object_of source =
    and_then (source_bytes source) (λ bytes. object_set_or_refusal source.name (assembly_of bytes))

-- the files with the objects of the sources appended, or the refusal of the first source that is
-- refused
unfoldable pub with_objects : List Set → List File → RuleResult (List Set)
with_objects sets [] = Ok sets
with_objects sets (source ∷ sources) =
    and_then (object_of source) (λ object. with_objects (sets ++ object ∷ []) sources)

-- ---- all files

-- these files, and after them the data and the boot text
abbrev pub with_other_files : List Set → RuleResult (List Set)
with_other_files sets = Ok (sets ++ map set_of fixed_files)

-- all files of a seed, or the refusal of a source
unfoldable pub files_of_seed : ℕ → RuleResult (List Set)
files_of_seed seed =
    and_then (with_objects (map set_of (sources_of seed)) (sources_of seed)) with_other_files

-- ---- the folder that these files are

-- a folder without files
abbrev pub no_files : Files
no_files name = None

-- the files of a folder after these are written into it, one after another
unfoldable pub with_files : List Set → Files → Files
with_files [] files = files
with_files (set ∷ sets) files = with_files sets (with_file set.name (Some set.content) files)

-- the files of a folder into which only these are written
unfoldable pub files_in : List Set → Files
files_in sets = with_files sets no_files

-- ---- the contract of making an object

-- the packed words of an assembled object
abbrev pub assembly_bytes : Assembly → List ℕ
assembly_bytes a = object_bytes a.parts

-- The result of the code: the packed words of the object that the source assembles to, the fault of
-- a refused source, or NoMemory for any source.
abbrev pub ObjectResult : Result (List ℕ) AlmFault → Result Assembly AlmFault → Type 0
ObjectResult result given = IsMadeOrFault assembly_bytes result given
