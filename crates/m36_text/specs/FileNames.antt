-- Names of the files of a folder.
use Rattle.std.specs.Prelude.{◌≡◌, ℕ, ◌-◌, List, ◌++◌, length, take, codes}

-- the suffix that the name of a source adds to that of its object
abbrev pub source_suffix : List ℕ
source_suffix = codes ".alm"

-- the name of the source of an object
abbrev pub source_of_object : List ℕ → List ℕ
source_of_object object = object ++ source_suffix

-- the name of a source without its suffix: that of its object
abbrev pub object_of_source : List ℕ → List ℕ
object_of_source source = take (length source - length source_suffix) source

-- Removing the suffix from the name of an object's source yields the name of the object.
abbrev pub SourceNameRoundTrip : Type 0
SourceNameRoundTrip = (object : List ℕ) → object_of_source (source_of_object object) ≡ object

-- the suffix that the name of a bind file adds to that of its object
abbrev pub bindfile_suffix : List ℕ
bindfile_suffix = codes ".bind"

-- the name of the bind file of an object
abbrev pub bindfile_of_object : List ℕ → List ℕ
bindfile_of_object object = object ++ bindfile_suffix

-- the name of the boot text
abbrev pub boot_name : List ℕ
boot_name = codes "boot"
