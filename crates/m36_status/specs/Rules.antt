-- The words of a file (T3, T4, F3), and its object (O1 to O8), or the refusal of the file.
use Rattle.std.specs.Prelude.{ℕ, nat_lt, if◌then◌else◌, List, length, Result, Ok, Err}
use Rattle.m36_text.specs.declared.packing.PackFault.{PackFault}
use Rattle.m36_text.specs.declared.packing.PackFault.TheVariants as pack
use Rattle.obj36_parts.specs.PartsFields.{PartsFields}
use Rattle.obj36_parts.specs.ObjectSegment.{segment_limit}
use Rattle.obj36.specs.declared.fault.ObjectFault.{ObjectFault}
use Rattle.obj36.specs.declared.fault.ObjectFault.TheVariants as fault
use Rattle.m36_status.specs.declared.status.Code.{Code}
use Rattle.m36_status.specs.declared.status.Code.TheVariants as code
use Rattle.m36_status.specs.declared.refusal.Refusal.{Refusal}
use Rattle.m36_status.specs.declared.refusal.Refusal.TheVariants.{BadFile, NoMemory}
use Rattle.m36_status.specs.Refusing.{RuleResult}

-- the refusal of a file, by its name, a code, a place and a column
abbrev pub file_refusal_at : List ℕ → Code → ℕ → ℕ → Refusal
file_refusal_at name code at column =
    BadFile (record { name = name; code = code; at = at; column = column })

-- the refusal of a file without columns: the column is 0
abbrev pub file_refusal : List ℕ → Code → ℕ → Refusal
file_refusal name code at = file_refusal_at name code at 0

-- ---- words

-- F3 if there are more words than a segment can have
abbrev pub check_word_count : List ℕ → List ℕ → RuleResult (List ℕ)
check_word_count name words =
    if nat_lt segment_limit (length words) then Err (file_refusal name code.F3 0) else Ok words

-- The words of a file, from the result of unpacking its bytes: T3 or T4 if they are no packed
-- words, F3 if there are more words than a segment can have.
abbrev pub words_or_refusal : List ℕ → Result (List ℕ) PackFault → RuleResult (List ℕ)
words_or_refusal name (Ok words) = check_word_count name words
words_or_refusal name (Err (pack.T3 count)) = Err (file_refusal name code.T3 count)
words_or_refusal name (Err (pack.T4 place)) = Err (file_refusal name code.T4 place)
words_or_refusal name (Err pack.NoMemory) = Err NoMemory

-- ---- objects

-- the refusal of words that are no object, by their first fault
abbrev pub object_refusal : List ℕ → ObjectFault → Refusal
object_refusal name (fault.O1 at) = file_refusal name code.O1 at
object_refusal name (fault.O2 at) = file_refusal name code.O2 at
object_refusal name (fault.O3 at) = file_refusal name code.O3 at
object_refusal name (fault.O4 at) = file_refusal name code.O4 at
object_refusal name (fault.O5 at) = file_refusal name code.O5 at
object_refusal name (fault.O6 at) = file_refusal name code.O6 at
object_refusal name (fault.O7 at) = file_refusal name code.O7 at
object_refusal name (fault.O8 at) = file_refusal name code.O8 at
object_refusal name fault.NoMemory = NoMemory

-- The object of a file, from the result of decoding its words: O1 to O8 if they are no object.
abbrev pub object_or_refusal : List ℕ → Result PartsFields ObjectFault → RuleResult PartsFields
object_or_refusal name (Ok parts) = Ok parts
object_or_refusal name (Err fault) = Err (object_refusal name fault)
