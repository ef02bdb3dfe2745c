-- The object that a list of words encodes, or its first fault.
use Rattle.std.specs.Prelude.{ℕ, ◌≡◌, ◌&&◌, nat_eq, if◌then◌else◌, List, Option, Some, None, Result}
use Rattle.std.specs.Prelude.{Ok, Err}
use Rattle.std.specs.Cmp.Lexicographic.{pointwise}
use Rattle.obj36_parts.specs.PartsFields.{PartsFields}
use Rattle.obj36_parts.specs.ObjectSegment.{words_of, is_well_formed}
use Rattle.obj36_read.specs.Reading.{parts_of}
use Rattle.obj36.specs.Faults.{first_fault}
use Rattle.obj36.specs.declared.fault.ObjectFault.{ObjectFault}
use Rattle.obj36.specs.declared.fault.ObjectFault.TheVariants.{O1, O2, O3, O4, O5, O6, O7, O8}
use Rattle.obj36.specs.declared.fault.ObjectFault.TheVariants.{NoMemory}

-- The parts that a list encodes, if there are any: the parts that are decoded from it, if encoding
-- them yields the list again.
unfoldable pub encoded_parts : List ℕ → Option PartsFields
encoded_parts words =
    let parts = parts_of words in
    if is_well_formed parts && pointwise nat_eq (words_of parts) words then Some parts else None

-- the parts as a result, or the fault if there are none
abbrev pub parts_or_fault : Option PartsFields → ObjectFault → Result PartsFields ObjectFault
parts_or_fault (Some parts) fault = Ok parts
parts_or_fault None fault = Err fault

-- the parts that a list encodes, or the first fault of the list
unfoldable pub object_of : List ℕ → Result PartsFields ObjectFault
object_of words = parts_or_fault (encoded_parts words) (first_fault words)

-- The result is the object or the fault of the list. It may be NoMemory whatever the list is.
abbrev pub IsObjectOf : List ℕ → Result PartsFields ObjectFault → Type 0
IsObjectOf words (Ok p) = object_of words ≡ Ok p
IsObjectOf words (Err (O1 place)) = object_of words ≡ Err (O1 place)
IsObjectOf words (Err (O2 place)) = object_of words ≡ Err (O2 place)
IsObjectOf words (Err (O3 place)) = object_of words ≡ Err (O3 place)
IsObjectOf words (Err (O4 place)) = object_of words ≡ Err (O4 place)
IsObjectOf words (Err (O5 place)) = object_of words ≡ Err (O5 place)
IsObjectOf words (Err (O6 place)) = object_of words ≡ Err (O6 place)
IsObjectOf words (Err (O7 place)) = object_of words ≡ Err (O7 place)
IsObjectOf words (Err (O8 place)) = object_of words ≡ Err (O8 place)
IsObjectOf words (Err NoMemory) = Unit {0}
