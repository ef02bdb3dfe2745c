-- The first fault of a list of words, in the order of the codes.
use Rattle.std.specs.Prelude.{ℕ, ◌≡◌, nat_lt, if◌then◌else◌, List, length, Option, Some, None}
use Rattle.std.specs.Prelude.{Result, Ok, Err}
use Rattle.std.specs.Option.{option_map}
use Rattle.obj36_parts.specs.PartsFields.{PartsFields}
use Rattle.obj36_parts.specs.ObjectSegment.{Encodes}
use Rattle.obj36_read.specs.Reading.{older_map_words, version_in}
use Rattle.obj36_read.specs.MapFaults.{map_fault, section_fault, shared_fault, extents_of}
use Rattle.obj36_read.specs.MapFaults.{extent_words}
use Rattle.obj36_read.specs.TableFaults.{table_fault, names_fault}
use Rattle.obj36_read.specs.LinkFaults.{index_in_list, links_fault}
use Rattle.obj36.specs.declared.fault.ObjectFault.{ObjectFault}
use Rattle.obj36.specs.declared.fault.ObjectFault.TheVariants.{O1, O2, O3, O4, O5, O6, O7, O8}
use Rattle.obj36.specs.declared.fault.ObjectFault.TheVariants.{NoMemory}

-- the words of the definition section, where the map says that it is
unfoldable pub mapped_definition : List ℕ → List ℕ
mapped_definition words = extent_words words (extents_of words).definition

-- the words of the linkage section, where the map says that it is
unfoldable pub mapped_linkage : List ℕ → List ℕ
mapped_linkage words = extent_words words (extents_of words).linkage

-- the first word with which O5 refuses a list
unfoldable pub definition_fault : List ℕ → Option ℕ
definition_fault words =
    index_in_list (extents_of words).definition.from
    (table_fault (version_in words) (mapped_definition words))

-- the first word with which O6 refuses a list
unfoldable pub spelling_fault : List ℕ → Option ℕ
spelling_fault words =
    index_in_list (extents_of words).definition.from (names_fault (mapped_definition words))

-- the first word with which O7 refuses a list
unfoldable pub linking_fault : List ℕ → Option ℕ
linking_fault words =
    links_fault (version_in words) (extents_of words).definition.from (mapped_definition words)
    (extents_of words).linkage.from (mapped_linkage words)

-- O7 at a place, if it applies, and otherwise O8
abbrev pub o7_or_o8 : Option ℕ → ObjectFault
o7_or_o8 (Some p) = O7 p
o7_or_o8 None = O8 0

-- O6 at a place, if it applies, and otherwise a later code
abbrev pub o6_or : Option ℕ → ObjectFault → ObjectFault
o6_or (Some p) later = O6 p
o6_or None later = later

-- O5 at a place, if it applies, and otherwise a later code
abbrev pub o5_or : Option ℕ → ObjectFault → ObjectFault
o5_or (Some p) later = O5 p
o5_or None later = later

-- O4 at a place, if it applies, and otherwise a later code
abbrev pub o4_or : Option ℕ → ObjectFault → ObjectFault
o4_or (Some p) later = O4 p
o4_or None later = later

-- O3 at a place, if it applies, and otherwise a later code
abbrev pub o3_or : Option ℕ → ObjectFault → ObjectFault
o3_or (Some p) later = O3 p
o3_or None later = later

-- the fault of the length or the map, if there is one, and otherwise a later code
abbrev pub o1_or_o2_or : Option ObjectFault → ObjectFault → ObjectFault
o1_or_o2_or (Some fault) later = fault
o1_or_o2_or None later = later

-- the first fault of a list whose map is valid, and which encodes no parts
unfoldable pub fault_after_map : List ℕ → ObjectFault
fault_after_map words =
    o3_or (section_fault words) (o4_or (shared_fault words)
    (o5_or (definition_fault words)
    (o6_or (spelling_fault words) (o7_or_o8 (linking_fault words)))))

-- the fault that is found before the parts are decoded: too few words, or an invalid map
unfoldable pub length_or_map_fault : List ℕ → Option ObjectFault
length_or_map_fault words =
    if nat_lt (length words) older_map_words
    then Some (O1 (length words))
    else option_map O2 (map_fault words)

-- the first fault of a list that encodes no parts
unfoldable pub first_fault : List ℕ → ObjectFault
first_fault words = o1_or_o2_or (length_or_map_fault words) (fault_after_map words)

-- The list encodes no parts.
abbrev pub EncodesNothing : List ℕ → Type 0
EncodesNothing words = (p : PartsFields) → Encodes p words → ⊥

-- The list encodes no parts, and this is its first fault.
pub record IsRefused (words : List ℕ) (fault : ObjectFault) : Type 0 where
  pub first : first_fault words ≡ fault
  pub stands_for_none : EncodesNothing words

-- The result of reading a list: the parts that it encodes, or its first fault. It may be NoMemory
-- whatever the list is.
abbrev pub ObjectResult : List ℕ → Result PartsFields ObjectFault → Type 0
ObjectResult words (Ok p) = Encodes p words
ObjectResult words (Err (O1 place)) = IsRefused words (O1 place)
ObjectResult words (Err (O2 place)) = IsRefused words (O2 place)
ObjectResult words (Err (O3 place)) = IsRefused words (O3 place)
ObjectResult words (Err (O4 place)) = IsRefused words (O4 place)
ObjectResult words (Err (O5 place)) = IsRefused words (O5 place)
ObjectResult words (Err (O6 place)) = IsRefused words (O6 place)
ObjectResult words (Err (O7 place)) = IsRefused words (O7 place)
ObjectResult words (Err (O8 place)) = IsRefused words (O8 place)
ObjectResult words (Err NoMemory) = Unit {0}

-- A list that encodes parts is read as these parts, unless memory runs out.
abbrev pub IsReadAs : PartsFields → Result PartsFields ObjectFault → Type 0
IsReadAs p (Ok q) = q ≡ p
IsReadAs p (Err NoMemory) = Unit {0}
IsReadAs p (Err (O1 place)) = ⊥
IsReadAs p (Err (O2 place)) = ⊥
IsReadAs p (Err (O3 place)) = ⊥
IsReadAs p (Err (O4 place)) = ⊥
IsReadAs p (Err (O5 place)) = ⊥
IsReadAs p (Err (O6 place)) = ⊥
IsReadAs p (Err (O7 place)) = ⊥
IsReadAs p (Err (O8 place)) = ⊥

-- The parts that a list encodes, or none.
abbrev pub IsValueOf : List ℕ → Option PartsFields → Type 0
IsValueOf words (Some p) = Encodes p words
IsValueOf words None = EncodesNothing words
