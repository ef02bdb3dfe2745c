-- The object that a source means, and its bytes.
use Rattle.std.specs.Prelude.{ℕ, List, Result, Ok, Err, ◌≡◌}
use Rattle.m36_text.specs.Packing.{packed}
use Rattle.m36_text.specs.Results.{and_then}
use Rattle.alm_parse.specs.SourceFields.{Source}
use Rattle.alm_parse.specs.Sources.{source_of_text, IsFaultOf}
use Rattle.alm_parse.specs.declared.fault.AlmFault.{AlmFault}
use Rattle.alm_asm.specs.Assembly.{assembled}
use Rattle.obj36_parts.specs.PartsFields.{PartsFields}
use Rattle.obj36_parts.specs.ObjectSegment.{words_of}
use Rattle.m36_status.specs.declared.setting.Set.{Set}

-- a source as lines, and the parts of the object that it means
pub record Assembly : Type 0 where
  pub source : Source
  pub parts : PartsFields

-- the source with the parts that it was assembled into, or the fault of the assembly
abbrev pub with_parts : Source → Result PartsFields AlmFault → Result Assembly AlmFault
with_parts source made = and_then made (λ parts. Ok (record { source = source; parts = parts }))

-- The assembly of a source, from the result of parsing it, or its first fault. Parsing faults come
-- before those of assembling.
abbrev pub assembly_of_parsed : Result Source AlmFault → Result Assembly AlmFault
assembly_of_parsed read = and_then read (λ source. with_parts source (assembled source))

-- the parsed lines of a source and the parts of its object, or the first fault of the source
unfoldable pub assembly_of : List ℕ → Result Assembly AlmFault
assembly_of bytes = assembly_of_parsed (source_of_text bytes)

-- the bytes of an object: its words, packed
unfoldable pub object_bytes : PartsFields → List ℕ
object_bytes parts = packed (words_of parts)

-- the file with an object: it has this name, and the packed words as its content
abbrev pub object_set : List ℕ → PartsFields → Set
object_set name parts = record { name = name; content = object_bytes parts }

-- ---- the contract of a call that makes something of a source

-- The source assembles, and `made` is what `make` makes of its assembly.
pub record IsMadeOf {A : Type 0} (make : Assembly → A) (made : A)
    (given : Result Assembly AlmFault) : Type 0 where
  pub assembly : Assembly
  pub is : given ≡ Ok assembly
  pub made_is : made ≡ make assembly

-- The result is what `make` makes of the assembly of a source, or the refusal of the source, or
-- NoMemory.
abbrev pub IsMadeOrFault :
    {A : Type 0} → (Assembly → A) → Result A AlmFault → Result Assembly AlmFault → Type 0
IsMadeOrFault make (Ok made) given = IsMadeOf make made given
IsMadeOrFault make (Err fault) given = IsFaultOf fault given
