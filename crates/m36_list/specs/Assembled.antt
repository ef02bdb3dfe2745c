-- The result of assembling the text of a word.
use Rattle.std.specs.Prelude.{ℕ, ◌+◌, ◌^◌, ◌<◌, ◌≡◌, false, List, [], ◌∷◌, ◌++◌, length, Option}
use Rattle.std.specs.Prelude.{Some, None, Result, Ok, Err}
use Rattle.m36_text.specs.Lines.{as_line}
use Rattle.m36_text.specs.Results.{and_then}
use Rattle.alm_parse.specs.declared.line.Line36.{Line36}
use Rattle.alm_parse.specs.declared.refusal.ParseRefusal.{ParseRefusal}
use Rattle.alm_parse.specs.declared.fault.AlmFault.{AlmFault}
use Rattle.alm_tokens.specs.Rows.{row_at}
use Rattle.alm_parse.specs.Lines.{parse_line}
use Rattle.alm_parse.specs.SourceFields.{Source}
use Rattle.alm_parse.specs.Sources.{source_of_text}
use Rattle.obj36_parts.specs.PartsFields.{PartsFields}
use Rattle.obj36_parts.specs.ObjectSegment.{version_of}
use Rattle.alm_lines.specs.SpotFields.{LocationCounter}
use Rattle.alm_asm.specs.declared.tables.Tables.{Tables}
use Rattle.alm_asm.specs.Words.{words_of_effect}
use Rattle.alm_asm.specs.Assembly.{assembled}
use Rattle.m36_list.specs.Disassembly.{disassembly}

-- ---- a line anywhere in a source

-- the words that a line places, given what parsing it yielded; None if it was refused
abbrev pub words_if_parsed :
    List ℕ → Tables → LocationCounter → Result Line36 ParseRefusal → Option (List ℕ)
words_if_parsed source tables spot (Ok line) =
    Some (words_of_effect source tables spot line.args line.deed)
words_if_parsed source tables spot (Err refusal) = None

-- The words that a line with this text and this number places, in a source where `before` precedes
-- the line and `after` follows it.
abbrev pub words_between : ℕ → List ℕ → List ℕ → List ℕ → Tables → LocationCounter → Option (List ℕ)
words_between number before text after tables spot =
    let source = before ++ (text ++ after) in
    words_if_parsed source tables spot
    (parse_line source (row_at number (length before) (length before + length text)))

-- The text of any word is parsed as a line anywhere in a source, and the line places that word and
-- no other. It has no symbol and no segment, so the symbols and links of the source and the place
-- of the line do not matter.
abbrev pub PlacesItself : Type 0
PlacesItself =
    (w number : ℕ) (before after : List ℕ) (tables : Tables) (spot : LocationCounter) → w < 2 ^ 36
    → words_between number before (disassembly w) after tables spot ≡ Some (w ∷ [])

-- ---- a whole source

-- the parts of the object of a source, given what parsing it yielded, or its fault
abbrev pub object_of : Result Source AlmFault → Result PartsFields AlmFault
object_of read = and_then read assembled

-- the parts of the object whose text is this one word, with nothing else
abbrev pub object_of_word : ℕ → PartsFields
object_of_word w =
    record {
      text = w ∷ [];
      statics = [];
      definitions = [];
      links = [];
      relocations = [];
      entry_bound = 0;
      version = version_of false;
    }

-- The text of any word, with its line feed and alone as a source, is not refused. Its object has
-- that word as its text and nothing else.
abbrev pub AssemblesToItself : Type 0
AssemblesToItself =
    (w : ℕ) → w < 2 ^ 36 → object_of (source_of_text (as_line (disassembly w)))
    ≡ Ok (object_of_word w)
