-- The readers of one file, as programs: its words (T3, T4, F3), and its object (O1 to O8).
use Rattle.std.specs.Prelude.{ℕ, List}
use Rattle.m36_text.specs.Packing.{unpacked}
use Rattle.obj36_parts.specs.PartsFields.{PartsFields}
use Rattle.obj36.specs.ObjectOf.{object_of}
use Rattle.m36_status.specs.Rules.{words_or_refusal, object_or_refusal}
use Rattle.m36_program.specs.Program.{May, Program, then_with}
use Rattle.m36_program.specs.Readers.{file_bytes}
use Rattle.m36_files.specs.Deciding.{rule_program}

-- reads the words of a file
unfoldable pub file_words : {may : May} → List ℕ → Program may (List ℕ)
file_words name =
    then_with (file_bytes name) (λ bytes. rule_program (words_or_refusal name (unpacked bytes)))

-- reads the object of a file
unfoldable pub file_object : {may : May} → List ℕ → Program may PartsFields
file_object name =
    then_with (file_words name) (λ words. rule_program (object_or_refusal name (object_of words)))
