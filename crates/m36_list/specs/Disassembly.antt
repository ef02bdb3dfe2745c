-- The text of a word as an instruction, as the assembler reads it.
use Rattle.std.specs.Prelude.{ℕ, ◌-◌, ◌^◌, nat_lt, List, [], ◌∷◌, ◌++◌, Option, Some, None}
use Rattle.std.specs.Prelude.{codes, if◌then◌else◌}
use Rattle.m36_text.specs.Digits.{digit_character, decimal_text, word_text}
use Rattle.m36_inst.specs.Fields.{InstFields}
use Rattle.m36_inst.specs.Instruction.{inst_of, pr_number, offset_field}
use Rattle.m36_inst.specs.Lookup.{name_at}
use Rattle.m36_word.specs.Field.{offset_limit}
use Rattle.m36_list.specs.Modifiers.{modifier_text}

-- the text in decimal of a signed number of 15 bits, in two's complement
unfoldable pub signed_text : ℕ → List ℕ
signed_text offset =
    if nat_lt offset offset_limit then decimal_text offset else codes "-"
    ++ decimal_text (2 ^ 15 - offset)

-- the address; or the pointer register and the signed offset from it
abbrev pub address_text : InstFields → List ℕ
address_text i =
    if i.by_pr then codes "pr" ++ digit_character (pr_number i) ∷ [] ++ codes "|"
    ++ signed_text (offset_field i)
    else decimal_text i.y

-- the text of a word that is not shown as an instruction
abbrev pub octal_constant : ℕ → List ℕ
octal_constant w = codes "oct " ++ word_text w

-- the text of a word with these fields: the name, a space, the address and the modifier, if it has
-- a name and a modifier, and otherwise an octal constant
abbrev pub text_of_parts : ℕ → InstFields → Option (List ℕ) → Option (List ℕ) → List ℕ
text_of_parts w i (Some name) (Some modifier) = name ++ codes " " ++ address_text i ++ modifier
text_of_parts w i (Some name) None = octal_constant w
text_of_parts w i None modifier = octal_constant w

-- the text of a word with these fields; an instruction whose inhibit bit is on is not shown as one
abbrev pub text_of_fields : ℕ → InstFields → List ℕ
text_of_fields w i =
    if i.inhibit
    then octal_constant w
    else text_of_parts w i (name_at i.code i.bit27) (modifier_text i.tag)

-- the text of a word
unfoldable pub disassembly : ℕ → List ℕ
disassembly w = text_of_fields w (inst_of w)
