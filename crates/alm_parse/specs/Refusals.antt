-- Why a source is refused.
use Rattle.std.specs.Prelude.{ℕ, ⊤, ◌≡◌, ◌<◌, Bool, true, false, List, slice_index, Option, Some}
use Rattle.std.specs.Prelude.{None, Result, Ok, Err, if◌then◌else◌}
use Rattle.alm_parse.specs.declared.refusal.ParseCode.{ParseCode}
use Rattle.alm_parse.specs.declared.refusal.ParseCode.TheVariants.{E1, E2, E4}
use Rattle.alm_parse.specs.declared.refusal.ParseRefusal.{ParseRefusal}
use Rattle.alm_parse.specs.declared.refusal.ParseError.{ParseError}
use Rattle.alm_parse.specs.declared.refusal.ParseError.TheVariants.{Refused, NoMemory}
use Rattle.alm_tokens.specs.Bytes.{is_source_byte}

-- The refusal of a label, an operation or an operand, at the index where it begins. If the byte
-- there is one that no source can have, the code is E1.
unfoldable pub refusal_at_token : List ℕ → ℕ → ParseCode → ParseRefusal
refusal_at_token text place code =
    record { place = place; code = if is_source_byte (slice_index text place) then code else E1 }

-- The refusal of an operand: E2 if it does not have its form, otherwise E4 at its first number out
-- of range.
abbrev pub operand_form_refusal : List ℕ → ℕ → Bool → Option ℕ → Option ParseRefusal
operand_form_refusal text operand false over = Some (refusal_at_token text operand E2)
operand_form_refusal text operand true (Some place) = Some (record { place = place; code = E4 })
operand_form_refusal text operand true None = None

-- The result of a parser is that of the definition. It may be NoMemory whatever the text is.
abbrev pub IsParserResultOf : {A : Type 0} → Result A ParseError → Result A ParseRefusal → Type 0
IsParserResultOf (Ok value) definition = definition ≡ Ok value
IsParserResultOf (Err (Refused refusal)) definition = definition ≡ Err refusal
IsParserResultOf (Err NoMemory) definition = ⊤

-- the place of a refusal is that of a byte of the text, which has `count` bytes
abbrev pub IsRefusedInside : ℕ → ParseRefusal → Type 0
IsRefusedInside count refusal = refusal.place < count

-- If the parser stopped with a refusal, its place is that of a byte of the text, which has `count`
-- bytes.
abbrev pub ErrorIsInside : ℕ → ParseError → Type 0
ErrorIsInside count (Refused refusal) = IsRefusedInside count refusal
ErrorIsInside count NoMemory = ⊤
