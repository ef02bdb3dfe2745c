-- The effects of operations.
use Rattle.std.specs.Prelude.{ℕ, Bool, List, Option, Some, None}
use Rattle.m36_inst.specs.Lookup.{code_named}
use Rattle.alm_tokens.specs.Tokens.{slice_of}
use Rattle.alm_tokens.specs.declared.span.Span.{Span}
use Rattle.alm_parse.specs.Operations.{directive}
use Rattle.alm_parse.specs.declared.operation.Operation.{Operation}
use Rattle.alm_parse.specs.declared.deed.LineEffect.{LineEffect}
use Rattle.alm_parse.specs.declared.deed.LineEffect.TheVariants as deed

-- the effect of an instruction with this code
abbrev pub effect_of_instruction : Option (ℕ × Bool) → LineEffect
effect_of_instruction (Some code) = deed.Instruction code.0 code.1
effect_of_instruction None = deed.Nothing

-- the effect of a directive, or of the instruction with this name
abbrev pub effect_by_directive : Option (Operation × LineEffect) → List ℕ → LineEffect
effect_by_directive (Some directed) name = directed.1
effect_by_directive None name = effect_of_instruction (code_named name)

-- the effect of the operation with this name
unfoldable pub effect_named : List ℕ → LineEffect
effect_named name = effect_by_directive (directive name) name

-- the effect of the operation of a line, if it has one
abbrev pub effect_of_line : List ℕ → Option Span → LineEffect
effect_of_line text (Some op) = effect_named (slice_of text op)
effect_of_line text None = deed.Nothing
