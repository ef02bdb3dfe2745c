-- Operations: the instructions of the machine, and the directives of the assembler.
use Rattle.std.specs.Prelude.{ℕ, List, codes, Option, Some, None, if◌then◌else◌}
use Rattle.m36_inst.specs.Lookup.{code_named}
use Rattle.alm_parse.specs.declared.operation.Operation.{Operation}
use Rattle.alm_parse.specs.declared.operation.Operation.TheVariants.{Instruction, Names, Value}
use Rattle.alm_parse.specs.declared.operation.Operation.TheVariants.{Section, Decimal, Octal}
use Rattle.alm_parse.specs.declared.operation.Operation.TheVariants.{Characters, Halves, Block}
use Rattle.alm_parse.specs.declared.operation.Operation.TheVariants.{Bare, End}
use Rattle.alm_parse.specs.declared.deed.LineEffect.{LineEffect}
use Rattle.alm_parse.specs.declared.deed.LineEffect.TheVariants as deed
use Rattle.alm_tokens.specs.Tokens.{is_text}

-- the operation after which the text is ignored
abbrev pub end_name : List ℕ
end_name = codes "end"

-- Each directive of the assembler: how its operand is parsed, and what it does.
unfoldable pub directive : List ℕ → Option (Operation × LineEffect)
directive name =
    if is_text (codes "entry") name
    then Some (Names, deed.Entry)
    else (if is_text (codes "segdef") name
    then Some (Names, deed.Segdef)
    else (if is_text (codes "equ") name
    then Some (Value, deed.Equ)
    else (if is_text (codes "use") name
    then Some (Section, deed.Use)
    else (if is_text (codes "dec") name
    then Some (Decimal, deed.Words)
    else (if is_text (codes "oct") name
    then Some (Octal, deed.Words)
    else (if is_text (codes "aci") name
    then Some (Characters, deed.Words)
    else (if is_text (codes "zero") name
    then Some (Halves, deed.Zero)
    else (if is_text (codes "bss") name
    then Some (Block, deed.Block)
    else (if is_text (codes "even") name
    then Some (Bare, deed.Even)
    else (if is_text (codes "entrybound") name
    then Some (Bare, deed.Bound)
    else (if is_text end_name name then Some (End, deed.Nothing) else None)))))))))))

-- the kind of operand of an instruction, if there is one of this name
abbrev pub instruction_if_any : {A : Type 0} → Option A → Option Operation
instruction_if_any (Some code) = Some Instruction
instruction_if_any None = None

-- the kind of operand of a directive, or of the instruction with this name
abbrev pub operation_of_directive : Option (Operation × LineEffect) → List ℕ → Option Operation
operation_of_directive (Some directed) name = Some directed.0
operation_of_directive None name = instruction_if_any (code_named name)

-- the kind of operand of the operation with this name; None if there is none
unfoldable pub operation_of : List ℕ → Option Operation
operation_of name = operation_of_directive (directive name) name
