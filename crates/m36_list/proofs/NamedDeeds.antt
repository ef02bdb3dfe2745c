-- The effects of the operations in texts of words.
use Rattle.std.proofs.Common.{ℕ, ◌≡◌, Bool, List, Option, Some, None, refl, ap, ◌∙◌}
use Rattle.std.specs.Prelude.{codes}
use Rattle.m36_inst.specs.Lookup.{name_at, code_named}
use Rattle.m36_inst.proofs.OneToOne.{named_code}
use Rattle.alm_parse.specs.declared.operation.Operation.{Operation}
use Rattle.alm_parse.specs.declared.deed.LineEffect.{LineEffect}
use Rattle.alm_parse.specs.Operations.{directive}
use Rattle.alm_parse.specs.declared.deed.LineEffect.TheVariants as deed
use Rattle.alm_parse.specs.Deeds.{effect_of_instruction, effect_by_directive, effect_named}

-- a name that is not a directive is that of an instruction, or of nothing
undirected : (name : List ℕ) → directive name ≡ None → effect_named name ≡ effect_of_instruction (code_named name)
unfolding effect_named
undirected name none = ap (λ (d : Option (Operation × LineEffect)). effect_by_directive d name) none

-- a name of the table places its instruction, and `oct` its numbers
pub instruction_deed : (code : ℕ) (bit27 : Bool) (name : List ℕ) → name_at code bit27 ≡ Some name → directive name ≡ None → effect_named name ≡ deed.Instruction code bit27
instruction_deed code bit27 name named none = undirected name none ∙ rw (named_code code bit27 name named) refl

pub constant_deed : effect_named (codes "oct") ≡ deed.Words
unfolding effect_named directive
constant_deed = refl
