-- A call that refuses a file yields the refusal of the rule.
use Rattle.std.proofs.Common.{◌≡◌, Err, sym, ap, subst}
use Rattle.m36_status.specs.declared.refusal.Refusal.{Refusal}
use Rattle.m36_status.specs.declared.refusal.Refusal.TheVariants.{BadFile, NoMemory}
use Rattle.m36_status.specs.Refusing.{RuleResult, IsRuleResult, IsRuleRefusal}

pub gives_refusal : (A : Type 0) (r rule : Refusal) → IsRuleRefusal r rule → IsRuleResult {A = A} (Err r) (Err rule)
gives_refusal A (BadFile bad) rule is = ap (λ (r : Refusal). Err r) is
gives_refusal A NoMemory rule is = tt

-- a rule that refuses
pub gives_by : (A : Type 0) (r given : Refusal) (rule : RuleResult A) → rule ≡ Err given → IsRuleRefusal r given → IsRuleResult (Err r) rule
gives_by A r given rule is file_refusal = subst (λ d. IsRuleResult (Err r) d) (sym is) (gives_refusal A r given file_refusal)

-- NoMemory may be the result in place of that of any rule.
pub memory_given : (A : Type 0) (r : Refusal) (rule : RuleResult A) → IsRuleRefusal r NoMemory → IsRuleResult (Err r) rule
memory_given A (BadFile bad) rule is = absurd (cc)
memory_given A NoMemory rule is = tt
