-- Rules: the value that is computed from files, or why there is none.
use Rattle.std.specs.Prelude.{◌≡◌, ⊤, Result, Ok, Err}
use Rattle.m36_status.specs.declared.refusal.Refusal.{Refusal}
use Rattle.m36_status.specs.declared.refusal.Refusal.TheVariants.{BadFile, NoMemory}
use Rattle.m36_status.specs.declared.status.Status.{Status}
use Rattle.m36_status.specs.declared.status.Status.TheVariants as status

-- the status with which a command ends
abbrev pub status_of : Refusal → Status
status_of (BadFile bad) = status.BadFile bad
status_of NoMemory = status.NoMemory

-- the result of a rule: its value, or the refusal of a file
abbrev pub RuleResult : Type 0 → Type 0
RuleResult A = Result A Refusal

-- The result of a call is that of the rule, or memory ran out.
abbrev pub IsRuleResult : {A : Type 0} → Result A Refusal → RuleResult A → Type 0
IsRuleResult (Ok a) rule = rule ≡ Ok a
IsRuleResult (Err (BadFile bad)) rule = rule ≡ Err (BadFile bad)
IsRuleResult (Err NoMemory) rule = ⊤

-- The refusal that a call returns is that of the rule, or NoMemory.
abbrev pub IsRuleRefusal : Refusal → Refusal → Type 0
IsRuleRefusal (BadFile bad) rule = rule ≡ BadFile bad
IsRuleRefusal NoMemory rule = ⊤
