-- Rules: what is computed from files that were read, a value or the refusal of a file.
use Rattle.std.specs.Prelude.{⊤, Result, Ok, Err}
use Rattle.m36_status.specs.declared.refusal.Refusal.{Refusal}
use Rattle.m36_status.specs.declared.refusal.Refusal.TheVariants.{BadFile, NoMemory}
use Rattle.m36_status.specs.declared.status.Status.{Status}
use Rattle.m36_status.specs.declared.status.Status.TheVariants as status
use Rattle.m36_status.specs.Refusing.{status_of}
use Rattle.m36_program.specs.Program.{May, Program, done, stops, some, wants}

-- a program that cannot continue or end
abbrev pub never : {may : May} {A : Type 0} → Program may A
never = some {B = ⊥} (λ b. ⊤) (λ b. absurd b)

-- The program that ends with the value of a rule, or with the status of its refusal. A rule does
-- not yield NoMemory.
abbrev pub end_of_rule : {may : May} {A : Type 0} → Result A Refusal → Program may A
end_of_rule (Ok a) = done a
end_of_rule (Err (BadFile bad)) = stops (status.BadFile bad) tt
end_of_rule (Err NoMemory) = never

-- the program of a rule: memory may run out first
unfoldable pub rule_program : {may : May} {A : Type 0} → Result A Refusal → Program may A
rule_program given = wants (end_of_rule given)

-- the result of a rule with its refusal as a status
abbrev pub refusal_to_status : {A : Type 0} → Result A Refusal → Result A Status
refusal_to_status (Ok a) = Ok a
refusal_to_status (Err refusal) = Err (status_of refusal)
