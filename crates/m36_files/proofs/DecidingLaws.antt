-- A call that computes a rule performs the program of the rule.
use Rattle.std.proofs.Common.{◌≡◌, [], Result, Ok, Err, refl, sym, subst, inl, inr}
use Rattle.m36_world.specs.Seen.{Seen}
use Rattle.m36_status.specs.declared.refusal.Refusal.{Refusal}
use Rattle.m36_status.specs.declared.refusal.Refusal.TheVariants.{BadFile, NoMemory}
use Rattle.m36_status.specs.declared.status.Status.{Status}
use Rattle.m36_status.specs.declared.status.Status.TheVariants as status
use Rattle.m36_status.specs.Refusing.{RuleResult, IsRuleResult}
use Rattle.m36_program.specs.Goes.{Goes}
use Rattle.m36_program.specs.Performs.{Performs}
use Rattle.m36_program.specs.Program.{May, Program, then_with}
use Rattle.m36_program.proofs.Performing.{goes_done, goes_stops, performs_none, performs_then, performs_stop}
use Rattle.m36_files.specs.Deciding.{end_of_rule, rule_program, refusal_to_status}

pub goes_given :
    (may : May) {A : Type 0} (given : Result A Refusal) (rule : RuleResult A) → IsRuleResult given rule
    → Goes {may = may} (rule_program rule) [] (refusal_to_status given)
unfolding Goes rule_program
goes_given may {A} (Ok a) rule is =
    inl (subst (λ (e : RuleResult A). Goes {may = may} (end_of_rule e) [] (Ok a)) (sym is) (goes_done may a))
goes_given may {A} (Err (BadFile bad)) rule is =
    inl (subst (λ (e : RuleResult A). Goes {may = may} (end_of_rule e) [] (refusal_to_status {A = A} (Err (BadFile bad)))) (sym is)
    (goes_stops may A (status.BadFile bad) tt))
goes_given may (Err NoMemory) rule is = inr (record { none = refl; result_is = refl })

-- the answer of a rule
pub rule_given :
    (may : May) {A : Type 0} (given : Result A Refusal) (rule : RuleResult A) (result : Result A Status) (seen : Seen)
    → IsRuleResult given rule → result ≡ refusal_to_status given → Performs {may = may} (rule_program rule) result seen seen
rule_given may given rule result seen gives is =
    performs_none (rule_program rule) result seen (subst (λ r. Goes {may = may} (rule_program rule) [] r) (sym is) (goes_given may given rule gives))

-- a rule on what was read before
pub rule_after :
    (may : May) {A B : Type 0} (p : Program may A) (rule : A → RuleResult B) (a read : A) (given : Result B Refusal) (result : Result B Status)
    (old new : Seen)
    → Performs p (Ok a) old new → read ≡ a → IsRuleResult given (rule read) → result ≡ refusal_to_status given
    → Performs (then_with p (λ x. rule_program (rule x))) result old new
rule_after may p rule a read given result old new performs same gives is =
    performs_then p (λ x. rule_program (rule x)) a result old new new performs
    (rule_given may given (rule a) result new (subst (λ x. IsRuleResult given (rule x)) same gives) is)

-- nothing was read
pub rule_never :
    (may : May) {A B : Type 0} (p : Program may A) (rule : A → RuleResult B) (s : Status) (old new : Seen)
    → Performs p (Err s) old new → Performs (then_with p (λ x. rule_program (rule x))) (Err s) old new
rule_never may p rule s old new performs = performs_stop p (λ x. rule_program (rule x)) s old new performs
