-- The report of `bind`, from its parts.
use Rattle.std.proofs.Common.{◌≡◌, ℕ, List, Result, Ok, Err, refl, sym, ap, subst, ◌∙◌}
use Rattle.obj36_parts.specs.PartsFields.{PartsFields}
use Rattle.m36_bindfile.specs.declared.fault.BindFault.{BindFault}
use Rattle.m36_bindfile.specs.declared.fault.BindFault.TheVariants as bind
use Rattle.m36_bindfile.specs.BindFile.{IsBindRefusal}
use Rattle.m36_status.specs.declared.refusal.Refusal.{Refusal}
use Rattle.m36_status.specs.Refusing.{RuleResult}
use Rattle.m36_status.specs.Refusing as refusing
use Rattle.m36_status.proofs.GivesLaws.{gives_by, memory_given}
use Rattle.cmd_tools.specs.declared.bind_files.BindFiles.{BindFiles}
use Rattle.cmd_tools.specs.Reports.{ReportFields}
use Rattle.cmd_tools.specs.Binding.{bind_refused, names_or_refusal, report_of_bound_object, bind_report_or_refusal}

-- ---- refusals

-- a definition that passes on the refusal of the bind file
refused_by :
    (A B : Type 0) (make : Result A BindFault → RuleResult B) (file lent : List ℕ) (given : Result A BindFault) (f : BindFault) (r : Refusal)
    → make (Err f) ≡ Err (bind_refused file f) → lent ≡ file → given ≡ Err f → refusing.IsRuleRefusal r (bind_refused lent f) → refusing.IsRuleResult (Err r) (make given)
refused_by A B make file lent given f r made is given_is refuses =
    gives_by B r (bind_refused file f) (make given) (ap make given_is ∙ made)
    (subst (λ (n : List ℕ). refusing.IsRuleRefusal r (bind_refused n f)) is refuses)

handed :
    (A B : Type 0) (make : Result A BindFault → RuleResult B) (file lent : List ℕ) (given : Result A BindFault) (f : BindFault) (r : Refusal)
    → ((f : BindFault) → make (Err f) ≡ Err (bind_refused file f)) → lent ≡ file → IsBindRefusal f given → refusing.IsRuleRefusal r (bind_refused lent f)
    → refusing.IsRuleResult (Err r) (make given)
handed A B make file lent given (bind.B1 line) r made is refused refuses = refused_by A B make file lent given (bind.B1 line) r (made (bind.B1 line)) is refused refuses
handed A B make file lent given (bind.B2 line) r made is refused refuses = refused_by A B make file lent given (bind.B2 line) r (made (bind.B2 line)) is refused refuses
handed A B make file lent given (bind.B3 line) r made is refused refuses = refused_by A B make file lent given (bind.B3 line) r (made (bind.B3 line)) is refused refuses
handed A B make file lent given (bind.B4 line) r made is refused refuses = refused_by A B make file lent given (bind.B4 line) r (made (bind.B4 line)) is refused refuses
handed A B make file lent given (bind.B5 line) r made is refused refuses = refused_by A B make file lent given (bind.B5 line) r (made (bind.B5 line)) is refused refuses
handed A B make file lent given bind.NoMemory r made is refused refuses = memory_given B r (make given) refuses

-- ---- the names of the components

pub names_given :
    (file : List ℕ) (given : Result (List (List ℕ)) BindFault) (names : List (List ℕ)) → given ≡ Ok names → refusing.IsRuleResult (Ok names) (names_or_refusal file given)
names_given file given names is = ap (names_or_refusal file) is

pub names_refused :
    (file : List ℕ) (given : Result (List (List ℕ)) BindFault) (f : BindFault) (r : Refusal)
    → IsBindRefusal f given → refusing.IsRuleRefusal r (bind_refused file f) → refusing.IsRuleResult (Err r) (names_or_refusal file given)
names_refused file given f r refused refuses =
    handed (List (List ℕ)) (List (List ℕ)) (names_or_refusal file) file file given f r (λ f. refl) refl refused refuses

pub ruleset naming = (names_given, names_refused)

-- ---- the bound object

pub bound_given :
    (files : BindFiles) (given : Result PartsFields BindFault) (parts : PartsFields) (result : Result ReportFields Refusal)
    → given ≡ Ok parts → refusing.IsRuleResult result (Ok (report_of_bound_object files.object parts)) → refusing.IsRuleResult result (bind_report_or_refusal files given)
bound_given files given parts result is gives = subst (λ g. refusing.IsRuleResult result (bind_report_or_refusal files g)) (sym is) gives

pub bound_refused :
    (files : BindFiles) (lent : List ℕ) (given : Result PartsFields BindFault) (f : BindFault) (r : Refusal)
    → lent ≡ files.bindfile → IsBindRefusal f given → refusing.IsRuleRefusal r (bind_refused lent f) → refusing.IsRuleResult (Err r) (bind_report_or_refusal files given)
bound_refused files lent given f r is refused refuses =
    handed PartsFields ReportFields (bind_report_or_refusal files) files.bindfile lent given f r (λ f. refl) is refused refuses
