-- The files are made, written and booted, one after another.
use Rattle.std.proofs.Common.{◌≡◌, ℕ, List, [], Result, Ok, Err, refl, ap, subst}
use Rattle.m36_world.specs.Seen.{Seen}
use Rattle.m36_status.specs.declared.refusal.Refusal.{Refusal}
use Rattle.m36_status.specs.declared.setting.Set.{Set}
use Rattle.m36_status.specs.declared.status.Status.{Status}
use Rattle.m36_status.specs.Refusing.{status_of, IsRuleResult}
use Rattle.m36_program.specs.Goes.{Goes}
use Rattle.m36_program.specs.Performs.{Performs}
use Rattle.m36_program.specs.Program.{May, Program, then_with}
use Rattle.m36_program.proofs.Performing.{performs_none, performs_then, performs_stop}
use Rattle.m36_files.specs.Deciding.{rule_program}
use Rattle.m36_files.specs.Writing as allows
use Rattle.m36_files.proofs.DecidingLaws.{rule_given}
use Rattle.cmd_folder.specs.Folder.{FolderFields}
use Rattle.cmd_tools.specs.Reporting.{write_files}
use Rattle.cmd_tools.proofs.ReportLaws.{then_rest}
use Rattle.cmd_make.specs.Making.{files_of_seed}
use Rattle.cmd_make.specs.Made.{boot_files}
use Rattle.cmd_make.specs.MakeProgram.{on_booted, boot_made, write_and_boot, make_program}
use Rattle.cmd_make.specs.Within.{widen}
use Rattle.cmd_make.proofs.WithinLaws.{performs_within}

-- a rule gave a value
given_then :
    (may : May) {A : Type 0} (rule : Result A Refusal) (next : A → Program may (Unit {0})) (a : A)
    (result : Result (Unit {0}) Status) (old new : Seen)
    → IsRuleResult (Ok a) rule → Performs (next a) result old new → Performs (then_with (rule_program rule) next) result old new
given_then may rule next a result old new gives performs =
    performs_then (rule_program rule) next a result old old new (rule_given may (Ok a) rule (Ok a) old gives refl) performs

-- a rule gave a refusal
given_stop :
    (may : May) {A : Type 0} (rule : Result A Refusal) (next : A → Program may (Unit {0})) (r : Refusal) (s : Status)
    (seen : Seen)
    → IsRuleResult {A = A} (Err r) rule → s ≡ status_of r → Performs (then_with (rule_program rule) next) (Err s) seen seen
given_stop may {A} rule next r s seen gives is =
    performs_stop (rule_program rule) next s seen seen
    (rule_given may (Err r) rule (let failed : Result A Status = Err s in failed) seen gives
    (ap (λ (t : Status). let failed : Result A Status = Err t in failed) is))

-- ---- booting

pub boot_given :
    (sets : List Set) (given : FolderFields) (result : Result (Unit {0}) Status) (old new : Seen)
    → Goes (boot_files sets) [] (Ok given) → Performs (on_booted given) result old new
    → Performs (boot_made sets) result old new
unfolding boot_made
boot_given sets given result old new goes performs =
    performs_then (boot_files sets) on_booted given result old old new
    (performs_none (boot_files sets) (Ok given) old goes) performs

pub boot_stopped :
    (sets : List Set) (s : Status) (seen : Seen)
    → Goes (boot_files sets) [] (Err s) → Performs (boot_made sets) (Err s) seen seen
unfolding boot_made
boot_stopped sets s seen goes =
    performs_stop (boot_files sets) on_booted s seen seen (performs_none (boot_files sets) (Err s) seen goes)

pub ruleset booting = (boot_given, boot_stopped)

-- ---- writing

pub written_then :
    (sets : List Set) (result : Result (Unit {0}) Status) (old between new : Seen)
    → Performs (write_files sets) (Ok tt) old between → Performs (boot_made sets) result between new
    → Performs (write_and_boot sets) result old new
unfolding write_and_boot
written_then sets result old between new first second =
    subst (λ p. Performs p result old new) (then_rest sets (widen (boot_made sets)))
    (performs_then (write_files sets) (λ u. widen (boot_made sets)) tt result old between new first
    (performs_within allows.may_write_files (boot_made sets) result between new second))

pub not_written :
    (sets : List Set) (s : Status) (old new : Seen)
    → Performs (write_files sets) (Err s) old new → Performs (write_and_boot sets) (Err s) old new
unfolding write_and_boot
not_written sets s old new first =
    subst (λ p. Performs p (Err s) old new) (then_rest sets (widen (boot_made sets)))
    (performs_stop (write_files sets) (λ u. widen (boot_made sets)) s old new first)

pub ruleset writing = (written_then, not_written)

-- ---- making

pub make_given :
    (seed : ℕ) (sets : List Set) (result : Result (Unit {0}) Status) (old new : Seen)
    → IsRuleResult (Ok sets) (files_of_seed seed) → Performs (write_and_boot sets) result old new
    → Performs (make_program seed) result old new
unfolding make_program
make_given seed sets result old new gives performs =
    given_then allows.may_write_files (files_of_seed seed) write_and_boot sets result old new gives performs

pub make_refused :
    (seed : ℕ) (r : Refusal) (s : Status) (seen : Seen)
    → IsRuleResult {A = List Set} (Err r) (files_of_seed seed) → s ≡ status_of r → Performs (make_program seed) (Err s) seen seen
unfolding make_program
make_refused seed r s seen gives is = given_stop allows.may_write_files (files_of_seed seed) write_and_boot r s seen gives is

pub ruleset making = (make_given, make_refused)
