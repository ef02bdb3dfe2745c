-- A run with a limit of steps, step by step: what is left of its program.
use Rattle.std.proofs.Common.{◌≡◌, ℕ, suc, ◌+◌, ◌-◌, ◌<◌, ◌≤◌, List, [], ◌++◌, Some, Result, Err, refl, sym, ap, subst, ◌∙◌, arith}
use Rattle.m36_world.specs.Seen.{Seen}
use Rattle.m36_world.specs.Follow.{Follow, outputs}
use Rattle.m36_model.specs.declared.endings.End.{End}
use Rattle.m36_super.specs.Library.{Library}
use Rattle.m36_super.specs.BootedRun.{Booted}
use Rattle.m36_super.specs.SuperFields.{SuperFields, booted_of}
use Rattle.m36_status.specs.declared.status.Status.{Status}
use Rattle.m36_status.specs.declared.status.Status.TheVariants.{WriteFault}
use Rattle.m36_program.specs.Early.{result_of_status, ends}
use Rattle.m36_program.specs.Gathered.{Loses}
use Rattle.m36_program.specs.Performs.{Performs, Leads}
use Rattle.m36_program.specs.Program.{quiet, Program, puts_all}
use Rattle.m36_program.proofs.LeadLaws.{leads_start, leads_as, leads_ends, leads_empty, leads_lost, leads_finished}
use Rattle.m36_program.proofs.ProgramLaws.{goes_ends}
use Rattle.m36_program.specs.Goes.{Goes}
use Rattle.cmd_folder.specs.declared.command.RunOutput.{RunOutput}
use Rattle.cmd_folder.specs.declared.finish.Finish.{Finish}
use Rattle.cmd_folder.specs.declared.finish.Finish.TheVariants.{Over, Limit}
use Rattle.cmd_folder.specs.RunText.{end_pieces, finish_status}
use Rattle.cmd_folder.specs.RunProgram.{RunContext, finish_may_end, put_run_end, run_from}
use Rattle.cmd_folder.specs.RunSays.{IsRestOf, run_of, rest_from_step, StepFollows, RunIsOver, RunFails}
use Rattle.cmd_folder.proofs.BlockLaws.{leads_under, leads_on}

-- ---- the end

-- the status of the end
abbrev ended : Finish → Program quiet (Unit {0})
ended how = ends (finish_status (Some how)) (finish_may_end how)

all_left :
    (block : List (List ℕ)) (run : RunContext) (taken : ℕ) (how : Finish) (denied : List (List ℕ)) (seen : Seen)
    → run.denied ≡ denied
    → Leads (puts_all block (puts_all (end_pieces denied (Some how) taken) (ended how))) (puts_all block (put_run_end run taken how)) seen seen
unfolding put_run_end
all_left block run taken how denied seen is =
    subst (λ d. Leads (puts_all block (puts_all (end_pieces d (Some how) taken) (ended how))) (puts_all block (put_run_end run taken how)) seen seen) is
    (leads_start (puts_all block (put_run_end run taken how)) seen)

pub end_put :
    (block : List (List ℕ)) (run : RunContext) (taken : ℕ) (how : Finish) (denied : List (List ℕ)) (status : Status) (result : Result (Unit {0}) Status) (old new : Seen)
    → run.denied ≡ denied → Follow (outputs (block ++ end_pieces denied (Some how) taken)) old new
    → status ≡ finish_status (Some how) → result ≡ result_of_status status
    → Performs (puts_all block (put_run_end run taken how)) result old new
end_put block run taken how denied status result old new is put status_is result_is =
    leads_finished block (end_pieces denied (Some how) taken) (ended how) (puts_all block (put_run_end run taken how)) result old old new
    (all_left block run taken how denied old is) put
    (subst (λ r. Goes (ended how) [] r) (sym (result_is ∙ ap result_of_status status_is)) (goes_ends quiet (finish_status (Some how)) (finish_may_end how)))

pub end_lost :
    (block : List (List ℕ)) (run : RunContext) (taken : ℕ) (how : Finish) (denied : List (List ℕ)) (old new : Seen)
    → run.denied ≡ denied → Loses (block ++ end_pieces denied (Some how) taken) old new
    → Performs (puts_all block (put_run_end run taken how)) (Err WriteFault) old new
end_lost block run taken how denied old new is lost =
    leads_lost block (end_pieces denied (Some how) taken) (ended how) (puts_all block (put_run_end run taken how)) old old new
    (all_left block run taken how denied old is) lost

pub ruleset ending = (end_put, end_lost)

-- ---- the steps

-- What is left of a run, and what holds before each of its steps.
abbrev pub Left : RunContext → ℕ → ℕ → SuperFields → List (List ℕ) → Program quiet (Unit {0}) → Seen → Seen → Type 0
Left run taken left now block first old new = Leads (puts_all block (run_from run taken left (booted_of now))) first old new

pub run_starts :
    (run : RunContext) (steps : ℕ) (s : SuperFields) (block : List (List ℕ)) (seen : Seen)
    → block ≡ [] → Left run 0 steps s block (run_from run 0 steps (booted_of s)) seen seen
run_starts run steps s block seen none =
    leads_empty block (run_from run 0 steps (booted_of s)) (run_from run 0 steps (booted_of s)) seen seen none
    (leads_start (run_from run 0 steps (booted_of s)) seen)

-- after n steps of which nothing is written
pub run_hurried :
    (lib other : Library) (output : RunOutput) (denied : List (List ℕ)) (n taken left : ℕ) (now later : SuperFields) (block : List (List ℕ))
    (first : Program quiet (Unit {0})) (old new : Seen)
    → Left (run_of lib output denied) taken left now block first old new → n ≤ left → other ≡ lib
    → ((denied : List (List ℕ)) (taken left : ℕ)
    → IsRestOf (run_from (run_of other output denied) (taken + n) left (booted_of later)) (run_from (run_of other output denied) taken (n + left) (booted_of now)))
    → Left (run_of lib output denied) (taken + n) (left - n) later block first old new
run_hurried lib other output denied n taken left now later block first old new so_far few same goes =
    let e : left ≡ n + (left - n) = omega arith in
    leads_under block (run_from (run_of lib output denied) (taken + n) (left - n) (booted_of later))
    (run_from (run_of lib output denied) taken (n + (left - n)) (booted_of now)) first old new
    (subst (λ l. IsRestOf (run_from (run_of l output denied) (taken + n) (left - n) (booted_of later)) (run_from (run_of l output denied) taken (n + (left - n)) (booted_of now))) same
    (goes denied taken (left - n)))
    (subst (λ m. Left (run_of lib output denied) taken m now block first old new) e so_far)

-- if at least one step is left
one_left :
    (run : RunContext) (taken left : ℕ) (now : SuperFields) (block : List (List ℕ)) (first : Program quiet (Unit {0})) (old new : Seen)
    → Left run taken left now block first old new → 0 < left → Left run taken (suc (left - 1)) now block first old new
one_left run taken left now block first old new so_far more =
    let e : left ≡ suc (left - 1) = omega arith in
    subst (λ n. Left run taken n now block first old new) e so_far

pub run_next :
    (lib : Library) (output : RunOutput) (denied : List (List ℕ)) (taken left : ℕ) (now later : SuperFields) (block block' : List (List ℕ))
    (first : Program quiet (Unit {0})) (old between new : Seen)
    → Left (run_of lib output denied) taken left now block first old between → 0 < left → now.lib ≡ lib
    → StepFollows now.lib output (rest_from_step block taken (booted_of now)) (taken + 1) later block' between new
    → Left (run_of lib output denied) (taken + 1) (left - 1) later block' first old new
run_next lib output denied taken left now later block block' first old between new so_far more same goes =
    let on = subst (λ l. StepFollows l output (rest_from_step block taken (booted_of now)) (taken + 1) later block' between new) same goes in
    leads_on _ _ first old between new (one_left (run_of lib output denied) taken left now block first old between so_far more) (on.leads denied (left - 1))

pub run_over :
    (e : End) (lib : Library) (output : RunOutput) (denied : List (List ℕ)) (taken left : ℕ) (now : SuperFields) (block block' : List (List ℕ))
    (first : Program quiet (Unit {0})) (result : Result (Unit {0}) Status) (old between mid new : Seen)
    → Left (run_of lib output denied) taken left now block first old between → 0 < left → now.lib ≡ lib
    → RunIsOver e now.lib output (rest_from_step block taken (booted_of now)) (taken + 1) block' between mid
    → ((run : RunContext) → run.denied ≡ denied → Performs (puts_all block' (put_run_end run (taken + 1) (Over e))) result mid new)
    → Performs first result old new
run_over e lib output denied taken left now block block' first result old between mid new so_far more same over performs =
    let on = subst (λ l. RunIsOver e l output (rest_from_step block taken (booted_of now)) (taken + 1) block' between mid) same over in
    leads_ends _ first result old mid new
    (leads_on _ _ first old between mid (one_left (run_of lib output denied) taken left now block first old between so_far more) (on.leads denied (left - 1)))
    (performs (run_of lib output denied) refl)

pub run_fails :
    (status : Status) (lib : Library) (output : RunOutput) (denied : List (List ℕ)) (taken left : ℕ) (now : SuperFields) (block : List (List ℕ))
    (first : Program quiet (Unit {0})) (old between new : Seen)
    → Left (run_of lib output denied) taken left now block first old between → 0 < left → now.lib ≡ lib
    → RunFails status now.lib output (rest_from_step block taken (booted_of now)) between new
    → Performs first (Err status) old new
run_fails status lib output denied taken left now block first old between new so_far more same fails =
    let on = subst (λ l. RunFails status l output (rest_from_step block taken (booted_of now)) between new) same fails in
    leads_ends _ first (Err status) old between new (one_left (run_of lib output denied) taken left now block first old between so_far more) (on.performs denied (left - 1))

run_none :
    (run : RunContext) (taken left : ℕ) (b : Booted) → left ≡ 0 → run_from run taken left b ≡ put_run_end run taken Limit
unfolding run_from
run_none run taken left b none = ap (λ n. run_from run taken n b) none

pub run_limit :
    (lib : Library) (output : RunOutput) (denied : List (List ℕ)) (taken left : ℕ) (now : SuperFields) (block : List (List ℕ))
    (first : Program quiet (Unit {0})) (result : Result (Unit {0}) Status) (old between new : Seen)
    → Left (run_of lib output denied) taken left now block first old between → left ≡ 0
    → ((run : RunContext) → run.denied ≡ denied → Performs (puts_all block (put_run_end run taken Limit)) result between new)
    → Performs first result old new
run_limit lib output denied taken left now block first result old between new so_far none performs =
    leads_ends _ first result old between new
    (leads_as (puts_all block (run_from (run_of lib output denied) taken left (booted_of now))) _ first old between
    (ap (puts_all block) (run_none (run_of lib output denied) taken left (booted_of now) none)) so_far)
    (performs (run_of lib output denied) refl)

pub ruleset running = (run_starts)
