-- A run with a limit of steps, step by step: what is left of its program.
use Rattle.std.proofs.Common.{◌≡◌, ℕ, suc, ◌+◌, ◌-◌, ◌<◌, ◌≤◌, [], Result, Ok, Err, refl, sym, ap, subst, ◌∙◌, arith}
use Rattle.m36_model.specs.declared.endings.End.{End}
use Rattle.m36_super.specs.Library.{Library}
use Rattle.m36_super.specs.BootedRun.{Booted}
use Rattle.m36_super.specs.HurriedSteps.{AreStepsWithNext}
use Rattle.m36_super.specs.SuperFields.{SuperFields, booted_of}
use Rattle.m36_super.specs.declared.next_event.NextEvent.TheVariants.{Step}
use Rattle.m36_status.specs.declared.status.Status.{Status}
use Rattle.m36_status.specs.declared.status.Status.TheVariants.{NoMemory}
use Rattle.m36_program.specs.Goes.{Goes}
use Rattle.m36_program.specs.Program.{quiet, Program, done}
use Rattle.m36_program.proofs.Performing.{goes_done}
use Rattle.cmd_folder.specs.declared.finish.Finish.TheVariants.{Over, Limit}
use Rattle.cmd_make.specs.QuietRun.{RunSummary, summary_of_run, run_from}
use Rattle.cmd_make.specs.RunSays.{IsRestOf, rest_from_step, StepFollows, RunIsOver, RunsOutOfMemory}
use Rattle.cmd_make.proofs.Serving.{hurried_goes}

-- what is left of a run
abbrev pub Left : Library → ℕ → ℕ → SuperFields → Program quiet RunSummary → Type 0
Left lib taken left now first = IsRestOf (run_from lib taken left (booted_of now)) first

run_step :
    (lib : Library) (taken left : ℕ) (b : Booted) → run_from lib taken (suc left) b ≡ rest_from_step lib b (taken + 1) left
unfolding run_from
run_step lib taken left b = refl

-- if at least one step is left
one_left :
    (lib : Library) (taken left : ℕ) (b : Booted) → 0 < left
    → run_from lib taken left b ≡ rest_from_step lib b (taken + 1) (left - 1)
one_left lib taken left b more =
    let e : left ≡ suc (left - 1) = omega arith in
    ap (λ n. run_from lib taken n b) e ∙ run_step lib taken (left - 1) b

-- after n steps
pub run_hurried :
    (lib : Library) (n taken left : ℕ) (now later : SuperFields) (first : Program quiet RunSummary)
    → Left lib taken left now first → n ≤ left → now.lib ≡ lib → now.next_event ≡ Step
    → AreStepsWithNext now.lib (booted_of now) n (booted_of later)
    → Left lib (taken + n) (left - n) later first
run_hurried lib n taken left now later first so_far few same next steps result goes =
    let e : n + (left - n) ≡ left = omega arith in
    let are = subst (λ l. AreStepsWithNext l (booted_of now) n (booted_of later)) same steps in
    so_far result
    (subst (λ m. Goes (run_from lib taken m (booted_of now)) [] result) e
    (hurried_goes lib n taken (left - n) (booted_of now) (booted_of later) next are result goes))

-- a step was taken, and the rest of the program reached this result
step_gone :
    (lib : Library) (taken left : ℕ) (now : SuperFields) (first : Program quiet RunSummary) (result : Result RunSummary Status)
    → Left lib taken left now first → 0 < left → Goes (rest_from_step lib (booted_of now) (taken + 1) (left - 1)) [] result
    → Goes first [] result
step_gone lib taken left now first result so_far more goes =
    so_far result (subst (λ p. Goes p [] result) (sym (one_left lib taken left (booted_of now) more)) goes)

pub run_next :
    (lib : Library) (taken left : ℕ) (now later : SuperFields) (first : Program quiet RunSummary)
    → Left lib taken left now first → 0 < left → now.lib ≡ lib
    → StepFollows now.lib (rest_from_step now.lib (booted_of now)) later
    → Left lib (taken + 1) (left - 1) later first
run_next lib taken left now later first so_far more same goes result rest =
    let on = subst (λ l. StepFollows l (rest_from_step l (booted_of now)) later) same goes in
    step_gone lib taken left now first result so_far more (on.leads (taken + 1) (left - 1) result rest)

pub run_over :
    (e : End) (lib : Library) (taken left : ℕ) (now later : SuperFields) (first : Program quiet RunSummary)
    → Left lib taken left now first → 0 < left → now.lib ≡ lib
    → RunIsOver e (rest_from_step now.lib (booted_of now)) later
    → Goes first [] (Ok (summary_of_run (Over e) (taken + 1) (booted_of later)))
run_over e lib taken left now later first so_far more same over =
    let on = subst (λ l. RunIsOver e (rest_from_step l (booted_of now)) later) same over in
    step_gone lib taken left now first (Ok (summary_of_run (Over e) (taken + 1) (booted_of later))) so_far more
    (on.goes (taken + 1) (left - 1))

pub run_starves :
    (lib : Library) (taken left : ℕ) (now : SuperFields) (first : Program quiet RunSummary)
    → Left lib taken left now first → 0 < left → now.lib ≡ lib
    → RunsOutOfMemory (rest_from_step now.lib (booted_of now))
    → Goes first [] (Err NoMemory)
run_starves lib taken left now first so_far more same starves =
    let on = subst (λ l. RunsOutOfMemory (rest_from_step l (booted_of now))) same starves in
    step_gone lib taken left now first (Err NoMemory) so_far more (on.goes (taken + 1) (left - 1))

run_none :
    (lib : Library) (taken left : ℕ) (b : Booted) → left ≡ 0 → run_from lib taken left b ≡ done (summary_of_run Limit taken b)
unfolding run_from
run_none lib taken left b none = ap (λ n. run_from lib taken n b) none

pub run_limit :
    (lib : Library) (taken left : ℕ) (now : SuperFields) (first : Program quiet RunSummary)
    → Left lib taken left now first → left ≡ 0 → Goes first [] (Ok (summary_of_run Limit taken (booted_of now)))
run_limit lib taken left now first so_far none =
    let result : Result RunSummary Status = Ok (summary_of_run Limit taken (booted_of now)) in
    so_far result
    (subst (λ p. Goes p [] result) (sym (run_none lib taken left (booted_of now) none))
    (goes_done quiet (summary_of_run Limit taken (booted_of now))))
