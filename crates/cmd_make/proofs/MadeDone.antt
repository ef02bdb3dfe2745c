-- If the files of the seed boot to a system with what it needs, `make` ends with Done.
use Rattle.std.proofs.Common.{◌≡◌, ℕ, List, [], Some, Result, Ok, ap, subst, ◌∙◌}
use Rattle.m36_model.specs.BootedCore.{booted_dbr}
use Rattle.m36_isol.proofs.Findings.{findings_law}
use Rattle.m36_super.specs.Library.{Library}
use Rattle.m36_super.specs.SuperFields.{SuperFields, booted_of}
use Rattle.m36_world.specs.declared.event.Event.{Event}
use Rattle.m36_status.specs.declared.setting.Set.{Set}
use Rattle.m36_status.specs.declared.status.Status.{Status}
use Rattle.m36_program.specs.Early.{result_of_status}
use Rattle.cmd_folder.specs.declared.finish.Finish.{Finish}
use Rattle.cmd_folder.specs.RunText.{finish_status}
use Rattle.cmd_folder.specs.Needs.{EndsWithDis}
use Rattle.cmd_make.specs.MadeLaw.{GoesToEnd, PutsRun}
use Rattle.cmd_make.specs.MakeProgram.{write_and_boot}
use Rattle.cmd_make.specs.Needs.{MadeNeeds}
use Rattle.cmd_make.specs.Summary.{run_limit}
use Rattle.cmd_make.proofs.MadeEnds.{ends_found}
use Rattle.cmd_make.proofs.SummaryEnds.{PutsFor}

run_done :
    (sets : List Set) (lib : Library) (system : SuperFields) (events : List Event) (result : Result (Unit {0}) Status)
    → EndsWithDis lib run_limit (booted_of system) → PutsRun sets lib (booted_of system) events result → result ≡ Ok tt
run_done sets lib system events result dis run =
    run.puts.result_is ∙ ap (λ (h : Finish). result_of_status (finish_status (Some h)))
    (dis run.turns run.last run.how run.goes run.finishes)

-- A call that ends by itself ends with Done.
pub ends_done :
    (sets : List Set) (events : List Event) (result : Result (Unit {0}) Status)
    → MadeNeeds sets → GoesToEnd (write_and_boot sets) events result → result ≡ Ok tt
ends_done sets events result needs goes =
    let lib = needs.given.lib in
    let f = ends_found sets needs.given events result needs.boots goes in
    let so = needs.needs f.system f.booted in
    let none : f.findings ≡ [] = findings_law.complete f.system.core booted_dbr f.findings so.0 f.found in
    run_done sets lib f.system events result so.1
    (subst (λ (l : List (ℕ × ℕ)). PutsFor l sets lib (booted_of f.system) events result) none f.puts)
