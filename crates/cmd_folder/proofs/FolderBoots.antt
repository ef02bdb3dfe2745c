-- The catalog and the files of a folder boot, or are refused.
use Rattle.std.proofs.Common.{◌≡◌, ℕ, List, Ok, Err, sym, ap, subst, ◌∙◌}
use Rattle.m36_boot.specs.Refusals.{ReportsFault, boot_answer}
use Rattle.m36_boot.specs.declared.fault.BootFault.{BootFault}
use Rattle.m36_boot.specs.declared.fault.BootFault.TheVariants as boot
use Rattle.m36_super.specs.Library.{Library}
use Rattle.m36_super.specs.SuperFields.{SuperFields}
use Rattle.m36_super.specs.declared.next_event.NextEvent.TheVariants.{Step}
use Rattle.m36_super.specs.BootResult.{IsBooted}
use Rattle.m36_super.proofs.BootTurns.{start_lib, start_next}
use Rattle.m36_status.specs.declared.refusal.Refusal.{Refusal}
use Rattle.m36_status.specs.Refusing.{IsRuleResult, IsRuleRefusal}
use Rattle.m36_status.proofs.GivesLaws.{gives_by, memory_given}
use Rattle.cmd_folder.specs.declared.booting.BootedFolder.{BootedFolder}
use Rattle.cmd_folder.specs.Folder.{FolderFields, refusal_of_fault, folder_or_refusal, boot_result}
use Rattle.cmd_folder.specs.BootedSystems.{IsFresh, folder_result}

pub booted_given :
    (given : FolderFields) (b : BootedFolder) → IsBooted given.lib b.system → b.denied ≡ given.denied
    → IsRuleResult (folder_result (Ok b)) (boot_result given)
unfolding boot_result
booted_given given b is same =
    ap (folder_or_refusal given) is.answer
    ∙ ap (λ (l : Library). Ok (record { lib = l; denied = given.denied })) (sym (start_lib given.lib b.system is))
    ∙ ap (λ (d : List (List ℕ)). Ok (record { lib = b.system.lib; denied = d })) (sym same)

pub booted_not :
    (given : FolderFields) (fault : BootFault) (r : Refusal)
    → ReportsFault fault (boot_answer given.lib.catalog given.lib.files) → IsRuleRefusal r (refusal_of_fault fault)
    → IsRuleResult (folder_result (Err r)) (boot_result given)
unfolding boot_result
booted_not given boot.U1 r told refuses =
    gives_by FolderFields r (refusal_of_fault boot.U1) (boot_result given) (ap (folder_or_refusal given) told) refuses
booted_not given (boot.U2 seg) r told refuses =
    gives_by FolderFields r (refusal_of_fault (boot.U2 seg)) (boot_result given) (ap (folder_or_refusal given) told) refuses
booted_not given boot.U3 r told refuses =
    gives_by FolderFields r (refusal_of_fault boot.U3) (boot_result given) (ap (folder_or_refusal given) told) refuses
booted_not given (boot.U4 seg) r told refuses =
    gives_by FolderFields r (refusal_of_fault (boot.U4 seg)) (boot_result given) (ap (folder_or_refusal given) told) refuses
booted_not given boot.NoMemory r told refuses = memory_given FolderFields r (boot_result given) refuses

pub booted_fresh : (lib : Library) (s : SuperFields) → IsBooted lib s → IsFresh s
booted_fresh lib s is = subst (λ (l : Library). IsBooted l s) (sym (start_lib lib s is)) is

-- its next turn is a step
pub fresh_next : (s : SuperFields) → IsFresh s → s.next_event ≡ Step
fresh_next s fresh = start_next s.lib s fresh

pub ruleset booting = (booted_given, booted_not, booted_fresh)
