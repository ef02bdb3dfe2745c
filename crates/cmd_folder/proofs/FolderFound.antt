-- A call on a booted folder, by the system that it boots and by the findings of the audit of that system.
use Rattle.std.proofs.Common.{◌≡◌, ◌⊎◌, ℕ, List, [], ◌∷◌, Result, Err, refl, subst, inl, inr}
use Rattle.m36_model.specs.Audit.{AreFindings, IsAudited}
use Rattle.m36_model.specs.BootedCore.{booted_dbr}
use Rattle.m36_isol.proofs.Findings.{findings_law}
use Rattle.m36_world.specs.declared.event.Event.{Event}
use Rattle.m36_super.specs.SuperFields.{SuperFields, booted_of}
use Rattle.m36_super.specs.BootResult.{IsBooted}
use Rattle.m36_status.specs.declared.status.Status.{Status}
use Rattle.m36_status.specs.declared.status.Status.TheVariants.{NoMemory}
use Rattle.m36_program.specs.Goes.{Ends, Goes}
use Rattle.cmd_folder.specs.declared.command.FolderCommand.{FolderCommand}
use Rattle.cmd_folder.specs.Folder.{FolderFields}
use Rattle.cmd_folder.proofs.OneSystem.{one_system}
use Rattle.cmd_folder.specs.FolderLaw.{GoesByFindings}
use Rattle.cmd_folder.specs.OnFolder.{AreFolderFindings, command_after_audit, on_system, on_folder}
use Rattle.cmd_folder.proofs.FolderSteps.{found_passes}

-- The findings, and what the command does with them.
pub record Found (command : FolderCommand) (given : FolderFields) (events : List Event)
    (result : Result (Unit {0}) Status)
    : Type 0 where
  pub system : SuperFields
  pub booted : IsBooted given.lib system
  pub findings : List (ℕ × ℕ)
  pub are : AreFolderFindings given.lib system findings
  pub goes : Goes (command_after_audit command given (booted_of system) findings) events result

system_found :
    (command : FolderCommand) (given : FolderFields) (system : SuperFields) (events : List Event)
    (result : Result (Unit {0}) Status)
    → IsBooted given.lib system → Goes (on_system command given system) events result
    → Found command given events result ⊎ Ends (Err NoMemory) events result
unfolding Goes on_system
system_found command given system events result booted (inl goes) = inl (record {
  system = system;
  booted = booted;
  findings = goes.value;
  are = goes.is;
  goes = goes.rest;
})
system_found command given system events result booted (inr none) = inr none

-- Or memory ran out before anything was put.
pub folder_found :
    (command : FolderCommand) (given : FolderFields) (events : List Event) (result : Result (Unit {0}) Status)
    → Goes (on_folder command given) events result → Found command given events result
    ⊎ Ends (Err NoMemory) events result
unfolding Goes on_folder
folder_found command given events result goes = system_found command given goes.value events result goes.is goes.rest

-- ---- the system and the findings are one

found_goes :
    (command : FolderCommand) (given : FolderFields) (system : SuperFields) (findings : List (ℕ × ℕ))
    (events : List Event)
    (result : Result (Unit {0}) Status)
    → (found : Found command given events result) → found.system ≡ system → found.findings ≡ findings
    → Goes (command_after_audit command given (booted_of system) findings) events result
found_goes command given system findings events result found same one =
    subst (λ f. Goes (command_after_audit command given (booted_of system) f) events result) one
    (subst (λ (s : SuperFields). Goes (command_after_audit command given (booted_of s) found.findings) events result)
    same found.goes)

found_of :
    (command : FolderCommand) (given : FolderFields) (system : SuperFields) (events : List Event)
    (result : Result (Unit {0}) Status)
    → IsBooted given.lib system → (found : Found command given events result)
    → AreFindings system.core booted_dbr found.findings
found_of command given system events result booted found =
    subst (λ (s : SuperFields). AreFindings s.core booted_dbr found.findings)
    (one_system given.lib found.system system found.booted booted) found.are.found

-- What a command does with the findings of the system; or memory ran out.
abbrev pub GoesBy :
    FolderCommand → FolderFields → SuperFields → List (ℕ × ℕ) → List Event → Result (Unit {0}) Status → Type 0
GoesBy command given system findings events result =
    Goes (command_after_audit command given (booted_of system) findings) events result ⊎ Ends (Err NoMemory) events result

same_goes :
    (command : FolderCommand) (given : FolderFields) (system : SuperFields) (findings : List (ℕ × ℕ))
    (events : List Event)
    (result : Result (Unit {0}) Status)
    → IsBooted given.lib system → ((others : List (ℕ × ℕ)) → AreFindings system.core booted_dbr others
    → others ≡ findings)
    → Found command given events result ⊎ Ends (Err NoMemory) events result
    → GoesBy command given system findings events result
same_goes command given system findings events result booted one (inl found) =
    let same : found.system ≡ system = one_system given.lib found.system system found.booted booted in
    inl (found_goes command given system findings events result found same
    (one found.findings (found_of command given system events result booted found)))
same_goes command given system findings events result booted one (inr none) = inr none

-- The system has these findings.
pub known_goes :
    (command : FolderCommand) (given : FolderFields) (system : SuperFields) (findings : List (ℕ × ℕ))
    (events : List Event)
    (result : Result (Unit {0}) Status)
    → IsBooted given.lib system → AreFindings system.core booted_dbr findings
    → Goes (on_folder command given) events result
    → GoesBy command given system findings events result
known_goes command given system findings events result booted are goes =
    same_goes command given system findings events result booted
    (λ others found. findings_law.unique system.core booted_dbr others findings found are)
    (folder_found command given events result goes)

-- what the command does with the findings of the system is a call of it
pub goes_known :
    (command : FolderCommand) (given : FolderFields) (system : SuperFields) (findings : List (ℕ × ℕ))
    (events : List Event)
    (result : Result (Unit {0}) Status)
    → IsBooted given.lib system → AreFindings system.core booted_dbr findings
    → Goes (command_after_audit command given (booted_of system) findings) events result
    → Goes (on_folder command given) events result
unfolding Goes on_folder on_system
goes_known command given system findings events result booted are goes = record {
  value = system;
  is = booted;
  rest = inl (record {
    value = findings;
    is = record { found = are; passes = found_passes given.lib system findings booted are };
    rest = goes;
  });
}

-- ---- by the conditions of the audit

pub passed_goes :
    (command : FolderCommand) (given : FolderFields) (system : SuperFields) (events : List Event)
    (result : Result (Unit {0}) Status)
    → IsBooted given.lib system → IsAudited system.core booted_dbr → Goes (on_folder command given) events result
    → GoesBy command given system [] events result
passed_goes command given system events result booted audited goes =
    same_goes command given system [] events result booted
    (λ others found. findings_law.complete system.core booted_dbr others audited found)
    (folder_found command given events result goes)

some_goes :
    (command : FolderCommand) (given : FolderFields) (system : SuperFields) (findings : List (ℕ × ℕ))
    (events : List Event)
    (result : Result (Unit {0}) Status)
    → AreFindings system.core booted_dbr findings → ¬ IsAudited system.core booted_dbr
    → Goes (command_after_audit command given (booted_of system) findings) events result
    → GoesByFindings command given system events result
some_goes command given system [] events result are fails goes =
    absurd (fails (findings_law.sound system.core booted_dbr are))
some_goes command given system (f ∷ findings) events result are fails goes =
    record { first = f; others = findings; found = are; goes = goes }

failed_by :
    (command : FolderCommand) (given : FolderFields) (system : SuperFields) (events : List Event)
    (result : Result (Unit {0}) Status)
    → IsBooted given.lib system → ¬ IsAudited system.core booted_dbr
    → Found command given events result ⊎ Ends (Err NoMemory) events result
    → GoesByFindings command given system events result ⊎ Ends (Err NoMemory) events result
failed_by command given system events result booted fails (inl found) =
    let same : found.system ≡ system = one_system given.lib found.system system found.booted booted in
    inl (some_goes command given system found.findings events result
    (found_of command given system events result booted found) fails
    (found_goes command given system found.findings events result found same refl))
failed_by command given system events result booted fails (inr none) = inr none

pub failed_goes :
    (command : FolderCommand) (given : FolderFields) (system : SuperFields) (events : List Event)
    (result : Result (Unit {0}) Status)
    → IsBooted given.lib system → ¬ IsAudited system.core booted_dbr → Goes (on_folder command given) events result
    → GoesByFindings command given system events result ⊎ Ends (Err NoMemory) events result
failed_goes command given system events result booted fails goes =
    failed_by command given system events result booted fails (folder_found command given events result goes)
