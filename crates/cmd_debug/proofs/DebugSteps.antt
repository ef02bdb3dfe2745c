-- A command that holds a session performs its program, since its parts do.
use Rattle.std.proofs.Common.{◌≡◌, ℕ, List, Result, Ok, Err, subst}
use Rattle.std.specs.Prelude.{None}
use Rattle.m36_world.specs.Seen.{Seen}
use Rattle.m36_model.specs.Store.{State}
use Rattle.m36_step.specs.MachineFields.{MachineFields}
use Rattle.m36_back.specs.History.{History}
use Rattle.m36_super.specs.BootResult.{IsBooted}
use Rattle.m36_super.specs.SuperFields.{SuperFields}
use Rattle.m36_status.specs.declared.status.Status.{Status}
use Rattle.m36_status.specs.declared.status.Status.TheVariants.{NoMemory}
use Rattle.m36_program.specs.Performs.{Performs}
use Rattle.m36_program.specs.Program.{wants}
use Rattle.m36_program.proofs.Performing.{performs_some, performs_wants, performs_no_memory, performs_then, performs_stop}
use Rattle.cmd_folder.specs.Folder.{FolderFields}
use Rattle.cmd_folder.specs.BootedSystems.{IsFresh}
use Rattle.m36_debug.specs.SessionProgram.{talking, Talk, session}
use Rattle.cmd_image.specs.ImageProgram.{image_state}
use Rattle.cmd_folder.specs.FolderProgram.{folder_given}
use Rattle.cmd_debug.specs.DebugProgram.{on_image, on_library, on_folder, debug_image, debug_folder}
use Rattle.cmd_debug.specs.Held.{new_history, past_turning, super_turning}

-- ---- over the machine of an image

pub image_held :
    (state : State (List ℕ)) (past : History MachineFields) (result : Result (Unit {0}) Status) (old new : Seen)
    → past ≡ new_history state → Performs (session past_turning past) result old new → Performs (on_image state) result old new
unfolding on_image
image_held state past result old new is performs =
    performs_wants (session past_turning (new_history state)) result old new
    (subst (λ (h : History MachineFields). Performs (session past_turning h) result old new) is performs)

pub image_starved : (state : State (List ℕ)) (seen : Seen) → Performs (on_image state) (Err NoMemory) seen seen
unfolding on_image
image_starved state seen = performs_no_memory (session past_turning (new_history state)) seen

-- ---- over a booted system

abbrev over : SuperFields → Talk
over system = wants (session super_turning system)

pub system_held :
    (system : SuperFields) (result : Result (Unit {0}) Status) (old new : Seen)
    → IsFresh system → Performs (session super_turning system) result old new → Performs (on_library system.lib) result old new
unfolding on_library
system_held system result old new fresh performs =
    performs_some (IsBooted system.lib) over system result old new fresh
    (performs_wants (session super_turning system) result old new performs)

pub system_starved :
    (system : SuperFields) (seen : Seen) → IsFresh system → Performs (on_library system.lib) (Err NoMemory) seen seen
unfolding on_library
system_starved system seen fresh =
    performs_some (IsBooted system.lib) over system (Err NoMemory) seen seen fresh
    (performs_no_memory (session super_turning system) seen)

pub ruleset holding = (image_held, image_starved, system_held, system_starved)

-- ---- a command

pub image_read :
    (name : List ℕ) (state : State (List ℕ)) (result : Result (Unit {0}) Status) (old between new : Seen)
    → Performs {may = talking} (image_state name) (Ok state) old between → Performs (on_image state) result between new
    → Performs (debug_image name) result old new
unfolding debug_image
image_read name state result old between new one two = performs_then (image_state name) on_image state result old between new one two

pub image_unread :
    (name : List ℕ) (status : Status) (old new : Seen)
    → Performs {may = talking} (image_state name) (Err status) old new → Performs (debug_image name) (Err status) old new
unfolding debug_image
image_unread name status old new one = performs_stop (image_state name) on_image status old new one

pub folder_read :
    (given : FolderFields) (result : Result (Unit {0}) Status) (old between new : Seen)
    → Performs {may = talking} (folder_given None) (Ok given) old between → Performs (on_library given.lib) result between new
    → Performs debug_folder result old new
unfolding debug_folder
folder_read given result old between new one two = performs_then (folder_given None) on_folder given result old between new one two

pub folder_unread :
    (status : Status) (old new : Seen)
    → Performs {may = talking} (folder_given None) (Err status) old new → Performs debug_folder (Err status) old new
unfolding debug_folder
folder_unread status old new one = performs_stop (folder_given None) on_folder status old new one
