-- What `make` needs, besides sources that are accepted, to end with Done.
use Rattle.std.specs.Prelude.{◌≡◌, List, Some, Ok}
use Rattle.m36_model.specs.Audit.{IsAudited}
use Rattle.m36_model.specs.BootedCore.{booted_dbr}
use Rattle.m36_super.specs.Library.{Library}
use Rattle.m36_super.specs.SuperFields.{SuperFields, booted_of}
use Rattle.m36_super.specs.BootResult.{IsBooted}
use Rattle.m36_status.specs.declared.setting.Set.{Set}
use Rattle.cmd_folder.specs.Folder.{FolderFields}
use Rattle.cmd_folder.specs.Needs.{EndsWithDis}
use Rattle.cmd_make.specs.Made.{boot_outcome}
use Rattle.cmd_make.specs.Summary.{run_limit}

-- The audit of the system passes, and each of its runs ends with DIS.
abbrev pub MadeSystemNeeds : Library → SuperFields → Type 0
MadeSystemNeeds lib system =
    IsAudited system.core booted_dbr × EndsWithDis lib run_limit (booted_of system)

-- The files boot, and the system that they boot to has what it needs.
pub record MadeNeeds (sets : List Set) : Type 0 where
  pub given : FolderFields
  pub boots : boot_outcome sets ≡ Some (Ok given)
  pub needs :
      (system : SuperFields) → IsBooted given.lib system → MadeSystemNeeds given.lib system
