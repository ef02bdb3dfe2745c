-- What is booted from a folder: the catalog of its boot text, with the rights of a user if there is
-- one, and the words of the file of each segment. They boot, or are refused with U1 to U4 under the
-- name of the boot text.
use Rattle.std.specs.Prelude.{ℕ, List, Result, Ok, Err}
use Rattle.m36_link.specs.Fields.{SnapFields}
use Rattle.m36_boot.specs.Refusals.{boot_answer}
use Rattle.m36_boot.specs.declared.fault.BootFault.{BootFault}
use Rattle.m36_boot.specs.declared.fault.BootFault.TheVariants as boot
use Rattle.m36_super.specs.Library.{Library}
use Rattle.m36_status.specs.declared.status.Code.TheVariants as code
use Rattle.m36_status.specs.declared.refusal.Refusal.{Refusal}
use Rattle.m36_status.specs.declared.refusal.Refusal.TheVariants.{NoMemory}
use Rattle.m36_status.specs.Refusing.{RuleResult}
use Rattle.m36_files.specs.declared.access.Access.{Access}
use Rattle.m36_files.specs.CatalogRules.{boot_text_refusal}

-- what is booted
pub record FolderFields : Type 0 where
  -- the catalog, with the words of the file of each segment
  pub lib : Library
  -- for each segment the line `denied` that follows the end line if a right to it was missing; no
  -- lines without a user
  pub denied : List (List ℕ)

-- what is booted from a catalog, with the rights of a user if there is one, and from the words of
-- the files of its segments
abbrev pub folder_with : Access → List (List ℕ) → FolderFields
folder_with access files = record {
  lib = record { catalog = access.catalog; files = files };
  denied = access.denied;
}

-- ---- booting

-- the refusal of a folder that does not boot, or NoMemory: U1 and U3 with place 0, U2 and U4 with
-- the number of the segment as their place
abbrev pub refusal_of_fault : BootFault → Refusal
refusal_of_fault boot.U1 = boot_text_refusal code.U1 0
refusal_of_fault (boot.U2 segment) = boot_text_refusal code.U2 segment
refusal_of_fault boot.U3 = boot_text_refusal code.U3 0
refusal_of_fault (boot.U4 segment) = boot_text_refusal code.U4 segment
refusal_of_fault boot.NoMemory = NoMemory

-- the folder if it boots, or the refusal of its fault
abbrev pub folder_or_refusal : FolderFields → Result SnapFields BootFault → RuleResult FolderFields
folder_or_refusal given (Ok start) = Ok given
folder_or_refusal given (Err fault) = Err (refusal_of_fault fault)

-- the folder itself if it boots, otherwise its refusal with a code
unfoldable pub boot_result : FolderFields → RuleResult FolderFields
boot_result given = folder_or_refusal given (boot_answer given.lib.catalog given.lib.files)
