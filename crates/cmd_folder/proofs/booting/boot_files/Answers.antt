-- The files were booted, or not.
use Rattle.std.proofs.Common.{◌≡◌, ℕ, List, refl, subst, rules}
use Rattle.m36_boot.specs.Refusals.{ReportsFault, boot_answer}
use Rattle.m36_super.specs.Library.{Library}
use Rattle.m36_super.specs.BootResult.{IsBooted}
use Rattle.cmd_folder.specs.declared.booting.BootedFolder.{BootedFolder}
use Rattle.cmd_folder.specs.Folder.{FolderFields}
use Rattle.cmd_folder.proofs.FolderBoots.{booted_given, booted_not}
use Rattle.cmd_folder.proofs.booting.boot_files.Goals as goal

pub returns-in-Err-clause-gives : goal.returns-in-Err-clause-gives
returns-in-Err-clause-gives c =
    let given : FolderFields = record { lib = record { catalog = c.args.catalog; files = c.args.files }; denied = c.args.denied } in
    let same : c.files.inside.items.items ≡ c.args.files = search rules in
    booted_not given c.in-Err.fault c.refuse_fault.result
    (subst (λ (files : List (List ℕ)). ReportsFault c.in-Err.fault (boot_answer c.args.catalog files)) same c.in-Err.ensures.says)
    c.refuse_fault.ensures

pub returns-in-Ok-clause-gives : goal.returns-in-Ok-clause-gives
returns-in-Ok-clause-gives c =
    let given : FolderFields = record { lib = record { catalog = c.args.catalog; files = c.args.files }; denied = c.args.denied } in
    let booted : BootedFolder = record { system = c.in-Ok.system; denied = c.args.denied } in
    let lib : List (List ℕ) → Library = λ files. record { catalog = c.args.catalog; files = files } in
    let same : c.files.inside.items.items ≡ c.args.files = search rules in
    booted_given given booted (subst (λ files. IsBooted (lib files) c.in-Ok.system) same c.in-Ok.ensures.says) refl
