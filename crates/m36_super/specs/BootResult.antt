-- The result of booting.
use Rattle.std.specs.Prelude.{◌≡◌, false, Result, Ok, Err}
use Rattle.m36_boot.specs.declared.fault.BootFault.{BootFault}
use Rattle.m36_boot.specs.Refusals.{ReportsFault, boot_answer}
use Rattle.m36_boot.specs.declared.image.Image.{Image}
use Rattle.m36_boot.specs.Image.{IsImage}
use Rattle.m36_link.specs.Known.{nothing_known}
use Rattle.m36_link.specs.Accepted.{known_after}
use Rattle.m36_super.specs.Library.{Library}
use Rattle.m36_super.specs.NextEvent.{Step}
use Rattle.m36_super.specs.BootedRun.{IsLaidOut}
use Rattle.m36_super.specs.SuperFields.{SuperFields, booted_of}

-- the system that an image starts, with the names and sections that the answer to its link makes
-- known
abbrev pub system_at_start : Library → Image → SuperFields
system_at_start lib image =
    record {
      lib = lib;
      regs = image.regs;
      core = image.core;
      pager = image.pager;
      known = known_after nothing_known image.snap;
      next_event = Step;
      loaded = false;
    }

-- A booted system at its start: the one that the image of its catalog and files starts. Image,
-- answer, layout and system define it. It follows that its core is laid out as the laws of the run
-- require.
pub record IsBooted (lib : Library) (s : SuperFields) : Type 0 where
  pub image : Image
  pub answer : boot_answer lib.catalog lib.files ≡ Ok image.snap
  pub laid : IsImage lib.catalog lib.files image.snap image
  pub system : s ≡ system_at_start lib image
  -- what follows
  pub stands : IsLaidOut lib.catalog.frames (booted_of s).state

-- the result of booting is the system, or the first fault; NoMemory is allowed in place of either
abbrev pub BootResult : Library → Result SuperFields BootFault → Type 0
BootResult lib (Ok s) = IsBooted lib s
BootResult lib (Err told) = ReportsFault told (boot_answer lib.catalog lib.files)
