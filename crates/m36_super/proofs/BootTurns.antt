-- A booted image is the start of a run.
use Rattle.std.proofs.Common.{◌≡◌, refl, sym, ap, subst, arith}
use Rattle.std.specs.Prelude.{ℕ, false, List, length, Ok}
use Rattle.m36_dir.specs.Catalog.{CatalogFields}
use Rattle.m36_boot.specs.declared.image.Image.{Image}
use Rattle.m36_boot.specs.Image.{IsImage, IsRunnable}
use Rattle.m36_boot.specs.Refusals.{boot_answer}
use Rattle.m36_boot.specs.Segments.{ring_descriptor, linkage_pages}
use Rattle.m36_boot.specs.Start.{start_answer, start_link}
use Rattle.m36_link.specs.Fields.{SnapFields}
use Rattle.m36_link.specs.Known.{nothing_known, linkage_segment}
use Rattle.m36_link.specs.Accepted.{known_after, MayBeLaid}
use Rattle.m36_link.specs.Laws.{IsConsistent, MayBeAcceptedFrom, KeepsConsistentFrom}
use Rattle.m36_page.specs.Residence.{AgreesWithCore}
use Rattle.m36_super.specs.Library.{Library}
use Rattle.m36_super.specs.NextEvent.{Step}
use Rattle.m36_super.specs.SuperFields.{SuperFields, IsManaged, IsRunning}
use Rattle.m36_super.specs.BootResult.{IsBooted, system_at_start}

pub image_runs : (frames : ℕ) (image : Image) → IsRunnable frames image → AgreesWithCore image.pager image.core → IsRunning (length image.pager.holders) image.regs image.core image.pager
image_runs frames image r reads =
    record {
      dbr = r.dbr;
      managed = subst (λ (n : ℕ). IsManaged n image.core image.pager) (sym r.pages.count) (record {
        pages = r.pages;
        reads = reads;
        linkage = λ ring low. record { sdw = ring_descriptor (linkage_segment ring) ring linkage_pages; live = r.linkage ring low; whole = refl };
      });
    }

pub start_made : (catalog : CatalogFields) (files : List (List ℕ)) (s : SnapFields) → KeepsConsistentFrom → start_answer catalog files ≡ Ok s → IsConsistent catalog files (known_after nothing_known s)
unfolding start_answer
start_made catalog files s keeps e =
    keeps nothing_known catalog files catalog.start.ring (start_link catalog.start) catalog.work s (record { names = λ k d lt. absurd (omega arith); laid = λ k d lt. absurd (omega arith) }) e

pub start_laid : (catalog : CatalogFields) (files : List (List ℕ)) (s : SnapFields) → MayBeAcceptedFrom → start_answer catalog files ≡ Ok s → MayBeLaid nothing_known s.lay
unfolding start_answer
start_laid catalog files s may e =
    may nothing_known catalog files catalog.start.ring (start_link catalog.start) catalog.work s e

pub booted : (lib : Library) (image : Image) (s : SuperFields) → s ≡ system_at_start lib image → boot_answer lib.catalog lib.files ≡ Ok image.snap → IsImage lib.catalog lib.files image.snap image → IsRunnable lib.catalog.frames image → IsBooted lib s
booted lib image s e answer is r =
    subst (IsBooted lib) (sym e) (record {
      image = image;
      answer = answer;
      laid = is;
      system = refl;
      stands = record { dbr = r.dbr; laid = r.pages.laid };
    })

-- ---- what holds for a system at its start

pub start_lib : (lib : Library) (s : SuperFields) → IsBooted lib s → s.lib ≡ lib
start_lib lib s is = ap (λ (x : SuperFields). x.lib) is.system

pub start_next : (lib : Library) (s : SuperFields) → IsBooted lib s → s.next_event ≡ Step
start_next lib s is = ap (λ (x : SuperFields). x.next_event) is.system

pub start_unloaded : (lib : Library) (s : SuperFields) → IsBooted lib s → s.loaded ≡ false
start_unloaded lib s is = ap (λ (x : SuperFields). x.loaded) is.system
