-- Neither flat turns nor the flat memory of a booted folder depend on the count of pageable frames.
use Rattle.std.proofs.Common.{◌≡◌, ℕ, zero, suc, ◌+◌, Bool, true, false, List, ◌∷◌, Option, Some, None, Ok, Err, refl, sym, ap, ◌∙◌, if◌then◌else◌}
use Rattle.std.specs.Prelude.{unwrap_or}
use Rattle.m36_model.specs.Fields.{AtFields}
use Rattle.m36_model.specs.BootedCore.{descriptor_words}
use Rattle.m36_model.specs.Residence.{flat_of}
use Rattle.m36_dir.specs.Catalog.{CatalogFields, find_segment}
use Rattle.m36_link.specs.Fields.{KnownFields, SnapFields}
use Rattle.m36_link.specs.Known.{nothing_known, segment_of}
use Rattle.m36_link.specs.Search.{find_in_directory, candidates, search_result}
use Rattle.m36_link.specs.Snap.{outer_target, target_of_link, outer_snap, snap_of}
use Rattle.m36_link.specs.Accepted.{known_after}
use Rattle.m36_boot.specs.declared.fault.BootFault.{BootFault}
use Rattle.m36_boot.specs.declared.fault.BootFault.TheVariants as fault
use Rattle.m36_boot.specs.Segments.{booted_sdw}
use Rattle.m36_boot.specs.Start.{start_answer, start_segment, start_regs}
use Rattle.m36_boot.specs.Refusals.{StartAnswer, first_or, start_of, boot_answer}
use Rattle.m36_boot.specs.Image.{booted_word, booted_content, words_from, booted_flat, paged_of}
use Rattle.m36_super.specs.Library.{Library}
use Rattle.m36_super.specs.declared.next_event.NextEvent.{NextEvent}
use Rattle.m36_super.specs.declared.next_event.NextEvent.TheVariants.{Step, Link, Print, Over}
use Rattle.m36_super.specs.FlatRun.{FlatRun, flat_link_turn, flat_turn_by, flat_turn}
use Rattle.m36_super.specs.SuperFields.{SuperFields, booted_of}
use Rattle.m36_super.specs.BootedRun.{flat_run_of}
use Rattle.m36_super.specs.BootResult.{IsBooted, system_at_start}
use Rattle.cmd_folder.specs.BootedLaw.{with_frames}
use Rattle.cmd_folder.proofs.OneRun.{AreAlike, Look}

abbrev framed : CatalogFields → ℕ → CatalogFields
framed catalog n = record catalog { frames = n }

-- ---- turns

same_snap :
    (known : KnownFields) (catalog : CatalogFields) (files : List (List ℕ)) (n : ℕ) (at : AtFields)
    → snap_of known catalog files at ≡ snap_of known (framed catalog n) files at
unfolding snap_of target_of_link outer_target search_result candidates find_in_directory find_segment segment_of
same_snap known catalog files n at = refl

alike_by : (next_event : NextEvent) (lib : Library) (n : ℕ) (r : FlatRun) → flat_turn_by next_event lib r ≡ flat_turn_by next_event (with_frames lib n) r
alike_by Step lib n r = refl
alike_by (Link at) lib n r = ap (λ a. flat_link_turn a r at) (same_snap r.known lib.catalog lib.files n at)
alike_by Print lib n r = refl
alike_by (Over e) lib n r = refl

pub frames_alike : (lib : Library) (n : ℕ) → AreAlike lib (with_frames lib n)
unfolding flat_turn
frames_alike lib n r = alike_by r.next_event lib n r

-- ---- what is booted

same_word : (catalog : CatalogFields) (files : List (List ℕ)) (n a : ℕ) → booted_word catalog files a ≡ booted_word (framed catalog n) files a
unfolding booted_word booted_sdw
same_word catalog files n a = refl

same_words : (catalog : CatalogFields) (files : List (List ℕ)) (n a count : ℕ) → words_from catalog files a count ≡ words_from (framed catalog n) files a count
unfolding words_from
same_words catalog files n a zero = refl
same_words catalog files n a (suc count) =
    let word = same_word catalog files n a in
    let rest = same_words catalog files n (a + 1) count in
    λ i. word i ∷ rest i

same_content : (catalog : CatalogFields) (files : List (List ℕ)) (s : SnapFields) (n seg w : ℕ) → booted_content catalog files s.lay seg w ≡ booted_content (framed catalog n) files s.lay seg w
unfolding booted_content booted_sdw
same_content catalog files s n seg w = refl

same_flat : (catalog : CatalogFields) (files : List (List ℕ)) (s : SnapFields) (n : ℕ) → booted_flat catalog files s ≡ booted_flat (framed catalog n) files s
unfolding booted_flat
same_flat catalog files s n =
    let words = same_words catalog files n 0 descriptor_words in
    λ i. record {
      descriptors = words i;
      content = λ seg w. unwrap_or (same_content catalog files s n seg w i) 0;
    }

same_start : (catalog : CatalogFields) (files : List (List ℕ)) (n : ℕ) → start_of catalog files ≡ start_of (framed catalog n) files
unfolding start_of start_answer start_segment outer_snap outer_target search_result candidates find_in_directory find_segment segment_of
same_start catalog files n = refl

started_by : (few : Bool) (gate : Option BootFault) (start : StartAnswer) (s : SnapFields) → (if few then Err fault.U1 else first_or gate start) ≡ Ok s → start ≡ Ok s
started_by true gate start s is = absurd (cc)
started_by false None start s is = is
started_by false (Some first) start s is = absurd (cc)

started : (catalog : CatalogFields) (files : List (List ℕ)) (s : SnapFields) → boot_answer catalog files ≡ Ok s → start_of catalog files ≡ Ok s
unfolding boot_answer
started catalog files s is = started_by _ _ (start_of catalog files) s is

ok_same : (s t : SnapFields) → (let r : StartAnswer = Ok s in r) ≡ Ok t → s ≡ t
ok_same s t e = cc

pub booted_alike :
    (lib : Library) (n : ℕ) (system other : SuperFields) → IsBooted lib system → IsBooted (with_frames lib n) other
    → Look (booted_of system) (booted_of other)
booted_alike lib n system other a b =
    let snap : a.image.snap ≡ b.image.snap =
    ok_same a.image.snap b.image.snap
    (sym (started lib.catalog lib.files a.image.snap a.answer) ∙ same_start lib.catalog lib.files n ∙ started (framed lib.catalog n) lib.files b.image.snap b.answer) in
    let regs : a.image.regs ≡ b.image.regs =
    a.laid.regs ∙ ap (start_regs lib.catalog.start.ring) snap ∙ sym b.laid.regs in
    let store : flat_of (paged_of a.image) ≡ flat_of (paged_of b.image) =
    a.laid.flat ∙ ap (booted_flat lib.catalog lib.files) snap ∙ same_flat lib.catalog lib.files b.image.snap n ∙ sym b.laid.flat in
    let same : flat_run_of (booted_of (system_at_start lib a.image)) ≡ flat_run_of (booted_of (system_at_start (with_frames lib n) b.image)) = λ i. record {
      state = record { regs = regs i; store = store i };
      known = known_after nothing_known (snap i);
      next_event = Step;
      loaded = false;
    } in
    ap (λ (s : SuperFields). flat_run_of (booted_of s)) a.system ∙ same ∙ sym (ap (λ (s : SuperFields). flat_run_of (booted_of s)) b.system)
