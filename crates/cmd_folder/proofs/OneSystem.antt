-- Segments boot at most one system.
use Rattle.std.proofs.Common.{◌≡◌, ℕ, suc, false, List, [], ◌∷◌, length, Result, Ok, refl, sym, ap, ◌∙◌, arith}
use Rattle.std.specs.Prelude.{slice_index}
use Rattle.m36_model.specs.BootedCore.{wired_frames}
use Rattle.m36_page.specs.Given.{initial_pager}
use Rattle.m36_boot.specs.Image.{booted_tables}
use Rattle.m36_boot.specs.Start.{start_regs}
use Rattle.m36_boot.specs.declared.fault.BootFault.{BootFault}
use Rattle.m36_link.specs.Fields.{SnapFields}
use Rattle.m36_link.specs.Known.{nothing_known}
use Rattle.m36_link.specs.Accepted.{known_after}
use Rattle.m36_super.specs.Library.{Library}
use Rattle.m36_super.specs.declared.next_event.NextEvent.TheVariants.{Step}
use Rattle.m36_super.specs.SuperFields.{SuperFields}
use Rattle.m36_super.specs.BootResult.{IsBooted, system_at_start}

same_words : (xs ys : List ℕ) → length xs ≡ length ys → ((a : ℕ) → slice_index xs a ≡ slice_index ys a) → xs ≡ ys
same_words [] [] size at = refl
same_words [] (y ∷ ys) size at = absurd (omega (arith, size))
same_words (x ∷ xs) [] size at = absurd (omega (arith, size))
same_words (x ∷ xs) (y ∷ ys) size at =
    let first : x ≡ y = at 0 in
    let others : xs ≡ ys = same_words xs ys (omega (arith, size)) (λ a. at (suc a)) in
    ap (λ (l : List ℕ). x ∷ l) others ∙ ap (λ z. z ∷ ys) first

ok_same : (s t : SnapFields) → (let r : Result SnapFields BootFault = Ok s in r) ≡ Ok t → s ≡ t
ok_same s t e = cc

pub one_system :
    (lib : Library) (s t : SuperFields) → IsBooted lib s → IsBooted lib t → s ≡ t
one_system lib s t a b =
    let snap : a.image.snap ≡ b.image.snap = ok_same a.image.snap b.image.snap (sym a.answer ∙ b.answer) in
    let core : a.image.core ≡ b.image.core =
    same_words a.image.core b.image.core (a.laid.size ∙ sym b.laid.size) (λ w. a.laid.core w ∙ sym (b.laid.core w)) in
    let regs : a.image.regs ≡ b.image.regs = a.laid.regs ∙ ap (λ p. start_regs lib.catalog.start.ring p) snap ∙ sym b.laid.regs in
    let pager : a.image.pager ≡ b.image.pager = a.laid.pager ∙ ap (λ (p : SnapFields). initial_pager wired_frames lib.catalog.frames (booted_tables lib.catalog lib.files p.lay)) snap ∙ sym b.laid.pager in
    let same : system_at_start lib a.image ≡ system_at_start lib b.image = λ i. record {
      lib = lib;
      regs = regs i;
      core = core i;
      pager = pager i;
      known = known_after nothing_known (snap i);
      next_event = Step;
      loaded = false;
    } in
    a.system ∙ same ∙ sym b.system
