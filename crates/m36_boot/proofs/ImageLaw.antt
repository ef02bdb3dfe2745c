-- The numbers of a booted image, and the segments that may be started.
use Rattle.std.proofs.Common.{ℕ, ◌≡◌, ◌+◌, ◌*◌, ◌<◌, Bool, true, false, cond, [], ◌∷◌, Some, None, refl, sym, ap, inl, inr, ◌∙◌, arith}
use Rattle.std.specs.Prelude.{not, ◌&&◌, ◌==◌, nat_le, nat_lt, is_some}
use Rattle.std.proofs.lemmas.Bool.{eq-eqb, cases_lt, lt-ltb, le-ltb, le-leb, leb-true}
use Rattle.m36_desc.specs.Access.{first_violation}
use Rattle.m36_desc.specs.Violations.{illegal_ring_order, out_of_execute_bracket, no_execute_right}
use Rattle.m36_model.specs.Modification.{ptr}
use Rattle.m36_model.specs.Pointers.{pointer}
use Rattle.obj36_parts.specs.ObjectSegment.{linkage_register}
use Rattle.m36_link.specs.Fields.{SnapFields}
use Rattle.m36_link.specs.Known.{linkage_segment}
use Rattle.m36_boot.specs.Segments.{catalog_descriptor}
use Rattle.m36_boot.specs.Start.{section_base, start_regs}
use Rattle.m36_boot.specs.ImageLaw.{ImageNumbersLaw, MayStartLaw}
use Rattle.m36_boot.proofs.Orders.{in_order_by}
use Rattle.m36_boot.proofs.SegmentNumbers.{stack_sdw, linkage_sdw, file_sdw, stack_has, linkage_has, file_has}

stacks_by : (ring : ℕ) → 8 + ring ≡ 8 * 1 + ring
stacks_by ring = omega arith

own_stack : (seg ring pages : ℕ) → ((ring == ring) && (ring == ring)) ≡ true
own_stack seg ring pages = ap (λ (b : Bool). b && b) (eq-eqb ring ring refl)

start_register : (ring : ℕ) (s : SnapFields) → ptr (start_regs ring s) linkage_register ≡ pointer (linkage_segment ring) ring (section_base s.lay)
unfolding start_regs
start_register ring s = refl

pub image_numbers : ImageNumbersLaw
image_numbers =
    record {
      stacks = stacks_by;
      descriptors = own_stack;
      segments = refl;
      stack = stack_sdw;
      stack_has = stack_has;
      linkage = linkage_sdw;
      linkage_has = linkage_has;
      file = file_sdw;
      file_has = file_has;
      register = start_register;
    }

-- ---- one test is the other

above : (a b : ℕ) → b < a → nat_le a b ≡ false
above a b lt = by_test (nat_le a b) refl
  where
    by_test : (t : Bool) → nat_le a b ≡ t → nat_le a b ≡ false
    by_test true e = let le = leb-true a b e in absurd (omega (arith, le, lt))
    by_test false e = e

le_not_lt : (a b : ℕ) → nat_le a b ≡ not (nat_lt b a)
le_not_lt a b =
    elim (cases_lt b a) [
      | inl lt ↦ above a b lt ∙ sym (ap not (lt-ltb b a lt))
      | inr le ↦ le-leb a b le ∙ sym (ap not (le-ltb b a le))
    ]

rows_by : (executable low high : Bool) (x y z : ℕ)
    → (executable && not low && not high) ≡ not (is_some (cond low (Some x) (cond high (Some y) (cond (not executable) (Some z) None))))
rows_by true true true x y z = refl
rows_by true true false x y z = refl
rows_by true false true x y z = refl
rows_by true false false x y z = refl
rows_by false true true x y z = refl
rows_by false true false x y z = refl
rows_by false false true x y z = refl
rows_by false false false x y z = refl

pub may_start_law : MayStartLaw
may_start_law s ring seg words limit low high =
    let ordered = in_order_by (catalog_descriptor seg s words limit) low high in
    ap (λ (b : Bool). s.mode.executable && b && nat_le ring s.r2) (le_not_lt s.r1 ring)
    ∙ ap (λ (b : Bool). s.mode.executable && not (nat_lt ring s.r1) && b) (le_not_lt ring s.r2)
    ∙ rows_by s.mode.executable (nat_lt ring s.r1) (nat_lt s.r2 ring) out_of_execute_bracket out_of_execute_bracket no_execute_right
    ∙ sym (ap (λ (b : Bool). not (is_some (first_violation (
    (not b, illegal_ring_order)
    ∷ (nat_lt ring s.r1, out_of_execute_bracket)
    ∷ (nat_lt s.r2 ring, out_of_execute_bracket)
    ∷ (not s.mode.executable, no_execute_right)
    ∷ []
    )))) ordered)
