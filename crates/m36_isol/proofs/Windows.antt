-- Whole windows, by induction on the number of steps.
use Rattle.std.proofs.Common.{◌≡◌, refl, sym, ◌∙◌, subst, leb-true}
use Rattle.std.specs.Prelude.{ℕ, zero, suc, ◌<◌, ◌≤◌, Bool, true, false, nat_le, List, [], ◌∷◌, map}
use Rattle.m36_model.specs.Registers.{RegsFields}
use Rattle.m36_model.specs.Store.{Store, Tables, State}
use Rattle.m36_model.specs.Sight.{InReach, Unreached, tables_of}
use Rattle.m36_model.specs.Agree.{Agree}
use Rattle.m36_model.specs.Step.{record_of, state_after}
use Rattle.m36_model.specs.Run.{RunStep, run_one_step, is_next, only_if, run_steps, cut_below, window}
use Rattle.m36_model.specs.StoreLaw.{Each}
use Rattle.m36_model.specs.Isolation.{EachTwo, IsKept, HasPointers}
use Rattle.m36_model.specs.Laws.{IsAbove, ReachLaw, FallLaw, AgreeLaw}
use Rattle.m36_model.specs.declared.record.StepRecord.{StepRecord}

pub after_is : {S : Type 0} (o : Store S) (s : State S) → (record_of o s).after ≡ (state_after o s).regs
unfolding record_of state_after
after_is o s = refl

module _ {S : Type 0} (o : Store S) (T : Tables) (r : ℕ) (some : 1 ≤ r) (reach : ReachLaw o T) (fall : FallLaw o T) (agrees : AgreeLaw o T) (same_sdws : (s t : State S) → tables_of o s ≡ T → tables_of o t ≡ T → (seg : ℕ) → o.sdw s.store s.regs.dbr seg ≡ o.sdw t.store t.regs.dbr seg) (pointers_stay : (s : State S) → IsAbove o T r s → HasPointers (state_after o s).regs) where
  -- what the laws say about the rest of two windows
  pub record AreKept (first second : State S) (steps others : List (RunStep S)) : Type 0 where
    pub told : map (λ (v : RunStep S). v.told) steps ≡ map (λ (v : RunStep S). v.told) others
    pub agree : EachTwo (λ (v w : RunStep S). Agree o r v.after w.after) steps others
    pub kept : Each (IsKept o T r first) steps
    pub kept_other : Each (IsKept o T r second) others

  none_left : (first second : State S) → AreKept first second [] []
  none_left first second = record { told = refl; agree = tt; kept = tt; kept_other = tt }

  -- what a ring can change depends only on the tables
  same_reach : (s t : State S) → tables_of o s ≡ T → tables_of o t ≡ T → (seg : ℕ) → InReach o s r seg → InReach o t r seg
  same_reach s t h k seg reached =
      record { sdw = reached.sdw; live = sym (same_sdws s t h k seg) ∙ reached.live; opens = reached.opens; high = reached.high }

  unreached_on : (first s : State S) → tables_of o first ≡ T → IsAbove o T r s → Unreached o r first s → Unreached o r first (state_after o s)
  unreached_on first s tables above so_far seg w none =
      reach r s some above seg w (λ k. none (same_reach s first above.tables tables seg k)) ∙ so_far seg w none

  step_kept : (first s : State S) → tables_of o first ≡ T → IsAbove o T r s → Unreached o r first s → tables_of o (state_after o s) ≡ T → IsKept o T r first (run_one_step o s)
  step_kept first s tables above so_far after =
      record {
        unreached = unreached_on first s tables above so_far;
        tables = after;
        falls = λ below. fall r s some above (subst (λ (g : RegsFields). g.ppr.prr < r) (after_is o s) below);
      }

  -- the next state is in ring r or above too
  above_on : (s : State S) → IsAbove o T r s → tables_of o (state_after o s) ≡ T → nat_le r (record_of o s).after.ppr.prr ≡ true → IsAbove o T r (state_after o s)
  above_on s above after high =
      record {
        pointers = pointers_stay s above;
        tables = after;
        low = subst (λ (g : RegsFields). r ≤ g.ppr.prr) (after_is o s) (leb-true r _ high);
      }

  above_other : (a b : State S) → IsAbove o T r a → Agree o r a b → IsAbove o T r b
  above_other a b above agree =
      record {
        pointers = subst HasPointers agree.regs above.pointers;
        tables = sym agree.tables ∙ above.tables;
        low = subst (λ (g : RegsFields). r ≤ g.ppr.prr) agree.regs above.low;
      }

  -- one more step in front
  one_more : (first second a b : State S) (steps others : List (RunStep S)) → record_of o a ≡ record_of o b → Agree o r (state_after o a) (state_after o b) → IsKept o T r first (run_one_step o a) → IsKept o T r second (run_one_step o b) → AreKept first second steps others → AreKept first second (run_one_step o a ∷ steps) (run_one_step o b ∷ others)
  one_more first second a b steps others e agree kept kept_other rest =
      let more = rest.told in
      record {
        told = λ i. e i ∷ more i;
        agree = (agree, rest.agree);
        kept = (kept, rest.kept);
        kept_other = (kept_other, rest.kept_other);
      }

  -- the steps that are left, by whether the run and the window go on
  rest_by : (first second : State S) (goes above : Bool) (steps others : List (RunStep S)) → (above ≡ true → AreKept first second (cut_below r steps) (cut_below r others)) → AreKept first second (only_if above (cut_below r (only_if goes steps))) (only_if above (cut_below r (only_if goes others)))
  unfolding cut_below
  rest_by first second true true steps others h = h refl
  rest_by first second false true steps others h = none_left first second
  rest_by first second goes false steps others h = none_left first second

  pub windows_kept : (n : ℕ) (first second a b : State S) → tables_of o first ≡ T → tables_of o second ≡ T → IsAbove o T r a → Agree o r a b → Unreached o r first a → Unreached o r second b → AreKept first second (window o r n a) (window o r n b)
  unfolding run_steps cut_below
  windows_kept zero first second a b h k above agree so_far so_far_other = none_left first second
  windows_kept (suc n) first second a b h k above agree so_far so_far_other =
      let alike = agrees r a b some above agree in
      let above_b = above_other a b above agree in
      let after_b = sym alike.agree.tables ∙ alike.tables in
      let kept = step_kept first a h above so_far alike.tables in
      let kept_other = step_kept second b k above_b so_far_other after_b in
      let rest = rest_by first second (is_next (record_of o a).outcome) (nat_le r (record_of o a).after.ppr.prr) (run_steps o n (state_after o a)) (run_steps o n (state_after o b)) (λ high. windows_kept n first second (state_after o a) (state_after o b) h k (above_on a above alike.tables high) alike.agree (unreached_on first a h above so_far) (unreached_on second b k above_b so_far_other)) in
      one_more first second a b _ _ alike.told alike.agree kept kept_other (subst (λ (e : StepRecord). AreKept first second (only_if (nat_le r (record_of o a).after.ppr.prr) (cut_below r (only_if (is_next (record_of o a).outcome) (run_steps o n (state_after o a))))) (only_if (nat_le r e.after.ppr.prr) (cut_below r (only_if (is_next e.outcome) (run_steps o n (state_after o b)))))) alike.told rest)
