-- The laws over the list of core words.
use Rattle.std.proofs.Common.{◌≡◌, refl, sym, ◌∙◌, ap, subst}
use Rattle.std.specs.Prelude.{ℕ, ◌+◌, ◌*◌, List}
use Rattle.m36_desc.specs.Fields.{DbrFields}
use Rattle.m36_model.specs.Store.{State}
use Rattle.m36_model.specs.Place.{core_sdw}
use Rattle.m36_model.specs.Core.{core_store, core_tables}
use Rattle.m36_model.specs.Sight.{tables_of}
use Rattle.m36_model.specs.Step.{state_after}
use Rattle.m36_model.specs.Audit.{IsAudited, is_stack_of, IsGuarded}
use Rattle.m36_model.specs.CoreLaw.{HasTables, IsSegmentSpot, IsMarkedFrom}
use Rattle.m36_model.specs.Isolation.{HasPointers, Isolated}
use Rattle.m36_model.specs.Laws.{IsAbove, SightLaw, DependsLaw, ReachLaw, FallLaw, AgreeLaw, MarksLaw}
use Rattle.m36_isol.proofs.CoreTables.{descriptor_of}
use Rattle.m36_isol.proofs.CoreLaw.{are_apart, lawful}
use Rattle.m36_isol.proofs.Guarded.{guards}
use Rattle.m36_isol.proofs.StepLaws.{Backed, sight_law, depends_law, reach_law, fall_law, agree_law, marks_law, pointers_stay}
use Rattle.m36_isol.proofs.AuditedBy.{same_dbr}
use Rattle.m36_isol.proofs.Windows.{windows_kept}

module _ (core : List ℕ) (dbr : DbrFields) (audited : IsAudited core dbr) where
  -- gates and stacks
  pub core_gates : IsGuarded dbr (core_sdw core dbr)
  core_gates = guards dbr (core_sdw core dbr) audited.fifth audited.sixth

  -- the descriptors in the store's law are those in core
  descriptor : (seg : ℕ) → core_sdw core dbr seg ≡ (lawful core dbr (are_apart core dbr audited)).sdws seg
  descriptor seg = (lawful core dbr (are_apart core dbr audited)).sdw_is core refl seg

  pub guarded_by : IsGuarded dbr (lawful core dbr (are_apart core dbr audited)).sdws
  guarded_by =
      record {
        gates = λ seg d live executable outer. core_gates.gates seg d (descriptor seg ∙ live) executable outer;
        stacks = λ seg d live executable outer. ap (is_stack_of d.r2) (sym (descriptor (8 * dbr.stack + d.r2))) ∙ core_gates.stacks seg d (descriptor seg ∙ live) executable outer;
      }

  backed_here : Backed core_store (core_tables core dbr) dbr
  backed_here =
      record {
        Has = HasTables core dbr;
        Lies = IsSegmentSpot core dbr;
        Near = IsMarkedFrom core dbr;
        law = lawful core dbr (are_apart core dbr audited);
        guarded = guarded_by;
        has = λ s h. h;
        tables = λ s h. h;
      }

  pub backed : (s : State (List ℕ)) → tables_of core_store s ≡ core_tables core dbr → Backed core_store (core_tables core dbr) s.regs.dbr
  backed s h =
      subst (λ (d : DbrFields). Backed core_store (core_tables core dbr) d) (sym (same_dbr core s.store dbr s.regs.dbr h)) backed_here

  -- descriptors depend only on the tables
  pub by_tables : (s : State (List ℕ)) → tables_of core_store s ≡ core_tables core dbr → (seg : ℕ) → core_sdw s.store s.regs.dbr seg ≡ core_sdw core dbr seg
  by_tables s h seg =
      let e = same_dbr core s.store dbr s.regs.dbr h in
      ap (λ (d : DbrFields). core_sdw s.store d seg) e ∙ descriptor_of core dbr s.store (subst (λ (d : DbrFields). core_tables s.store d ≡ core_tables core dbr) e h) seg

  pub core_sight : SightLaw core_store (core_tables core dbr)
  core_sight = sight_law core_store (core_tables core dbr) backed

  pub core_depends : DependsLaw core_store (core_tables core dbr)
  core_depends = depends_law core_store (core_tables core dbr) backed

  pub core_reach : ReachLaw core_store (core_tables core dbr)
  core_reach = reach_law core_store (core_tables core dbr) backed

  pub core_fall : FallLaw core_store (core_tables core dbr)
  core_fall = fall_law core_store (core_tables core dbr) backed

  pub core_agree : AgreeLaw core_store (core_tables core dbr)
  core_agree = agree_law core_store (core_tables core dbr) backed

  pub pointers_after : (r : ℕ) (s : State (List ℕ)) → IsAbove core_store (core_tables core dbr) r s → HasPointers (state_after core_store s).regs
  pointers_after r s above =
      pointers_stay core_store (core_tables core dbr) s.regs (backed s above.tables) r above.low s.store above.tables above.pointers

  pub core_isolated : Isolated core_store (core_tables core dbr)
  core_isolated r some most a b pointers tables tables_other low agree n =
      let T = core_tables core dbr in
      let k = windows_kept core_store T r some core_reach core_fall core_agree (λ s t h l seg. by_tables s h seg ∙ sym (by_tables t l seg)) (pointers_after r) n a b a b tables tables_other (record { pointers = pointers; tables = tables; low = low }) agree (λ seg w none. refl) (λ seg w none. refl) in
      record { told = k.told; agree = k.agree; kept = k.kept; kept_other = k.kept_other }

  pub core_marks : MarksLaw core_store (core_tables core dbr)
  core_marks = marks_law core_store (core_tables core dbr) backed
