-- Gates and stacks, from the fifth and sixth audit condition.
use Rattle.std.proofs.Common.{◌≡◌}
use Rattle.std.specs.Prelude.{ℕ, ◌<◌, true, false, Result, Ok}
use Rattle.std.proofs.lemmas.Bool.{false_from_ne_true, true_from_ne_false}
use Rattle.m36_desc.specs.Fields.{SdwFields, DbrFields}
use Rattle.m36_model.specs.Place.{ring_stack}
use Rattle.m36_model.specs.Audit.{IsNoGate, HasNoStack, is_stack_of, IsGuarded}
use Rattle.m36_model.specs.declared.outcome.Refusal.{Refusal}

module _ (dbr : DbrFields) (sdws : ℕ → Result SdwFields Refusal) (fifth : (seg : ℕ) → IsNoGate sdws seg → ⊥) (sixth : (seg : ℕ) → HasNoStack dbr sdws seg → ⊥) where
  gate_by : (seg : ℕ) (d : SdwFields) → sdws seg ≡ Ok d → d.executable ≡ true → d.r2 < d.r3 → d.no_gate ≡ false
  gate_by seg d live executable outer =
      false_from_ne_true d.no_gate (λ e. fifth seg (record { sdw = d; callable = record { live = live; executable = executable; outer = outer }; open_everywhere = e }))

  stack_by : (seg : ℕ) (d : SdwFields) → sdws seg ≡ Ok d → d.executable ≡ true → d.r2 < d.r3 → is_stack_of d.r2 (sdws (ring_stack dbr d.r2)) ≡ true
  stack_by seg d live executable outer =
      true_from_ne_false _ (λ e. sixth seg (record { sdw = d; callable = record { live = live; executable = executable; outer = outer }; missing = e }))

  pub guards : IsGuarded dbr sdws
  guards =
      record {
        gates = λ seg d live executable outer. let gate = gate_by seg d live executable outer in cc;
        stacks = stack_by;
      }
