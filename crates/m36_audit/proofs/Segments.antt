-- The conditions about segments, from tests of their descriptors.
use Rattle.std.proofs.Common.{◌≡◌, ℕ, ◌+◌, ◌*◌, ◌<◌, ◌≤◌, sym, ◌∙◌, ap, inl, inr, arith}
use Rattle.std.specs.Prelude.{◌⊎◌, Bool, true, false, not, ◌&&◌, nat_lt, List, Option, Some, None, Result, Ok}
use Rattle.std.specs.Bool.{Decides}
use Rattle.std.proofs.lemmas.Bool.{ltb-true, lt-ltb, cases_lt, not-true, not_from_false, and_parts, and_from}
use Rattle.m36_desc.specs.Fields.{SdwFields, DbrFields}
use Rattle.m36_desc.specs.Access.{has_ordered_brackets}
use Rattle.m36_model.specs.Place.{has_descriptor_in_bounds, core_sdw}
use Rattle.m36_model.specs.Audit.{Finds, IsOutOfOrder, IsCallable, IsNoGate}
use Rattle.m36_audit.specs.Breaks.{Breaks}
use Rattle.m36_audit.specs.Live.{IsSameLookup, has_disordered_brackets, may_be_called_from_above, is_enterable_anywhere}
use Rattle.m36_audit.specs.declared.breaking.Condition.{Condition}
use Rattle.m36_audit.specs.declared.breaking.Condition.TheVariants.{Brackets, Gate, Stack}
use Rattle.m36_audit.proofs.Bounds.{live_in_bounds}

same_live : {E : Type 0} (r : Result SdwFields E) (d e : SdwFields) → r ≡ Ok d → r ≡ Ok e → e ≡ d
same_live r d e h k = cc

pub out_of_order : (core : List ℕ) (dbr : DbrFields) (seg : ℕ) (found : Option SdwFields) → IsSameLookup found (core_sdw core dbr seg) → Decides (has_disordered_brackets found) (IsOutOfOrder (core_sdw core dbr) seg)
out_of_order core dbr seg None t = (λ h. cc, λ k. absurd (t k.sdw k.live))
out_of_order core dbr seg (Some d) t = (
  λ h. record { sdw = d; live = t; out = not-true (has_ordered_brackets d) h },
  λ k. not_from_false (has_ordered_brackets d) (ap has_ordered_brackets (same_live _ k.sdw d k.live t) ∙ k.out),
)

callable_is : (core : List ℕ) (dbr : DbrFields) (seg : ℕ) (d : SdwFields) → core_sdw core dbr seg ≡ Ok d → may_be_called_from_above d ≡ true → IsCallable (core_sdw core dbr) seg d
callable_is core dbr seg d t h =
    let k = and_parts d.executable (nat_lt d.r2 d.r3) h in
    record { live = t; executable = k.0; outer = ltb-true d.r2 d.r3 k.1 }

is_callable : (core : List ℕ) (dbr : DbrFields) (seg : ℕ) (d e : SdwFields) → core_sdw core dbr seg ≡ Ok d → IsCallable (core_sdw core dbr) seg e → (e ≡ d) × (may_be_called_from_above d ≡ true)
is_callable core dbr seg d e t k =
    let same = same_live _ e d k.live t in
    (sym same, ap may_be_called_from_above same ∙ and_from e.executable (nat_lt e.r2 e.r3) k.executable (lt-ltb e.r2 e.r3 k.outer))

pub no_gate : (core : List ℕ) (dbr : DbrFields) (seg : ℕ) (found : Option SdwFields) → IsSameLookup found (core_sdw core dbr seg) → Decides (is_enterable_anywhere found) (IsNoGate (core_sdw core dbr) seg)
no_gate core dbr seg None t = (λ h. cc, λ k. absurd (t k.sdw k.callable.live))
no_gate core dbr seg (Some d) t = (
  λ h. let p = and_parts (may_be_called_from_above d) d.no_gate h in record { sdw = d; callable = callable_is core dbr seg d t p.0; open_everywhere = p.1 },
  λ k. let p = is_callable core dbr seg d k.sdw t k.callable in and_from (may_be_called_from_above d) d.no_gate p.1 (ap (λ (e : SdwFields). e.no_gate) (sym p.0) ∙ k.open_everywhere),
)

least_by : (Breaks : ℕ → Type 0) (p q : ℕ) → ((k : ℕ) → k < p → Breaks k → ⊥) → Breaks q → (q < p) ⊎ (p ≤ q) → p ≤ q
least_by Breaks p q below h (inl k) = absurd (below q k h)
least_by Breaks p q below h (inr k) = k

-- the first segment that breaks a condition is the least
pub found_first : (Breaks : ℕ → Type 0) (p : ℕ) → Breaks p → ((k : ℕ) → k < p → Breaks k → ⊥) → Finds Breaks (Some p)
found_first Breaks p h below = (h, λ q k. least_by Breaks p q below k (cases_lt q p))

-- if no segment in bounds breaks a condition that only live segments can break, no segment does
pub found_none : (Breaks : ℕ → Type 0) (dbr : DbrFields) (n m : ℕ) → ((q : ℕ) → Breaks q → has_descriptor_in_bounds dbr q ≡ true) → ((q : ℕ) → has_descriptor_in_bounds dbr q ≡ nat_lt q n) → n ≤ m → ((k : ℕ) → k < m → Breaks k → ⊥) → Finds Breaks None
found_none Breaks dbr n m inside bounds enough below =
    λ q h. let lt : q < n = ltb-true q n (sym (bounds q) ∙ inside q h) in
    let far : q < m = omega arith in
    below q far h

-- a segment that breaks a condition is in bounds
pub broken_inside : (condition : Condition) (core : List ℕ) (dbr : DbrFields) (q : ℕ) → Breaks condition core dbr q → has_descriptor_in_bounds dbr q ≡ true
broken_inside Brackets core dbr q k = live_in_bounds core dbr q k.sdw k.live
broken_inside Gate core dbr q k = live_in_bounds core dbr q k.sdw k.callable.live
broken_inside Stack core dbr q k = live_in_bounds core dbr q k.sdw k.callable.live

pub not_broken : (P : Type 0) (r : Bool) → Decides r P → r ≡ false → P → ⊥
not_broken P r d h p = let k = d.1 p in cc
