-- The conditions about segments, as one definition.
use Rattle.std.specs.Prelude.{ℕ, List}
use Rattle.m36_desc.specs.Fields.{DbrFields}
use Rattle.m36_model.specs.Place.{core_sdw}
use Rattle.m36_model.specs.Audit.{IsOutOfOrder, IsNoGate, HasNoStack}
use Rattle.m36_audit.specs.declared.breaking.Condition.{Condition}
use Rattle.m36_audit.specs.declared.breaking.Condition.TheVariants.{Brackets, Gate, Stack}

-- a segment breaks the condition
abbrev pub Breaks : Condition → List ℕ → DbrFields → ℕ → Type 0
Breaks Brackets core dbr seg = IsOutOfOrder (core_sdw core dbr) seg
Breaks Gate core dbr seg = IsNoGate (core_sdw core dbr) seg
Breaks Stack core dbr seg = HasNoStack dbr (core_sdw core dbr) seg
