-- Gates and stacks: the fifth and sixth condition, as the laws use them.
use Rattle.std.specs.Prelude.{ℕ, List}
use Rattle.m36_desc.specs.Fields.{DbrFields}
use Rattle.m36_model.specs.Place.{core_sdw}
use Rattle.m36_model.specs.Audit.{IsAudited, IsGuarded}

-- If the audit conditions hold, the segments that rings above R2 may call are gates with stacks.
abbrev pub GatesLaw : Type 0
GatesLaw =
    (core : List ℕ) (dbr : DbrFields) → IsAudited core dbr → IsGuarded dbr (core_sdw core dbr)
