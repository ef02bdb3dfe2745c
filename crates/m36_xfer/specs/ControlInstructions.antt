-- Which control instructions are plain transfers. Multics Processor Manual AL39, "Transfer of
-- control instructions".
use Rattle.std.specs.Prelude.{Bool, true, false}
use Rattle.m36_inst.specs.declared.effect.Effect.{Effect}
use Rattle.m36_inst.specs.declared.effect.Effect.TheVariants as effect

-- those that change only the address of the next instruction
abbrev pub is_transfer : Effect → Bool
is_transfer effect.Tra = true
is_transfer effect.Tze = true
is_transfer effect.Tnz = true
is_transfer effect.Tmi = true
is_transfer effect.Tpl = true
is_transfer effect.Trc = true
is_transfer effect.Tnc = true
is_transfer effect.Tmoz = true
is_transfer effect.Tpnz = true
is_transfer effect.Ttf = true
is_transfer _ = false
