-- Which data instructions may be refused. Multics Processor Manual AL39, "Fixed-point
-- instructions".
use Rattle.std.specs.Prelude.{Bool, true, false}
use Rattle.m36_inst.specs.declared.effect.Effect.{Effect}
use Rattle.m36_inst.specs.declared.effect.Effect.TheVariants as effect

-- Only DIV may be refused.
abbrev pub is_never_refused : Effect → Bool
is_never_refused effect.Div = false
is_never_refused _ = true
