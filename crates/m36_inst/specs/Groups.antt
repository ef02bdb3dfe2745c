-- The instructions that form an address, in three groups: those for pointer registers, those of
-- control, and those for data. Multics Processor Manual AL39, "Pointer register instructions",
-- "Effective address to AQ", "Store control double"; "Transfer of control instructions",
-- "Miscellaneous instructions", "Privileged instructions"; "Fixed-point instructions", "Boolean
-- operation instructions".
use Rattle.std.specs.Prelude.{Bool, true, false, not, ◌&&◌}
use Rattle.m36_inst.specs.Operands.{operand_of, forms_address}
use Rattle.m36_inst.specs.declared.effect.Effect.{Effect}
use Rattle.m36_inst.specs.declared.effect.Effect.TheVariants as effect

-- loads and stores of pointer registers, the effective pointer to AQ, and the store of the control
-- double word
abbrev pub is_pointer_instruction : Effect → Bool
is_pointer_instruction effect.EppN = true
is_pointer_instruction effect.EpbpN = true
is_pointer_instruction effect.SpriN = true
is_pointer_instruction effect.SpbpN = true
is_pointer_instruction effect.Spri = true
is_pointer_instruction effect.Lpri = true
is_pointer_instruction effect.LprpN = true
is_pointer_instruction effect.Epaq = true
is_pointer_instruction effect.Stcd = true
is_pointer_instruction _ = false

-- transfers of control, call and return, no operation, and the privileged instructions that form an
-- address
abbrev pub is_control_instruction : Effect → Bool
is_control_instruction effect.Tra = true
is_control_instruction effect.Tze = true
is_control_instruction effect.Tnz = true
is_control_instruction effect.Tmi = true
is_control_instruction effect.Tpl = true
is_control_instruction effect.Trc = true
is_control_instruction effect.Tnc = true
is_control_instruction effect.Tmoz = true
is_control_instruction effect.Tpnz = true
is_control_instruction effect.Tov = true
is_control_instruction effect.Ttf = true
is_control_instruction effect.TsxN = true
is_control_instruction effect.TspN = true
is_control_instruction effect.Call6 = true
is_control_instruction effect.Rtcd = true
is_control_instruction effect.Nop = true
is_control_instruction effect.Ldbr = true
is_control_instruction effect.Sdbr = true
is_control_instruction effect.Cams = true
is_control_instruction effect.Camp = true
is_control_instruction effect.Absa = true
is_control_instruction _ = false

-- all others that form an address: those that load, store, add, compare, combine and shift data
abbrev pub is_data_instruction : Effect → Bool
is_data_instruction e =
    not (is_pointer_instruction e) && not (is_control_instruction e) && forms_address (operand_of e)
