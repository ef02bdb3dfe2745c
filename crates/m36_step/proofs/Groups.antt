-- Each instruction that has an address is in one of three groups.
use Rattle.std.proofs.Common.{◌≡◌, refl, false, IsTrue}
use Rattle.m36_inst.specs.Groups.{is_pointer_instruction, is_control_instruction, is_data_instruction}
use Rattle.m36_inst.specs.Operands.{operand_of}
use Rattle.m36_inst.specs.declared.effect.Effect.{Effect}
use Rattle.m36_inst.specs.declared.effect.Effect.TheVariants as effect
use Rattle.m36_inst.specs.declared.operand.Operand.TheVariants.{N}

pub data_else : (e : Effect) → is_pointer_instruction e ≡ false → is_control_instruction e ≡ false → (operand_of e ≡ N → ⊥) → IsTrue (is_data_instruction e)
data_else effect.EppN p c a = cc
data_else effect.EpbpN p c a = cc
data_else effect.SpriN p c a = cc
data_else effect.SpbpN p c a = cc
data_else effect.Spri p c a = cc
data_else effect.Lpri p c a = cc
data_else effect.LprpN p c a = cc
data_else effect.Epaq p c a = cc
data_else effect.Stcd p c a = cc
data_else effect.Tra p c a = cc
data_else effect.Tze p c a = cc
data_else effect.Tnz p c a = cc
data_else effect.Tmi p c a = cc
data_else effect.Tpl p c a = cc
data_else effect.Trc p c a = cc
data_else effect.Tnc p c a = cc
data_else effect.Tmoz p c a = cc
data_else effect.Tpnz p c a = cc
data_else effect.Tov p c a = cc
data_else effect.Ttf p c a = cc
data_else effect.TsxN p c a = cc
data_else effect.TspN p c a = cc
data_else effect.Call6 p c a = cc
data_else effect.Rtcd p c a = cc
data_else effect.Nop p c a = cc
data_else effect.Ldbr p c a = cc
data_else effect.Sdbr p c a = cc
data_else effect.Cams p c a = cc
data_else effect.Camp p c a = cc
data_else effect.Absa p c a = cc
data_else effect.Mme p c a = absurd (a refl)
data_else effect.Drl p c a = absurd (a refl)
data_else effect.Dis p c a = absurd (a refl)
data_else _ p c a = refl
