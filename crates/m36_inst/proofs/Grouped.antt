-- How the instructions of each group reference their operands; and that none of them is privileged.
use Rattle.std.proofs.Common.{refl}
use Rattle.m36_inst.specs.Quick.{group_of, FitsGroup}
use Rattle.m36_inst.specs.declared.effect.Effect.{Effect}
use Rattle.m36_inst.specs.declared.effect.Effect.TheVariants as effect

pub grouped : (e : Effect) → FitsGroup (group_of e) e
grouped effect.Lda = record { operand = refl; direct = refl; privileged = refl }
grouped effect.Ldq = record { operand = refl; direct = refl; privileged = refl }
grouped effect.LdxN = record { operand = refl; direct = refl; privileged = refl }
grouped effect.LxlN = record { operand = refl; direct = refl; privileged = refl }
grouped effect.Ada = record { operand = refl; direct = refl; privileged = refl }
grouped effect.Adq = record { operand = refl; direct = refl; privileged = refl }
grouped effect.Sba = record { operand = refl; direct = refl; privileged = refl }
grouped effect.Sbq = record { operand = refl; direct = refl; privileged = refl }
grouped effect.Cmpa = record { operand = refl; direct = refl; privileged = refl }
grouped effect.Cmpq = record { operand = refl; direct = refl; privileged = refl }
grouped effect.Szn = record { operand = refl; direct = refl; privileged = refl }
grouped effect.Ana = record { operand = refl; direct = refl; privileged = refl }
grouped effect.Anq = record { operand = refl; direct = refl; privileged = refl }
grouped effect.Ora = record { operand = refl; direct = refl; privileged = refl }
grouped effect.Orq = record { operand = refl; direct = refl; privileged = refl }
grouped effect.Era = record { operand = refl; direct = refl; privileged = refl }
grouped effect.Erq = record { operand = refl; direct = refl; privileged = refl }
grouped effect.Sta = record { operand = refl; direct = refl; privileged = refl }
grouped effect.Stq = record { operand = refl; direct = refl; privileged = refl }
grouped effect.Stz = record { operand = refl; direct = refl; privileged = refl }
grouped effect.Aos = record { operand = refl; direct = refl; privileged = refl }
grouped effect.Asa = record { operand = refl; direct = refl; privileged = refl }
grouped effect.Asq = record { operand = refl; direct = refl; privileged = refl }
grouped effect.StxN = record { operand = refl; direct = refl; privileged = refl }
grouped effect.SxlN = record { operand = refl; direct = refl; privileged = refl }
grouped effect.Eaa = record { operand = refl; direct = refl; privileged = refl }
grouped effect.Eaq = record { operand = refl; direct = refl; privileged = refl }
grouped effect.EaxN = record { operand = refl; direct = refl; privileged = refl }
grouped effect.Als = record { operand = refl; direct = refl; privileged = refl }
grouped effect.Qls = record { operand = refl; direct = refl; privileged = refl }
grouped effect.Lls = record { operand = refl; direct = refl; privileged = refl }
grouped effect.Ars = record { operand = refl; direct = refl; privileged = refl }
grouped effect.Qrs = record { operand = refl; direct = refl; privileged = refl }
grouped effect.Lrs = record { operand = refl; direct = refl; privileged = refl }
grouped effect.Arl = record { operand = refl; direct = refl; privileged = refl }
grouped effect.Qrl = record { operand = refl; direct = refl; privileged = refl }
grouped effect.Lrl = record { operand = refl; direct = refl; privileged = refl }
grouped effect.Alr = record { operand = refl; direct = refl; privileged = refl }
grouped effect.Qlr = record { operand = refl; direct = refl; privileged = refl }
grouped effect.Llr = record { operand = refl; direct = refl; privileged = refl }
grouped effect.Tra = record { operand = refl; direct = refl; privileged = refl }
grouped effect.Tze = record { operand = refl; direct = refl; privileged = refl }
grouped effect.Tnz = record { operand = refl; direct = refl; privileged = refl }
grouped effect.Tmi = record { operand = refl; direct = refl; privileged = refl }
grouped effect.Tpl = record { operand = refl; direct = refl; privileged = refl }
grouped effect.Trc = record { operand = refl; direct = refl; privileged = refl }
grouped effect.Tnc = record { operand = refl; direct = refl; privileged = refl }
grouped effect.Tmoz = record { operand = refl; direct = refl; privileged = refl }
grouped effect.Tpnz = record { operand = refl; direct = refl; privileged = refl }
grouped effect.Ttf = record { operand = refl; direct = refl; privileged = refl }
grouped effect.Ldaq = record { operand = refl; direct = refl; privileged = refl }
grouped effect.Adaq = record { operand = refl; direct = refl; privileged = refl }
grouped effect.Sbaq = record { operand = refl; direct = refl; privileged = refl }
grouped effect.Cmpaq = record { operand = refl; direct = refl; privileged = refl }
grouped effect.Anaq = record { operand = refl; direct = refl; privileged = refl }
grouped effect.Oraq = record { operand = refl; direct = refl; privileged = refl }
grouped effect.Eraq = record { operand = refl; direct = refl; privileged = refl }
grouped effect.Staq = record { operand = refl; direct = refl; privileged = refl }
grouped effect.Call6 = record { operand = refl; direct = refl; privileged = refl }
grouped effect.Rtcd = record { operand = refl; direct = refl; privileged = refl }
grouped _ = tt
