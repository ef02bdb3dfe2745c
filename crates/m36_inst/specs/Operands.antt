-- What follows from the effect of an instruction: how it references its operand, whether it forms
-- an address, whether it is privileged, and whether it accepts a direct operand. Multics Processor
-- Manual AL39, "Machine instructions", from the summary of each instruction.
use Rattle.std.specs.Prelude.{Bool, true, false}
use Rattle.m36_inst.specs.declared.effect.Effect.{Effect}
use Rattle.m36_inst.specs.declared.effect.Effect.TheVariants as effect
use Rattle.m36_inst.specs.declared.operand.Operand.{Operand}
use Rattle.m36_inst.specs.declared.operand.Operand.TheVariants as operand

-- how an instruction references its operand
abbrev pub operand_of : Effect → Operand
operand_of effect.Lda = operand.R
operand_of effect.Ldq = operand.R
operand_of effect.Ldaq = operand.R2
operand_of effect.LdxN = operand.R
operand_of effect.LxlN = operand.R
operand_of effect.Lca = operand.R
operand_of effect.Lcq = operand.R
operand_of effect.Lcaq = operand.R2
operand_of effect.LcxN = operand.R
operand_of effect.Ldac = operand.Rw
operand_of effect.Ldqc = operand.Rw
operand_of effect.Eaa = operand.A
operand_of effect.Eaq = operand.A
operand_of effect.EaxN = operand.A
operand_of effect.Sta = operand.W
operand_of effect.Stq = operand.W
operand_of effect.Staq = operand.W2
operand_of effect.Stz = operand.W
operand_of effect.StxN = operand.Wl
operand_of effect.SxlN = operand.Wr
operand_of effect.Ldi = operand.R
operand_of effect.Sti = operand.Wr
operand_of effect.Ada = operand.R
operand_of effect.Adq = operand.R
operand_of effect.Adaq = operand.R2
operand_of effect.AdxN = operand.R
operand_of effect.Adl = operand.R
operand_of effect.Adla = operand.R
operand_of effect.Adlq = operand.R
operand_of effect.Adlaq = operand.R2
operand_of effect.AdlxN = operand.R
operand_of effect.Awca = operand.R
operand_of effect.Awcq = operand.R
operand_of effect.Sba = operand.R
operand_of effect.Sbq = operand.R
operand_of effect.Sbaq = operand.R2
operand_of effect.SbxN = operand.R
operand_of effect.Sbla = operand.R
operand_of effect.Sblq = operand.R
operand_of effect.Sblaq = operand.R2
operand_of effect.SblxN = operand.R
operand_of effect.Swca = operand.R
operand_of effect.Swcq = operand.R
operand_of effect.Aos = operand.Rw
operand_of effect.Asa = operand.Rw
operand_of effect.Asq = operand.Rw
operand_of effect.Ssa = operand.Rw
operand_of effect.Ssq = operand.Rw
operand_of effect.AsxN = operand.Rwl
operand_of effect.SsxN = operand.Rwl
operand_of effect.Neg = operand.A
operand_of effect.Negl = operand.A
operand_of effect.Mpy = operand.R
operand_of effect.Div = operand.R
operand_of effect.Cmpa = operand.R
operand_of effect.Cmpq = operand.R
operand_of effect.Cmpaq = operand.R2
operand_of effect.CmpxN = operand.R
operand_of effect.Szn = operand.R
operand_of effect.Sznc = operand.Rw
operand_of effect.Cmk = operand.R
operand_of effect.Cana = operand.R
operand_of effect.Canq = operand.R
operand_of effect.Canaq = operand.R2
operand_of effect.CanxN = operand.R
operand_of effect.Cnaa = operand.R
operand_of effect.Cnaq = operand.R
operand_of effect.Cnaaq = operand.R2
operand_of effect.CnaxN = operand.R
operand_of effect.Ana = operand.R
operand_of effect.Anq = operand.R
operand_of effect.Ora = operand.R
operand_of effect.Orq = operand.R
operand_of effect.Era = operand.R
operand_of effect.Erq = operand.R
operand_of effect.Anaq = operand.R2
operand_of effect.Oraq = operand.R2
operand_of effect.Eraq = operand.R2
operand_of effect.AnxN = operand.R
operand_of effect.OrxN = operand.R
operand_of effect.ErxN = operand.R
operand_of effect.Ansa = operand.Rw
operand_of effect.Ansq = operand.Rw
operand_of effect.Orsa = operand.Rw
operand_of effect.Orsq = operand.Rw
operand_of effect.Ersa = operand.Rw
operand_of effect.Ersq = operand.Rw
operand_of effect.AnsxN = operand.Rwl
operand_of effect.OrsxN = operand.Rwl
operand_of effect.ErsxN = operand.Rwl
operand_of effect.Als = operand.A
operand_of effect.Qls = operand.A
operand_of effect.Lls = operand.A
operand_of effect.Ars = operand.A
operand_of effect.Qrs = operand.A
operand_of effect.Lrs = operand.A
operand_of effect.Arl = operand.A
operand_of effect.Qrl = operand.A
operand_of effect.Lrl = operand.A
operand_of effect.Alr = operand.A
operand_of effect.Qlr = operand.A
operand_of effect.Llr = operand.A
operand_of effect.EppN = operand.A
operand_of effect.EpbpN = operand.A
operand_of effect.SpriN = operand.W2
operand_of effect.SpbpN = operand.W2
operand_of effect.Spri = operand.W16
operand_of effect.Lpri = operand.R16
operand_of effect.LprpN = operand.R
operand_of effect.Epaq = operand.A
operand_of effect.Stcd = operand.W2
operand_of effect.Stac = operand.Rw
operand_of effect.Stacq = operand.Rw
operand_of effect.Tra = operand.T
operand_of effect.Tze = operand.T
operand_of effect.Tnz = operand.T
operand_of effect.Tmi = operand.T
operand_of effect.Tpl = operand.T
operand_of effect.Trc = operand.T
operand_of effect.Tnc = operand.T
operand_of effect.Tmoz = operand.T
operand_of effect.Tpnz = operand.T
operand_of effect.Tov = operand.T
operand_of effect.Ttf = operand.T
operand_of effect.TsxN = operand.T
operand_of effect.TspN = operand.T
operand_of effect.Call6 = operand.Call6
operand_of effect.Rtcd = operand.R2
operand_of effect.Nop = operand.A
operand_of effect.Mme = operand.N
operand_of effect.Drl = operand.N
operand_of effect.Dis = operand.N
operand_of effect.Ldbr = operand.R2
operand_of effect.Sdbr = operand.W2
operand_of effect.Cams = operand.A
operand_of effect.Camp = operand.A
operand_of effect.Absa = operand.A

-- Every instruction forms an address, except MME, DRL and DIS.
abbrev pub forms_address : Operand → Bool
forms_address operand.N = false
forms_address _ = true

-- the instructions that only a privileged segment may execute, in ring 0
abbrev pub is_privileged : Effect → Bool
is_privileged effect.Dis = true
is_privileged effect.Ldbr = true
is_privileged effect.Sdbr = true
is_privileged effect.Cams = true
is_privileged effect.Camp = true
is_privileged effect.Absa = true
is_privileged _ = false

-- whether the operand is one word that is only read
abbrev pub is_one_word : Operand → Bool
is_one_word operand.R = true
is_one_word _ = false

-- The instruction accepts a direct operand: one in the address itself (tags DU and DL). LPRP has to
-- read its word from a segment, and NOP accepts any address.
abbrev pub takes_direct : Effect → Bool
takes_direct effect.LprpN = false
takes_direct effect.Nop = true
takes_direct e = is_one_word (operand_of e)
