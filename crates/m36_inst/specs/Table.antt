-- The table of instructions: operation code with bit 27, mnemonic, effect, and the register that
-- the mnemonic's digit names. Multics Processor Manual AL39, "Operation code map" and "Machine
-- instructions".
use Rattle.std.specs.Prelude.{ℕ, ◌+◌, Bool, true, false, List, [], ◌∷◌, ◌++◌, codes}
use Rattle.m36_inst.specs.declared.effect.Effect.{Effect}
use Rattle.m36_inst.specs.declared.effect.Effect.TheVariants as effect

-- one instruction; the register is 0 if no digit of its mnemonic names one
pub record Entry : Type 0 where
  pub code : ℕ
  pub bit27 : Bool
  pub name : List ℕ
  pub effect : Effect
  pub reg : ℕ

-- a list of one entry: an instruction with bit 27 off that has no register
abbrev pub entry_off : ℕ → List ℕ → Effect → List Entry
entry_off code name effect =
    record { code = code; bit27 = false; name = name; effect = effect; reg = 0 } ∷ []

-- a list of one entry: an instruction with bit 27 on that has no register
abbrev pub entry_on : ℕ → List ℕ → Effect → List Entry
entry_on code name effect =
    record { code = code; bit27 = true; name = name; effect = effect; reg = 0 } ∷ []

-- an instruction for one of eight registers: its mnemonic is the stem and the register's digit
abbrev pub numbered : ℕ → Bool → List ℕ → ℕ → Effect → Entry
numbered code bit27 stem reg effect =
    record {
      code = code;
      bit27 = bit27;
      name = stem ++ (0x30 + reg) ∷ [];
      effect = effect;
      reg = reg;
    }

-- Eight instructions, for registers 0 to 7: four codes from `low` on and four from `high` on. Bit
-- 27 is `even` for even registers and `odd` for odd ones.
abbrev pub entries_in_fours : ℕ → ℕ → Bool → Bool → List ℕ → Effect → List Entry
entries_in_fours low high even odd stem effect =
    numbered low even stem 0 effect ∷ numbered (low + 1) odd stem 1 effect
    ∷ numbered (low + 2) even stem 2 effect ∷ numbered (low + 3) odd stem 3 effect
    ∷ numbered high even stem 4 effect ∷ numbered (high + 1) odd stem 5 effect
    ∷ numbered (high + 2) even stem 6 effect ∷ numbered (high + 3) odd stem 7 effect ∷ []

-- as `entries_in_fours`, with bit 27 off for all
abbrev pub entries_of_two_fours : ℕ → ℕ → List ℕ → Effect → List Entry
entries_of_two_fours low high stem effect = entries_in_fours low high false false stem effect

-- as `entries_in_fours`, with bit 27 off for even registers and on for odd ones
abbrev pub entries_even_off : ℕ → ℕ → List ℕ → Effect → List Entry
entries_even_off low high stem effect = entries_in_fours low high false true stem effect

-- as `entries_in_fours`, with bit 27 on for even registers and off for odd ones
abbrev pub entries_even_on : ℕ → ℕ → List ℕ → Effect → List Entry
entries_even_on low high stem effect = entries_in_fours low high true false stem effect

-- as `entries_in_fours`, with eight consecutive codes and bit 27 off for all
abbrev pub entries_of_eight : ℕ → List ℕ → Effect → List Entry
entries_of_eight code stem effect = entries_of_two_fours code (code + 4) stem effect

-- Data movement: load and store.
abbrev pub data_movement : List Entry
data_movement =
    entry_off 0o235 (codes "lda") effect.Lda
    ++ entry_off 0o236 (codes "ldq") effect.Ldq
    ++ entry_off 0o237 (codes "ldaq") effect.Ldaq
    ++ entries_of_eight 0o220 (codes "ldx") effect.LdxN
    ++ entries_of_eight 0o720 (codes "lxl") effect.LxlN
    ++ entry_off 0o335 (codes "lca") effect.Lca
    ++ entry_off 0o336 (codes "lcq") effect.Lcq
    ++ entry_off 0o337 (codes "lcaq") effect.Lcaq
    ++ entries_of_eight 0o320 (codes "lcx") effect.LcxN
    ++ entry_off 0o034 (codes "ldac") effect.Ldac
    ++ entry_off 0o032 (codes "ldqc") effect.Ldqc
    ++ entry_off 0o635 (codes "eaa") effect.Eaa
    ++ entry_off 0o636 (codes "eaq") effect.Eaq
    ++ entries_of_eight 0o620 (codes "eax") effect.EaxN
    ++ entry_off 0o755 (codes "sta") effect.Sta
    ++ entry_off 0o756 (codes "stq") effect.Stq
    ++ entry_off 0o757 (codes "staq") effect.Staq
    ++ entry_off 0o450 (codes "stz") effect.Stz
    ++ entries_of_eight 0o740 (codes "stx") effect.StxN
    ++ entries_of_eight 0o440 (codes "sxl") effect.SxlN
    ++ entry_off 0o634 (codes "ldi") effect.Ldi
    ++ entry_off 0o754 (codes "sti") effect.Sti

-- Fixed-point arithmetic and comparison.
abbrev pub fixed_point : List Entry
fixed_point =
    entry_off 0o075 (codes "ada") effect.Ada
    ++ entry_off 0o076 (codes "adq") effect.Adq
    ++ entry_off 0o077 (codes "adaq") effect.Adaq
    ++ entries_of_eight 0o060 (codes "adx") effect.AdxN
    ++ entry_off 0o033 (codes "adl") effect.Adl
    ++ entry_off 0o035 (codes "adla") effect.Adla
    ++ entry_off 0o036 (codes "adlq") effect.Adlq
    ++ entry_off 0o037 (codes "adlaq") effect.Adlaq
    ++ entries_of_eight 0o020 (codes "adlx") effect.AdlxN
    ++ entry_off 0o071 (codes "awca") effect.Awca
    ++ entry_off 0o072 (codes "awcq") effect.Awcq
    ++ entry_off 0o175 (codes "sba") effect.Sba
    ++ entry_off 0o176 (codes "sbq") effect.Sbq
    ++ entry_off 0o177 (codes "sbaq") effect.Sbaq
    ++ entries_of_eight 0o160 (codes "sbx") effect.SbxN
    ++ entry_off 0o135 (codes "sbla") effect.Sbla
    ++ entry_off 0o136 (codes "sblq") effect.Sblq
    ++ entry_off 0o137 (codes "sblaq") effect.Sblaq
    ++ entries_of_eight 0o120 (codes "sblx") effect.SblxN
    ++ entry_off 0o171 (codes "swca") effect.Swca
    ++ entry_off 0o172 (codes "swcq") effect.Swcq
    ++ entry_off 0o054 (codes "aos") effect.Aos
    ++ entry_off 0o055 (codes "asa") effect.Asa
    ++ entry_off 0o056 (codes "asq") effect.Asq
    ++ entry_off 0o155 (codes "ssa") effect.Ssa
    ++ entry_off 0o156 (codes "ssq") effect.Ssq
    ++ entries_of_eight 0o040 (codes "asx") effect.AsxN
    ++ entries_of_eight 0o140 (codes "ssx") effect.SsxN
    ++ entry_off 0o531 (codes "neg") effect.Neg
    ++ entry_off 0o533 (codes "negl") effect.Negl
    ++ entry_off 0o402 (codes "mpy") effect.Mpy
    ++ entry_off 0o506 (codes "div") effect.Div
    ++ entry_off 0o115 (codes "cmpa") effect.Cmpa
    ++ entry_off 0o116 (codes "cmpq") effect.Cmpq
    ++ entry_off 0o117 (codes "cmpaq") effect.Cmpaq
    ++ entries_of_eight 0o100 (codes "cmpx") effect.CmpxN
    ++ entry_off 0o234 (codes "szn") effect.Szn
    ++ entry_off 0o214 (codes "sznc") effect.Sznc
    ++ entry_off 0o211 (codes "cmk") effect.Cmk

-- Boolean operations and comparisons.
abbrev pub boolean : List Entry
boolean =
    entry_off 0o315 (codes "cana") effect.Cana
    ++ entry_off 0o316 (codes "canq") effect.Canq
    ++ entry_off 0o317 (codes "canaq") effect.Canaq
    ++ entries_of_eight 0o300 (codes "canx") effect.CanxN
    ++ entry_off 0o215 (codes "cnaa") effect.Cnaa
    ++ entry_off 0o216 (codes "cnaq") effect.Cnaq
    ++ entry_off 0o217 (codes "cnaaq") effect.Cnaaq
    ++ entries_of_eight 0o200 (codes "cnax") effect.CnaxN
    ++ entry_off 0o375 (codes "ana") effect.Ana
    ++ entry_off 0o376 (codes "anq") effect.Anq
    ++ entry_off 0o275 (codes "ora") effect.Ora
    ++ entry_off 0o276 (codes "orq") effect.Orq
    ++ entry_off 0o675 (codes "era") effect.Era
    ++ entry_off 0o676 (codes "erq") effect.Erq
    ++ entry_off 0o377 (codes "anaq") effect.Anaq
    ++ entry_off 0o277 (codes "oraq") effect.Oraq
    ++ entry_off 0o677 (codes "eraq") effect.Eraq
    ++ entries_of_eight 0o360 (codes "anx") effect.AnxN
    ++ entries_of_eight 0o260 (codes "orx") effect.OrxN
    ++ entries_of_eight 0o660 (codes "erx") effect.ErxN
    ++ entry_off 0o355 (codes "ansa") effect.Ansa
    ++ entry_off 0o356 (codes "ansq") effect.Ansq
    ++ entry_off 0o255 (codes "orsa") effect.Orsa
    ++ entry_off 0o256 (codes "orsq") effect.Orsq
    ++ entry_off 0o655 (codes "ersa") effect.Ersa
    ++ entry_off 0o656 (codes "ersq") effect.Ersq
    ++ entries_of_eight 0o340 (codes "ansx") effect.AnsxN
    ++ entries_of_eight 0o240 (codes "orsx") effect.OrsxN
    ++ entries_of_eight 0o640 (codes "ersx") effect.ErsxN

-- Shifts and rotations of A, Q and AQ.
abbrev pub shifts : List Entry
shifts =
    entry_off 0o735 (codes "als") effect.Als
    ++ entry_off 0o736 (codes "qls") effect.Qls
    ++ entry_off 0o737 (codes "lls") effect.Lls
    ++ entry_off 0o731 (codes "ars") effect.Ars
    ++ entry_off 0o732 (codes "qrs") effect.Qrs
    ++ entry_off 0o733 (codes "lrs") effect.Lrs
    ++ entry_off 0o771 (codes "arl") effect.Arl
    ++ entry_off 0o772 (codes "qrl") effect.Qrl
    ++ entry_off 0o773 (codes "lrl") effect.Lrl
    ++ entry_off 0o775 (codes "alr") effect.Alr
    ++ entry_off 0o776 (codes "qlr") effect.Qlr
    ++ entry_off 0o777 (codes "llr") effect.Llr

-- Pointer registers. EPP and EPBP share operation codes, and so do SPRI and SPBP of one register;
-- bit 27 distinguishes them.
abbrev pub pointer_registers : List Entry
pointer_registers =
    entries_even_off 0o350 0o370 (codes "epp") effect.EppN
    ++ entries_even_on 0o350 0o370 (codes "epbp") effect.EpbpN
    ++ entries_even_off 0o250 0o650 (codes "spri") effect.SpriN
    ++ entries_even_on 0o250 0o650 (codes "spbp") effect.SpbpN
    ++ entry_off 0o254 (codes "spri") effect.Spri
    ++ entry_off 0o173 (codes "lpri") effect.Lpri
    ++ entries_of_eight 0o760 (codes "lprp") effect.LprpN
    ++ entry_off 0o213 (codes "epaq") effect.Epaq

-- Store of the control double word, and conditional stores.
abbrev pub special_stores : List Entry
special_stores =
    entry_off 0o357 (codes "stcd") effect.Stcd
    ++ entry_off 0o354 (codes "stac") effect.Stac
    ++ entry_off 0o654 (codes "stacq") effect.Stacq

-- Transfers of control.
abbrev pub transfers : List Entry
transfers =
    entry_off 0o710 (codes "tra") effect.Tra
    ++ entry_off 0o600 (codes "tze") effect.Tze
    ++ entry_off 0o601 (codes "tnz") effect.Tnz
    ++ entry_off 0o604 (codes "tmi") effect.Tmi
    ++ entry_off 0o605 (codes "tpl") effect.Tpl
    ++ entry_off 0o603 (codes "trc") effect.Trc
    ++ entry_off 0o602 (codes "tnc") effect.Tnc
    ++ entry_on 0o604 (codes "tmoz") effect.Tmoz
    ++ entry_on 0o605 (codes "tpnz") effect.Tpnz
    ++ entry_off 0o617 (codes "tov") effect.Tov
    ++ entry_off 0o607 (codes "ttf") effect.Ttf
    ++ entries_of_eight 0o700 (codes "tsx") effect.TsxN
    ++ entries_of_two_fours 0o270 0o670 (codes "tsp") effect.TspN
    ++ entry_off 0o713 (codes "call6") effect.Call6
    ++ entry_off 0o610 (codes "rtcd") effect.Rtcd

-- No operation, master mode entry, derail.
abbrev pub miscellaneous : List Entry
miscellaneous =
    entry_off 0o011 (codes "nop") effect.Nop
    ++ entry_off 0o001 (codes "mme") effect.Mme
    ++ entry_off 0o002 (codes "drl") effect.Drl

-- Privileged instructions.
abbrev pub privileged : List Entry
privileged =
    entry_off 0o616 (codes "dis") effect.Dis
    ++ entry_off 0o232 (codes "ldbr") effect.Ldbr
    ++ entry_off 0o154 (codes "sdbr") effect.Sdbr
    ++ entry_off 0o532 (codes "cams") effect.Cams
    ++ entry_on 0o532 (codes "camp") effect.Camp
    ++ entry_off 0o212 (codes "absa") effect.Absa

-- all instructions
abbrev pub table : List Entry
table =
    data_movement ++ fixed_point ++ boolean ++ shifts ++ pointer_registers ++ special_stores
    ++ transfers ++ miscellaneous ++ privileged
