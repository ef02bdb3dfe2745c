-- What a quick step needs to know of an instruction: its group, its effect, and the register that
-- its name has.
use Rattle.std.specs.Prelude.{ℕ, ◌≡◌, ◌*◌, ◌/◌, ◌%◌, ◌<◌, Bool, true, false, ◌==◌, List, map}
use Rattle.std.specs.Prelude.{Option, Some, None}
use Rattle.std.specs.List.{range_with_len}
use Rattle.m36_inst.specs.Instruction.{inst_of}
use Rattle.m36_inst.specs.Lookup.{row_at}
use Rattle.m36_inst.specs.Operands.{operand_of, is_privileged, takes_direct}
use Rattle.m36_inst.specs.declared.effect.Effect.{Effect}
use Rattle.m36_inst.specs.declared.effect.Effect.TheVariants as effect
use Rattle.m36_inst.specs.declared.operand.Operand.{Operand}
use Rattle.m36_inst.specs.declared.operand.Operand.TheVariants as operand
use Rattle.m36_inst.specs.declared.rows.Group.{Group}
use Rattle.m36_inst.specs.declared.rows.Group.TheVariants as group
use Rattle.m36_inst.specs.declared.rows.Quick.{Quick}
use Rattle.m36_inst.specs.declared.rows.Row.{Row}

-- The group of an effect. Quick steps execute the instructions that programs use most often; all
-- others are in the group `Other`.
abbrev pub group_of : Effect → Group
group_of effect.Lda = group.Read
group_of effect.Ldq = group.Read
group_of effect.LdxN = group.Read
group_of effect.LxlN = group.Read
group_of effect.Ada = group.Read
group_of effect.Adq = group.Read
group_of effect.Sba = group.Read
group_of effect.Sbq = group.Read
group_of effect.Cmpa = group.Read
group_of effect.Cmpq = group.Read
group_of effect.Szn = group.Read
group_of effect.Ana = group.Read
group_of effect.Anq = group.Read
group_of effect.Ora = group.Read
group_of effect.Orq = group.Read
group_of effect.Era = group.Read
group_of effect.Erq = group.Read
group_of effect.Sta = group.Store
group_of effect.Stq = group.Store
group_of effect.Stz = group.Store
group_of effect.Aos = group.Change
group_of effect.Asa = group.Change
group_of effect.Asq = group.Change
group_of effect.StxN = group.Upper
group_of effect.SxlN = group.Lower
group_of effect.Eaa = group.Address
group_of effect.Eaq = group.Address
group_of effect.EaxN = group.Address
group_of effect.Als = group.Shift
group_of effect.Qls = group.Shift
group_of effect.Lls = group.Shift
group_of effect.Ars = group.Shift
group_of effect.Qrs = group.Shift
group_of effect.Lrs = group.Shift
group_of effect.Arl = group.Shift
group_of effect.Qrl = group.Shift
group_of effect.Lrl = group.Shift
group_of effect.Alr = group.Shift
group_of effect.Qlr = group.Shift
group_of effect.Llr = group.Shift
group_of effect.Tra = group.Transfer
group_of effect.Tze = group.Transfer
group_of effect.Tnz = group.Transfer
group_of effect.Tmi = group.Transfer
group_of effect.Tpl = group.Transfer
group_of effect.Trc = group.Transfer
group_of effect.Tnc = group.Transfer
group_of effect.Tmoz = group.Transfer
group_of effect.Tpnz = group.Transfer
group_of effect.Ttf = group.Transfer
group_of effect.Ldaq = group.ReadPair
group_of effect.Adaq = group.ReadPair
group_of effect.Sbaq = group.ReadPair
group_of effect.Cmpaq = group.ReadPair
group_of effect.Anaq = group.ReadPair
group_of effect.Oraq = group.ReadPair
group_of effect.Eraq = group.ReadPair
group_of effect.Staq = group.StorePair
group_of effect.Call6 = group.Call
group_of effect.Rtcd = group.Return
group_of _ = group.Other

-- what a quick step needs of a row; a code without an instruction is in the group `Other`
abbrev pub quick_of : Option Row → Quick
quick_of None = record { effect = effect.Nop; group = group.Other; reg = 0 }
quick_of (Some row) = record { effect = row.effect; group = group_of row.effect; reg = row.reg }

-- the quick row at an index: the nine bits of an operation code, followed by bit 27
abbrev pub quick_at : ℕ → Quick
quick_at place = quick_of (row_at (place / 2) (place % 2 == 1))

-- the quick rows of 64 operation codes, each with bit 27 off and on
unfoldable pub quick_part : ℕ → List Quick
quick_part high = map quick_at (range_with_len (128 * high) 128)

-- the whole table, in eight parts
unfoldable pub quick_table : List (List Quick)
quick_table = map quick_part (range_with_len 0 8)

-- the quick row of the instruction in a word
unfoldable pub quick_row_of : ℕ → Quick
quick_row_of w = quick_of (row_at (inst_of w).code (inst_of w).bit27)

-- The group of a quick row is that of its effect, and its register is below 8.
pub record IsQuick (q : Quick) : Type 0 where
  pub group : q.group ≡ group_of q.effect
  pub reg : q.reg < 8

-- How the instructions of a group reference their operand. The line of `Other` is not used.
abbrev pub operand_of_group : Group → Operand
operand_of_group group.Read = operand.R
operand_of_group group.Store = operand.W
operand_of_group group.Change = operand.Rw
operand_of_group group.Upper = operand.Wl
operand_of_group group.Lower = operand.Wr
operand_of_group group.Address = operand.A
operand_of_group group.Shift = operand.A
operand_of_group group.Transfer = operand.T
operand_of_group group.ReadPair = operand.R2
operand_of_group group.StorePair = operand.W2
operand_of_group group.Call = operand.Call6
operand_of_group group.Return = operand.R2
operand_of_group group.Other = operand.N

-- whether the instructions of a group accept a direct operand: only those that read one word do
abbrev pub group_takes_direct : Group → Bool
group_takes_direct group.Read = true
group_takes_direct _ = false

-- An instruction of a group references its operand as the group does, and is not privileged.
pub record IsGrouped (g : Group) (e : Effect) : Type 0 where
  pub operand : operand_of e ≡ operand_of_group g
  pub direct : takes_direct e ≡ group_takes_direct g
  pub privileged : is_privileged e ≡ false

-- `IsGrouped`, except that every effect fits the group `Other`
abbrev pub FitsGroup : Group → Effect → Type 0
FitsGroup group.Other e = Unit {0}
FitsGroup g e = IsGrouped g e
