-- The effect of each instruction: the new registers and the words to write, by the instruction, the
-- number in its name, the registers, the final address and the operand; or the number of the fault
-- if it is refused. There is one line for each instruction, in the order of the instruction table;
-- the equations are in the modules that it uses. MME, DRL and DIS form no address, so a step does
-- not use their lines: `immediate_halt` in `Step` has their faults and the stop. Registers and
-- indicators that the equations of an instruction do not name are unchanged. Which indicators it
-- sets is this project's choice.
--
-- Each line, except those of MME, DRL and DIS, ends with what the instruction does, in the manual's
-- notation. C(..) is the content of a register or of the operand Y; numbers after it are bits. The
-- arrow says where a number goes, and `::` compares. `&`, `|`, `⊕` and `~` work bit by bit. TSR,
-- TRR, CA and TBR are segment, ring, word and bit number of the final address. PSR, PRR and IC are
-- segment, ring and word of the instruction, and PPR is all three.
--
-- Multics Processor Manual AL39, "Machine instructions".
use Rattle.std.specs.Prelude.{ℕ, Bool, true, false, Result, Ok, Err}
use Rattle.m36_inst.specs.declared.effect.Effect.{Effect}
use Rattle.m36_inst.specs.declared.effect.Effect.TheVariants as effect
use Rattle.m36_model.specs.Fields.{FinalFields}
use Rattle.m36_model.specs.Registers.{RegsFields}
use Rattle.m36_model.specs.declared.effects.Effect36.{Effect36}
use Rattle.m36_model.specs.declared.outcome.Fault.{Fault}
use Rattle.m36_model.specs.Modification.{fault_here}
use Rattle.m36_model.specs.Results.{OperandFields, EffectFields, effect_fields, A, Q, AQ, X}
use Rattle.m36_model.specs.Results.{operand, word, lower, completes}
use Rattle.m36_model.specs.Loads.{load, load_complement, load_and_clear, address_in_upper}
use Rattle.m36_model.specs.Loads.{load_indicators}
use Rattle.m36_model.specs.Stores.{store, store_zero, store_indicators, store_if_zero}
use Rattle.m36_model.specs.Stores.{store_if_equal}
use Rattle.m36_model.specs.Sums.{add, add_logical, add_with_carry, sign_extended, subtract}
use Rattle.m36_model.specs.Sums.{subtract_logical, subtract_with_carry, add_one_to_storage}
use Rattle.m36_model.specs.Sums.{add_to_storage, subtract_stored, negate}
use Rattle.m36_model.specs.Products.{multiply, divide}
use Rattle.m36_model.specs.Compares.{compare, test_word, test_and_clear, compare_masked, test_and}
use Rattle.m36_model.specs.Compares.{test_and_not}
use Rattle.m36_model.specs.Logic.{and_register, or_register, xor_register, and_storage, or_storage}
use Rattle.m36_model.specs.Logic.{xor_storage}
use Rattle.m36_model.specs.ShiftEffects.{shift_left, shift_right, shift_right_logical, rotate_left}
use Rattle.m36_model.specs.Pointers.{load_pointer, load_base_pointer, store_pointer}
use Rattle.m36_model.specs.Pointers.{store_base_pointer, store_pointers, load_pointers, load_packed}
use Rattle.m36_model.specs.Pointers.{load_address_pair, store_control}
use Rattle.m36_model.specs.Transfers.{is_taken, transfer_if, transfer_on_overflow}
use Rattle.m36_model.specs.Transfers.{transfer_and_set_index, transfer_and_set_pointer}
use Rattle.m36_model.specs.CallReturn.{call, return_to}
use Rattle.m36_model.specs.Privileged.{load_dbr, store_dbr, load_absolute_address}

-- whether an instruction is ABSA, the only one that uses just its address and asks for the core
-- address
abbrev pub is_absa : Effect → Bool
is_absa effect.Absa = true
is_absa _ = false

-- the effect of an instruction, whose name has the number n
unfoldable pub exec : Effect → ℕ → RegsFields → FinalFields → OperandFields → Result EffectFields ℕ
exec effect.Lda n g f o = load A (operand A o) g  -- C(Y) → C(A)
exec effect.Ldq n g f o = load Q (operand Q o) g  -- C(Y) → C(Q)
exec effect.Ldaq n g f o = load AQ (operand AQ o) g  -- C(Y-pair) → C(AQ)
exec effect.LdxN n g f o = load (X n) (operand (X n) o) g  -- C(Y)0-17 → C(Xn)
exec effect.LxlN n g f o = load (X n) (lower o) g  -- C(Y)18-35 → C(Xn)
exec effect.Lca n g f o = load_complement A (operand A o) g  -- 0 - C(Y) → C(A)
exec effect.Lcq n g f o = load_complement Q (operand Q o) g  -- 0 - C(Y) → C(Q)
exec effect.Lcaq n g f o = load_complement AQ (operand AQ o) g  -- 0 - C(Y-pair) → C(AQ)
exec effect.LcxN n g f o = load_complement (X n) (operand (X n) o) g  -- 0 - C(Y)0-17 → C(Xn)
exec effect.Ldac n g f o = load_and_clear A (word o) g  -- C(Y) → C(A), 0 → C(Y)
exec effect.Ldqc n g f o = load_and_clear Q (word o) g  -- C(Y) → C(Q), 0 → C(Y)
exec effect.Eaa n g f o = load A (address_in_upper f.at.word) g  -- CA → C(A)0-17, 0 → C(A)18-35
exec effect.Eaq n g f o = load Q (address_in_upper f.at.word) g  -- CA → C(Q)0-17, 0 → C(Q)18-35
exec effect.EaxN n g f o = load (X n) f.at.word g  -- CA → C(Xn)
exec effect.Sta n g f o = store A g  -- C(A) → C(Y)
exec effect.Stq n g f o = store Q g  -- C(Q) → C(Y)
exec effect.Staq n g f o = store AQ g  -- C(AQ) → C(Y-pair)
exec effect.Stz n g f o = store_zero g  -- 0 → C(Y)
exec effect.StxN n g f o = store (X n) g  -- C(Xn) → C(Y)0-17
exec effect.SxlN n g f o = store (X n) g  -- C(Xn) → C(Y)18-35
exec effect.Ldi n g f o = load_indicators (word o) g  -- C(Y)18-21, 24 and 25 → C(IR)
exec effect.Sti n g f o = store_indicators g  -- C(IR) → C(Y)18-35
exec effect.Ada n g f o = add A (operand A o) g  -- C(A) + C(Y) → C(A)
exec effect.Adq n g f o = add Q (operand Q o) g  -- C(Q) + C(Y) → C(Q)
exec effect.Adaq n g f o = add AQ (operand AQ o) g  -- C(AQ) + C(Y-pair) → C(AQ)
exec effect.AdxN n g f o = add (X n) (operand (X n) o) g  -- C(Xn) + C(Y)0-17 → C(Xn)
exec effect.Adl n g f o = add AQ (sign_extended (word o)) g  -- C(AQ) + C(Y) → C(AQ)
exec effect.Adla n g f o = add_logical A (operand A o) g  -- C(A) + C(Y) → C(A)
exec effect.Adlq n g f o = add_logical Q (operand Q o) g  -- C(Q) + C(Y) → C(Q)
exec effect.Adlaq n g f o = add_logical AQ (operand AQ o) g  -- C(AQ) + C(Y-pair) → C(AQ)
exec effect.AdlxN n g f o = add_logical (X n) (operand (X n) o) g  -- C(Xn) + C(Y)0-17 → C(Xn)
exec effect.Awca n g f o = add_with_carry A (operand A o) g  -- C(A) + C(Y) + carry → C(A)
exec effect.Awcq n g f o = add_with_carry Q (operand Q o) g  -- C(Q) + C(Y) + carry → C(Q)
exec effect.Sba n g f o = subtract A (operand A o) g  -- C(A) - C(Y) → C(A)
exec effect.Sbq n g f o = subtract Q (operand Q o) g  -- C(Q) - C(Y) → C(Q)
exec effect.Sbaq n g f o = subtract AQ (operand AQ o) g  -- C(AQ) - C(Y-pair) → C(AQ)
exec effect.SbxN n g f o = subtract (X n) (operand (X n) o) g  -- C(Xn) - C(Y)0-17 → C(Xn)
exec effect.Sbla n g f o = subtract_logical A (operand A o) g  -- C(A) - C(Y) → C(A)
exec effect.Sblq n g f o = subtract_logical Q (operand Q o) g  -- C(Q) - C(Y) → C(Q)
exec effect.Sblaq n g f o = subtract_logical AQ (operand AQ o) g  -- C(AQ) - C(Y-pair) → C(AQ)
exec effect.SblxN n g f o = subtract_logical (X n) (operand (X n) o) g  -- C(Xn) - C(Y)0-17 → C(Xn)
exec effect.Swca n g f o = subtract_with_carry A (operand A o) g  -- C(A) - C(Y) - not carry → C(A)
exec effect.Swcq n g f o = subtract_with_carry Q (operand Q o) g  -- C(Q) - C(Y) - not carry → C(Q)
exec effect.Aos n g f o = add_one_to_storage (word o) g  -- C(Y) + 1 → C(Y)
exec effect.Asa n g f o = add_to_storage A (operand A o) g  -- C(A) + C(Y) → C(Y)
exec effect.Asq n g f o = add_to_storage Q (operand Q o) g  -- C(Q) + C(Y) → C(Y)
exec effect.Ssa n g f o = subtract_stored A (operand A o) g  -- C(A) - C(Y) → C(Y)
exec effect.Ssq n g f o = subtract_stored Q (operand Q o) g  -- C(Q) - C(Y) → C(Y)
exec effect.AsxN n g f o = add_to_storage (X n) (operand (X n) o) g  -- C(Xn) + C(Y)0-17 → C(Y)0-17
exec effect.SsxN n g f o = subtract_stored (X n) (operand (X n) o) g  -- C(Xn) - C(Y)0-17 → C(Y)0-17
exec effect.Neg n g f o = negate A g  -- 0 - C(A) → C(A)
exec effect.Negl n g f o = negate AQ g  -- 0 - C(AQ) → C(AQ)
exec effect.Mpy n g f o = multiply (word o) g  -- C(Q) × C(Y) → C(AQ)
exec effect.Div n g f o = divide (word o) g  -- C(Q) / C(Y): quotient → C(Q), remainder → C(A)
exec effect.Cmpa n g f o = compare A (operand A o) g  -- C(A) :: C(Y)
exec effect.Cmpq n g f o = compare Q (operand Q o) g  -- C(Q) :: C(Y)
exec effect.Cmpaq n g f o = compare AQ (operand AQ o) g  -- C(AQ) :: C(Y-pair)
exec effect.CmpxN n g f o = compare (X n) (operand (X n) o) g  -- C(Xn) :: C(Y)0-17
exec effect.Szn n g f o = test_word (word o) g  -- indicators by C(Y)
exec effect.Sznc n g f o = test_and_clear (word o) g  -- indicators by C(Y), 0 → C(Y)
exec effect.Cmk n g f o = compare_masked (word o) g  -- ~C(Q) & (C(A) ⊕ C(Y))
exec effect.Cana n g f o = test_and A (operand A o) g  -- C(A) & C(Y)
exec effect.Canq n g f o = test_and Q (operand Q o) g  -- C(Q) & C(Y)
exec effect.Canaq n g f o = test_and AQ (operand AQ o) g  -- C(AQ) & C(Y-pair)
exec effect.CanxN n g f o = test_and (X n) (operand (X n) o) g  -- C(Xn) & C(Y)0-17
exec effect.Cnaa n g f o = test_and_not A (operand A o) g  -- C(A) & ~C(Y)
exec effect.Cnaq n g f o = test_and_not Q (operand Q o) g  -- C(Q) & ~C(Y)
exec effect.Cnaaq n g f o = test_and_not AQ (operand AQ o) g  -- C(AQ) & ~C(Y-pair)
exec effect.CnaxN n g f o = test_and_not (X n) (operand (X n) o) g  -- C(Xn) & ~C(Y)0-17
exec effect.Ana n g f o = and_register A (operand A o) g  -- C(A) & C(Y) → C(A)
exec effect.Anq n g f o = and_register Q (operand Q o) g  -- C(Q) & C(Y) → C(Q)
exec effect.Ora n g f o = or_register A (operand A o) g  -- C(A) | C(Y) → C(A)
exec effect.Orq n g f o = or_register Q (operand Q o) g  -- C(Q) | C(Y) → C(Q)
exec effect.Era n g f o = xor_register A (operand A o) g  -- C(A) ⊕ C(Y) → C(A)
exec effect.Erq n g f o = xor_register Q (operand Q o) g  -- C(Q) ⊕ C(Y) → C(Q)
exec effect.Anaq n g f o = and_register AQ (operand AQ o) g  -- C(AQ) & C(Y-pair) → C(AQ)
exec effect.Oraq n g f o = or_register AQ (operand AQ o) g  -- C(AQ) | C(Y-pair) → C(AQ)
exec effect.Eraq n g f o = xor_register AQ (operand AQ o) g  -- C(AQ) ⊕ C(Y-pair) → C(AQ)
exec effect.AnxN n g f o = and_register (X n) (operand (X n) o) g  -- C(Xn) & C(Y)0-17 → C(Xn)
exec effect.OrxN n g f o = or_register (X n) (operand (X n) o) g  -- C(Xn) | C(Y)0-17 → C(Xn)
exec effect.ErxN n g f o = xor_register (X n) (operand (X n) o) g  -- C(Xn) ⊕ C(Y)0-17 → C(Xn)
exec effect.Ansa n g f o = and_storage A (operand A o) g  -- C(A) & C(Y) → C(Y)
exec effect.Ansq n g f o = and_storage Q (operand Q o) g  -- C(Q) & C(Y) → C(Y)
exec effect.Orsa n g f o = or_storage A (operand A o) g  -- C(A) | C(Y) → C(Y)
exec effect.Orsq n g f o = or_storage Q (operand Q o) g  -- C(Q) | C(Y) → C(Y)
exec effect.Ersa n g f o = xor_storage A (operand A o) g  -- C(A) ⊕ C(Y) → C(Y)
exec effect.Ersq n g f o = xor_storage Q (operand Q o) g  -- C(Q) ⊕ C(Y) → C(Y)
exec effect.AnsxN n g f o = and_storage (X n) (operand (X n) o) g  -- C(Xn) & C(Y)0-17 → C(Y)0-17
exec effect.OrsxN n g f o = or_storage (X n) (operand (X n) o) g  -- C(Xn) | C(Y)0-17 → C(Y)0-17
exec effect.ErsxN n g f o = xor_storage (X n) (operand (X n) o) g  -- C(Xn) ⊕ C(Y)0-17 → C(Y)0-17
exec effect.Als n g f o = shift_left A f.at.word g  -- C(A) to the left, zeros in
exec effect.Qls n g f o = shift_left Q f.at.word g  -- C(Q) to the left, zeros in
exec effect.Lls n g f o = shift_left AQ f.at.word g  -- C(AQ) to the left, zeros in
exec effect.Ars n g f o = shift_right A f.at.word g  -- C(A) to the right, sign bits in
exec effect.Qrs n g f o = shift_right Q f.at.word g  -- C(Q) to the right, sign bits in
exec effect.Lrs n g f o = shift_right AQ f.at.word g  -- C(AQ) to the right, sign bits in
exec effect.Arl n g f o = shift_right_logical A f.at.word g  -- C(A) to the right, zeros in
exec effect.Qrl n g f o = shift_right_logical Q f.at.word g  -- C(Q) to the right, zeros in
exec effect.Lrl n g f o = shift_right_logical AQ f.at.word g  -- C(AQ) to the right, zeros in
exec effect.Alr n g f o = rotate_left A f.at.word g  -- C(A) rotated to the left
exec effect.Qlr n g f o = rotate_left Q f.at.word g  -- C(Q) rotated to the left
exec effect.Llr n g f o = rotate_left AQ f.at.word g  -- C(AQ) rotated to the left
exec effect.EppN n g f o = load_pointer n g f  -- TSR, TRR, CA, TBR → C(PRn)
exec effect.EpbpN n g f o = load_base_pointer n g f  -- TSR, TRR, 0, 0 → C(PRn)
exec effect.SpriN n g f o = store_pointer n g  -- C(PRn) → C(Y-pair), as ITS
exec effect.SpbpN n g f o = store_base_pointer n g  -- C(PRn) at its base → C(Y-pair), as ITS
exec effect.Spri n g f o = store_pointers g  -- C(PR0) .. C(PR7) → C(Y-block16)
exec effect.Lpri n g f o = load_pointers g f o  -- C(Y-block16) → C(PR0) .. C(PR7)
exec effect.LprpN n g f o = load_packed n (word o) g f  -- C(Y), packed → C(PRn)
exec effect.Epaq n g f o = load_address_pair g f  -- TSR, TRR, CA, TBR → C(AQ)
exec effect.Stcd n g f o = store_control g  -- PSR, PRR, IC + 2 → C(Y-pair), as ITS
exec effect.Stac n g f o = store_if_zero (word o) g  -- if C(Y) = 0, C(A) → C(Y)
exec effect.Stacq n g f o = store_if_equal (word o) g  -- if C(Y) = C(Q), C(A) → C(Y)
exec effect.Tra n g f o = transfer_if (is_taken effect.Tra g) f g  -- TSR, CA → PSR, IC
exec effect.Tze n g f o = transfer_if (is_taken effect.Tze g) f g  -- if zero is on
exec effect.Tnz n g f o = transfer_if (is_taken effect.Tnz g) f g  -- if zero is off
exec effect.Tmi n g f o = transfer_if (is_taken effect.Tmi g) f g  -- if negative is on
exec effect.Tpl n g f o = transfer_if (is_taken effect.Tpl g) f g  -- if negative is off
exec effect.Trc n g f o = transfer_if (is_taken effect.Trc g) f g  -- if carry is on
exec effect.Tnc n g f o = transfer_if (is_taken effect.Tnc g) f g  -- if carry is off
exec effect.Tmoz n g f o = transfer_if (is_taken effect.Tmoz g) f g  -- if negative or zero is on
exec effect.Tpnz n g f o = transfer_if (is_taken effect.Tpnz g) f g  -- if neither is on
exec effect.Tov n g f o = transfer_on_overflow (is_taken effect.Tov g) f g  -- if overflow is on
exec effect.Ttf n g f o = transfer_if (is_taken effect.Ttf g) f g  -- if tally runout is off
exec effect.TsxN n g f o = transfer_and_set_index n f g  -- IC + 1 → C(Xn)
exec effect.TspN n g f o = transfer_and_set_pointer n f g  -- PSR, PRR, IC + 1 → C(PRn)
exec effect.Call6 n g f o = call f o.ring g  -- TSR, ring, CA → PPR
exec effect.Rtcd n g f o = return_to f o g  -- C(Y-pair) → PPR
exec effect.Nop n g f o = completes g  -- nothing
exec effect.Mme n g f o = completes g  -- not used by a step
exec effect.Drl n g f o = completes g  -- not used by a step
exec effect.Dis n g f o = completes g  -- not used by a step
exec effect.Ldbr n g f o = load_dbr o g  -- C(Y-pair) → C(DBR)
exec effect.Sdbr n g f o = store_dbr g  -- C(DBR) → C(Y-pair)
exec effect.Cams n g f o = completes g  -- nothing
exec effect.Camp n g f o = completes g  -- nothing
exec effect.Absa n g f o = load_absolute_address o g  -- core address → C(A)0-23, 0 → C(A)24-35

-- the effect of an instruction as the code returns it, as numbers and lists, or its fault
abbrev pub answer_fields : Result Effect36 Fault → Result EffectFields Fault
answer_fields (Ok e) = Ok (effect_fields e)
answer_fields (Err f) = Err f

-- the effect, or the fault with this number at the instruction
abbrev pub refused_here : RegsFields → Result EffectFields ℕ → Result EffectFields Fault
refused_here g (Ok e) = Ok e
refused_here g (Err number) = Err (fault_here number g)
