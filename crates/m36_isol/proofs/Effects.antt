-- One line for each effect: only CALL6 and RTCD change the ring, only LDBR changes the DBR, and as
-- many words are given to be written as the operand kind requires.
use Rattle.std.proofs.Common.{◌≡◌, refl, ◌∙◌, ap, subst, inl, inr, arith, length-set}
use Rattle.std.specs.Prelude.{ℕ, zero, suc, ◌<◌, List, [], ◌∷◌, length, slice_get, slice_set, Some, Result, Ok}
use Rattle.m36_desc.specs.Fields.{PtrFields}
use Rattle.m36_inst.specs.Operands.{operand_of}
use Rattle.m36_inst.specs.declared.effect.Effect.{Effect}
use Rattle.m36_inst.specs.declared.effect.Effect.TheVariants as effect
use Rattle.m36_model.specs.Fields.{FinalFields}
use Rattle.m36_model.specs.Registers.{RegsFields}
use Rattle.m36_model.specs.Results.{OperandFields, EffectFields, A, Q, AQ, X, operand, word, lower, advanced, completes}
use Rattle.m36_model.specs.Loads.{address_in_upper}
use Rattle.m36_model.specs.Sums.{sign_extended}
use Rattle.m36_model.specs.Pointers.{with_pr}
use Rattle.m36_model.specs.Transfers.{is_taken}
use Rattle.m36_model.specs.CallReturn.{call, return_to, all_in_ring}
use Rattle.m36_model.specs.Privileged.{load_dbr}
use Rattle.m36_model.specs.Effect.{exec}
use Rattle.m36_model.specs.Laws.{IsLawfulEffect, EffectLaw}
use Rattle.m36_model.specs.WordsPut.{words_written}
use Rattle.m36_isol.proofs.EffectParts.{OfOk, of_ok, IsPlain, add_plain, add_logical_plain, add_one_to_storage_plain, add_to_storage_plain, add_with_carry_plain, and_register_plain, and_storage_plain, compare_plain, compare_masked_plain, completes_plain, divide_plain, load_plain, load_absolute_address_plain, load_address_pair_plain, load_and_clear_plain, load_base_pointer_plain, load_complement_plain, load_indicators_plain, load_packed_plain, load_pointer_plain, load_pointers_plain, multiply_plain, negate_plain, or_register_plain, or_storage_plain, rotate_left_plain, shift_left_plain, shift_right_plain, shift_right_logical_plain, store_plain, store_base_pointer_plain, store_control_plain, store_dbr_plain, store_indicators_plain, store_pointer_plain, store_pointers_plain, store_where_equal_plain, store_where_zero_plain, store_zero_plain, subtract_plain, subtract_logical_plain, subtract_stored_plain, subtract_with_carry_plain, test_and_plain, test_and_clear_plain, test_and_not_plain, test_word_plain, transfer_and_set_index_plain, transfer_and_set_pointer_plain, transfer_on_overflow_plain, transfer_where_plain, xor_register_plain, xor_storage_plain}

plain_effect : (e : Effect) (g : RegsFields) (f : FinalFields) (o : OperandFields) (v : Result EffectFields ℕ) → OfOk (IsPlain g (words_written (operand_of e))) v → OfOk (IsLawfulEffect e g f o) v
plain_effect e g f o v h =
    of_ok (IsPlain g (words_written (operand_of e))) (IsLawfulEffect e g f o) (λ x p. record { ring = inl p.keeps.ring; dbr = inl p.keeps.dbr; count = p.count_is; pointers = p.keeps.pointers }) v h

-- setting one of eight pointer registers
get_set : (xs : List PtrFields) (i : ℕ) (p : PtrFields) → i < length xs → slice_get (slice_set xs i p) i ≡ Some p
get_set [] i p h = absurd (omega arith)
get_set (x ∷ xs) zero p h = refl
get_set (x ∷ xs) (suc i) p h = get_set xs i p (omega arith)

call_effect : (g : RegsFields) (f : FinalFields) (o : OperandFields) → OfOk (IsLawfulEffect effect.Call6 g f o) (call f o.ring g)
unfolding call with_pr
call_effect g f o =
    record {
      ring = inr (inl (
        refl,
        record {
          ring = refl;
          target = (refl, refl);
          pointer = λ h. get_set g.pr 7 _ (omega arith);
          overflow = refl;
        },
      ));
      dbr = inl refl;
      count = refl;
      pointers = λ h. length-set g.pr 7 _ ∙ h;
    }

length_in_ring : (ring : ℕ) (ps : List PtrFields) → length (all_in_ring ring ps) ≡ length ps
length_in_ring ring [] = refl
length_in_ring ring (p ∷ ps) = ap suc (length_in_ring ring ps)

return_effect : (g : RegsFields) (f : FinalFields) (o : OperandFields) → OfOk (IsLawfulEffect effect.Rtcd g f o) (return_to f o g)
unfolding return_to
return_effect g f o =
    record {
      ring = inr (inr (refl, omega arith));
      dbr = inl refl;
      count = refl;
      pointers = λ h. length_in_ring _ g.pr ∙ h;
    }

dbr_effect : (g : RegsFields) (f : FinalFields) (o : OperandFields) → OfOk (IsLawfulEffect effect.Ldbr g f o) (load_dbr o g)
unfolding load_dbr advanced
dbr_effect g f o =
    record { ring = inl refl; dbr = inr (refl, refl); count = refl; pointers = λ h. h }

pub effects : (e : Effect) (n : ℕ) (g : RegsFields) (f : FinalFields) (o : OperandFields) → OfOk (IsLawfulEffect e g f o) (exec e n g f o)
unfolding exec
effects effect.Lda n g f o = plain_effect effect.Lda g f o _ (load_plain A (operand A o) g)
effects effect.Ldq n g f o = plain_effect effect.Ldq g f o _ (load_plain Q (operand Q o) g)
effects effect.Ldaq n g f o = plain_effect effect.Ldaq g f o _ (load_plain AQ (operand AQ o) g)
effects effect.LdxN n g f o = plain_effect effect.LdxN g f o _ (load_plain (X n) (operand (X n) o) g)
effects effect.LxlN n g f o = plain_effect effect.LxlN g f o _ (load_plain (X n) (lower o) g)
effects effect.Lca n g f o = plain_effect effect.Lca g f o _ (load_complement_plain A (operand A o) g)
effects effect.Lcq n g f o = plain_effect effect.Lcq g f o _ (load_complement_plain Q (operand Q o) g)
effects effect.Lcaq n g f o = plain_effect effect.Lcaq g f o _ (load_complement_plain AQ (operand AQ o) g)
effects effect.LcxN n g f o = plain_effect effect.LcxN g f o _ (load_complement_plain (X n) (operand (X n) o) g)
effects effect.Ldac n g f o = plain_effect effect.Ldac g f o _ (load_and_clear_plain A (word o) g)
effects effect.Ldqc n g f o = plain_effect effect.Ldqc g f o _ (load_and_clear_plain Q (word o) g)
effects effect.Eaa n g f o = plain_effect effect.Eaa g f o _ (load_plain A (address_in_upper f.at.word) g)
effects effect.Eaq n g f o = plain_effect effect.Eaq g f o _ (load_plain Q (address_in_upper f.at.word) g)
effects effect.EaxN n g f o = plain_effect effect.EaxN g f o _ (load_plain (X n) f.at.word g)
effects effect.Sta n g f o = plain_effect effect.Sta g f o _ (store_plain A g)
effects effect.Stq n g f o = plain_effect effect.Stq g f o _ (store_plain Q g)
effects effect.Staq n g f o = plain_effect effect.Staq g f o _ (store_plain AQ g)
effects effect.Stz n g f o = plain_effect effect.Stz g f o _ (store_zero_plain g)
effects effect.StxN n g f o = plain_effect effect.StxN g f o _ (store_plain (X n) g)
effects effect.SxlN n g f o = plain_effect effect.SxlN g f o _ (store_plain (X n) g)
effects effect.Ldi n g f o = plain_effect effect.Ldi g f o _ (load_indicators_plain (word o) g)
effects effect.Sti n g f o = plain_effect effect.Sti g f o _ (store_indicators_plain g)
effects effect.Ada n g f o = plain_effect effect.Ada g f o _ (add_plain A (operand A o) g)
effects effect.Adq n g f o = plain_effect effect.Adq g f o _ (add_plain Q (operand Q o) g)
effects effect.Adaq n g f o = plain_effect effect.Adaq g f o _ (add_plain AQ (operand AQ o) g)
effects effect.AdxN n g f o = plain_effect effect.AdxN g f o _ (add_plain (X n) (operand (X n) o) g)
effects effect.Adl n g f o = plain_effect effect.Adl g f o _ (add_plain AQ (sign_extended (word o)) g)
effects effect.Adla n g f o = plain_effect effect.Adla g f o _ (add_logical_plain A (operand A o) g)
effects effect.Adlq n g f o = plain_effect effect.Adlq g f o _ (add_logical_plain Q (operand Q o) g)
effects effect.Adlaq n g f o = plain_effect effect.Adlaq g f o _ (add_logical_plain AQ (operand AQ o) g)
effects effect.AdlxN n g f o = plain_effect effect.AdlxN g f o _ (add_logical_plain (X n) (operand (X n) o) g)
effects effect.Awca n g f o = plain_effect effect.Awca g f o _ (add_with_carry_plain A (operand A o) g)
effects effect.Awcq n g f o = plain_effect effect.Awcq g f o _ (add_with_carry_plain Q (operand Q o) g)
effects effect.Sba n g f o = plain_effect effect.Sba g f o _ (subtract_plain A (operand A o) g)
effects effect.Sbq n g f o = plain_effect effect.Sbq g f o _ (subtract_plain Q (operand Q o) g)
effects effect.Sbaq n g f o = plain_effect effect.Sbaq g f o _ (subtract_plain AQ (operand AQ o) g)
effects effect.SbxN n g f o = plain_effect effect.SbxN g f o _ (subtract_plain (X n) (operand (X n) o) g)
effects effect.Sbla n g f o = plain_effect effect.Sbla g f o _ (subtract_logical_plain A (operand A o) g)
effects effect.Sblq n g f o = plain_effect effect.Sblq g f o _ (subtract_logical_plain Q (operand Q o) g)
effects effect.Sblaq n g f o = plain_effect effect.Sblaq g f o _ (subtract_logical_plain AQ (operand AQ o) g)
effects effect.SblxN n g f o = plain_effect effect.SblxN g f o _ (subtract_logical_plain (X n) (operand (X n) o) g)
effects effect.Swca n g f o = plain_effect effect.Swca g f o _ (subtract_with_carry_plain A (operand A o) g)
effects effect.Swcq n g f o = plain_effect effect.Swcq g f o _ (subtract_with_carry_plain Q (operand Q o) g)
effects effect.Aos n g f o = plain_effect effect.Aos g f o _ (add_one_to_storage_plain (word o) g)
effects effect.Asa n g f o = plain_effect effect.Asa g f o _ (add_to_storage_plain A (operand A o) g)
effects effect.Asq n g f o = plain_effect effect.Asq g f o _ (add_to_storage_plain Q (operand Q o) g)
effects effect.Ssa n g f o = plain_effect effect.Ssa g f o _ (subtract_stored_plain A (operand A o) g)
effects effect.Ssq n g f o = plain_effect effect.Ssq g f o _ (subtract_stored_plain Q (operand Q o) g)
effects effect.AsxN n g f o = plain_effect effect.AsxN g f o _ (add_to_storage_plain (X n) (operand (X n) o) g)
effects effect.SsxN n g f o = plain_effect effect.SsxN g f o _ (subtract_stored_plain (X n) (operand (X n) o) g)
effects effect.Neg n g f o = plain_effect effect.Neg g f o _ (negate_plain A g)
effects effect.Negl n g f o = plain_effect effect.Negl g f o _ (negate_plain AQ g)
effects effect.Mpy n g f o = plain_effect effect.Mpy g f o _ (multiply_plain (word o) g)
effects effect.Div n g f o = plain_effect effect.Div g f o _ (divide_plain (word o) g)
effects effect.Cmpa n g f o = plain_effect effect.Cmpa g f o _ (compare_plain A (operand A o) g)
effects effect.Cmpq n g f o = plain_effect effect.Cmpq g f o _ (compare_plain Q (operand Q o) g)
effects effect.Cmpaq n g f o = plain_effect effect.Cmpaq g f o _ (compare_plain AQ (operand AQ o) g)
effects effect.CmpxN n g f o = plain_effect effect.CmpxN g f o _ (compare_plain (X n) (operand (X n) o) g)
effects effect.Szn n g f o = plain_effect effect.Szn g f o _ (test_word_plain (word o) g)
effects effect.Sznc n g f o = plain_effect effect.Sznc g f o _ (test_and_clear_plain (word o) g)
effects effect.Cmk n g f o = plain_effect effect.Cmk g f o _ (compare_masked_plain (word o) g)
effects effect.Cana n g f o = plain_effect effect.Cana g f o _ (test_and_plain A (operand A o) g)
effects effect.Canq n g f o = plain_effect effect.Canq g f o _ (test_and_plain Q (operand Q o) g)
effects effect.Canaq n g f o = plain_effect effect.Canaq g f o _ (test_and_plain AQ (operand AQ o) g)
effects effect.CanxN n g f o = plain_effect effect.CanxN g f o _ (test_and_plain (X n) (operand (X n) o) g)
effects effect.Cnaa n g f o = plain_effect effect.Cnaa g f o _ (test_and_not_plain A (operand A o) g)
effects effect.Cnaq n g f o = plain_effect effect.Cnaq g f o _ (test_and_not_plain Q (operand Q o) g)
effects effect.Cnaaq n g f o = plain_effect effect.Cnaaq g f o _ (test_and_not_plain AQ (operand AQ o) g)
effects effect.CnaxN n g f o = plain_effect effect.CnaxN g f o _ (test_and_not_plain (X n) (operand (X n) o) g)
effects effect.Ana n g f o = plain_effect effect.Ana g f o _ (and_register_plain A (operand A o) g)
effects effect.Anq n g f o = plain_effect effect.Anq g f o _ (and_register_plain Q (operand Q o) g)
effects effect.Ora n g f o = plain_effect effect.Ora g f o _ (or_register_plain A (operand A o) g)
effects effect.Orq n g f o = plain_effect effect.Orq g f o _ (or_register_plain Q (operand Q o) g)
effects effect.Era n g f o = plain_effect effect.Era g f o _ (xor_register_plain A (operand A o) g)
effects effect.Erq n g f o = plain_effect effect.Erq g f o _ (xor_register_plain Q (operand Q o) g)
effects effect.Anaq n g f o = plain_effect effect.Anaq g f o _ (and_register_plain AQ (operand AQ o) g)
effects effect.Oraq n g f o = plain_effect effect.Oraq g f o _ (or_register_plain AQ (operand AQ o) g)
effects effect.Eraq n g f o = plain_effect effect.Eraq g f o _ (xor_register_plain AQ (operand AQ o) g)
effects effect.AnxN n g f o = plain_effect effect.AnxN g f o _ (and_register_plain (X n) (operand (X n) o) g)
effects effect.OrxN n g f o = plain_effect effect.OrxN g f o _ (or_register_plain (X n) (operand (X n) o) g)
effects effect.ErxN n g f o = plain_effect effect.ErxN g f o _ (xor_register_plain (X n) (operand (X n) o) g)
effects effect.Ansa n g f o = plain_effect effect.Ansa g f o _ (and_storage_plain A (operand A o) g)
effects effect.Ansq n g f o = plain_effect effect.Ansq g f o _ (and_storage_plain Q (operand Q o) g)
effects effect.Orsa n g f o = plain_effect effect.Orsa g f o _ (or_storage_plain A (operand A o) g)
effects effect.Orsq n g f o = plain_effect effect.Orsq g f o _ (or_storage_plain Q (operand Q o) g)
effects effect.Ersa n g f o = plain_effect effect.Ersa g f o _ (xor_storage_plain A (operand A o) g)
effects effect.Ersq n g f o = plain_effect effect.Ersq g f o _ (xor_storage_plain Q (operand Q o) g)
effects effect.AnsxN n g f o = plain_effect effect.AnsxN g f o _ (and_storage_plain (X n) (operand (X n) o) g)
effects effect.OrsxN n g f o = plain_effect effect.OrsxN g f o _ (or_storage_plain (X n) (operand (X n) o) g)
effects effect.ErsxN n g f o = plain_effect effect.ErsxN g f o _ (xor_storage_plain (X n) (operand (X n) o) g)
effects effect.Als n g f o = plain_effect effect.Als g f o _ (shift_left_plain A f.at.word g)
effects effect.Qls n g f o = plain_effect effect.Qls g f o _ (shift_left_plain Q f.at.word g)
effects effect.Lls n g f o = plain_effect effect.Lls g f o _ (shift_left_plain AQ f.at.word g)
effects effect.Ars n g f o = plain_effect effect.Ars g f o _ (shift_right_plain A f.at.word g)
effects effect.Qrs n g f o = plain_effect effect.Qrs g f o _ (shift_right_plain Q f.at.word g)
effects effect.Lrs n g f o = plain_effect effect.Lrs g f o _ (shift_right_plain AQ f.at.word g)
effects effect.Arl n g f o = plain_effect effect.Arl g f o _ (shift_right_logical_plain A f.at.word g)
effects effect.Qrl n g f o = plain_effect effect.Qrl g f o _ (shift_right_logical_plain Q f.at.word g)
effects effect.Lrl n g f o = plain_effect effect.Lrl g f o _ (shift_right_logical_plain AQ f.at.word g)
effects effect.Alr n g f o = plain_effect effect.Alr g f o _ (rotate_left_plain A f.at.word g)
effects effect.Qlr n g f o = plain_effect effect.Qlr g f o _ (rotate_left_plain Q f.at.word g)
effects effect.Llr n g f o = plain_effect effect.Llr g f o _ (rotate_left_plain AQ f.at.word g)
effects effect.EppN n g f o = plain_effect effect.EppN g f o _ (load_pointer_plain n g f)
effects effect.EpbpN n g f o = plain_effect effect.EpbpN g f o _ (load_base_pointer_plain n g f)
effects effect.SpriN n g f o = plain_effect effect.SpriN g f o _ (store_pointer_plain n g)
effects effect.SpbpN n g f o = plain_effect effect.SpbpN g f o _ (store_base_pointer_plain n g)
effects effect.Spri n g f o = plain_effect effect.Spri g f o _ (store_pointers_plain g)
effects effect.Lpri n g f o = plain_effect effect.Lpri g f o _ (load_pointers_plain g f o)
effects effect.LprpN n g f o = plain_effect effect.LprpN g f o _ (load_packed_plain n (word o) g f)
effects effect.Epaq n g f o = plain_effect effect.Epaq g f o _ (load_address_pair_plain g f)
effects effect.Stcd n g f o = plain_effect effect.Stcd g f o _ (store_control_plain g)
effects effect.Stac n g f o = plain_effect effect.Stac g f o _ (store_where_zero_plain (word o) g)
effects effect.Stacq n g f o = plain_effect effect.Stacq g f o _ (store_where_equal_plain (word o) g)
effects effect.Tra n g f o = plain_effect effect.Tra g f o _ (transfer_where_plain (is_taken effect.Tra g) f g)
effects effect.Tze n g f o = plain_effect effect.Tze g f o _ (transfer_where_plain (is_taken effect.Tze g) f g)
effects effect.Tnz n g f o = plain_effect effect.Tnz g f o _ (transfer_where_plain (is_taken effect.Tnz g) f g)
effects effect.Tmi n g f o = plain_effect effect.Tmi g f o _ (transfer_where_plain (is_taken effect.Tmi g) f g)
effects effect.Tpl n g f o = plain_effect effect.Tpl g f o _ (transfer_where_plain (is_taken effect.Tpl g) f g)
effects effect.Trc n g f o = plain_effect effect.Trc g f o _ (transfer_where_plain (is_taken effect.Trc g) f g)
effects effect.Tnc n g f o = plain_effect effect.Tnc g f o _ (transfer_where_plain (is_taken effect.Tnc g) f g)
effects effect.Tmoz n g f o = plain_effect effect.Tmoz g f o _ (transfer_where_plain (is_taken effect.Tmoz g) f g)
effects effect.Tpnz n g f o = plain_effect effect.Tpnz g f o _ (transfer_where_plain (is_taken effect.Tpnz g) f g)
effects effect.Tov n g f o = plain_effect effect.Tov g f o _ (transfer_on_overflow_plain (is_taken effect.Tov g) f g)
effects effect.Ttf n g f o = plain_effect effect.Ttf g f o _ (transfer_where_plain (is_taken effect.Ttf g) f g)
effects effect.TsxN n g f o = plain_effect effect.TsxN g f o _ (transfer_and_set_index_plain n f g)
effects effect.TspN n g f o = plain_effect effect.TspN g f o _ (transfer_and_set_pointer_plain n f g)
effects effect.Call6 n g f o = call_effect g f o
effects effect.Rtcd n g f o = return_effect g f o
effects effect.Nop n g f o = plain_effect effect.Nop g f o (completes g) (completes_plain g)
effects effect.Mme n g f o = plain_effect effect.Mme g f o (completes g) (completes_plain g)
effects effect.Drl n g f o = plain_effect effect.Drl g f o (completes g) (completes_plain g)
effects effect.Dis n g f o = plain_effect effect.Dis g f o (completes g) (completes_plain g)
effects effect.Ldbr n g f o = dbr_effect g f o
effects effect.Sdbr n g f o = plain_effect effect.Sdbr g f o _ (store_dbr_plain g)
effects effect.Cams n g f o = plain_effect effect.Cams g f o (completes g) (completes_plain g)
effects effect.Camp n g f o = plain_effect effect.Camp g f o (completes g) (completes_plain g)
effects effect.Absa n g f o = plain_effect effect.Absa g f o _ (load_absolute_address_plain o g)

of_result : (P : EffectFields → Type 0) (v : Result EffectFields ℕ) (x : EffectFields) → v ≡ Ok x → OfOk P v → P x
of_result P v x e h = subst (λ (w : Result EffectFields ℕ). OfOk P w) e h

pub effect_law : EffectLaw
effect_law e n g f o x h = of_result (IsLawfulEffect e g f o) (exec e n g f o) x h (effects e n g f o)
