-- The parts of effects: only calls, returns, and loads of the DBR change the ring or the DBR.
use Rattle.std.proofs.Common.{◌≡◌, refl, ◌∙◌, length-set}
use Rattle.std.specs.Prelude.{ℕ, Bool, true, false, List, [], ◌∷◌, length, Result, Ok, Err}
use Rattle.m36_desc.specs.Fields.{PtrFields}
use Rattle.m36_model.specs.Fields.{FinalFields}
use Rattle.m36_model.specs.Registers.{RegsFields}
use Rattle.m36_model.specs.declared.registers.Ind.{Ind}
use Rattle.m36_model.specs.Arithmetic.{SumFields}
use Rattle.m36_model.specs.Results.{OperandFields, EffectFields, Working, A, Q, AQ, X, words, with_value, with_indicators, advanced, with_value_and_indicators, completes}
use Rattle.m36_model.specs.Loads.{load, load_complement, load_and_clear, load_indicators}
use Rattle.m36_model.specs.Stores.{store, store_zero, store_indicators, store_if_zero, store_if_equal}
use Rattle.m36_model.specs.Sums.{into_register, into_register_logical, into_operand, add, add_logical, add_with_carry, subtract, subtract_logical, subtract_with_carry, add_one_to_storage, add_to_storage, subtract_stored, negate}
use Rattle.m36_model.specs.Products.{multiply, divide, divide_by}
use Rattle.m36_model.specs.Compares.{compare, test_word, test_and_clear, compare_masked, test_and, test_and_not}
use Rattle.m36_model.specs.Logic.{and_register, or_register, xor_register, and_storage, or_storage, xor_storage}
use Rattle.m36_model.specs.ShiftEffects.{shift_left, shift_right, shift_right_logical, rotate_left}
use Rattle.m36_model.specs.Pointers.{with_pr, load_pointer, load_base_pointer, store_pointer, store_base_pointer, store_pointers, load_pointers, load_packed, load_packed_by, load_address_pair, store_control}
use Rattle.m36_model.specs.Transfers.{registers_after_transfer, transfer_by, transfer_if, without_overflow, transfer_on_overflow, transfer_and_set_index, transfer_and_set_pointer}
use Rattle.m36_model.specs.Privileged.{store_dbr, load_absolute_address}
use Rattle.m36_model.specs.Isolation.{HasPointers}

-- P holds of the result of an effect that is not refused
abbrev pub OfOk : (EffectFields → Type 0) → Result EffectFields ℕ → Type 0
OfOk P (Ok x) = P x
OfOk P (Err n) = Unit {0}

pub of_ok : (P R : EffectFields → Type 0) → ((x : EffectFields) → P x → R x) → (v : Result EffectFields ℕ) → OfOk P v → OfOk R v
of_ok P R f (Ok x) h = f x h
of_ok P R f (Err n) h = tt

-- the ring, the DBR and the number of pointer registers do not change
pub record Keeps (g h : RegsFields) : Type 0 where
  pub ring : h.ppr.prr ≡ g.ppr.prr
  pub dbr : h.dbr ≡ g.dbr
  pub pointers : HasPointers g → HasPointers h

-- besides, `count` words are given to be written
pub record IsPlain (g : RegsFields) (count : ℕ) (x : EffectFields) : Type 0 where
  pub keeps : Keeps g x.regs
  pub count_is : length x.put ≡ count

keeps_self : (g : RegsFields) → Keeps g g
keeps_self g = record { ring = refl; dbr = refl; pointers = λ h. h }

keeps_moved : (g h : RegsFields) → Keeps g h → Keeps g (advanced h)
unfolding advanced
keeps_moved g h k = record { ring = k.ring; dbr = k.dbr; pointers = k.pointers }

keeps_value : (r : Working) (v : ℕ) (g h : RegsFields) → Keeps g h → Keeps g (with_value r v h)
unfolding with_value
keeps_value A v g h k = record { ring = k.ring; dbr = k.dbr; pointers = k.pointers }
keeps_value Q v g h k = record { ring = k.ring; dbr = k.dbr; pointers = k.pointers }
keeps_value AQ v g h k = record { ring = k.ring; dbr = k.dbr; pointers = k.pointers }
keeps_value (X n) v g h k = record { ring = k.ring; dbr = k.dbr; pointers = k.pointers }

keeps_indicators : (i : Ind) (g h : RegsFields) → Keeps g h → Keeps g (with_indicators i h)
keeps_indicators i g h k = record { ring = k.ring; dbr = k.dbr; pointers = k.pointers }

keeps_takes : (r : Working) (v : ℕ) (i : Ind) (g h : RegsFields) → Keeps g h → Keeps g (with_value_and_indicators r v i h)
keeps_takes r v i g h k = keeps_indicators i g (with_value r v h) (keeps_value r v g h k)

keeps_pr : (n : ℕ) (p : PtrFields) (g h : RegsFields) → Keeps g h → Keeps g (with_pr n p h)
unfolding with_pr
keeps_pr n p g h k =
    record { ring = k.ring; dbr = k.dbr; pointers = λ e. length-set h.pr n p ∙ k.pointers e }

keeps_gone : (f : FinalFields) (g h : RegsFields) → Keeps g h → Keeps g (registers_after_transfer f h)
unfolding registers_after_transfer
keeps_gone f g h k = record { ring = k.ring; dbr = k.dbr; pointers = k.pointers }

-- effects that end in a new register or in indicators
plain : (g h : RegsFields) (put : List ℕ) (overflow : Bool) (count : ℕ) → Keeps g h → length put ≡ count → IsPlain g count (record { regs = advanced h; put = put; overflow = overflow })
plain g h put overflow count k e = record { keeps = keeps_moved g h k; count_is = e }

abbrev pub word_count : Working → ℕ
word_count A = 1
word_count Q = 1
word_count AQ = 2
word_count (X n) = 1

length_words : (r : Working) (v : ℕ) → length (words r v) ≡ word_count r
length_words A v = refl
length_words Q v = refl
length_words AQ v = refl
length_words (X n) v = refl

-- loads
pub load_plain : (r : Working) (v : ℕ) (g : RegsFields) → OfOk (IsPlain g 0) (load r v g)
unfolding load
load_plain r v g = plain g _ [] false 0 (keeps_takes r v _ g g (keeps_self g)) refl

pub load_complement_plain : (r : Working) (v : ℕ) (g : RegsFields) → OfOk (IsPlain g 0) (load_complement r v g)
unfolding load_complement
load_complement_plain r v g = plain g _ [] _ 0 (keeps_takes r _ _ g g (keeps_self g)) refl

pub load_and_clear_plain : (r : Working) (v : ℕ) (g : RegsFields) → OfOk (IsPlain g 1) (load_and_clear r v g)
unfolding load_and_clear
load_and_clear_plain r v g = plain g _ (0 ∷ []) false 1 (keeps_takes r v _ g g (keeps_self g)) refl

pub load_indicators_plain : (w : ℕ) (g : RegsFields) → OfOk (IsPlain g 0) (load_indicators w g)
unfolding load_indicators
load_indicators_plain w g = plain g _ [] false 0 (keeps_indicators _ g g (keeps_self g)) refl

-- stores
pub store_plain : (r : Working) (g : RegsFields) → OfOk (IsPlain g (word_count r)) (store r g)
unfolding store
store_plain r g = plain g g _ false _ (keeps_self g) (length_words r _)

pub store_zero_plain : (g : RegsFields) → OfOk (IsPlain g 1) (store_zero g)
unfolding store_zero
store_zero_plain g = plain g g _ false 1 (keeps_self g) refl

pub store_indicators_plain : (g : RegsFields) → OfOk (IsPlain g 1) (store_indicators g)
unfolding store_indicators
store_indicators_plain g = plain g g _ false 1 (keeps_self g) refl

pub store_where_zero_plain : (v : ℕ) (g : RegsFields) → OfOk (IsPlain g 1) (store_if_zero v g)
unfolding store_if_zero
store_where_zero_plain v g = plain g _ _ false 1 (keeps_indicators _ g g (keeps_self g)) refl

pub store_where_equal_plain : (v : ℕ) (g : RegsFields) → OfOk (IsPlain g 1) (store_if_equal v g)
unfolding store_if_equal
store_where_equal_plain v g = plain g _ _ false 1 (keeps_indicators _ g g (keeps_self g)) refl

-- sums
into_register_plain : (r : Working) (t : SumFields) (g : RegsFields) → OfOk (IsPlain g 0) (into_register r t g)
unfolding into_register
into_register_plain r t g = plain g _ [] _ 0 (keeps_takes r _ _ g g (keeps_self g)) refl

into_register_logical_plain : (r : Working) (t : SumFields) (g : RegsFields) → OfOk (IsPlain g 0) (into_register_logical r t g)
unfolding into_register_logical
into_register_logical_plain r t g = plain g _ [] _ 0 (keeps_takes r _ _ g g (keeps_self g)) refl

into_operand_plain : (r : Working) (t : SumFields) (g : RegsFields) → OfOk (IsPlain g (word_count r)) (into_operand r t g)
unfolding into_operand
into_operand_plain r t g = plain g _ _ _ _ (keeps_indicators _ g g (keeps_self g)) (length_words r _)

pub add_plain : (r : Working) (v : ℕ) (g : RegsFields) → OfOk (IsPlain g 0) (add r v g)
unfolding add
add_plain r v g = into_register_plain r _ g

pub add_with_carry_plain : (r : Working) (v : ℕ) (g : RegsFields) → OfOk (IsPlain g 0) (add_with_carry r v g)
unfolding add_with_carry
add_with_carry_plain r v g = into_register_plain r _ g

pub subtract_plain : (r : Working) (v : ℕ) (g : RegsFields) → OfOk (IsPlain g 0) (subtract r v g)
unfolding subtract
subtract_plain r v g = into_register_plain r _ g

pub subtract_with_carry_plain : (r : Working) (v : ℕ) (g : RegsFields) → OfOk (IsPlain g 0) (subtract_with_carry r v g)
unfolding subtract_with_carry
subtract_with_carry_plain r v g = into_register_plain r _ g

pub add_logical_plain : (r : Working) (v : ℕ) (g : RegsFields) → OfOk (IsPlain g 0) (add_logical r v g)
unfolding add_logical
add_logical_plain r v g = into_register_logical_plain r _ g

pub subtract_logical_plain : (r : Working) (v : ℕ) (g : RegsFields) → OfOk (IsPlain g 0) (subtract_logical r v g)
unfolding subtract_logical
subtract_logical_plain r v g = into_register_logical_plain r _ g

pub add_one_to_storage_plain : (v : ℕ) (g : RegsFields) → OfOk (IsPlain g 1) (add_one_to_storage v g)
unfolding add_one_to_storage
add_one_to_storage_plain v g = into_operand_plain A _ g

pub add_to_storage_plain : (r : Working) (v : ℕ) (g : RegsFields) → OfOk (IsPlain g (word_count r)) (add_to_storage r v g)
unfolding add_to_storage
add_to_storage_plain r v g = into_operand_plain r _ g

pub subtract_stored_plain : (r : Working) (v : ℕ) (g : RegsFields) → OfOk (IsPlain g (word_count r)) (subtract_stored r v g)
unfolding subtract_stored
subtract_stored_plain r v g = into_operand_plain r _ g

pub negate_plain : (r : Working) (g : RegsFields) → OfOk (IsPlain g 0) (negate r g)
unfolding negate
negate_plain r g = plain g _ [] _ 0 (keeps_takes r _ _ g g (keeps_self g)) refl

-- products
pub multiply_plain : (v : ℕ) (g : RegsFields) → OfOk (IsPlain g 0) (multiply v g)
unfolding multiply
multiply_plain v g = plain g _ [] false 0 (keeps_takes AQ _ _ g g (keeps_self g)) refl

divide_by_plain : (b : Bool) (v : ℕ) (g : RegsFields) → OfOk (IsPlain g 0) (divide_by b v g)
divide_by_plain true v g = tt
divide_by_plain false v g =
    plain g _ [] false 0 (keeps_takes Q _ _ g _ (keeps_value A _ g g (keeps_self g))) refl

pub divide_plain : (v : ℕ) (g : RegsFields) → OfOk (IsPlain g 0) (divide v g)
unfolding divide
divide_plain v g = divide_by_plain _ v g

-- comparisons and tests
pub compare_plain : (r : Working) (v : ℕ) (g : RegsFields) → OfOk (IsPlain g 0) (compare r v g)
unfolding compare
compare_plain r v g = plain g _ [] false 0 (keeps_indicators _ g g (keeps_self g)) refl

pub test_word_plain : (v : ℕ) (g : RegsFields) → OfOk (IsPlain g 0) (test_word v g)
unfolding test_word
test_word_plain v g = plain g _ [] false 0 (keeps_indicators _ g g (keeps_self g)) refl

pub test_and_clear_plain : (v : ℕ) (g : RegsFields) → OfOk (IsPlain g 1) (test_and_clear v g)
unfolding test_and_clear
test_and_clear_plain v g = plain g _ _ false 1 (keeps_indicators _ g g (keeps_self g)) refl

pub compare_masked_plain : (v : ℕ) (g : RegsFields) → OfOk (IsPlain g 0) (compare_masked v g)
unfolding compare_masked
compare_masked_plain v g = plain g _ [] false 0 (keeps_indicators _ g g (keeps_self g)) refl

pub test_and_plain : (r : Working) (v : ℕ) (g : RegsFields) → OfOk (IsPlain g 0) (test_and r v g)
unfolding test_and
test_and_plain r v g = plain g _ [] false 0 (keeps_indicators _ g g (keeps_self g)) refl

pub test_and_not_plain : (r : Working) (v : ℕ) (g : RegsFields) → OfOk (IsPlain g 0) (test_and_not r v g)
unfolding test_and_not
test_and_not_plain r v g = plain g _ [] false 0 (keeps_indicators _ g g (keeps_self g)) refl

-- boolean operations
pub and_register_plain : (r : Working) (v : ℕ) (g : RegsFields) → OfOk (IsPlain g 0) (and_register r v g)
unfolding and_register
and_register_plain r v g = plain g _ [] false 0 (keeps_takes r _ _ g g (keeps_self g)) refl

pub or_register_plain : (r : Working) (v : ℕ) (g : RegsFields) → OfOk (IsPlain g 0) (or_register r v g)
unfolding or_register
or_register_plain r v g = plain g _ [] false 0 (keeps_takes r _ _ g g (keeps_self g)) refl

pub xor_register_plain : (r : Working) (v : ℕ) (g : RegsFields) → OfOk (IsPlain g 0) (xor_register r v g)
unfolding xor_register
xor_register_plain r v g = plain g _ [] false 0 (keeps_takes r _ _ g g (keeps_self g)) refl

pub and_storage_plain : (r : Working) (v : ℕ) (g : RegsFields) → OfOk (IsPlain g (word_count r)) (and_storage r v g)
unfolding and_storage
and_storage_plain r v g = plain g _ _ false _ (keeps_indicators _ g g (keeps_self g)) (length_words r _)

pub or_storage_plain : (r : Working) (v : ℕ) (g : RegsFields) → OfOk (IsPlain g (word_count r)) (or_storage r v g)
unfolding or_storage
or_storage_plain r v g = plain g _ _ false _ (keeps_indicators _ g g (keeps_self g)) (length_words r _)

pub xor_storage_plain : (r : Working) (v : ℕ) (g : RegsFields) → OfOk (IsPlain g (word_count r)) (xor_storage r v g)
unfolding xor_storage
xor_storage_plain r v g = plain g _ _ false _ (keeps_indicators _ g g (keeps_self g)) (length_words r _)

-- shifts
pub shift_left_plain : (r : Working) (v : ℕ) (g : RegsFields) → OfOk (IsPlain g 0) (shift_left r v g)
unfolding shift_left
shift_left_plain r v g = plain g _ [] false 0 (keeps_takes r _ _ g g (keeps_self g)) refl

pub shift_right_plain : (r : Working) (v : ℕ) (g : RegsFields) → OfOk (IsPlain g 0) (shift_right r v g)
unfolding shift_right
shift_right_plain r v g = plain g _ [] false 0 (keeps_takes r _ _ g g (keeps_self g)) refl

pub shift_right_logical_plain : (r : Working) (v : ℕ) (g : RegsFields) → OfOk (IsPlain g 0) (shift_right_logical r v g)
unfolding shift_right_logical
shift_right_logical_plain r v g = plain g _ [] false 0 (keeps_takes r _ _ g g (keeps_self g)) refl

pub rotate_left_plain : (r : Working) (v : ℕ) (g : RegsFields) → OfOk (IsPlain g 0) (rotate_left r v g)
unfolding rotate_left
rotate_left_plain r v g = plain g _ [] false 0 (keeps_takes r _ _ g g (keeps_self g)) refl

-- pointers
pub load_pointer_plain : (n : ℕ) (g : RegsFields) (f : FinalFields) → OfOk (IsPlain g 0) (load_pointer n g f)
unfolding load_pointer
load_pointer_plain n g f = plain g _ [] false 0 (keeps_pr n _ g g (keeps_self g)) refl

pub load_base_pointer_plain : (n : ℕ) (g : RegsFields) (f : FinalFields) → OfOk (IsPlain g 0) (load_base_pointer n g f)
unfolding load_base_pointer
load_base_pointer_plain n g f = plain g _ [] false 0 (keeps_pr n _ g g (keeps_self g)) refl

pub store_pointer_plain : (n : ℕ) (g : RegsFields) → OfOk (IsPlain g 2) (store_pointer n g)
unfolding store_pointer
store_pointer_plain n g = plain g g _ false 2 (keeps_self g) refl

pub store_base_pointer_plain : (n : ℕ) (g : RegsFields) → OfOk (IsPlain g 2) (store_base_pointer n g)
unfolding store_base_pointer
store_base_pointer_plain n g = plain g g _ false 2 (keeps_self g) refl

pub store_pointers_plain : (g : RegsFields) → OfOk (IsPlain g 16) (store_pointers g)
unfolding store_pointers
store_pointers_plain g = plain g g _ false 16 (keeps_self g) refl

pub load_pointers_plain : (g : RegsFields) (f : FinalFields) (o : OperandFields) → OfOk (IsPlain g 0) (load_pointers g f o)
unfolding load_pointers
load_pointers_plain g f o = plain g _ [] false 0 (record { ring = refl; dbr = refl; pointers = λ h. refl }) refl

load_packed_by_plain : (b : Bool) (n w : ℕ) (g : RegsFields) (f : FinalFields) → OfOk (IsPlain g 0) (load_packed_by b n w g f)
load_packed_by_plain true n w g f = tt
load_packed_by_plain false n w g f = plain g _ [] false 0 (keeps_pr n _ g g (keeps_self g)) refl

pub load_packed_plain : (n w : ℕ) (g : RegsFields) (f : FinalFields) → OfOk (IsPlain g 0) (load_packed n w g f)
unfolding load_packed
load_packed_plain n w g f = load_packed_by_plain _ n w g f

pub load_address_pair_plain : (g : RegsFields) (f : FinalFields) → OfOk (IsPlain g 0) (load_address_pair g f)
unfolding load_address_pair
load_address_pair_plain g f = plain g _ [] false 0 (record { ring = refl; dbr = refl; pointers = λ h. h }) refl

pub store_control_plain : (g : RegsFields) → OfOk (IsPlain g 2) (store_control g)
unfolding store_control
store_control_plain g = plain g g _ false 2 (keeps_self g) refl

-- transfers
gone_plain : (f : FinalFields) (g h : RegsFields) → Keeps g h → IsPlain g 0 (record { regs = registers_after_transfer f h; put = []; overflow = false })
gone_plain f g h k = record { keeps = keeps_gone f g h k; count_is = refl }

pub completes_plain : (g : RegsFields) → OfOk (IsPlain g 0) (completes g)
completes_plain g = plain g g [] false 0 (keeps_self g) refl

transfer_by_plain : (taken : Bool) (f : FinalFields) (left g : RegsFields) → Keeps g left → OfOk (IsPlain g 0) (transfer_by taken f left g)
transfer_by_plain true f left g keeps = gone_plain f g left keeps
transfer_by_plain false f left g keeps = completes_plain g

pub transfer_where_plain : (taken : Bool) (f : FinalFields) (g : RegsFields) → OfOk (IsPlain g 0) (transfer_if taken f g)
unfolding transfer_if
transfer_where_plain taken f g = transfer_by_plain taken f g g (keeps_self g)

pub transfer_on_overflow_plain : (taken : Bool) (f : FinalFields) (g : RegsFields) → OfOk (IsPlain g 0) (transfer_on_overflow taken f g)
unfolding transfer_on_overflow
transfer_on_overflow_plain taken f g = transfer_by_plain taken f (without_overflow g) g (keeps_indicators _ g g (keeps_self g))

pub transfer_and_set_index_plain : (n : ℕ) (f : FinalFields) (g : RegsFields) → OfOk (IsPlain g 0) (transfer_and_set_index n f g)
unfolding transfer_and_set_index
transfer_and_set_index_plain n f g = gone_plain f g _ (keeps_value (X n) _ g g (keeps_self g))

pub transfer_and_set_pointer_plain : (n : ℕ) (f : FinalFields) (g : RegsFields) → OfOk (IsPlain g 0) (transfer_and_set_pointer n f g)
unfolding transfer_and_set_pointer
transfer_and_set_pointer_plain n f g = gone_plain f g _ (keeps_pr n _ g g (keeps_self g))

-- privileged instructions
pub store_dbr_plain : (g : RegsFields) → OfOk (IsPlain g 2) (store_dbr g)
unfolding store_dbr
store_dbr_plain g = plain g g _ false 2 (keeps_self g) refl

pub load_absolute_address_plain : (o : OperandFields) (g : RegsFields) → OfOk (IsPlain g 0) (load_absolute_address o g)
unfolding load_absolute_address
load_absolute_address_plain o g = plain g _ [] false 0 (keeps_takes A _ _ g g (keeps_self g)) refl
