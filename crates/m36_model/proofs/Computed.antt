-- The worked steps, by computation. `everything` unfolds each definition that a step computes with.
use Rattle.std.proofs.Common.{refl}
use Rattle.m36_word.specs.Signed.{signed}
use Rattle.m36_inst.specs.Lookup.{entry_at}
use Rattle.m36_model.specs.Act.{and_then}
use Rattle.m36_model.specs.Arithmetic.{modulo, sum_value, sum_carry, sum_overflow, sum, difference_value, difference_carry, difference_overflow, difference, negation, is_less, comparison, product, quotient, remainder, is_divide_check}
use Rattle.m36_model.specs.Booleans.{bits_of, number_from, each_bit, bitwise, and_of, or_of, xor_of, and_not_of}
use Rattle.m36_model.specs.CallReturn.{call, return_to}
use Rattle.m36_model.specs.Chain.{indirect_kind, chain}
use Rattle.m36_model.specs.Compares.{compare, test_word, test_and_clear, compare_masked, test_and, test_and_not}
use Rattle.m36_model.specs.Core.{core_put}
use Rattle.m36_model.specs.Effect.{exec}
use Rattle.m36_model.specs.FirstPoint.{first_point}
use Rattle.m36_model.specs.Loads.{load, load_complement, load_and_clear, indicators_of, load_indicators}
use Rattle.m36_model.specs.Logic.{and_register, or_register, xor_register, and_storage, or_storage, xor_storage}
use Rattle.m36_model.specs.Modification.{modifier_value, move_of_point}
use Rattle.m36_model.specs.Place.{core_sdw, core_spot, with_used, with_modified, marks, with_marks, core_marked}
use Rattle.m36_model.specs.Pointers.{with_pr, load_pointer, load_base_pointer, store_pointer, store_base_pointer, store_pointers, load_pointers, load_packed, load_address_pair, store_control}
use Rattle.m36_model.specs.Privileged.{load_dbr, store_dbr, load_absolute_address}
use Rattle.m36_model.specs.Products.{multiply, divide}
use Rattle.m36_model.specs.Results.{with_value, set_zero_negative, set_zero_negative_carry, set_zero_negative_overflow, set_zero_negative_carry_overflow, set_by_comparison, advanced}
use Rattle.m36_model.specs.ShiftEffects.{shift_left, shift_right, shift_right_logical, rotate_left}
use Rattle.m36_model.specs.Shifts.{left_shift, first_bits, left_shift_carry, copying_right_shift, plain_right_shift, rotation}
use Rattle.m36_model.specs.Step.{with_chain_tally, operate, decode, program, record_of, state_after}
use Rattle.m36_model.specs.Store.{refusing_violation, spots_of, spots_of_request, changes, serve, run}
use Rattle.m36_model.specs.Stores.{store, store_zero, indicators_half, store_indicators, store_if_zero, store_if_equal}
use Rattle.m36_model.specs.Sums.{into_register, into_register_logical, into_operand, add, add_logical, add_with_carry, sign_extended, subtract, subtract_logical, subtract_with_carry, add_one_to_storage, add_to_storage, subtract_stored, negate}
use Rattle.m36_model.specs.Tally.{tally}
use Rattle.m36_model.specs.Transfers.{is_taken, registers_after_transfer, transfer_if, transfer_on_overflow, transfer_and_set_index, transfer_and_set_pointer}
use Rattle.m36_model.specs.WorkedAddresses.{LoadReadsItsWord, StopFollows, LastWordOfTheBoundIsRead, WordPastTheBoundIsRefused, PairTakesTheBracketOfItsSegment, SeventeenthIndirectWordLocksUp, SixteenIndirectWordsAreServed, HeldIndexIsAddedAtTheEnd, TallyWordsCount, LoadSeesTheNewTallyWord, StoreComesAfterTheTallyWord, RefusedTallyWordChangesNothing, DirectOperandIsTheAddress, DirectOperandsAreRefused, TagsOfTheInstruction, FaultTagTakesTheBracketOfItsSegment}
use Rattle.m36_model.specs.WorkedCalls.{CallThroughAGate, CallPastTheLimiter, CallFromAboveTheBracket, OutwardCall, CallWithRaisedRing, CallWithinTheRing, ReturnTakesThePairsRing, ReturnTakesTheGreatestRing, PackedPointerWithAWrongBitNumber, OneTakesTheLock}
use Rattle.m36_model.specs.WorkedEffects.{ComparisonIsSigned, OverflowStoresAndFaults, MaskedOverflowGoesOn, LeastNumberHasNoNegative, SquareOfTheLeastNumber, QuotientIsCutTowardZero, DivisionByZeroIsRefused, LeftShiftSetsCarry, RightShiftCopiesTheSign, RotationComesRound, TransferSetsTheIndex, BooleansGoBitByBit, LongShiftsCrossTheWords, SignIsExtended, IndicatorsAreLoaded, IndicatorsAreStored}

unfoldable pub everything : Unit {0}
unfolding signed entry_at and_then modulo sum_value sum_carry sum_overflow sum difference_value difference_carry difference_overflow difference negation is_less comparison product quotient remainder is_divide_check bits_of number_from each_bit bitwise and_of or_of xor_of and_not_of call return_to indirect_kind chain compare test_word test_and_clear compare_masked test_and test_and_not core_put exec first_point load load_complement load_and_clear indicators_of load_indicators and_register or_register xor_register and_storage or_storage xor_storage modifier_value move_of_point core_sdw core_spot with_used with_modified marks with_marks core_marked with_pr load_pointer load_base_pointer store_pointer store_base_pointer store_pointers load_pointers load_packed load_address_pair store_control load_dbr store_dbr load_absolute_address multiply divide with_value set_zero_negative set_zero_negative_carry set_zero_negative_overflow set_zero_negative_carry_overflow set_by_comparison advanced shift_left shift_right shift_right_logical rotate_left left_shift first_bits left_shift_carry copying_right_shift plain_right_shift rotation with_chain_tally operate decode program record_of state_after refusing_violation spots_of spots_of_request changes serve run store store_zero indicators_half store_indicators store_if_zero store_if_equal into_register into_register_logical into_operand add add_logical add_with_carry sign_extended subtract subtract_logical subtract_with_carry add_one_to_storage add_to_storage subtract_stored negate tally is_taken registers_after_transfer transfer_if transfer_on_overflow transfer_and_set_index transfer_and_set_pointer
everything = tt

pub load_reads_its_word : LoadReadsItsWord
unfolding everything
load_reads_its_word = refl

pub stop_follows : StopFollows
unfolding everything
stop_follows = refl

pub last_word_of_the_bound_is_read : LastWordOfTheBoundIsRead
unfolding everything
last_word_of_the_bound_is_read = refl

pub word_past_the_bound_is_not : WordPastTheBoundIsRefused
unfolding everything
word_past_the_bound_is_not = refl

pub pair_takes_the_bracket_of_its_segment : PairTakesTheBracketOfItsSegment
unfolding everything
pair_takes_the_bracket_of_its_segment = (refl, refl, refl)

pub seventeenth_indirect_word_locks_up : SeventeenthIndirectWordLocksUp
unfolding everything
seventeenth_indirect_word_locks_up = refl

pub sixteen_indirect_words_are_served : SixteenIndirectWordsAreServed
unfolding everything
sixteen_indirect_words_are_served = (refl, refl)

pub index_is_held_over_the_indirect_word : HeldIndexIsAddedAtTheEnd
unfolding everything
index_is_held_over_the_indirect_word = refl

pub tally_words_count : TallyWordsCount
unfolding everything
tally_words_count = (refl, refl, refl, refl, refl)

pub load_sees_the_new_tally_word : LoadSeesTheNewTallyWord
unfolding everything
load_sees_the_new_tally_word = (refl, refl, refl, refl)

pub store_comes_after_the_tally_word : StoreComesAfterTheTallyWord
unfolding everything
store_comes_after_the_tally_word = (refl, refl)

pub refused_tally_word_changes_nothing : RefusedTallyWordChangesNothing
unfolding everything
refused_tally_word_changes_nothing = (refl, refl)

pub direct_operand_is_the_address : DirectOperandIsTheAddress
unfolding everything
direct_operand_is_the_address = (refl, refl, refl)

pub direct_operands_are_refused : DirectOperandsAreRefused
unfolding everything
direct_operands_are_refused = (refl, refl, refl)

pub tags_of_the_instruction : TagsOfTheInstruction
unfolding everything
tags_of_the_instruction = (refl, refl, refl, refl, refl)

pub fault_tag_takes_the_bracket_of_its_segment : FaultTagTakesTheBracketOfItsSegment
unfolding everything
fault_tag_takes_the_bracket_of_its_segment = refl

pub call_through_a_gate : CallThroughAGate
unfolding everything
call_through_a_gate = (refl, refl, refl)

pub call_past_the_limiter : CallPastTheLimiter
unfolding everything
call_past_the_limiter = refl

pub call_from_above_the_bracket : CallFromAboveTheBracket
unfolding everything
call_from_above_the_bracket = refl

pub outward_call : OutwardCall
unfolding everything
outward_call = refl

pub call_with_raised_ring : CallWithRaisedRing
unfolding everything
call_with_raised_ring = refl

pub call_within_the_ring : CallWithinTheRing
unfolding everything
call_within_the_ring = (refl, refl, refl)

pub return_takes_the_pairs_ring : ReturnTakesThePairsRing
unfolding everything
return_takes_the_pairs_ring = (refl, refl, refl)

pub return_takes_the_greatest_ring : ReturnTakesTheGreatestRing
unfolding everything
return_takes_the_greatest_ring = refl

pub packed_pointer_with_a_wrong_bit_number : PackedPointerWithAWrongBitNumber
unfolding everything
packed_pointer_with_a_wrong_bit_number = (refl, refl)

pub one_takes_the_lock : OneTakesTheLock
unfolding everything
one_takes_the_lock = (refl, refl, refl, refl)

pub comparison_is_signed : ComparisonIsSigned
unfolding everything
comparison_is_signed = refl

pub overflow_stores_and_faults : OverflowStoresAndFaults
unfolding everything
overflow_stores_and_faults = (refl, refl)

pub masked_overflow_goes_on : MaskedOverflowGoesOn
unfolding everything
masked_overflow_goes_on = (refl, refl)

pub least_number_has_no_negative : LeastNumberHasNoNegative
unfolding everything
least_number_has_no_negative = refl

pub square_of_the_least_number : SquareOfTheLeastNumber
unfolding everything
square_of_the_least_number = refl

pub quotient_is_cut_toward_zero : QuotientIsCutTowardZero
unfolding everything
quotient_is_cut_toward_zero = refl

pub division_by_zero_is_refused : DivisionByZeroIsRefused
unfolding everything
division_by_zero_is_refused = refl

pub left_shift_sets_carry : LeftShiftSetsCarry
unfolding everything
left_shift_sets_carry = refl

pub right_shift_copies_the_sign : RightShiftCopiesTheSign
unfolding everything
right_shift_copies_the_sign = refl

pub rotation_comes_round : RotationComesRound
unfolding everything
rotation_comes_round = refl

pub transfer_sets_the_index : TransferSetsTheIndex
unfolding everything
transfer_sets_the_index = refl

pub booleans_go_bit_by_bit : BooleansGoBitByBit
unfolding everything
booleans_go_bit_by_bit = (refl, refl, refl, refl, refl)

pub long_shifts_cross_the_words : LongShiftsCrossTheWords
unfolding everything
long_shifts_cross_the_words = (refl, refl, refl, refl, refl, refl, refl, refl)

pub sign_is_extended : SignIsExtended
unfolding everything
sign_is_extended = (refl, refl)

pub indicators_are_loaded : IndicatorsAreLoaded
unfolding everything
indicators_are_loaded = (refl, refl, refl, refl, refl, refl)

pub indicators_are_stored : IndicatorsAreStored
unfolding everything
indicators_are_stored = (refl, refl)
