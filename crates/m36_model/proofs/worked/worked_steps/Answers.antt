use Rattle.m36_model.proofs.worked.worked_steps.Goals as goal
use Rattle.m36_model.proofs.Computed.{load_reads_its_word, stop_follows, last_word_of_the_bound_is_read, word_past_the_bound_is_not, pair_takes_the_bracket_of_its_segment, seventeenth_indirect_word_locks_up, sixteen_indirect_words_are_served, index_is_held_over_the_indirect_word, tally_words_count, load_sees_the_new_tally_word, store_comes_after_the_tally_word, refused_tally_word_changes_nothing, direct_operand_is_the_address, direct_operands_are_refused, tags_of_the_instruction, fault_tag_takes_the_bracket_of_its_segment, call_through_a_gate, call_past_the_limiter, call_from_above_the_bracket, outward_call, call_with_raised_ring, call_within_the_ring, return_takes_the_pairs_ring, return_takes_the_greatest_ring, packed_pointer_with_a_wrong_bit_number, one_takes_the_lock, comparison_is_signed, overflow_stores_and_faults, masked_overflow_goes_on, least_number_has_no_negative, square_of_the_least_number, quotient_is_cut_toward_zero, division_by_zero_is_refused, left_shift_sets_carry, right_shift_copies_the_sign, rotation_comes_round, transfer_sets_the_index, booleans_go_bit_by_bit, long_shifts_cross_the_words, sign_is_extended, indicators_are_loaded, indicators_are_stored}

pub returns : goal.returns
returns c =
    record {
      load_reads_its_word = load_reads_its_word;
      stop_follows = stop_follows;
      last_word_of_the_bound_is_read = last_word_of_the_bound_is_read;
      word_past_the_bound_is_not = word_past_the_bound_is_not;
      pair_takes_the_bracket_of_its_segment = pair_takes_the_bracket_of_its_segment;
      seventeenth_indirect_word_locks_up = seventeenth_indirect_word_locks_up;
      sixteen_indirect_words_are_served = sixteen_indirect_words_are_served;
      index_is_held_over_the_indirect_word = index_is_held_over_the_indirect_word;
      tally_words_count = tally_words_count;
      load_sees_the_new_tally_word = load_sees_the_new_tally_word;
      store_comes_after_the_tally_word = store_comes_after_the_tally_word;
      refused_tally_word_changes_nothing = refused_tally_word_changes_nothing;
      direct_operand_is_the_address = direct_operand_is_the_address;
      direct_operands_are_refused = direct_operands_are_refused;
      tags_of_the_instruction = tags_of_the_instruction;
      fault_tag_takes_the_bracket_of_its_segment = fault_tag_takes_the_bracket_of_its_segment;
      call_through_a_gate = call_through_a_gate;
      call_past_the_limiter = call_past_the_limiter;
      call_from_above_the_bracket = call_from_above_the_bracket;
      outward_call = outward_call;
      call_with_raised_ring = call_with_raised_ring;
      call_within_the_ring = call_within_the_ring;
      return_takes_the_pairs_ring = return_takes_the_pairs_ring;
      return_takes_the_greatest_ring = return_takes_the_greatest_ring;
      packed_pointer_with_a_wrong_bit_number = packed_pointer_with_a_wrong_bit_number;
      one_takes_the_lock = one_takes_the_lock;
      comparison_is_signed = comparison_is_signed;
      overflow_stores_and_faults = overflow_stores_and_faults;
      masked_overflow_goes_on = masked_overflow_goes_on;
      least_number_has_no_negative = least_number_has_no_negative;
      square_of_the_least_number = square_of_the_least_number;
      quotient_is_cut_toward_zero = quotient_is_cut_toward_zero;
      division_by_zero_is_refused = division_by_zero_is_refused;
      left_shift_sets_carry = left_shift_sets_carry;
      right_shift_copies_the_sign = right_shift_copies_the_sign;
      rotation_comes_round = rotation_comes_round;
      transfer_sets_the_index = transfer_sets_the_index;
      booleans_go_bit_by_bit = booleans_go_bit_by_bit;
      long_shifts_cross_the_words = long_shifts_cross_the_words;
      sign_is_extended = sign_is_extended;
      indicators_are_loaded = indicators_are_loaded;
      indicators_are_stored = indicators_are_stored;
    }
