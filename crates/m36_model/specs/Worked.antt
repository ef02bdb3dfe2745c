-- Worked steps: small cores with a few segments, with their words in octal. What a step does with
-- them is computed from the definitions.
use Rattle.std.specs.Prelude.{ℕ, ◌+◌, ◌*◌, false, true, List, [], ◌∷◌, replicate, slice_set}
use Rattle.std.specs.Prelude.{slice_index, Option, None}
use Rattle.m36_desc.specs.Fields.{SdwFields}
use Rattle.m36_desc.specs.Descriptors.{sdw_even, sdw_odd}
use Rattle.m36_model.specs.Fields.{AtFields, FinalFields}
use Rattle.m36_model.specs.Registers.{RegsFields}
use Rattle.m36_model.specs.Store.{State, violation, fault_by}
use Rattle.m36_model.specs.Core.{core_store}
use Rattle.m36_model.specs.Modification.{plain_fault, no_ptr}
use Rattle.m36_model.specs.Results.{no_indicators}
use Rattle.m36_model.specs.Step.{record_of, state_after}
use Rattle.m36_model.specs.declared.place.Kind.{Kind}
use Rattle.m36_model.specs.declared.place.Reference.{Reference}
use Rattle.m36_model.specs.declared.outcome.Outcome.{Outcome}
use Rattle.m36_model.specs.declared.outcome.Outcome.TheVariants.{Faulted}

-- core with these words at these addresses
abbrev pub with_words_at : List (ℕ × ℕ) → List ℕ → List ℕ
with_words_at [] core = core
with_words_at (w ∷ words) core = with_words_at words (slice_set core w.0 w.1)

-- core of `size` words, with these words at these addresses, and zeros elsewhere
abbrev pub core_of : ℕ → List (ℕ × ℕ) → List ℕ
core_of size words = with_words_at words (replicate size 0)

-- consecutive words with their addresses, the first of which is `place`
abbrev pub words_from : ℕ → List ℕ → List (ℕ × ℕ)
words_from place [] = []
words_from place (w ∷ words) = (place, w) ∷ words_from (place + 1) words

-- the descriptor of an unpaged segment with these brackets, one block of 16 words, and no rights
abbrev pub descriptor_with_rings : ℕ → ℕ → ℕ → SdwFields
descriptor_with_rings r1 r2 r3 =
    record {
      addr = 0;
      r1 = r1;
      r2 = r2;
      r3 = r3;
      f = true;
      fc = 0;
      bound = 0;
      readable = false;
      executable = false;
      writable = false;
      privileged = false;
      unpaged = true;
      no_gate = true;
      cached = false;
      limit = 0;
    }

-- the descriptor with the right to read added
abbrev pub readable : SdwFields → SdwFields
readable d = record d { readable = true }

-- the descriptor with the right to execute added
abbrev pub executable : SdwFields → SdwFields
executable d = record d { executable = true }

-- the descriptor with the right to write added
abbrev pub writable : SdwFields → SdwFields
writable d = record d { writable = true }

-- the descriptor with the privileged bit on
abbrev pub privileged : SdwFields → SdwFields
privileged d = record d { privileged = true }

-- the descriptor as that of a gate whose first n words are entries
abbrev pub gate_with_entries : ℕ → SdwFields → SdwFields
gate_with_entries n d = record d { no_gate = false; limit = n }

-- the descriptor with n as the number of the last block of 16 words: n + 1 blocks are within the
-- bound
abbrev pub with_last_block : ℕ → SdwFields → SdwFields
with_last_block n d = record d { bound = n }

-- The two words of the descriptor of segment n, with their addresses, if the segment begins at core
-- address `place`. The descriptor segment begins at word 0.
abbrev pub descriptor_entry : ℕ → ℕ → SdwFields → List (ℕ × ℕ)
descriptor_entry n place d =
    words_from (2 * n) (sdw_even (record d { addr = place }) ∷ sdw_odd d ∷ [])

-- the descriptor with the rights to read and to execute added
abbrev pub procedure : SdwFields → SdwFields
procedure d = readable (executable d)

-- registers that are zero, at an instruction; the descriptor segment is unpaged, from core word 0
-- on
abbrev pub at_instruction : ℕ → ℕ → ℕ → RegsFields
at_instruction seg ring word =
    record {
      a = 0;
      q = 0;
      x = replicate 8 0;
      pr = replicate 8 no_ptr;
      ind = no_indicators;
      ppr = record { psr = seg; prr = ring; ic = word };
      dbr = record { addr = 0; bnd = 63; unpaged = true; stack = 1 };
    }

-- a word of a segment, in a ring
abbrev pub at_word : ℕ → ℕ → ℕ → AtFields
at_word seg word ring = record { seg = seg; word = word; ring = ring }

-- the final address at a word, with bit 0 and no direct operand
abbrev pub final_address_at : ℕ → ℕ → ℕ → FinalFields
final_address_at seg word ring = record { at = at_word seg word ring; bit = 0; direct = None }

-- the reference to `count` words that begin at a word of a segment
abbrev pub reference_to : Kind → ℕ → ℕ → ℕ → ℕ → Reference
reference_to kind seg word ring count =
    record { at = at_word seg word ring; kind = kind; count = count }

-- the outcome of a step that ends with a fault of this number, other than an access violation, at a
-- word
abbrev pub fault_outcome : ℕ → AtFields → Outcome
fault_outcome number at = Faulted (plain_fault number at)

-- the outcome of a step that ends with an access violation of this number, at a word
abbrev pub violation_outcome : ℕ → AtFields → Outcome
violation_outcome acv at = Faulted (fault_by (violation acv) at)

-- the outcome of one step
abbrev pub outcome_of_step : State (List ℕ) → Outcome
outcome_of_step s = (record_of core_store s).outcome

-- the end of the address chain of a step, if it has one
abbrev pub address_of_step : State (List ℕ) → Option FinalFields
address_of_step s = (record_of core_store s).at

-- the references of a step
abbrev pub references_of_step : State (List ℕ) → List Reference
references_of_step s = (record_of core_store s).refs.items

-- the registers after a step
abbrev pub registers_after : State (List ℕ) → RegsFields
registers_after s = (record_of core_store s).after

-- the core after a step
abbrev pub core_after : State (List ℕ) → List ℕ
core_after s = (state_after core_store s).store

-- a core word after a step
abbrev pub word_after : State (List ℕ) → ℕ → ℕ
word_after s a = slice_index (core_after s) a
