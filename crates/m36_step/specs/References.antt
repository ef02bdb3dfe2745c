-- How core serves the references of an operand, in a step that has claimed only the tally word of
-- its address.
use Rattle.std.specs.Prelude.{ℕ, ◌≡◌, List, [], Result, Ok, Err}
use Rattle.m36_desc.specs.Fields.{SdwFields}
use Rattle.m36_model.specs.Act.{Read, Write}
use Rattle.m36_model.specs.Chain.{chain_end_fields, claimed_by}
use Rattle.m36_model.specs.Core.{core_store}
use Rattle.m36_model.specs.Registers.{RegsFields}
use Rattle.m36_model.specs.Step.{request_at}
use Rattle.m36_model.specs.Store.{ServeResult, serve}
use Rattle.m36_model.specs.declared.effects.Formed.{Formed}
use Rattle.m36_model.specs.declared.outcome.Fault.{Fault}
use Rattle.m36_model.specs.declared.place.Reference.{Reference}
use Rattle.m36_walk.specs.Memory.{Memory}
use Rattle.m36_walk.specs.Served.{midstep_with, sdw_in, answer_of_words}
use Rattle.m36_ea.specs.Formed.{midstep_after_address}
use Rattle.m36_step.specs.Operated.{claims_with}

-- the answer to a Read: the words, or the refusal
abbrev pub read_served :
    SdwFields → List ℕ → Formed → List Reference → Result (List ℕ) Fault → ServeResult (List ℕ)
read_served d core f refs (Ok words) =
    record {
      reply = Ok (answer_of_words d (claimed_by f.tally f.place) words);
      mid = midstep_after_address core f refs;
    }
read_served d core f refs (Err fault) =
    record { reply = Err fault; mid = midstep_after_address core f refs }

-- Core serves this Read, and the answer has these words or this refusal.
abbrev pub ServesRead :
    RegsFields → Formed → ℕ → Memory → List Reference → List ℕ → List Reference
    → Result (List ℕ) Fault → Type 0
ServesRead g f count m refs core refs' words =
    serve core_store g (midstep_after_address m.core f refs)
    (request_at Read (chain_end_fields f) count)
    ≡ read_served (sdw_in m f.last.at.seg) core f refs' words

-- the answer to a Write, given the place of the first word, or the refusal
abbrev pub write_served :
    SdwFields → List ℕ → Formed → ℕ → List Reference → Result ℕ Fault → ServeResult (List ℕ)
write_served d core f count refs (Ok place) =
    record {
      reply = Ok (answer_of_words d (claimed_by f.tally f.place) []);
      mid = midstep_with core (claims_with f place count) refs;
    }
write_served d core f count refs (Err fault) =
    record { reply = Err fault; mid = midstep_after_address core f refs }

-- Core serves this Write, and its first word has this place, or it is refused.
abbrev pub ServesWrite :
    RegsFields → Formed → ℕ → Memory → List Reference → List ℕ → List Reference → Result ℕ Fault
    → Type 0
ServesWrite g f count m refs core refs' place =
    serve core_store g (midstep_after_address m.core f refs)
    (request_at Write (chain_end_fields f) count)
    ≡ write_served (sdw_in m f.last.at.seg) core f count refs' place
