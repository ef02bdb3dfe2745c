-- Lemmas on the texts of a trace line.
use Rattle.std.proofs.Common.{◌≡◌, ℕ, List, [], ◌∷◌, ◌++◌, append_assoc}
use Rattle.std.specs.Prelude.{codes}
use Rattle.std.specs.List.{join_with_byte}
use Rattle.m36_model.specs.Registers.{RegsFields}
use Rattle.m36_model.specs.Shown.{shown_of}
use Rattle.m36_model.specs.declared.record.Shown.{Shown}
use Rattle.m36_model.specs.declared.record.StepRecord.{StepRecord}
use Rattle.m36_trace.specs.TraceLine.{line_of, shown_line}

-- nine fields with a space after each but the last are the fields joined by spaces
pub put_in_turn :
    (a b c d e f g h i : List ℕ)
    → (((((((((((((((([] ++ a) ++ (32 ∷ [])) ++ b) ++ (32 ∷ [])) ++ c) ++ (32 ∷ [])) ++ d) ++ (32 ∷ [])) ++ e) ++ (32 ∷ [])) ++ f) ++ (32 ∷ [])) ++ g) ++ (32 ∷ [])) ++ h) ++ (32 ∷ [])) ++ i
    ≡ join_with_byte 32 (a ∷ b ∷ c ∷ d ∷ e ∷ f ∷ g ∷ h ∷ i ∷ [])
put_in_turn a b c d e f g h i = simp append_assoc

-- the same for an end line
pub ended_in_turn :
    (ending count : List ℕ)
    → ((codes "end " ++ ending) ++ (32 ∷ [])) ++ count ≡ join_with_byte 32 (codes "end" ∷ ending ∷ count ∷ [])
ended_in_turn ending count = simp append_assoc

-- the line from what a trace line shows, with the registers after the step
pub shown_is :
    (n : ℕ) (r : StepRecord) (shown : Shown) (after : RegsFields)
    → shown ≡ shown_of r → after ≡ r.after → shown_line n shown after ≡ line_of n r
unfolding shown_line line_of
shown_is n r shown after shown_as after_as = λ i. shown_line n (shown_as i) (after_as i)
