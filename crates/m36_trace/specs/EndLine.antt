-- The end line of a run: how it ended, and the number of its steps.
use Rattle.std.specs.Prelude.{ℕ, List, [], ◌∷◌, codes}
use Rattle.m36_text.specs.Digits.{decimal_text}
use Rattle.m36_text.specs.Lines.{joined_by_spaces}
use Rattle.m36_model.specs.declared.outcome.Outcome.{Outcome}
use Rattle.m36_trace.specs.TraceLine.{outcome_with}

-- how a run ended; after the outcome Next it ended because of its step limit
abbrev pub ending_text : Outcome → List ℕ
ending_text outcome = outcome_with (codes "limit") outcome

-- the end line from its texts: how the run ended, and the number of steps; without its line feed
abbrev pub end_line_with : List ℕ → ℕ → List ℕ
end_line_with how steps = joined_by_spaces (codes "end" ∷ how ∷ decimal_text steps ∷ [])

-- the end line of a run with this last outcome, without its line feed
unfoldable pub end_line_of : Outcome → ℕ → List ℕ
end_line_of outcome steps = end_line_with (ending_text outcome) steps
