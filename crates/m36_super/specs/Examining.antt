-- A word that is read outside of any step.
use Rattle.std.specs.Prelude.{◌≡◌, ℕ, ◌++◌, List, slice_index, Result, Ok, Err}
use Rattle.m36_model.specs.Act.{Answer}
use Rattle.m36_model.specs.declared.outcome.Fault.{Fault}

-- the result of the code is the word of the answer of the definition, or its fault
abbrev pub ExaminedResult : Result ℕ Fault → Result Answer Fault → Type 0
ExaminedResult (Ok w) definition =
    (a : Answer) × (definition ≡ Ok a) × (slice_index a.words 0 ≡ w)
ExaminedResult (Err f) definition = definition ≡ Err f

-- a text with these characters before it, or the fault of reading the text
abbrev pub with_characters_before : List ℕ → Result (List ℕ) Fault → Result (List ℕ) Fault
with_characters_before characters (Ok more) = Ok (characters ++ more)
with_characters_before characters (Err f) = Err f
