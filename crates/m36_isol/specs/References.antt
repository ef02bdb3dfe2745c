-- The number of references that a step records.
use Rattle.std.specs.Prelude.{ℕ, ◌+◌, ◌≤◌, List, length}
use Rattle.m36_model.specs.Store.{State}
use Rattle.m36_model.specs.Core.{core_store}
use Rattle.m36_model.specs.Step.{indirect_words, record_of}

-- The most references that a step records: its fetch, one for each indirect word of its address,
-- one for the new value of a tally word, and two for its operand.
abbrev pub references_of_a_step : ℕ
references_of_a_step = indirect_words + 4

-- No step records more than `references_of_a_step` references.
abbrev pub FewReferencesLaw : Type 0
FewReferencesLaw =
    (s : State (List ℕ)) → length (record_of core_store s).refs.items ≤ references_of_a_step
