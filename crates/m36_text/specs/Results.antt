-- Continuing after Ok, and results that a refusal replaces.
use Rattle.std.specs.Prelude.{Option, Some, None, Result, Ok, Err}

-- continues with the value of Ok, or keeps the error
abbrev pub and_then : {A B E : Type 0} → Result A E → (A → Result B E) → Result B E
and_then (Ok a) next = next a
and_then (Err told) next = Err told

-- the value as Ok, or the error if one is given
abbrev pub value_unless : {A E : Type 0} → Option E → A → Result A E
value_unless None value = Ok value
value_unless (Some told) value = Err told
