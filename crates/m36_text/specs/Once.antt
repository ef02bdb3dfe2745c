-- Lists without repeated items.
use Rattle.std.specs.Prelude.{Bool, true, not, ◌&&◌, if◌then◌else◌, List, [], ◌∷◌, ◌++◌}
use Rattle.std.specs.List.{list_any}

-- the list with `next` added at its end; unchanged if `has` is true
abbrev pub appended_unless : {A : Type 0} → Bool → List A → A → List A
appended_unless has list next = if has then list else list ++ next ∷ []

-- the list with `next` added at its end; unchanged if an item of it passes the test
abbrev pub appended_if_new : {A : Type 0} → (A → Bool) → List A → A → List A
appended_if_new is_it list next = appended_unless (list_any is_it list) list next

-- no two items of a list are the same, by a test of two items
abbrev pub are_distinct_by : {A : Type 0} → (A → A → Bool) → List A → Bool
are_distinct_by same [] = true
are_distinct_by same (first ∷ others) =
    not (list_any (same first) others) && are_distinct_by same others
