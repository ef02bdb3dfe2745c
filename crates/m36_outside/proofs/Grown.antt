-- Laws of output that grows: what two calls wrote, one after the other, is what both wrote.
use Rattle.std.proofs.Common.{◌≡◌, ℕ, List, [], ◌++◌, Option, Some, None, take, drop, refl, sym, ap, ◌∙◌}
use Rattle.std.proofs.lemmas.List.{append-nil, append_assoc, take-append-drop}
use Rattle.m36_outside.specs.Written.{appended, Grew, GrewWithin}

-- adding nothing changes nothing
pub appended-nil : (now : Option (List ℕ)) → appended [] now ≡ now
appended-nil None = refl
appended-nil (Some written) = ap (λ w. Some w) (append-nil written)

-- adding one text and then another is adding both at once
pub appended-appended : (x y : List ℕ) (now : Option (List ℕ)) → appended y (appended x now) ≡ appended (x ++ y) now
appended-appended x y None = refl
appended-appended x y (Some written) = ap (λ w. Some w) (append_assoc written x y)

-- if nothing has to be written, nothing has to be done
pub grew_by_nothing : (now : Option (List ℕ)) → Grew now now []
grew_by_nothing now = sym (appended-nil now)

-- one text, and then another
pub grew_on : (old now new : Option (List ℕ)) (x y : List ℕ) → Grew old now x → Grew now new y → Grew old new (x ++ y)
grew_on old now new x y first second = second ∙ ap (λ w. appended y w) first ∙ appended-appended x y old

-- the whole is a prefix
pub grew_within : (old new : Option (List ℕ)) (x : List ℕ) → Grew old new x → GrewWithin old new x
grew_within old new x grown = record { part = x; rest = []; whole = sym (append-nil x); grew = grown }

-- nothing is a prefix
pub within_nothing : (now : Option (List ℕ)) (x : List ℕ) → GrewWithin now now x
within_nothing now x = record { part = []; rest = x; whole = refl; grew = grew_by_nothing now }

-- one text, and then a prefix of another
pub grew_more :
    (old now new : Option (List ℕ)) (x y : List ℕ)
    → Grew old now x → GrewWithin now new y → GrewWithin old new (x ++ y)
grew_more old now new x y first second = record {
  part = x ++ second.part;
  rest = second.rest;
  whole = ap (λ z. x ++ z) second.whole ∙ sym (append_assoc x second.part second.rest);
  grew = grew_on old now new x second.part first second.grew;
}

-- a prefix of one text is a prefix of a longer one
pub grew_longer :
    (old new : Option (List ℕ)) (x y : List ℕ) → GrewWithin old new x → GrewWithin old new (x ++ y)
grew_longer old new x y cut = record {
  part = cut.part;
  rest = cut.rest ++ y;
  whole = ap (λ z. z ++ y) cut.whole ∙ append_assoc cut.part cut.rest y;
  grew = cut.grew;
}

-- the first bytes of a text are a prefix of it
pub within_front : (old new x : List ℕ) (n : ℕ) → new ≡ old ++ take n x → GrewWithin (Some old) (Some new) x
within_front old new x n grown = record {
  part = take n x;
  rest = drop n x;
  whole = sym (take-append-drop n x);
  grew = ap (λ w. Some w) grown;
}

-- what a function that puts several texts takes by `using`
pub ruleset output = (grew_by_nothing, grew_on, grew_within, within_nothing, grew_more, grew_longer)
