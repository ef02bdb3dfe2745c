-- A put took a prefix of its piece.
use Rattle.std.proofs.Common.{◌≡◌, ℕ, List, [], ◌∷◌, ◌++◌, Option, Some, take, drop, refl, sym, ap, ◌∙◌}
use Rattle.std.proofs.lemmas.List.{append-nil, append_assoc, take-append-drop}
use Rattle.m36_outside.specs.Passing.{TakesPart, PutTakes, joined}
use Rattle.m36_outside.specs.Put.{PutResult}
use Rattle.m36_outside.specs.Written.{Grew, GrewWithin}
use Rattle.m36_outside.specs.declared.sink.Put.{Put}
use Rattle.m36_outside.specs.declared.sink.Put.TheVariants.{Done, Failed}
use Rattle.m36_outside.proofs.Grown.{grew_by_nothing}

-- nothing of a piece
pub takes_nothing :
    (now : Option (List ℕ)) (old new : List (List ℕ)) (whole : List ℕ)
    → new ≡ old ++ [] ∷ [] → TakesPart now now old new whole
takes_nothing now old new whole took =
    record { part = []; rest = whole; is = refl; took = took; grew = grew_by_nothing now }

-- the first bytes of a piece, in memory
pub takes_front :
    (written written' : List ℕ) (old new : List (List ℕ)) (whole : List ℕ) (count : ℕ)
    → written' ≡ written ++ take count whole → new ≡ old ++ take count whole ∷ []
    → TakesPart (Some written) (Some written') old new whole
takes_front written written' old new whole count grown took = record {
  part = take count whole;
  rest = drop count whole;
  is = sym (take-append-drop count whole);
  took = took;
  grew = ap (λ w. Some w) grown;
}

-- what a writer with an empty log took
pub taken_is : (before after bytes : List ℕ) → Grew (Some before) (Some after) bytes → before ≡ [] → after ≡ bytes
taken_is before after bytes grown none = let same : Some after ≡ Some bytes = rw none at grown in cc

-- one more piece after the others
pub joined_more : (pieces : List (List ℕ)) (piece : List ℕ) → joined (pieces ++ piece ∷ []) ≡ joined pieces ++ piece
joined_more [] piece = append-nil piece
joined_more (first ∷ pieces) piece =
    ap (λ l. first ++ l) (joined_more pieces piece) ∙ sym (append_assoc first (joined pieces) piece)

joined_by : (old new : List (List ℕ)) (piece : List ℕ) → new ≡ old ++ piece ∷ [] → joined new ≡ joined old ++ piece
joined_by old new piece took = ap joined took ∙ joined_more old piece

-- a prefix of a piece, as a writer took it
pub takes_written :
    (old new : List (List ℕ)) (whole before after : List ℕ)
    → GrewWithin (Some before) (Some after) whole → before ≡ [] → new ≡ old ++ after ∷ []
    → TakesPart (Some (joined old)) (Some (joined new)) old new whole
takes_written old new whole before after within none took =
    let same : after ≡ within.part = taken_is before after within.part within.grew none in
    let part : new ≡ old ++ within.part ∷ [] = took ∙ ap (λ p. old ++ p ∷ []) same in record {
      part = within.part;
      rest = within.rest;
      is = within.whole;
      took = part;
      grew = ap (λ w. Some w) (joined_by old new within.part part);
    }

-- all of a piece, as a writer took it
pub takes_whole :
    (old new : List (List ℕ)) (whole before after : List ℕ)
    → Grew (Some before) (Some after) whole → before ≡ [] → new ≡ old ++ after ∷ [] → new ≡ old ++ whole ∷ []
takes_whole old new whole before after grown none took =
    took ∙ ap (λ p. old ++ p ∷ []) (taken_is before after whole grown none)

-- what is written after a whole piece
pub writes_whole :
    (old new : List (List ℕ)) (whole : List ℕ)
    → new ≡ old ++ whole ∷ [] → Grew (Some (joined old)) (Some (joined new)) whole
writes_whole old new whole took = ap (λ w. Some w) (joined_by old new whole took)

pub writes_part :
    (old new : List (List ℕ)) (whole before after : List ℕ)
    → GrewWithin (Some before) (Some after) whole → before ≡ [] → new ≡ old ++ after ∷ []
    → GrewWithin (Some (joined old)) (Some (joined new)) whole
writes_part old new whole before after within none took =
    let cut = takes_written old new whole before after within none took in
    record { part = cut.part; rest = cut.rest; whole = cut.is; grew = cut.grew }

pub writes_all :
    (old new : List (List ℕ)) (whole before after : List ℕ)
    → Grew (Some before) (Some after) whole → before ≡ [] → new ≡ old ++ after ∷ []
    → Grew (Some (joined old)) (Some (joined new)) whole
writes_all old new whole before after grown none took =
    writes_whole old new whole (takes_whole old new whole before after grown none took)

-- ---- by the answer of a put

-- the log of a writer, appended to the log of others
pub put_result_after :
    (answer : Put) (old new before after whole : List ℕ)
    → PutResult answer (Some before) (Some after) whole → before ≡ [] → new ≡ old ++ after
    → PutResult answer (Some old) (Some new) whole
put_result_after Done old new before after whole grown none noted =
    ap (λ w. Some w) (noted ∙ ap (λ w. old ++ w) (taken_is before after whole grown none))
put_result_after Failed old new before after whole within none noted = record {
  part = within.part;
  rest = within.rest;
  whole = within.whole;
  grew = ap (λ w. Some w) (noted ∙ ap (λ w. old ++ w) (taken_is before after within.part within.grew none));
}

-- what it took is logged as one piece
pub put_says :
    (answer : Put) (old new : List (List ℕ)) (whole before after : List ℕ)
    → PutResult answer (Some before) (Some after) whole → before ≡ [] → new ≡ old ++ after ∷ []
    → PutResult answer (Some (joined old)) (Some (joined new)) whole
put_says Done old new whole before after grown none took = writes_all old new whole before after grown none took
put_says Failed old new whole before after within none took = writes_part old new whole before after within none took

pub put_takes :
    (answer : Put) (old new : List (List ℕ)) (whole before after : List ℕ)
    → PutResult answer (Some before) (Some after) whole → before ≡ [] → new ≡ old ++ after ∷ []
    → PutTakes answer (Some (joined old)) (Some (joined new)) old new whole
put_takes Done old new whole before after grown none took = takes_whole old new whole before after grown none took
put_takes Failed old new whole before after within none took = takes_written old new whole before after within none took

pub ruleset takes = (takes_nothing, takes_front, takes_written, takes_whole, writes_whole, writes_part, writes_all)
