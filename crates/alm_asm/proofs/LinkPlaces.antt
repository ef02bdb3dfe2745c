-- The index of a link that is added at the end.
use Rattle.std.proofs.Common.{◌≡◌, ℕ, ◌+◌, ◌<◌, Bool, true, false, cond, not, ◌||◌, List, [], ◌∷◌, ◌++◌, length, Some, None, sym, ap, ◌∙◌, arith, length-append, is_some}
use Rattle.std.specs.List.{list_any, position, position_or_len}
use Rattle.std.proofs.lemmas.Bool.{lt-ltb}
use Rattle.obj36_parts.specs.Fields.{LinkFields}
use Rattle.obj36_parts.specs.Indexes.{same_link, has_link}
use Rattle.obj36_parts.proofs.IndexLaws.{link_self, placed_has}

pub has_some : (l : LinkFields) (links : List LinkFields) (place : ℕ) → position (same_link l) links ≡ Some place → has_link l links ≡ true
has_some l links place e = sym (placed_has links l) ∙ ap is_some e

pub has_none : (l : LinkFields) (links : List LinkFields) → position (same_link l) links ≡ None → has_link l links ≡ false
has_none l links e = sym (placed_has links l) ∙ ap is_some e

last_by : (b other : Bool) (rest count : ℕ) → (b || other) ≡ false → (other ≡ false → rest ≡ count) → cond (not b) (1 + rest) 0 ≡ 1 + count
last_by true other rest count e later = absurd (cc)
last_by false other rest count e later = ap (λ k. 1 + k) (later e)

last : (p : LinkFields → Bool) (xs : List LinkFields) (x : LinkFields) → p x ≡ true → list_any p xs ≡ false → position_or_len p (xs ++ x ∷ []) ≡ length xs
last p [] x here none = ap (λ b. cond (not b) (1 + 0) 0) here
last p (y ∷ xs) x here none =
    let k = last_by (p y) (list_any p xs) (position_or_len p (xs ++ x ∷ [])) (length xs) none (λ no. last p xs x here no) in
    omega (arith, k)

pub placed_last : (l : LinkFields) (links later : List LinkFields) → position (same_link l) links ≡ None → later ≡ links ++ l ∷ [] → position (same_link l) later ≡ Some (length links)
placed_last l links later none is =
    let p : LinkFields → Bool = same_link l in
    let more = links ++ l ∷ [] in
    let at = last p links l (link_self l) (has_none l links none) in
    let longer : position_or_len p more < length more = let n = length-append links (l ∷ []) in omega (arith, at, n) in
    ap (position p) is
    ∙ ap (λ b. cond b (Some (position_or_len p more)) None) (lt-ltb (position_or_len p more) (length more) longer)
    ∙ ap Some at
