-- Laws of bytes that are consumed from the beginning on.
use Rattle.std.proofs.Common.{◌≡◌, ℕ, ◌+◌, List, ◌++◌, take, drop, sym, ap, ◌∙◌}
use Rattle.std.proofs.lemmas.List.{drop-drop, take-append-drop}

-- `count` bytes were copied from an index on: they and the bytes after them are what was left.
pub taken_front :
    (content left into : List ℕ) (place count : ℕ)
    → left ≡ drop place content → take count into ≡ take count left
    → left ≡ take count into ++ drop (place + count) content
taken_front content left into place count from same =
    let next : drop (place + count) content ≡ drop count left = sym (ap (drop count) from ∙ drop-drop count place content) in
    sym (ap (λ l. l ++ drop (place + count) content) same ∙ ap (λ l. take count left ++ l) next ∙ take-append-drop count left)

-- the bytes after them
pub taken_rest :
    (content left : List ℕ) (place count : ℕ) → left ≡ drop place content → drop (place + count) content ≡ drop count left
taken_rest content left place count from = sym (ap (drop count) from ∙ drop-drop count place content)

pub ruleset taken = (taken_front, taken_rest)
