-- A text divided into pieces, byte by byte.
use Rattle.std.proofs.Common.{◌≡◌, ℕ, ◌+◌, ◌<◌, ◌≤◌, ◌==◌, Bool, true, false, cond, List, [], ◌∷◌, length, drop, get_or, refl, drop-cons, add-one, ◌++◌, ap, ◌∙◌}
use Rattle.std.proofs.lemmas.List.{length-append}
use Rattle.std.proofs.Math.ListN.{drop_of_length-le}
use Rattle.alm_tokens.specs.declared.pieces.Separator.{Separator}
use Rattle.alm_tokens.specs.declared.pieces.TextPiece.{TextPiece}
use Rattle.alm_tokens.specs.Pieces.{separates, piece_at, split_at}

-- the cases of whether the next byte separates pieces
cut_step :
    (parter : Separator) (minus : Bool) (from at : ℕ) (bytes : List ℕ) (i : ℕ) → i < length bytes
    → split_at parter minus from at (drop i bytes)
    ≡ cond (separates parter (get_or bytes i 0)) (piece_at minus from at ∷ split_at parter (get_or bytes i 0 == 45) (at + 1) (at + 1) (drop (i + 1) bytes)) (split_at parter minus from (at + 1) (drop (i + 1) bytes))
unfolding split_at
cut_step parter minus from at bytes i within = rw (add-one i, drop-cons bytes i 0) refl

-- at a byte that separates, a piece ends
pub cut_ends :
    (parter : Separator) (minus : Bool) (from at : ℕ) (bytes : List ℕ) (i : ℕ) → i < length bytes
    → separates parter (get_or bytes i 0) ≡ true
    → split_at parter minus from at (drop i bytes) ≡ piece_at minus from at ∷ split_at parter (get_or bytes i 0 == 45) (at + 1) (at + 1) (drop (i + 1) bytes)
cut_ends parter minus from at bytes i within e =
    cut_step parter minus from at bytes i within ∙ ap (λ parted. cond parted (piece_at minus from at ∷ split_at parter (get_or bytes i 0 == 45) (at + 1) (at + 1) (drop (i + 1) bytes)) (split_at parter minus from (at + 1) (drop (i + 1) bytes))) e

-- at any other byte the piece goes on
pub cut_goes_on :
    (parter : Separator) (minus : Bool) (from at : ℕ) (bytes : List ℕ) (i : ℕ) → i < length bytes
    → separates parter (get_or bytes i 0) ≡ false
    → split_at parter minus from at (drop i bytes) ≡ split_at parter minus from (at + 1) (drop (i + 1) bytes)
cut_goes_on parter minus from at bytes i within e =
    cut_step parter minus from at bytes i within ∙ ap (λ parted. cond parted (piece_at minus from at ∷ split_at parter (get_or bytes i 0 == 45) (at + 1) (at + 1) (drop (i + 1) bytes)) (split_at parter minus from (at + 1) (drop (i + 1) bytes))) e

-- the last piece ends with the text
pub cut_last :
    (parter : Separator) (minus : Bool) (from at : ℕ) (bytes : List ℕ) (i : ℕ) → length bytes ≤ i
    → split_at parter minus from at (drop i bytes) ≡ piece_at minus from at ∷ []
unfolding split_at
cut_last parter minus from at bytes i past = rw (drop_of_length-le bytes past) refl

-- a list with one more at its end
pub one_more : (list new : List TextPiece) (x : TextPiece) → new ≡ list ++ x ∷ [] → length new ≡ length list + 1
one_more list new x e = ap length e ∙ length-append list (x ∷ [])

pub ruleset cuts = (cut_ends, cut_goes_on, cut_last)
