-- Spans of a source and the bytes that they have.
use Rattle.std.proofs.Common.{ℕ, ◌≡◌, ◌+◌, ◌-◌, ◌==◌, Bool, true, false, List, [], ◌∷◌, ◌++◌, length, Some, None, refl, sym, ap, ◌∙◌, length-append, arith}
use Rattle.std.specs.List.{list_any, position, position_or_len}
use Rattle.std.proofs.lemmas.Bool.{lt-ltb, le-ltb}
use Rattle.std.proofs.lemmas.List.{append-nil}
use Rattle.std.proofs.Math.Seq.{take-append_seam, drop-append_seam}
use Rattle.alm_tokens.specs.Tokens.{slice_of, span_at}
use Rattle.alm_parse.specs.Bodies.{place_of}
use Rattle.m36_list.proofs.Parted.{first_behind}

pub slice_at : (source before piece after : List ℕ) (from to : ℕ) → source ≡ before ++ (piece ++ after) → from ≡ length before → to ≡ from + length piece
    → slice_of source (span_at from to) ≡ piece
unfolding slice_of
slice_at source before piece after from to whole begin end =
    let count : to - from ≡ length piece = omega arith in
    rw (count, whole, begin, drop-append_seam before (piece ++ after)) (take-append_seam piece after)

-- the first byte that passes
pub position_behind : (p : ℕ → Bool) (xs : List ℕ) (y : ℕ) (ys : List ℕ) → list_any p xs ≡ false → p y ≡ true → position p (xs ++ y ∷ ys) ≡ Some (length xs)
position_behind p xs y ys none here =
    let at = first_behind p xs (y ∷ ys) none here in
    let longer = length-append xs (y ∷ ys) in
    rw (at, lt-ltb (length xs) (length (xs ++ y ∷ ys)) (omega arith)) refl

pub position_none : (p : ℕ → Bool) (xs : List ℕ) → list_any p xs ≡ false → position p xs ≡ None
position_none p xs none =
    let at : position_or_len p xs ≡ length xs = ap (position_or_len p) (sym (append-nil xs)) ∙ first_behind p xs [] none refl in
    rw (at, le-ltb (length xs) (length xs) (omega arith)) refl

-- and its index in a span
pub place_behind : (source : List ℕ) (from to byte : ℕ) (xs ys : List ℕ) → slice_of source (span_at from to) ≡ xs ++ byte ∷ ys → list_any (λ b. b == byte) xs ≡ false → (byte == byte) ≡ true
    → place_of source (span_at from to) byte ≡ Some (from + length xs)
unfolding place_of
place_behind source from to byte xs ys slice none here = rw (slice, position_behind (λ b. b == byte) xs byte ys none here) refl

pub place_none : (source : List ℕ) (from to byte : ℕ) (xs : List ℕ) → slice_of source (span_at from to) ≡ xs → list_any (λ b. b == byte) xs ≡ false
    → place_of source (span_at from to) byte ≡ None
unfolding place_of
place_none source from to byte xs slice none = rw (slice, position_none (λ b. b == byte) xs none) refl
