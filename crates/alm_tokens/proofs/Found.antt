-- An item that is found passes the test, and a number over the limit has a byte in the text.
use Rattle.std.proofs.Common.{◌≡◌, ℕ, ◌-◌, ◌<◌, ◌≤◌, Bool, true, false, cond, List, [], ◌∷◌, length, take, drop, Option, Some, refl, arith, length-drop, subst}
use Rattle.std.specs.List.{find}
use Rattle.std.proofs.lemmas.Bool.{false≢true}
use Rattle.std.proofs.lemmas.List.{length-take}
use Rattle.m36_text.specs.Reading.{number_read}
use Rattle.alm_tokens.specs.declared.span.Span.{Span}
use Rattle.alm_tokens.specs.declared.pieces.TextPiece.{TextPiece}
use Rattle.alm_tokens.specs.declared.numerals.Numeral.{Numeral}
use Rattle.alm_tokens.specs.declared.numerals.Numeral.TheVariants.{Decimal, Octal, Small}
use Rattle.alm_tokens.specs.Tokens.{slice_of, is_over_number_limit}
use Rattle.alm_tokens.specs.Numerals.{number_magnitude}
use Rattle.alm_tokens.specs.Lists.{is_out_of_range}

-- an item that is found passes the test
found_by : {X : Type 0} (p : X → Bool) (b : Bool) (x y : X) (rest : Option X) → p x ≡ b → (rest ≡ Some y → p y ≡ true) → cond b (Some x) rest ≡ Some y → p y ≡ true
found_by p true x y rest e later f = let same : x ≡ y = cc in subst (λ z. p z ≡ true) same e
found_by p false x y rest e later f = later f

pub found_passes : {X : Type 0} (p : X → Bool) (xs : List X) (y : X) → find p xs ≡ Some y → p y ≡ true
found_passes p [] y e = absurd (cc)
found_passes p (x ∷ xs) y e = found_by p (p x) x y (find p xs) refl (λ f. found_passes p xs y f) e

-- a nonempty span begins before the end of the text
pub slice_inside : (text : List ℕ) (span : Span) → 0 < length (slice_of text span) → span.from < length text
unfolding slice_of
slice_inside text span some =
    let count : length (take (span.to - span.from) (drop span.from text)) ≤ length text - span.from = simp (length-take, length-drop) (omega arith) in
    omega (arith, some, count)

-- an empty text is not a number
pub out_some : (numeral : Numeral) (bytes : List ℕ) → is_over_number_limit (number_magnitude numeral bytes) ≡ true → 0 < length bytes
unfolding number_read
out_some Decimal [] e = absurd (false≢true e)
out_some Octal [] e = absurd (false≢true e)
out_some Small [] e = absurd (false≢true e)
out_some numeral (b ∷ bytes) e = omega arith

pub out_inside :
    (numeral : Numeral) (text : List ℕ) (pieces : List TextPiece) (piece : TextPiece)
    → find (is_out_of_range numeral text) pieces ≡ Some piece → piece.span.from < length text
out_inside numeral text pieces piece e =
    slice_inside text piece.span (out_some numeral (slice_of text piece.span) (found_passes (is_out_of_range numeral text) pieces piece e))
