-- Numbers as terms of an expression.
use Rattle.std.proofs.Common.{ℕ, zero, suc, ◌≡◌, ◌+◌, ◌<◌, ◌^◌, ◌==◌, Bool, true, false, not, List, [], ◌∷◌, ◌++◌, length, map, None, Ok, refl, ap, ◌∙◌, arith}
use Rattle.std.specs.Prelude.{codes, slice_index}
use Rattle.std.specs.List.{list_any, list_all}
use Rattle.std.specs.Str.{bytes_eq}
use Rattle.std.proofs.lemmas.Bool.{or_right, or_parts, ne_eqb}
use Rattle.std.proofs.lemmas.Slice.Eq.{bytes_eq-Decides}
use Rattle.m36_text.specs.Digits.{decimal_text}
use Rattle.m36_text.proofs.NumeralLaws.{reads_decimal, has_no_leading_zero}
use Rattle.alm_tokens.specs.declared.span.Span.{Span}
use Rattle.alm_tokens.specs.declared.pieces.Separator.{Separator}
use Rattle.alm_tokens.specs.declared.pieces.Separator.TheVariants.{Sign}
use Rattle.alm_tokens.specs.declared.pieces.TextPiece.{TextPiece}
use Rattle.alm_tokens.specs.declared.expression.Atom.TheVariants.{Number}
use Rattle.alm_tokens.specs.Tokens.{slice_of, is_text, parsed_expression_number, has_no_leading_zero as starts_well, span_at}
use Rattle.alm_tokens.specs.Numerals.{is_number}
use Rattle.alm_tokens.specs.Pieces.{separates, piece_at, split_at, pieces_of}
use Rattle.alm_tokens.specs.Expressions.{is_current_place, is_term, is_term_at, without_first_minus, expression_pieces, atom_of, term_of}
use Rattle.alm_tokens.specs.Lists.{first_out_of_range_place}
use Rattle.alm_tokens.specs.declared.numerals.Numeral.TheVariants.{Small}
use Rattle.m36_list.proofs.Characters.{decimal_passes_none}

-- a text without a byte that another one has is different from it
same_or_not : (p : ℕ → Bool) (a b : List ℕ) (same : Bool) → bytes_eq a b ≡ same → list_any p a ≡ false → list_any p b ≡ true → same ≡ false
same_or_not p a b true e none some =
    let eq = (bytes_eq-Decides a b).0 e in
    let both : list_any p b ≡ false = rw (← eq) none in
    absurd (cc)
same_or_not p a b false e none some = refl

pub other_text : (p : ℕ → Bool) (name text : List ℕ) → list_any p text ≡ false → list_any p name ≡ true → is_text name text ≡ false
other_text p name text none some = same_or_not p text name (bytes_eq text name) refl none some

is_star : ℕ → Bool
is_star b = b == 42

no_star : (d : ℕ) → d < 10 → is_star (48 + d) ≡ false
unfolding is_star
no_star d small = ne_eqb (48 + d) 42 (λ e. absurd (omega arith))

star_here : list_any is_star (codes "*") ≡ true
unfolding is_star
star_here = refl

not_here : (v : ℕ) → is_current_place (decimal_text v) ≡ false
not_here v = other_text is_star (codes "*") (decimal_text v) (decimal_passes_none is_star v no_star) star_here

starts : (v : ℕ) → starts_well (decimal_text v) ≡ true
unfolding decimal_text
starts zero = refl
starts (suc v) = or_right (length (decimal_text (suc v)) == 1) (not (slice_index (decimal_text (suc v)) 0 == 48)) (ap not (ne_eqb (slice_index (decimal_text (suc v)) 0) 48 (has_no_leading_zero (suc v) (omega arith))))

read : (v : ℕ) → v < 2 ^ 18 → parsed_expression_number (decimal_text v) ≡ Ok v
read v fits = reads_decimal v 262143 (omega arith)

number : (v : ℕ) → v < 2 ^ 18 → is_number (decimal_text v) ≡ true
unfolding is_number
number v fits = rw (read v fits, starts v) refl

term : (v : ℕ) → v < 2 ^ 18 → is_term (decimal_text v) ≡ true
unfolding is_term
term v fits = rw (not_here v, number v fits) refl

atom : (v : ℕ) → v < 2 ^ 18 → atom_of (decimal_text v) ≡ Number v
unfolding atom_of
atom v fits = rw (not_here v, number v fits, read v fits) refl

-- a text without a separator is one piece
pub one_piece : (parter : Separator) (minus : Bool) (from at : ℕ) (bytes : List ℕ) → list_any (separates parter) bytes ≡ false → split_at parter minus from at bytes ≡ piece_at minus from (at + length bytes) ∷ []
unfolding split_at
one_piece parter minus from at [] none =
    let end : at ≡ at + 0 = omega arith in
    ap (λ (to : ℕ). piece_at minus from to ∷ []) end
one_piece parter minus from at (b ∷ bytes) none =
    let here = or_parts (separates parter b) (list_any (separates parter) bytes) none in
    let end : at + 1 + length bytes ≡ at + suc (length bytes) = omega arith in
    rw (here.0) (one_piece parter minus from (at + 1) bytes here.1 ∙ ap (λ (to : ℕ). piece_at minus from to ∷ []) end)

no_sign : (d : ℕ) → d < 10 → separates Sign (48 + d) ≡ false
no_sign d small =
    let plus : (48 + d == 43) ≡ false = ne_eqb (48 + d) 43 (λ e. absurd (omega arith)) in
    let minus : (48 + d == 45) ≡ false = ne_eqb (48 + d) 45 (λ e. absurd (omega arith)) in
    rw (plus, minus) refl

-- the first byte of a text does not pass a test that no byte of it passes, unless it is empty
first_is_no_minus : (text : List ℕ) → list_any (λ b. b == 45) text ≡ false → (slice_index text 0 == 45) ≡ false
first_is_no_minus [] none = refl
first_is_no_minus (b ∷ text) none = (or_parts (b == 45) (list_any (λ c. c == 45) text) none).0

no_minus : (d : ℕ) → d < 10 → (48 + d == 45) ≡ false
no_minus d small = ne_eqb (48 + d) 45 (λ e. absurd (omega arith))

-- the term in a piece that holds a decimal number
pub record IsNumberAt (source : List ℕ) (pieces : List TextPiece) (minus : Bool) (v : ℕ) : Type 0 where
  pub span : Span
  pub one : pieces ≡ record { span = span; minus = minus } ∷ []
  pub terms : list_all (is_term_at source) pieces ≡ true
  pub within : first_out_of_range_place Small source pieces ≡ None
  pub read : map (term_of source) pieces ≡ record { what = Number v; span = span; minus = minus } ∷ []

number_at : (source : List ℕ) (from to : ℕ) (minus : Bool) (v : ℕ) → v < 2 ^ 18 → slice_of source (span_at from to) ≡ decimal_text v → IsNumberAt source (piece_at minus from to ∷ []) minus v
unfolding first_out_of_range_place
number_at source from to minus v fits slice =
    record {
      span = span_at from to;
      one = refl;
      terms = rw (slice, term v fits) refl;
      within = rw (slice, read v fits) refl;
      read = rw (slice, atom v fits) refl;
    }

pub plain_number : (source : List ℕ) (from to : ℕ) (v : ℕ) → v < 2 ^ 18 → slice_of source (span_at from to) ≡ decimal_text v → to ≡ from + length (decimal_text v)
    → IsNumberAt source (expression_pieces source (piece_at false from to)) false v
unfolding expression_pieces without_first_minus pieces_of
plain_number source from to v fits slice end =
    let first = first_is_no_minus (decimal_text v) (decimal_passes_none (λ b. b == 45) v no_minus) in
    rw (slice, first, slice, one_piece Sign false from from (decimal_text v) (decimal_passes_none (separates Sign) v no_sign), ← end) (number_at source from to false v fits slice)

pub negative_number : (source : List ℕ) (from to : ℕ) (v : ℕ) → v < 2 ^ 18 → slice_of source (span_at from to) ≡ codes "-" ++ decimal_text v → slice_of source (span_at (from + 1) to) ≡ decimal_text v → to ≡ from + 1 + length (decimal_text v)
    → IsNumberAt source (expression_pieces source (piece_at false from to)) true v
unfolding expression_pieces without_first_minus pieces_of
negative_number source from to v fits slice rest end =
    rw (slice, rest, one_piece Sign true (from + 1) (from + 1) (decimal_text v) (decimal_passes_none (separates Sign) v no_sign), ← end) (number_at source (from + 1) to true v fits rest)
