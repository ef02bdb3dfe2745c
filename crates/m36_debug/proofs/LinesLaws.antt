-- Laws of lines that are split off from bytes.
use Rattle.std.proofs.Common.{◌≡◌, ◌+◌, ◌-◌, ◌<◌, ◌≤◌, ◌==◌, ℕ, Bool, false, List, [], ◌∷◌, ◌++◌, length, take, drop, map, Option, Some, None, All, refl, sym, ap, subst, ◌∙◌, arith, length-take}
use Rattle.std.specs.List.{slice_split, position, position_or_len, before_first, after_first}
use Rattle.std.proofs.lemmas.Bool.{ltb-true, ltb-false, eqb-true}
use Rattle.std.proofs.lemmas.Option.{cond_some}
use Rattle.std.proofs.lemmas.List.Folds.{concat-append}
use Rattle.std.proofs.lemmas.List.{append-nil, append_assoc, map-append, get_or-take}
use Rattle.std.proofs.lemmas.List.Elements.{All-nil, All-cons, All-head, All-tail, All-append, All-from_get_or}
use Rattle.std.proofs.lemmas.List.Splits.{slice_split_at, slice_split_none, length-slice_split}
use Rattle.std.proofs.lemmas.List.Sums.{split_at_first, fails_before_first, passes_at_first}
use Rattle.std.proofs.Math.Dec.{ltb}
use Rattle.m36_text.proofs.Splitting.{cond_none, ended_line, open_line, rest_whole}
use Rattle.m36_outside.specs.Passing.{joined}
use Rattle.m36_text.specs.Lines.{as_line, unended_line, lines_of_parts, lines_of, present_values, open_last_line, open_lines_of_parts, open_lines_of}
use Rattle.m36_debug.specs.LinesTaken.{whole_lines, IsUnbroken, IsLines, IsFirstPart}

-- ---- a line feed in a text

some_place : (text : List ℕ) (i : ℕ) → position (λ b. b == 10) text ≡ Some i → (position_or_len (λ b. b == 10) text < length text) × (position_or_len (λ b. b == 10) text ≡ i)
some_place text i found =
    let at = cond_some (ltb (position_or_len (λ b. b == 10) text) (length text)) (position_or_len (λ b. b == 10) text) i found in
    (ltb-true _ _ at.0, at.1)

cut_first :
    (text : List ℕ) → position_or_len (λ b. b == 10) text < length text
    → text ≡ as_line (before_first (λ b. b == 10) text) ++ after_first (λ b. b == 10) text
cut_first text within =
    let p : ℕ → Bool = λ b. b == 10 in
    split_at_first p text 0 within
    ∙ ap (λ b. before_first p text ++ b ∷ after_first p text) (eqb-true _ _ (passes_at_first p text 0 within))
    ∙ sym (append_assoc (before_first p text) (10 ∷ []) (after_first p text))

unbroken_front : (text : List ℕ) (i : ℕ) → i ≤ position_or_len (λ b. b == 10) text → IsUnbroken (take i text)
unbroken_front text i before =
    All-from_get_or (λ b. (b == 10) ≡ false) (take i text) 0
    (λ k below. subst (λ b. (b == 10) ≡ false) (sym (get_or-take i text k 0 (omega (arith, below, length-take i text)))) (fails_before_first (λ b. b == 10) text k 0 (omega (arith, below, before, length-take i text))))

-- if there is one, the text is a line and the bytes after it
pub cut_there :
    (text : List ℕ) (i : ℕ)
    → position (λ b. b == 10) text ≡ Some i
    → (text ≡ as_line (take i text) ++ take (length text - (i + 1)) (drop (i + 1) text)) × IsUnbroken (take i text)
cut_there text i found =
    let at = some_place text i found in (
      cut_first text at.0
          ∙ ap (λ k. as_line (take k text) ++ drop (k + 1) text) at.1
          ∙ ap (λ r. as_line (take i text) ++ r) (sym (rest_whole text (i + 1))),
      unbroken_front text i (omega (arith, at.1)),
    )

-- if there is none, the text is unbroken
pub cut_nowhere : (text : List ℕ) → position (λ b. b == 10) text ≡ None → IsUnbroken text
cut_nowhere text none =
    All-from_get_or (λ b. (b == 10) ≡ false) text 0
    (λ k below. fails_before_first (λ b. b == 10) text k 0 (omega (arith, below, ltb-false _ _ (cond_none (ltb (position_or_len (λ b. b == 10) text) (length text)) (position_or_len (λ b. b == 10) text) none))))

pub ruleset cutting = (cut_there, cut_nowhere)

-- ---- lines one after another

-- a text is these lines and some bytes, and these bytes with more text are further lines
pub lines_on :
    (text front more rest : List ℕ) (lines others : List (List ℕ))
    → IsLines text lines front → IsLines (front ++ more) others rest → IsLines (text ++ more) (lines ++ others) rest
lines_on text front more rest lines others one two = record {
  is =
      ap (λ t. t ++ more) one.is
      ∙ append_assoc (joined (map as_line lines)) front more
      ∙ ap (λ t. joined (map as_line lines) ++ t) two.is
      ∙ sym (append_assoc (joined (map as_line lines)) (joined (map as_line others)) rest)
      ∙ ap (λ t. t ++ rest) (sym (concat-append (map as_line lines) (map as_line others)))
      ∙ ap (λ l. joined l ++ rest) (sym (map-append as_line lines others));
  unbroken = All-append IsUnbroken lines others one.unbroken two.unbroken;
}

-- no line was split off yet
pub lines_none : (text : List ℕ) → IsLines text [] text
lines_none text = record { is = refl; unbroken = All-nil IsUnbroken }

-- one line, and the bytes after it
pub lines_one :
    (text line rest : List ℕ) → text ≡ as_line line ++ rest → IsUnbroken line → IsLines text (line ∷ []) rest
lines_one text line rest is unbroken = record {
  is = is ∙ ap (λ t. t ++ rest) (sym (append-nil (as_line line)));
  unbroken = All-cons IsUnbroken line [] unbroken (All-nil IsUnbroken);
}

-- A line that has begun is complete.
pub lines_line :
    (text begun end behind rest : List ℕ) (lines : List (List ℕ))
    → IsLines text lines (begun ++ rest) → IsUnbroken begun → IsUnbroken end → rest ≡ as_line end ++ behind
    → IsLines text (lines ++ (begun ++ end) ∷ []) behind
lines_line text begun end behind rest lines before begun_unbroken end_unbroken cut =
    let whole_line : IsUnbroken (begun ++ end) = All-append (λ b. (b == 10) ≡ false) begun end begun_unbroken end_unbroken in
    let starts : begun ++ rest ≡ as_line (begun ++ end) ++ behind =
    ap (λ t. begun ++ t) cut
    ∙ sym (append_assoc begun (as_line end) behind)
    ∙ ap (λ t. t ++ behind) (sym (append_assoc begun end (10 ∷ []))) in
    let more : IsLines ((begun ++ rest) ++ []) ((begun ++ end) ∷ []) behind =
    lines_one ((begun ++ rest) ++ []) (begun ++ end) behind (append-nil (begun ++ rest) ∙ starts) whole_line in
    subst (λ t. IsLines t (lines ++ (begun ++ end) ∷ []) behind) (append-nil text)
    (lines_on text (begun ++ rest) [] behind lines ((begun ++ end) ∷ []) before more)

-- ---- the lines of a text

split_line :
    (line rest : List ℕ) → IsUnbroken line
    → slice_split (λ b. b == 10) (as_line line ++ rest) ≡ line ∷ slice_split (λ b. b == 10) rest
split_line line rest unbroken =
    ap (slice_split (λ b. b == 10)) (append_assoc line (10 ∷ []) rest)
    ∙ slice_split_at (λ b. b == 10) line 10 rest unbroken refl

pub open_lines_on :
    (lines : List (List ℕ)) (rest : List ℕ)
    → All IsUnbroken lines → open_lines_of (joined (map as_line lines) ++ rest) ≡ lines ++ open_lines_of rest
unfolding open_lines_of
open_lines_on [] rest unbroken = refl
open_lines_on (line ∷ lines) rest unbroken =
    let behind : List ℕ = joined (map as_line lines) ++ rest in
    ap (λ t. open_lines_of_parts (slice_split (λ b. b == 10) t)) (append_assoc (as_line line) (joined (map as_line lines)) rest)
    ∙ ap open_lines_of_parts (split_line line behind (All-head IsUnbroken line lines unbroken))
    ∙ open_line line (slice_split (λ b. b == 10) behind) (omega (arith, length-slice_split (λ b. b == 10) behind))
    ∙ ap (λ l. line ∷ l) (open_lines_on lines rest (All-tail IsUnbroken line lines unbroken))

pub whole_lines_on :
    (lines : List (List ℕ)) (rest : List ℕ)
    → All IsUnbroken lines → whole_lines (joined (map as_line lines) ++ rest) ≡ lines ++ whole_lines rest
unfolding lines_of
whole_lines_on [] rest unbroken = refl
whole_lines_on (line ∷ lines) rest unbroken =
    let behind : List ℕ = joined (map as_line lines) ++ rest in
    ap (λ t. present_values (lines_of_parts (slice_split (λ b. b == 10) t))) (append_assoc (as_line line) (joined (map as_line lines)) rest)
    ∙ ap (λ l. present_values (lines_of_parts l)) (split_line line behind (All-head IsUnbroken line lines unbroken))
    ∙ ap (λ (l : List (Option (List ℕ))). present_values l) (ended_line line (slice_split (λ b. b == 10) behind) (omega (arith, length-slice_split (λ b. b == 10) behind)))
    ∙ ap (λ l. line ∷ l) (whole_lines_on lines rest (All-tail IsUnbroken line lines unbroken))

open_last : (rest : List ℕ) → IsUnbroken rest → open_lines_of rest ≡ open_last_line rest
unfolding open_lines_of
open_last rest unbroken = ap open_lines_of_parts (slice_split_none (λ b. b == 10) rest unbroken)

no_whole : (rest : List ℕ) → present_values (unended_line rest) ≡ []
no_whole [] = refl
no_whole (b ∷ rest) = refl

whole_last : (rest : List ℕ) → IsUnbroken rest → whole_lines rest ≡ []
unfolding lines_of
whole_last rest unbroken = ap (λ l. present_values (lines_of_parts l)) (slice_split_none (λ b. b == 10) rest unbroken) ∙ no_whole rest

-- All lines of a text whose last line is not whole.
pub all_open :
    (text rest : List ℕ) (lines : List (List ℕ))
    → IsLines text lines rest → IsUnbroken rest → open_lines_of text ≡ lines ++ open_last_line rest
all_open text rest lines are unbroken =
    ap open_lines_of are.is ∙ open_lines_on lines rest are.unbroken ∙ ap (λ l. lines ++ l) (open_last rest unbroken)

pub all_whole :
    (text rest : List ℕ) (lines : List (List ℕ))
    → IsLines text lines rest → IsUnbroken rest → whole_lines text ≡ lines
all_whole text rest lines are unbroken =
    ap whole_lines are.is ∙ whole_lines_on lines rest are.unbroken ∙ ap (λ l. lines ++ l) (whole_last rest unbroken) ∙ append-nil lines

-- some of the whole lines
pub some_whole :
    (text rest : List ℕ) (lines : List (List ℕ)) → IsLines text lines rest → IsFirstPart lines (whole_lines text)
some_whole text rest lines are =
    record { rest = whole_lines rest; is = ap whole_lines are.is ∙ whole_lines_on lines rest are.unbroken }
