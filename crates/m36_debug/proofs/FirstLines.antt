-- Laws of prefixes: of lists of lines, and of the lines of a text and of more text.
use Rattle.std.proofs.Common.{◌≡◌, ◌==◌, ℕ, Bool, true, false, List, [], ◌∷◌, ◌++◌, length, map, refl, sym, ap}
use Rattle.std.proofs.Common.{subst, ◌∙◌, arith, length-append}
use Rattle.std.proofs.lemmas.Bool.{eqb-true}
use Rattle.std.proofs.lemmas.List.{append-nil, append_assoc}
use Rattle.std.proofs.lemmas.List.Elements.{All-nil, All-cons, All-head, All-tail}
use Rattle.m36_outside.specs.Passing.{joined}
use Rattle.m36_text.specs.Lines.{as_line, open_lines_of}
use Rattle.m36_program.specs.Alike.{SameInput}
use Rattle.m36_debug.specs.LinesTaken.{whole_lines, IsUnbroken, IsLines, IsFirstPart}
use Rattle.m36_debug.proofs.LinesLaws.{open_lines_on, all_whole, some_whole}

-- ---- prefixes

pub first_none : (all : List (List ℕ)) → IsFirstPart [] all
first_none all = record { rest = all; is = refl }

pub first_all : (all : List (List ℕ)) → IsFirstPart all all
first_all all = record { rest = []; is = sym (append-nil all) }

pub first_on : (front lines all : List (List ℕ)) → IsFirstPart lines all → IsFirstPart (front ++ lines) (front ++ all)
first_on front lines all first =
    record { rest = first.rest; is = ap (λ l. front ++ l) first.is ∙ sym (append_assoc front lines first.rest) }

pub first_longer :
    (lines more all : List (List ℕ)) → IsFirstPart lines more → IsFirstPart more all → IsFirstPart lines all
first_longer lines more all one two = record {
  rest = one.rest ++ two.rest;
  is = two.is ∙ ap (λ l. l ++ two.rest) one.is ∙ append_assoc lines one.rest two.rest;
}

none_left : (lines rest more : List (List ℕ)) → lines ≡ (lines ++ rest) ++ more → rest ≡ []
none_left lines [] more is = refl
none_left lines (line ∷ rest) more is =
    absurd (omega (arith, ap length is, length-append (lines ++ line ∷ rest) more, length-append lines (line ∷ rest)))

-- each is a prefix of the other
pub first_both : (lines others : List (List ℕ)) → (first : IsFirstPart lines others) → IsFirstPart others lines
    → first.rest ≡ []
first_both lines others first second =
    none_left lines first.rest second.rest (second.is ∙ ap (λ l. l ++ second.rest) first.is)

same_first : (a b : List ℕ) (xs ys : List (List ℕ)) → a ∷ xs ≡ b ∷ ys → a ≡ b
same_first a b xs ys is = cc

same_later : (a b : List ℕ) (xs ys : List (List ℕ)) → a ∷ xs ≡ b ∷ ys → xs ≡ ys
same_later a b xs ys is = cc

agree :
    (lines others rest more : List (List ℕ)) → lines ++ rest ≡ others ++ more → SameInput lines others
agree [] others rest more is = tt
agree (line ∷ lines) [] rest more is = tt
agree (line ∷ lines) (other ∷ others) rest more is = (
  same_first line other (lines ++ rest) (others ++ more) is,
  agree lines others rest more (same_later line other (lines ++ rest) (others ++ more) is),
)

-- two prefixes of one list
pub first_agree : (lines others all : List (List ℕ)) → IsFirstPart lines all → IsFirstPart others all
    → SameInput lines others
first_agree lines others all one two = agree lines others one.rest two.rest (sym one.is ∙ two.is)

-- ---- the whole lines of a text

-- the whole lines of a text, and the bytes after them
record LinesOf (text : List ℕ) : Type 0 where
  lines : List (List ℕ)
  rest : List ℕ
  is : IsLines text lines rest
  unbroken : IsUnbroken rest

-- one more byte, which is a line feed
after_feed : (b : ℕ) (text : List ℕ) → (b == 10) ≡ true → LinesOf text → LinesOf (b ∷ text)
after_feed b text feed cut = record {
  lines = [] ∷ cut.lines;
  rest = cut.rest;
  is = record {
    is = ap (λ n. n ∷ text) (eqb-true b 10 feed) ∙ ap (λ t. 10 ∷ t) cut.is.is;
    unbroken = All-cons IsUnbroken [] cut.lines (All-nil (λ c. (c == 10) ≡ false)) cut.is.unbroken;
  };
  unbroken = cut.unbroken;
}

-- one more byte, which is no line feed
after_byte :
    (b : ℕ) (text : List ℕ) (lines : List (List ℕ)) (rest : List ℕ) → (b == 10) ≡ false → IsLines text lines rest
    → IsUnbroken rest
    → LinesOf (b ∷ text)
after_byte b text [] rest other is unbroken = record {
  lines = [];
  rest = b ∷ rest;
  is = record { is = ap (λ t. b ∷ t) is.is; unbroken = All-nil IsUnbroken };
  unbroken = All-cons (λ c. (c == 10) ≡ false) b rest other unbroken;
}
after_byte b text (line ∷ lines) rest other is unbroken = record {
  lines = (b ∷ line) ∷ lines;
  rest = rest;
  is = record {
    is = ap (λ t. b ∷ t) is.is;
    unbroken = All-cons IsUnbroken (b ∷ line) lines
        (All-cons (λ c. (c == 10) ≡ false) b line other (All-head IsUnbroken line lines is.unbroken))
        (All-tail IsUnbroken line lines is.unbroken);
  };
  unbroken = unbroken;
}

one_byte : (b : ℕ) (text : List ℕ) (feed : Bool) → (b == 10) ≡ feed → LinesOf text → LinesOf (b ∷ text)
one_byte b text true is cut = after_feed b text is cut
one_byte b text false is cut = after_byte b text cut.lines cut.rest is cut.is cut.unbroken

lines_in_text : (text : List ℕ) → LinesOf text
lines_in_text [] = record {
  lines = [];
  rest = [];
  is = record { is = refl; unbroken = All-nil IsUnbroken };
  unbroken = All-nil (λ c. (c == 10) ≡ false);
}
lines_in_text (b ∷ text) = one_byte b text (b == 10) refl (lines_in_text text)

-- ---- of more text

longer : (text more rest : List ℕ) (lines : List (List ℕ)) → IsLines text lines rest
    → IsLines (text ++ more) lines (rest ++ more)
longer text more rest lines is = record {
  is = ap (λ t. t ++ more) is.is ∙ append_assoc (joined (map as_line lines)) rest more;
  unbroken = is.unbroken;
}

-- the whole lines of a text are a prefix of those of more text
pub whole_first : (text more : List ℕ) → IsFirstPart (whole_lines text) (whole_lines (text ++ more))
whole_first text more =
    let cut = lines_in_text text in
    subst (λ l. IsFirstPart l (whole_lines (text ++ more))) (sym (all_whole text cut.rest cut.lines cut.is
    cut.unbroken))
    (some_whole (text ++ more) (cut.rest ++ more) cut.lines (longer text more cut.rest cut.lines cut.is))

open_after :
    (text rest : List ℕ) (lines : List (List ℕ)) → IsLines text lines rest → IsFirstPart lines (open_lines_of text)
open_after text rest lines is =
    record { rest = open_lines_of rest; is = ap open_lines_of is.is ∙ open_lines_on lines rest is.unbroken }

-- and of all lines of more text, of which the last may lack its line feed
pub open_first : (text more : List ℕ) → IsFirstPart (whole_lines text) (open_lines_of (text ++ more))
open_first text more =
    let cut = lines_in_text text in
    subst (λ l. IsFirstPart l (open_lines_of (text ++ more))) (sym (all_whole text cut.rest cut.lines cut.is
    cut.unbroken))
    (open_after (text ++ more) (cut.rest ++ more) cut.lines (longer text more cut.rest cut.lines cut.is))
