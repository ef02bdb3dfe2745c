-- The spans of lines are within the text.
use Rattle.std.proofs.Common.{◌≡◌, ℕ, ◌+◌, ◌<◌, ◌≤◌, Bool, true, false, cond, List, [], ◌∷◌, ◌++◌, length, map, Option, Some, None, Result, Ok, Err, refl, arith, subst, unwrap_or}
use Rattle.std.specs.Prelude.{All, IfSome, IfOk, ⊤, slice_index}
use Rattle.std.proofs.lemmas.List.Elements.{All-append, All-cons, All-nil}
use Rattle.alm_tokens.specs.declared.span.Span.{Span}
use Rattle.alm_tokens.specs.declared.pieces.TextPiece.{TextPiece}
use Rattle.alm_tokens.specs.declared.expression.Term.{Term}
use Rattle.alm_parse.specs.declared.body.Body.{Body}
use Rattle.alm_parse.specs.declared.body.Body.TheVariants.{Through, External, Plain}
use Rattle.alm_parse.specs.declared.args.Arg.{Arg}
use Rattle.alm_parse.specs.declared.args.Arg.TheVariants as arg
use Rattle.alm_tokens.specs.declared.numerals.Numeral.{Numeral}
use Rattle.alm_tokens.specs.declared.numerals.Numeral.TheVariants as numeral
use Rattle.alm_parse.specs.declared.operation.Operation.{Operation}
use Rattle.alm_parse.specs.declared.operation.Operation.TheVariants.{Instruction, Names, Value, Section, Decimal, Octal, Characters, Halves, Block, Bare, End}
use Rattle.alm_parse.specs.declared.refusal.ParseRefusal.{ParseRefusal}
use Rattle.alm_tokens.specs.declared.head.Head.{Head}
use Rattle.alm_tokens.specs.declared.rows.Row.{Row}
use Rattle.alm_parse.specs.declared.line.Line36.{Line36}
use Rattle.alm_parse.specs.declared.fault.AlmFault.{AlmFault}
use Rattle.alm_tokens.specs.declared.pieces.Separator.TheVariants.{Comma}
use Rattle.alm_parse.specs.SourceFields.{Source}
use Rattle.alm_tokens.specs.Bytes.{is_placeable_character}
use Rattle.alm_tokens.specs.Tokens.{slice_of, span_at}
use Rattle.m36_text.specs.Results.{value_unless}
use Rattle.alm_tokens.specs.Expressions.{expression_pieces, term_of}
use Rattle.alm_parse.specs.Bodies.{place_of, body_of, body_pieces}
use Rattle.alm_parse.specs.Operands.{body_span, modifier_tag_after_comma, operand_of, parse_operand}
use Rattle.alm_parse.specs.Members.{symbol_arg, number_arg, parse_symbols, parse_numbers}
use Rattle.alm_tokens.specs.Lists.{members}
use Rattle.alm_parse.specs.Pairs.{value_of_members, parse_value, halves_of_members, parse_halves, block_of_members, parse_block, parse_section}
use Rattle.alm_parse.specs.Characters.{packed_words, is_blank_or_comment, first_bad_place, characters_unless_bad, characters_if_ended, characters_if_closed, parse_characters}
use Rattle.alm_tokens.specs.Heads.{head_of, delimited_operand}
use Rattle.alm_parse.specs.Operations.{operation_of}
use Rattle.alm_parse.specs.Lines.{missing_operand_refusal, args_with, operand_for, args_if_present, args_of, label_refusal, line_of, line_with, line_with_operation, line_from, line_unless_refused, parse_line}
use Rattle.alm_tokens.specs.Rows.{rows_of}
use Rattle.alm_parse.specs.Sources.{is_end_operation, lines_after_row, read_lines, source_with_lines, source_of_text, IsResultOf}
use Rattle.alm_parse.specs.Spans.{IsSpan, TermIn, ArgIn, LineIn}
use Rattle.alm_tokens.proofs.Widths.{pr_below, tag_below}
use Rattle.alm_parse.proofs.SpanParts.{all_head, all_rest, all_map, PieceIn, pieces_in, expression_in, terms_in, BodyIn, body_in, body_pieces_in, HeadIn, head_in, operand_span_in, RowIn, rows_in}

-- the result if nothing is refused
unless_ok : {A : Type 0} (r : Option ParseRefusal) (v a : A) → value_unless r v ≡ Ok a → v ≡ a
unless_ok None v a e = cc
unless_ok (Some refusal) v a e = absurd (cc)

args_ok : (count : ℕ) (r : Option ParseRefusal) (v arguments : List Arg) → All (ArgIn count) v → value_unless r v ≡ Ok arguments → All (ArgIn count) arguments
args_ok count r v arguments all e = subst (λ more. All (ArgIn count) more) (unless_ok r v arguments e) all

one_in : (count : ℕ) (a : Arg) → ArgIn count a → All (ArgIn count) (a ∷ [])
one_in count a h = All-cons (ArgIn count) a [] h (All-nil (ArgIn count))

two_in : (count : ℕ) (a b : Arg) → ArgIn count a → ArgIn count b → All (ArgIn count) (a ∷ b ∷ [])
two_in count a b h k = All-cons (ArgIn count) a (b ∷ []) h (one_in count b k)

-- the operand of an instruction
entry_in : (count : ℕ) (b : Bool) (span : Span) → IsSpan count span → IfSome (cond b None (Some span)) (IsSpan count)
entry_in count true span is = tt
entry_in count false span is = is

operand_of_in :
    (text : List ℕ) (count : ℕ) (body : Body) (terms : List Term) (tag : ℕ) → BodyIn count body → All (TermIn count) terms → tag < 64
    → ArgIn count (operand_of text body terms tag)
operand_of_in text count (Through pr offset) terms tag is all fits =
    record { pointer = pr_below (slice_of text pr); tag = fits; segment = tt; entry = tt; terms = all }
operand_of_in text count (External segment entry tail) terms tag is all fits =
    record { pointer = tt; tag = fits; segment = is.0; entry = entry_in count _ entry is.1; terms = all }
operand_of_in text count (Plain whole) terms tag is all fits =
    record { pointer = tt; tag = fits; segment = tt; entry = tt; terms = all }

tag_given_below : (text : List ℕ) (operand : Span) (comma : Option ℕ) → IfSome (modifier_tag_after_comma text operand comma) (λ n. n < 64)
tag_given_below text operand (Some comma) = tag_below (slice_of text (span_at (comma + 1) operand.to))
tag_given_below text operand None = omega arith

unwrapped_below : (o : Option ℕ) → IfSome o (λ n. n < 64) → unwrap_or o 0 < 64
unwrapped_below (Some n) h = h
unwrapped_below None h = omega arith

body_begins : (count : ℕ) (operand : Span) (comma : Option ℕ) → operand.from ≤ count → (body_span operand comma).from ≤ count
body_begins count operand (Some comma) h = h
body_begins count operand None h = h

operand_given_in :
    (text : List ℕ) (operand : Span) (arguments : List Arg) → operand.from ≤ length text → parse_operand text operand ≡ Ok arguments
    → All (ArgIn (length text)) arguments
unfolding parse_operand
operand_given_in text operand arguments begun e =
    let body = body_of text (body_span operand (place_of text operand 44)) in
    let is : BodyIn (length text) body = body_in text (body_span operand (place_of text operand 44)) (body_begins (length text) operand (place_of text operand 44) begun) in
    let fits = unwrapped_below (modifier_tag_after_comma text operand (place_of text operand 44)) (tag_given_below text operand (place_of text operand 44)) in
    let terms : All (TermIn (length text)) (map (term_of text) (body_pieces text body)) = terms_in text (length text) (body_pieces text body) (body_pieces_in text body is) in
    args_ok (length text) _ _ arguments (one_in (length text) _ (operand_of_in text (length text) body (map (term_of text) (body_pieces text body)) _ is terms fits)) e

-- lists
members_in : (text : List ℕ) (operand : Span) → operand.from ≤ length text → All (PieceIn (length text)) (members text operand)
unfolding members
members_in text operand begun = pieces_in text Comma (record { span = operand; minus = false }) begun

symbols_given_in :
    (text : List ℕ) (operand : Span) (arguments : List Arg) → operand.from ≤ length text → parse_symbols text operand ≡ Ok arguments
    → All (ArgIn (length text)) arguments
unfolding parse_symbols
symbols_given_in text operand arguments begun e =
    args_ok (length text) _ _ arguments (all_map (PieceIn (length text)) (ArgIn (length text)) symbol_arg (members text operand) (λ piece is. is) (members_in text operand begun)) e

numbers_given_in :
    (numeral : Numeral) (text : List ℕ) (operand : Span) (arguments : List Arg) → operand.from ≤ length text
    → parse_numbers numeral text operand ≡ Ok arguments → All (ArgIn (length text)) arguments
unfolding parse_numbers
numbers_given_in numeral text operand arguments begun e =
    args_ok (length text) _ _ arguments (all_map (PieceIn (length text)) (ArgIn (length text)) (number_arg numeral text) (members text operand) (λ piece is. tt) (members_in text operand begun)) e

-- operands of two members
member_terms : (text : List ℕ) (piece : TextPiece) → PieceIn (length text) piece → All (TermIn (length text)) (map (term_of text) (expression_pieces text piece))
member_terms text piece is =
    let begun : piece.span.from ≤ length text = omega (arith, is.ordered, is.inside) in
    terms_in text (length text) (expression_pieces text piece) (expression_in text piece begun)

second_in : (P : TextPiece → Type 0) (a b : TextPiece) (rest : List TextPiece) → All P (a ∷ b ∷ rest) → P b
second_in P a b rest all = all_head P b rest (all_rest P a (b ∷ rest) all)

value_in :
    (text : List ℕ) (at : ℕ) (pieces : List TextPiece) (arguments : List Arg) → All (PieceIn (length text)) pieces
    → value_of_members text at pieces ≡ Ok arguments → All (ArgIn (length text)) arguments
value_in text at [] arguments all e = absurd (cc)
value_in text at (a ∷ []) arguments all e = absurd (cc)
value_in text at (a ∷ b ∷ []) arguments all e =
    args_ok (length text) _ _ arguments (two_in (length text) _ _ (all_head (PieceIn (length text)) a (b ∷ []) all) (member_terms text b (second_in (PieceIn (length text)) a b [] all))) e
value_in text at (a ∷ b ∷ c ∷ rest) arguments all e = absurd (cc)

halves_in :
    (text : List ℕ) (at : ℕ) (pieces : List TextPiece) (arguments : List Arg) → All (PieceIn (length text)) pieces
    → halves_of_members text at pieces ≡ Ok arguments → All (ArgIn (length text)) arguments
halves_in text at [] arguments all e = absurd (cc)
halves_in text at (a ∷ []) arguments all e = absurd (cc)
halves_in text at (a ∷ b ∷ []) arguments all e =
    args_ok (length text) _ _ arguments (two_in (length text) _ _ (member_terms text a (all_head (PieceIn (length text)) a (b ∷ []) all)) (member_terms text b (second_in (PieceIn (length text)) a b [] all))) e
halves_in text at (a ∷ b ∷ c ∷ rest) arguments all e = absurd (cc)

block_in :
    (text : List ℕ) (at : ℕ) (pieces : List TextPiece) (arguments : List Arg) → All (PieceIn (length text)) pieces
    → block_of_members text at pieces ≡ Ok arguments → All (ArgIn (length text)) arguments
block_in text at [] arguments all e = absurd (cc)
block_in text at (a ∷ []) arguments all e = absurd (cc)
block_in text at (a ∷ b ∷ []) arguments all e =
    args_ok (length text) _ _ arguments (two_in (length text) _ _ (all_head (PieceIn (length text)) a (b ∷ []) all) tt) e
block_in text at (a ∷ b ∷ c ∷ rest) arguments all e = absurd (cc)

value_given_in :
    (text : List ℕ) (operand : Span) (arguments : List Arg) → operand.from ≤ length text → parse_value text operand ≡ Ok arguments
    → All (ArgIn (length text)) arguments
unfolding parse_value
value_given_in text operand arguments begun e = value_in text operand.from (members text operand) arguments (members_in text operand begun) e

halves_given_in :
    (text : List ℕ) (operand : Span) (arguments : List Arg) → operand.from ≤ length text → parse_halves text operand ≡ Ok arguments
    → All (ArgIn (length text)) arguments
unfolding parse_halves
halves_given_in text operand arguments begun e = halves_in text operand.from (members text operand) arguments (members_in text operand begun) e

block_given_in :
    (text : List ℕ) (operand : Span) (arguments : List Arg) → operand.from ≤ length text → parse_block text operand ≡ Ok arguments
    → All (ArgIn (length text)) arguments
unfolding parse_block
block_given_in text operand arguments begun e = block_in text operand.from (members text operand) arguments (members_in text operand begun) e

section_given_in :
    (text : List ℕ) (operand : Span) (arguments : List Arg) → IsSpan (length text) operand → parse_section text operand ≡ Ok arguments
    → All (ArgIn (length text)) arguments
unfolding parse_section
section_given_in text operand arguments is e = args_ok (length text) _ _ arguments (one_in (length text) _ is) e

-- characters
chars_in : (count : ℕ) (words : List ℕ) (arguments : List Arg) → let given : Result (List Arg) ParseRefusal = Ok (arg.Chars words ∷ []) in given ≡ Ok arguments → All (ArgIn count) arguments
chars_in count words arguments e =
    let same : arg.Chars words ∷ [] ≡ arguments = cc in
    subst (λ more. All (ArgIn count) more) same (one_in count (arg.Chars words) tt)

characters_by_in : (text : List ℕ) (span : Span) (o : Option ℕ) (arguments : List Arg) → characters_unless_bad text span o ≡ Ok arguments → All (ArgIn (length text)) arguments
characters_by_in text span (Some place) arguments e = absurd (cc)
characters_by_in text span None arguments e = chars_in (length text) (packed_words (slice_of text span)) arguments e

characters_ended_in : (text : List ℕ) (rest span : Span) (b : Bool) (arguments : List Arg) → characters_if_ended text rest span b ≡ Ok arguments → All (ArgIn (length text)) arguments
characters_ended_in text rest span true arguments e = characters_by_in text span (first_bad_place text span) arguments e
characters_ended_in text rest span false arguments e = absurd (cc)

characters_closed_in : (text : List ℕ) (rest : Span) (o : Option ℕ) (arguments : List Arg) → characters_if_closed text rest o ≡ Ok arguments → All (ArgIn (length text)) arguments
characters_closed_in text rest (Some close) arguments e =
    characters_ended_in text rest (span_at (rest.from + 1) close) (is_blank_or_comment (slice_of text (span_at (close + 1) rest.to))) arguments e
characters_closed_in text rest None arguments e = absurd (cc)

chosen_ok : (b : Bool) (given : Result (List Arg) ParseRefusal) (refusal : ParseRefusal) (arguments : List Arg) → cond b given (Err refusal) ≡ Ok arguments → given ≡ Ok arguments
chosen_ok true given refusal arguments e = e
chosen_ok false given refusal arguments e = absurd (cc)

characters_given_in : (text : List ℕ) (rest : Span) (arguments : List Arg) → parse_characters text rest ≡ Ok arguments → All (ArgIn (length text)) arguments
unfolding parse_characters
characters_given_in text rest arguments e =
    characters_closed_in text rest (place_of text (span_at (rest.from + 1) rest.to) (slice_index text rest.from)) arguments (chosen_ok (is_placeable_character (slice_index text rest.from)) _ _ arguments e)

-- arguments, by the operation; no span is taken from the operand of characters, which extends to
-- the end of the line
abbrev pub IsFor : Operation → ℕ → Span → Type 0
IsFor Instruction count operand = IsSpan count operand
IsFor Names count operand = IsSpan count operand
IsFor Value count operand = IsSpan count operand
IsFor Section count operand = IsSpan count operand
IsFor Decimal count operand = IsSpan count operand
IsFor Octal count operand = IsSpan count operand
IsFor Characters count operand = ⊤
IsFor Halves count operand = IsSpan count operand
IsFor Block count operand = IsSpan count operand
IsFor Bare count operand = IsSpan count operand
IsFor End count operand = IsSpan count operand

any_in : (o : Option Span) → IfSome o (λ span. ⊤)
any_in None = tt
any_in (Some span) = tt

operand_for_in : (operation : Operation) (text : List ℕ) (rest : Span) → IfSome (operand_for operation text rest) (IsFor operation (length text))
operand_for_in Instruction text rest = operand_span_in text rest
operand_for_in Names text rest = operand_span_in text rest
operand_for_in Value text rest = operand_span_in text rest
operand_for_in Section text rest = operand_span_in text rest
operand_for_in Decimal text rest = operand_span_in text rest
operand_for_in Octal text rest = operand_span_in text rest
operand_for_in Characters text rest = any_in (delimited_operand text rest)
operand_for_in Halves text rest = operand_span_in text rest
operand_for_in Block text rest = operand_span_in text rest
operand_for_in Bare text rest = operand_span_in text rest
operand_for_in End text rest = operand_span_in text rest

begins : (count : ℕ) (span : Span) → IsSpan count span → span.from ≤ count
begins count span is = omega (arith, is.ordered, is.inside)

args_with_in :
    (operation : Operation) (text : List ℕ) (operand : Span) (arguments : List Arg) → IsFor operation (length text) operand
    → args_with operation text operand ≡ Ok arguments → All (ArgIn (length text)) arguments
args_with_in Instruction text operand arguments is e = operand_given_in text operand arguments (begins (length text) operand is) e
args_with_in Names text operand arguments is e = symbols_given_in text operand arguments (begins (length text) operand is) e
args_with_in Value text operand arguments is e = value_given_in text operand arguments (begins (length text) operand is) e
args_with_in Section text operand arguments is e = section_given_in text operand arguments is e
args_with_in Decimal text operand arguments is e = numbers_given_in numeral.Decimal text operand arguments (begins (length text) operand is) e
args_with_in Octal text operand arguments is e = numbers_given_in numeral.Octal text operand arguments (begins (length text) operand is) e
args_with_in Characters text operand arguments is e = characters_given_in text operand arguments e
args_with_in Halves text operand arguments is e = halves_given_in text operand arguments (begins (length text) operand is) e
args_with_in Block text operand arguments is e = block_given_in text operand arguments (begins (length text) operand is) e
args_with_in Bare text operand arguments is e = absurd (cc)
args_with_in End text operand arguments is e = args_ok (length text) None [] arguments (All-nil (ArgIn (length text))) e

args_by_in :
    (operation : Operation) (text : List ℕ) (op : ℕ) (o : Option Span) (arguments : List Arg) → IfSome o (IsFor operation (length text))
    → args_if_present operation text op o ≡ Ok arguments → All (ArgIn (length text)) arguments
args_by_in operation text op (Some operand) arguments is e = args_with_in operation text operand arguments is e
args_by_in operation text op None arguments is e = args_ok (length text) (missing_operand_refusal operation op) [] arguments (All-nil (ArgIn (length text))) e

args_of_in :
    (operation : Operation) (text : List ℕ) (op : ℕ) (rest : Span) (arguments : List Arg)
    → args_of operation text op rest ≡ Ok arguments → All (ArgIn (length text)) arguments
unfolding args_of
args_of_in operation text op rest arguments e =
    args_by_in operation text op (operand_for operation text rest) arguments (operand_for_in operation text rest) e

-- lines
line_of_in :
    (count : ℕ) (text : List ℕ) (row : Row) (head : Head) (arguments : List Arg) (line : Line36) → HeadIn count head → All (ArgIn count) arguments
    → line_of text row head arguments ≡ line → LineIn count line
line_of_in count text row head arguments line is all e =
    subst (LineIn count) e (record { labels = is.labels; op = is.op; args = all })

ok_line : (a b : Line36) → let given : Result Line36 ParseRefusal = Ok a in given ≡ Ok b → a ≡ b
ok_line a b e = cc

line_with_in :
    (count : ℕ) (text : List ℕ) (row : Row) (head : Head) (r : Result (List Arg) ParseRefusal) (line : Line36) → HeadIn count head
    → ((arguments : List Arg) → r ≡ Ok arguments → All (ArgIn count) arguments) → line_with text row head r ≡ Ok line → LineIn count line
line_with_in count text row head (Ok arguments) line is all e =
    line_of_in count text row head arguments line is (all arguments refl) (ok_line (line_of text row head arguments) line e)
line_with_in count text row head (Err refusal) line is all e = absurd (cc)

line_by_in :
    (text : List ℕ) (row : Row) (head : Head) (op : Span) (o : Option Operation) (line : Line36) → HeadIn (length text) head
    → line_with_operation text row head op o ≡ Ok line → LineIn (length text) line
line_by_in text row head op (Some operation) line is e =
    line_with_in (length text) text row head (args_of operation text op.from (span_at op.to row.span.to)) line is (λ arguments f. args_of_in operation text op.from (span_at op.to row.span.to) arguments f) e
line_by_in text row head op None line is e = absurd (cc)

line_from_in :
    (text : List ℕ) (row : Row) (head : Head) (o : Option Span) (line : Line36) → HeadIn (length text) head
    → line_from text row head o ≡ Ok line → LineIn (length text) line
line_from_in text row head (Some op) line is e = line_by_in text row head op (operation_of (slice_of text op)) line is e
line_from_in text row head None line is e =
    line_of_in (length text) text row head [] line is (All-nil (ArgIn (length text))) (ok_line (line_of text row head []) line e)

line_unless_in :
    (text : List ℕ) (row : Row) (head : Head) (o : Option ParseRefusal) (line : Line36) → HeadIn (length text) head
    → line_unless_refused o text row head ≡ Ok line → LineIn (length text) line
line_unless_in text row head (Some refusal) line is e = absurd (cc)
line_unless_in text row head None line is e = line_from_in text row head head.op line is e

line_given_in : (text : List ℕ) (row : Row) (line : Line36) → RowIn (length text) row → parse_line text row ≡ Ok line → LineIn (length text) line
unfolding parse_line
line_given_in text row line begun e =
    line_unless_in text row (head_of text row.span) (label_refusal text (head_of text row.span).labels) line (head_in text row.span begun) e

-- the source
ok_lines : (a b : List Line36) → let given : Result (List Line36) AlmFault = Ok a in given ≡ Ok b → a ≡ b
ok_lines a b e = cc

ends_in :
    (count : ℕ) (b : Bool) (v : List Line36) (next : Result (List Line36) AlmFault) (lines : List Line36) → All (LineIn count) v
    → (next ≡ Ok lines → All (LineIn count) lines) → cond b (Ok v) next ≡ Ok lines → All (LineIn count) lines
ends_in count true v next lines all later e = subst (λ more. All (LineIn count) more) (ok_lines v lines e) all
ends_in count false v next lines all later e = later e

continued_in :
    (text : List ℕ) (row : Row) (before : List Line36) (further : List Line36 → Result (List Line36) AlmFault) (r : Result Line36 ParseRefusal) (lines : List Line36)
    → All (LineIn (length text)) before → ((line : Line36) → r ≡ Ok line → LineIn (length text) line)
    → ((more : List Line36) → All (LineIn (length text)) more → further more ≡ Ok lines → All (LineIn (length text)) lines)
    → lines_after_row text row before further r ≡ Ok lines → All (LineIn (length text)) lines
continued_in text row before further (Ok line) lines all is later e =
    let more : All (LineIn (length text)) (before ++ line ∷ []) = All-append (LineIn (length text)) before (line ∷ []) all (All-cons (LineIn (length text)) line [] (is line refl) (All-nil (LineIn (length text)))) in
    ends_in (length text) (is_end_operation text line.op) (before ++ line ∷ []) (further (before ++ line ∷ [])) lines more (λ f. later (before ++ line ∷ []) more f) e
continued_in text row before further (Err refusal) lines all is later e = absurd (cc)

read_lines_in :
    (text : List ℕ) (before : List Line36) (rows : List Row) (lines : List Line36) → All (LineIn (length text)) before
    → All (RowIn (length text)) rows → read_lines text before rows ≡ Ok lines → All (LineIn (length text)) lines
unfolding read_lines
read_lines_in text before [] lines all begun e = subst (λ more. All (LineIn (length text)) more) (ok_lines before lines e) all
read_lines_in text before (row ∷ rows) lines all begun e =
    continued_in text row before (λ more. read_lines text more rows) (parse_line text row) lines all (λ line f. line_given_in text row line (all_head (RowIn (length text)) row rows begun) f) (λ more is f. read_lines_in text more rows lines is (all_rest (RowIn (length text)) row rows begun) f) e

with_text_in :
    (text : List ℕ) (r : Result (List Line36) AlmFault) (source : Source) → ((lines : List Line36) → r ≡ Ok lines → All (LineIn (length text)) lines)
    → source_with_lines text r ≡ Ok source → All (LineIn (length text)) source.lines
with_text_in text (Ok lines) source all e =
    let same : record { text = text; lines = lines } ≡ source = cc in
    subst (λ s. All (LineIn (length text)) s.lines) same (all lines refl)
with_text_in text (Err fault) source all e = absurd (cc)

-- the spans of a source that was parsed are within its text
pub spans_in : (text : List ℕ) (source : Source) → source_of_text text ≡ Ok source → All (LineIn (length text)) source.lines
unfolding source_of_text
spans_in text source e =
    with_text_in text (read_lines text [] (rows_of text)) source (λ lines f. read_lines_in text [] (rows_of text) lines (All-nil (LineIn (length text))) (rows_in text) f) e

-- so are those of a source that is returned
pub spans_say :
    (text : List ℕ) (r : Result Source AlmFault) → IsResultOf r (source_of_text text) → IfOk r (λ source. All (LineIn (length text)) source.lines)
spans_say text (Ok source) says = spans_in text source says
spans_say text (Err fault) says = tt
