-- The parts of a line are within the text.
use Rattle.std.proofs.Common.{ℕ, suc, ◌+◌, ◌-◌, ◌<◌, ◌≤◌, ◌==◌, not, Bool, true, false, cond, List, [], ◌∷◌, ◌++◌, length, take, drop, map, Option, Some, None, arith, length-drop, inl, inr}
use Rattle.std.specs.Prelude.{slice_index, All, IfSome, option_map}
use Rattle.std.specs.List.{position, position_or_len}
use Rattle.std.proofs.lemmas.List.{length-take}
use Rattle.std.proofs.lemmas.List.Elements.{All-append, All-cons, All-nil}
use Rattle.std.proofs.lemmas.Bool.{cases_lt, lt-ltb, le-ltb}
use Rattle.alm_tokens.specs.declared.span.Span.{Span}
use Rattle.alm_tokens.specs.declared.pieces.Separator.{Separator}
use Rattle.alm_tokens.specs.declared.pieces.TextPiece.{TextPiece}
use Rattle.alm_parse.specs.declared.body.Body.{Body}
use Rattle.alm_parse.specs.declared.body.Body.TheVariants.{Through, External, Plain}
use Rattle.alm_tokens.specs.declared.head.Head.{Head}
use Rattle.alm_tokens.specs.declared.head.TokenStep.{TokenStep}
use Rattle.alm_tokens.specs.declared.head.TokenStep.TheVariants.{Label, Skip, Stop, Go}
use Rattle.alm_tokens.specs.declared.rows.Row.{Row}
use Rattle.m36_text.specs.Texts.{is_name_character}
use Rattle.alm_tokens.specs.Bytes.{is_blank}
use Rattle.alm_tokens.specs.Tokens.{slice_of, span_at}
use Rattle.alm_tokens.specs.Pieces.{separates, piece_at, split_at, pieces_of}
use Rattle.alm_tokens.specs.declared.pieces.Separator.TheVariants.{Sign}
use Rattle.alm_tokens.specs.Expressions.{without_first_minus, expression_pieces, term_of}
use Rattle.alm_parse.specs.Bodies.{place_of, end_of_match, symbol_end, external_operand, body_without_bar, body_with_bar, body_of, tail_pieces, body_pieces}
use Rattle.alm_tokens.specs.Heads.{token_step, token, head_at, head_for_step, head_from, head_of, operand_start, operand_end_from, operand_end, operand_from, operand_in}
use Rattle.alm_tokens.specs.Rows.{row_at, rows_from, rows_of}
use Rattle.alm_parse.specs.Spans.{IsSpan, TermIn}
use Rattle.alm_tokens.proofs.Widths.{atom_small}

-- lists of which each item has a property
pub all_head : {X : Type 0} (P : X → Type 0) (x : X) (xs : List X) → All P (x ∷ xs) → P x
all_head P x xs all = all 0 x (omega arith)

pub all_rest : {X : Type 0} (P : X → Type 0) (x : X) (xs : List X) → All P (x ∷ xs) → All P xs
all_rest P x xs all k d within = all (suc k) d (omega arith)

pub all_map : {X Y : Type 0} (P : X → Type 0) (Q : Y → Type 0) (f : X → Y) (xs : List X) → ((x : X) → P x → Q (f x)) → All P xs → All Q (map f xs)
all_map P Q f [] keeps all = All-nil Q
all_map P Q f (x ∷ xs) keeps all =
    All-cons Q (f x) (map f xs) (keeps x (all_head P x xs all)) (all_map P Q f xs keeps (all_rest P x xs all))

pub all_cond : {X : Type 0} (P : X → Type 0) (b : Bool) (xs ys : List X) → All P xs → All P ys → All P (cond b xs ys)
all_cond P true xs ys h k = h
all_cond P false xs ys h k = k

-- a span within the text
pub span_in : (count from to : ℕ) → from ≤ to → to ≤ count → IsSpan count (span_at from to)
span_in count from to order fits = record { ordered = order; inside = fits }

-- the bytes of a span end within the text
pub slice_ends : (text : List ℕ) (span : Span) → span.from ≤ length text → span.from + length (slice_of text span) ≤ length text
unfolding slice_of
slice_ends text span begun =
    let count : length (take (span.to - span.from) (drop span.from text)) ≤ length text - span.from = simp (length-take, length-drop) (omega arith) in
    omega (arith, begun, count)

-- if a span has bytes, it begins before the end of the text
pub slice_some : (text : List ℕ) (span : Span) → 0 < length (slice_of text span) → span.from + length (slice_of text span) ≤ length text
unfolding slice_of
slice_some text span some =
    let count : length (take (span.to - span.from) (drop span.from text)) ≤ length text - span.from = simp (length-take, length-drop) (omega arith) in
    omega (arith, some, count)

-- pieces
abbrev pub PieceIn : ℕ → TextPiece → Type 0
PieceIn count piece = IsSpan count piece.span

pub cut_in :
    (count : ℕ) (parter : Separator) (minus : Bool) (from at : ℕ) (bytes : List ℕ) → from ≤ at → at + length bytes ≤ count
    → All (PieceIn count) (split_at parter minus from at bytes)
unfolding split_at
cut_in count parter minus from at [] order fits =
    All-cons (PieceIn count) (piece_at minus from at) [] (span_in count from at order (omega (arith, fits))) (All-nil (PieceIn count))
cut_in count parter minus from at (b ∷ rest) order fits =
    all_cond (PieceIn count) (separates parter b) (piece_at minus from at ∷ split_at parter (b == 45) (at + 1) (at + 1) rest) (split_at parter minus from (at + 1) rest) (All-cons (PieceIn count) (piece_at minus from at) (split_at parter (b == 45) (at + 1) (at + 1) rest) (span_in count from at order (omega (arith, fits))) (cut_in count parter (b == 45) (at + 1) (at + 1) rest (omega arith) (omega (arith, fits)))) (cut_in count parter minus from (at + 1) rest (omega (arith, order)) (omega (arith, fits)))

pub pieces_in :
    (text : List ℕ) (parter : Separator) (whole : TextPiece) → whole.span.from ≤ length text
    → All (PieceIn (length text)) (pieces_of parter text whole)
unfolding pieces_of
pieces_in text parter whole begun =
    cut_in (length text) parter whole.minus whole.span.from whole.span.from (slice_of text whole.span) (omega arith) (slice_ends text whole.span begun)

cond_begins : (count : ℕ) (b : Bool) (p q : TextPiece) → p.span.from ≤ count → q.span.from ≤ count → (cond b p q).span.from ≤ count
cond_begins count true p q h k = h
cond_begins count false p q h k = k

signed_by :
    (count : ℕ) (bytes : List ℕ) (whole : TextPiece) → whole.span.from + length bytes ≤ count
    → (cond (slice_index bytes 0 == 45) (piece_at (not whole.minus) (whole.span.from + 1) whole.span.to) whole).span.from ≤ count
signed_by count [] whole fits = omega (arith, fits)
signed_by count (b ∷ bytes) whole fits =
    cond_begins count (b == 45) (piece_at (not whole.minus) (whole.span.from + 1) whole.span.to) whole (omega (arith, fits)) (omega (arith, fits))

pub expression_in :
    (text : List ℕ) (whole : TextPiece) → whole.span.from ≤ length text
    → All (PieceIn (length text)) (expression_pieces text whole)
unfolding expression_pieces without_first_minus
expression_in text whole begun =
    pieces_in text Sign (without_first_minus text whole) (signed_by (length text) (slice_of text whole.span) whole (slice_ends text whole.span begun))

pub terms_in :
    (text : List ℕ) (count : ℕ) (pieces : List TextPiece) → All (PieceIn count) pieces → All (TermIn count) (map (term_of text) pieces)
terms_in text count pieces all = all_map (PieceIn count) (TermIn count) (term_of text) pieces (λ piece is. record { place = is; number = atom_small (slice_of text piece.span) }) all

-- indexes
abbrev pub PlaceIn : List ℕ → Span → ℕ → Type 0
PlaceIn text span i = (span.from ≤ i) × (i < length text)

place_by :
    (text bytes : List ℕ) (span : Span) (p : ℕ → Bool) → (0 < length bytes → span.from + length bytes ≤ length text)
    → IfSome (option_map (λ i. span.from + i) (position p bytes)) (PlaceIn text span)
place_by text bytes span p ends =
    elim (cases_lt (position_or_len p bytes) (length bytes)) [
      | inl before ↦ rw (lt-ltb (position_or_len p bytes) (length bytes) before) (omega arith, omega (arith, before, ends (omega (arith, before))))
      | inr past ↦ rw (le-ltb (position_or_len p bytes) (length bytes) past) tt
    ]

pub place_in : (text : List ℕ) (span : Span) (byte : ℕ) → IfSome (place_of text span byte) (PlaceIn text span)
unfolding place_of
place_in text span byte = place_by text (slice_of text span) span (λ b. b == byte) (slice_some text span)

pub end_in :
    (text bytes : List ℕ) (span : Span) (p : ℕ → Bool) → span.from + length bytes ≤ length text
    → (span.from ≤ end_of_match (position p bytes) span.from (length bytes)) × (end_of_match (position p bytes) span.from (length bytes) ≤ length text)
end_in text bytes span p ends =
    elim (cases_lt (position_or_len p bytes) (length bytes)) [
      | inl before ↦ rw (lt-ltb (position_or_len p bytes) (length bytes) before) (omega arith, omega (arith, before, ends))
      | inr past ↦ rw (le-ltb (position_or_len p bytes) (length bytes) past) (omega arith, ends)
    ]

pub symbol_end_in : (text : List ℕ) (span : Span) → span.from ≤ length text → (span.from ≤ symbol_end text span) × (symbol_end text span ≤ length text)
unfolding symbol_end
symbol_end_in text span begun =
    end_in text (slice_of text span) span (λ b. not (is_name_character b)) (slice_ends text span begun)

-- the parts of an operand
abbrev pub BodyIn : ℕ → Body → Type 0
BodyIn count (Through pr offset) = offset.from ≤ count
BodyIn count (External segment entry tail) = IsSpan count segment × IsSpan count entry × (tail.from ≤ count)
BodyIn count (Plain whole) = whole.from ≤ count

external_in : (text : List ℕ) (whole : Span) (dollar : ℕ) → PlaceIn text whole dollar → BodyIn (length text) (external_operand text whole dollar)
external_in text whole dollar at =
    let end = symbol_end_in text (span_at (dollar + 1) whole.to) (omega (arith, at.1)) in
    (span_in (length text) whole.from dollar at.0 (omega (arith, at.1)), span_in (length text) (dollar + 1) (symbol_end text (span_at (dollar + 1) whole.to)) end.0 end.1, end.1)

without_bar_in :
    (text : List ℕ) (whole : Span) (place : Option ℕ) → whole.from ≤ length text → IfSome place (PlaceIn text whole)
    → BodyIn (length text) (body_without_bar text whole place)
without_bar_in text whole (Some dollar) begun at = external_in text whole dollar at
without_bar_in text whole None begun at = begun

body_by_in :
    (text : List ℕ) (whole : Span) (place : Option ℕ) → whole.from ≤ length text → IfSome place (PlaceIn text whole)
    → BodyIn (length text) (body_with_bar text whole place)
body_by_in text whole (Some bar) begun at = omega (arith, at.1)
body_by_in text whole None begun at = without_bar_in text whole (place_of text whole 36) begun (place_in text whole 36)

pub body_in : (text : List ℕ) (whole : Span) → whole.from ≤ length text → BodyIn (length text) (body_of text whole)
unfolding body_of
body_in text whole begun = body_by_in text whole (place_of text whole 124) begun (place_in text whole 124)

tail_by :
    (text bytes : List ℕ) (tail : Span) (minus : Bool) → tail.from + length bytes ≤ length text
    → All (PieceIn (length text)) (cond (length bytes == 0) [] (expression_pieces text (piece_at minus (tail.from + 1) tail.to)))
tail_by text [] tail minus fits = All-nil (PieceIn (length text))
tail_by text (b ∷ bytes) tail minus fits =
    all_cond (PieceIn (length text)) (length (b ∷ bytes) == 0) [] (expression_pieces text (piece_at minus (tail.from + 1) tail.to)) (All-nil (PieceIn (length text))) (expression_in text (piece_at minus (tail.from + 1) tail.to) (omega (arith, fits)))

tail_in : (text : List ℕ) (tail : Span) → tail.from ≤ length text → All (PieceIn (length text)) (tail_pieces text tail)
unfolding tail_pieces
tail_in text tail begun =
    tail_by text (slice_of text tail) tail (slice_index (slice_of text tail) 0 == 45) (slice_ends text tail begun)

pub body_pieces_in : (text : List ℕ) (body : Body) → BodyIn (length text) body → All (PieceIn (length text)) (body_pieces text body)
body_pieces_in text (Through pr offset) is = expression_in text (record { span = offset; minus = false }) is
body_pieces_in text (External segment entry tail) is = tail_in text tail is.2
body_pieces_in text (Plain whole) is = expression_in text (record { span = whole; minus = false }) is

-- the labels and the operation
pub record HeadIn (count : ℕ) (head : Head) : Type 0 where
  pub labels : All (IsSpan count) head.labels
  pub op : IfSome head.op (IsSpan count)

token_by : (count from to : ℕ) (b : Bool) → from ≤ to → to ≤ count → IfSome (cond b None (Some (span_at from to))) (IsSpan count)
token_by count from to true order fits = tt
token_by count from to false order fits = span_in count from to order fits

pub token_in : (count from to : ℕ) → from ≤ to → to ≤ count → IfSome (token from to) (IsSpan count)
token_in count from to order fits = token_by count from to (from == to) order fits

head_at_in : (count : ℕ) (marks : List Span) (from at : ℕ) → All (IsSpan count) marks → from ≤ at → at ≤ count → HeadIn count (head_at marks from at)
head_at_in count marks from at all order fits = record { labels = all; op = token_in count from at order fits }

head_by_in : (count : ℕ) (turn : TokenStep) (label skip stop go : Head) → HeadIn count label → HeadIn count skip → HeadIn count stop → HeadIn count go → HeadIn count (head_for_step turn label skip stop go)
head_by_in count Label label skip stop go a b c d = a
head_by_in count Skip label skip stop go a b c d = b
head_by_in count Stop label skip stop go a b c d = c
head_by_in count Go label skip stop go a b c d = d

head_from_in :
    (count : ℕ) (marks : List Span) (from at : ℕ) (bytes : List ℕ) → All (IsSpan count) marks → from ≤ at → at + length bytes ≤ count
    → HeadIn count (head_from marks from at bytes)
unfolding head_from
head_from_in count marks from at [] all order fits = head_at_in count marks from at all order (omega (arith, fits))
head_from_in count marks from at (b ∷ rest) all order fits =
    head_by_in count (token_step b (from == at)) (head_from (marks ++ span_at from at ∷ []) (at + 1) (at + 1) rest) (head_from marks (at + 1) (at + 1) rest) (head_at marks from at) (head_from marks from (at + 1) rest) (head_from_in count (marks ++ span_at from at ∷ []) (at + 1) (at + 1) rest (All-append (IsSpan count) marks (span_at from at ∷ []) all (All-cons (IsSpan count) (span_at from at) [] (span_in count from at order (omega (arith, fits))) (All-nil (IsSpan count)))) (omega arith) (omega (arith, fits))) (head_from_in count marks (at + 1) (at + 1) rest all (omega arith) (omega (arith, fits))) (head_at_in count marks from at all order (omega (arith, fits))) (head_from_in count marks from (at + 1) rest all (omega (arith, order)) (omega (arith, fits)))

pub head_in : (text : List ℕ) (line : Span) → line.from ≤ length text → HeadIn (length text) (head_of text line)
unfolding head_of
head_in text line begun =
    head_from_in (length text) [] line.from line.from (slice_of text line) (All-nil (IsSpan (length text))) (omega arith) (slice_ends text line begun)

-- the operand
end_cond : (b : Bool) (x y lo hi : ℕ) → lo ≤ x → x ≤ hi → lo ≤ y → y ≤ hi → (lo ≤ cond b x y) × (cond b x y ≤ hi)
end_cond true x y lo hi a b c d = (a, b)
end_cond false x y lo hi a b c d = (c, d)

end_from_in : (lo hi end at : ℕ) (bytes : List ℕ) → lo ≤ end → end ≤ at → at + length bytes ≤ hi → (lo ≤ operand_end_from end at bytes) × (operand_end_from end at bytes ≤ hi)
unfolding operand_end_from
end_from_in lo hi end at [] a b fits = (a, omega (arith, b, fits))
end_from_in lo hi end at (x ∷ bytes) a b fits =
    let inner = end_cond (is_blank x) end (at + 1) lo (at + 1) a (omega (arith, b)) (omega (arith, a, b)) (omega arith) in
    let later = end_from_in lo hi (cond (is_blank x) end (at + 1)) (at + 1) bytes inner.0 inner.1 (omega (arith, fits)) in
    end_cond (x == 34) end (operand_end_from (cond (is_blank x) end (at + 1)) (at + 1) bytes) lo hi a (omega (arith, b, fits)) later.0 later.1

start_in : (text : List ℕ) (rest : Span) → IfSome (operand_start text rest) (PlaceIn text rest)
unfolding operand_start
start_in text rest = place_by text (slice_of text rest) rest (λ b. not (is_blank b)) (slice_some text rest)

operand_by_in : (text : List ℕ) (rest : Span) (start : Option ℕ) → IfSome start (PlaceIn text rest) → IfSome (operand_from text rest start) (IsSpan (length text))
operand_by_in text rest None at = tt
operand_by_in text rest (Some from) at =
    let begun : from ≤ length text = omega (arith, at.1) in
    let end = end_from_in from (length text) from from (slice_of text (span_at from rest.to)) (omega arith) (omega arith) (slice_ends text (span_at from rest.to) begun) in
    token_in (length text) from (operand_end text (span_at from rest.to)) end.0 end.1

pub operand_span_in : (text : List ℕ) (rest : Span) → IfSome (operand_in text rest) (IsSpan (length text))
unfolding operand_in
operand_span_in text rest = operand_by_in text rest (operand_start text rest) (start_in text rest)

-- the lines
abbrev pub RowIn : ℕ → Row → Type 0
RowIn count row = row.span.from ≤ count

rows_from_in : (count number from at : ℕ) (bytes : List ℕ) → from ≤ at → at + length bytes ≤ count → All (RowIn count) (rows_from number from at bytes)
unfolding rows_from
rows_from_in count number from at [] order fits =
    all_cond (RowIn count) (from == at) [] (row_at number from at ∷ []) (All-nil (RowIn count)) (All-cons (RowIn count) (row_at number from at) [] (omega (arith, order, fits)) (All-nil (RowIn count)))
rows_from_in count number from at (b ∷ rest) order fits =
    all_cond (RowIn count) (b == 10) (row_at number from at ∷ rows_from (number + 1) (at + 1) (at + 1) rest) (rows_from number from (at + 1) rest) (All-cons (RowIn count) (row_at number from at) (rows_from (number + 1) (at + 1) (at + 1) rest) (omega (arith, order, fits)) (rows_from_in count (number + 1) (at + 1) (at + 1) rest (omega arith) (omega (arith, fits)))) (rows_from_in count number from (at + 1) rest (omega (arith, order)) (omega (arith, fits)))

pub rows_in : (text : List ℕ) → All (RowIn (length text)) (rows_of text)
unfolding rows_of
rows_in text = rows_from_in (length text) 1 0 0 text (omega arith) (omega arith)
