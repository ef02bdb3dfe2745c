-- The names in lines that were parsed are valid in an object.
use Rattle.std.proofs.Common.{◌≡◌, ℕ, ◌+◌, ◌≤◌, Bool, true, false, cond, ◌&&◌, ◌||◌, leb, List, [], ◌∷◌, ◌++◌, length, take, map, Option, Some, None, is_some, Result, Ok, Err, refl, sym, ap, ◌∙◌, true≢false}
use Rattle.std.specs.Prelude.{codes, ◌==◌, slice_index, unwrap_or}
use Rattle.std.specs.List.{list_all}
use Rattle.std.specs.Option.{option_or}
use Rattle.std.proofs.lemmas.Bool.{and_parts, and_from, leb-true}
use Rattle.std.proofs.lemmas.List.{take_all}
use Rattle.alm_parse.specs.SourceFields.{Source}
use Rattle.alm_tokens.specs.declared.span.Span.{Span}
use Rattle.alm_tokens.specs.declared.pieces.TextPiece.{TextPiece}
use Rattle.alm_tokens.specs.declared.expression.Term.{Term}
use Rattle.alm_parse.specs.declared.args.Arg.{Arg}
use Rattle.alm_parse.specs.declared.args.Arg.TheVariants as arg
use Rattle.alm_parse.specs.declared.line.Line36.{Line36}
use Rattle.alm_tokens.specs.declared.rows.Row.{Row}
use Rattle.alm_tokens.specs.declared.head.Head.{Head}
use Rattle.alm_parse.specs.declared.body.Body.{Body}
use Rattle.alm_parse.specs.declared.body.Body.TheVariants as body
use Rattle.alm_tokens.specs.declared.numerals.Numeral.{Numeral}
use Rattle.alm_tokens.specs.declared.numerals.Numeral.TheVariants as numeral
use Rattle.alm_parse.specs.declared.operation.Operation.{Operation}
use Rattle.alm_parse.specs.declared.operation.Operation.TheVariants as operation
use Rattle.alm_parse.specs.declared.refusal.ParseRefusal.{ParseRefusal}
use Rattle.alm_parse.specs.declared.refusal.ParseCode.TheVariants.{E1}
use Rattle.alm_parse.specs.declared.fault.AlmFault.{AlmFault}
use Rattle.alm_tokens.specs.Bytes.{begins_symbol, is_placeable_character}
use Rattle.alm_tokens.specs.Tokens.{slice_of, is_text, is_symbol, span_at}
use Rattle.m36_text.specs.Results.{value_unless}
use Rattle.alm_parse.specs.Refusals.{operand_form_refusal}
use Rattle.alm_tokens.specs.Expressions.{is_term_at, expression_pieces, term_of}
use Rattle.alm_parse.specs.Bodies.{place_of, body_of, own_section, is_segment_text, is_entry_text, is_text_after_entry, has_valid_parts, body_pieces}
use Rattle.alm_parse.specs.Operands.{body_span, modifier_tag_after_comma, entry_if_any, operand_of, is_operand, parse_operand}
use Rattle.alm_parse.specs.Members.{symbol_arg, parse_symbols, number_arg, parse_numbers}
use Rattle.alm_tokens.specs.Lists.{members, is_symbol_at, member_has_form_of, first_out_of_range_place}
use Rattle.alm_parse.specs.Pairs.{value_of_members, parse_value, halves_of_members, parse_halves, block_of_members, parse_block, used_section, is_section, parse_section}
use Rattle.alm_parse.specs.Characters.{first_bad_place, packed_words, is_blank_or_comment, characters_unless_bad, characters_if_ended, characters_if_closed, parse_characters}
use Rattle.alm_tokens.specs.Heads.{head_of}
use Rattle.alm_parse.specs.Operations.{operation_of}
use Rattle.alm_parse.specs.Lines.{missing_operand_refusal, args_with, operand_for, args_if_present, args_of, label_refusal, line_of, line_with, line_with_operation, line_from, line_unless_refused, parse_line}
use Rattle.alm_tokens.specs.Rows.{rows_of}
use Rattle.alm_parse.specs.Sources.{is_end_operation, lines_after_row, read_lines, source_with_lines, source_of_text}
use Rattle.obj36_parts.specs.Names.{is_name_character, is_name}
use Rattle.obj36_parts.specs.declared.section.Section.TheVariants.{Text, Linkage, Static}
use Rattle.obj36_parts.proofs.SizeLaws.{same_is}
use Rattle.alm_lines.specs.Arguments.{name_at}
use Rattle.alm_asm.specs.Laws.{segment_is_named, entry_is_named, arg_is_named, args_are_named, lines_are_named}

-- ---- symbols are names

symbol_is_name : (bytes : List ℕ) → is_symbol bytes ≡ true → is_name bytes ≡ true
unfolding is_symbol
symbol_is_name bytes e = (and_parts (is_name bytes) (begins_symbol (slice_index bytes 0)) e).0

symbol_length : (bytes : List ℕ) → is_symbol bytes ≡ true → length bytes ≤ 32
unfolding is_name
symbol_length bytes e =
    let all = and_parts (leb 1 (length bytes) && leb (length bytes) 32) (list_all is_name_character bytes) (symbol_is_name bytes e) in
    leb-true (length bytes) 32 (and_parts (leb 1 (length bytes)) (leb (length bytes) 32) all.0).1

symbol_named : (text : List ℕ) (span : Span) → is_symbol (slice_of text span) ≡ true → is_name (name_at text span) ≡ true
symbol_named text span e =
    ap is_name (take_all 32 (slice_of text span) (symbol_length (slice_of text span) e)) ∙ symbol_is_name (slice_of text span) e

-- ---- the result if nothing is refused

unless_ok : (refusal : Option ParseRefusal) (value arguments : List Arg) → value_unless refusal value ≡ Ok arguments → (refusal ≡ None) × (value ≡ arguments)
unless_ok None value arguments e = (refl, cc)
unless_ok (Some refusal) value arguments e = absurd cc

of_form : (text : List ℕ) (operand : ℕ) (form : Bool) (over : Option ℕ) → operand_form_refusal text operand form over ≡ None → form ≡ true
of_form text operand true over e = refl
of_form text operand false over e = absurd (true≢false (ap is_some e))

carried : (text : List ℕ) (value arguments : List Arg) → value ≡ arguments → args_are_named text value ≡ true → args_are_named text arguments ≡ true
carried text value arguments e definition_of_name = sym (ap (args_are_named text) e) ∙ definition_of_name

-- ---- the arguments of each operation

no_args : (text : List ℕ) → args_are_named text [] ≡ true
unfolding args_are_named
no_args text = refl

one_arg : (text : List ℕ) (a : Arg) → arg_is_named text a ≡ true → args_are_named text (a ∷ []) ≡ true
unfolding args_are_named
one_arg text a e = and_from (arg_is_named text a) true e refl

two_args : (text : List ℕ) (a b : Arg) → arg_is_named text a ≡ true → arg_is_named text b ≡ true → args_are_named text (a ∷ b ∷ []) ≡ true
unfolding args_are_named
two_args text a b e f = and_from (arg_is_named text a) (arg_is_named text b && true) e (and_from (arg_is_named text b) true f refl)

symbols_named : (text : List ℕ) (pieces : List TextPiece) → list_all (is_symbol_at text) pieces ≡ true → args_are_named text (map symbol_arg pieces) ≡ true
unfolding args_are_named
symbols_named text [] e = refl
symbols_named text (piece ∷ pieces) e =
    let parts = and_parts (is_symbol_at text piece) (list_all (is_symbol_at text) pieces) e in
    and_from (is_name (name_at text piece.span)) (args_are_named text (map symbol_arg pieces)) (symbol_named text piece.span parts.0) (symbols_named text pieces parts.1)

names : (text : List ℕ) (operand : Span) (arguments : List Arg) → parse_symbols text operand ≡ Ok arguments → args_are_named text arguments ≡ true
unfolding parse_symbols
names text operand arguments e =
    let ok = unless_ok (operand_form_refusal text operand.from (list_all (is_symbol_at text) (members text operand)) None) (map symbol_arg (members text operand)) arguments e in
    carried text (map symbol_arg (members text operand)) arguments ok.1
    (symbols_named text (members text operand) (of_form text operand.from (list_all (is_symbol_at text) (members text operand)) None ok.0))

numbers_named : (n : Numeral) (text : List ℕ) (pieces : List TextPiece) → args_are_named text (map (number_arg n text) pieces) ≡ true
unfolding args_are_named
numbers_named n text [] = refl
numbers_named n text (piece ∷ pieces) = numbers_named n text pieces

numbers : (n : Numeral) (text : List ℕ) (operand : Span) (arguments : List Arg) → parse_numbers n text operand ≡ Ok arguments → args_are_named text arguments ≡ true
unfolding parse_numbers
numbers n text operand arguments e =
    let ok = unless_ok (operand_form_refusal text operand.from (list_all (member_has_form_of n text) (members text operand)) (first_out_of_range_place n text (members text operand))) (map (number_arg n text) (members text operand)) arguments e in
    carried text (map (number_arg n text) (members text operand)) arguments ok.1 (numbers_named n text (members text operand))

value_by : (text : List ℕ) (at : ℕ) (pieces : List TextPiece) (arguments : List Arg) → value_of_members text at pieces ≡ Ok arguments → args_are_named text arguments ≡ true
value_by text at [] arguments e = absurd cc
value_by text at (name ∷ []) arguments e = absurd cc
value_by text at (name ∷ value ∷ []) arguments e =
    let pieces = expression_pieces text value in
    let form = is_symbol_at text name && list_all (is_term_at text) pieces in
    let given = arg.Symbol name.span ∷ arg.Plain (map (term_of text) pieces) ∷ [] in
    let ok = unless_ok (operand_form_refusal text at (is_symbol_at text name && list_all (is_term_at text) (expression_pieces text value)) (first_out_of_range_place numeral.Small text (expression_pieces text value))) (arg.Symbol name.span ∷ arg.Plain (map (term_of text) (expression_pieces text value)) ∷ []) arguments e in
    let symbol = (and_parts (is_symbol_at text name) (list_all (is_term_at text) (expression_pieces text value)) (of_form text at (is_symbol_at text name && list_all (is_term_at text) (expression_pieces text value)) (first_out_of_range_place numeral.Small text (expression_pieces text value)) ok.0)).0 in
    carried text (arg.Symbol name.span ∷ arg.Plain (map (term_of text) (expression_pieces text value)) ∷ []) arguments ok.1
    (two_args text (arg.Symbol name.span) (arg.Plain (map (term_of text) (expression_pieces text value))) (symbol_named text name.span symbol) refl)
value_by text at (name ∷ value ∷ other ∷ more) arguments e = absurd cc

value : (text : List ℕ) (operand : Span) (arguments : List Arg) → parse_value text operand ≡ Ok arguments → args_are_named text arguments ≡ true
unfolding parse_value
value text operand arguments e = value_by text operand.from (members text operand) arguments e

halves_by : (text : List ℕ) (at : ℕ) (pieces : List TextPiece) (arguments : List Arg) → halves_of_members text at pieces ≡ Ok arguments → args_are_named text arguments ≡ true
halves_by text at [] arguments e = absurd cc
halves_by text at (left ∷ []) arguments e = absurd cc
halves_by text at (left ∷ right ∷ []) arguments e =
    let a = expression_pieces text left in
    let b = expression_pieces text right in
    let ok = unless_ok (operand_form_refusal text at (list_all (is_term_at text) (expression_pieces text left) && list_all (is_term_at text) (expression_pieces text right)) (option_or (first_out_of_range_place numeral.Small text (expression_pieces text left)) (first_out_of_range_place numeral.Small text (expression_pieces text right))))
    (arg.Plain (map (term_of text) (expression_pieces text left)) ∷ arg.Plain (map (term_of text) (expression_pieces text right)) ∷ []) arguments e in
    carried text (arg.Plain (map (term_of text) (expression_pieces text left)) ∷ arg.Plain (map (term_of text) (expression_pieces text right)) ∷ []) arguments ok.1
    (two_args text (arg.Plain (map (term_of text) (expression_pieces text left))) (arg.Plain (map (term_of text) (expression_pieces text right))) refl refl)
halves_by text at (left ∷ right ∷ other ∷ more) arguments e = absurd cc

halves : (text : List ℕ) (operand : Span) (arguments : List Arg) → parse_halves text operand ≡ Ok arguments → args_are_named text arguments ≡ true
unfolding parse_halves
halves text operand arguments e = halves_by text operand.from (members text operand) arguments e

block_by : (text : List ℕ) (at : ℕ) (pieces : List TextPiece) (arguments : List Arg) → block_of_members text at pieces ≡ Ok arguments → args_are_named text arguments ≡ true
block_by text at [] arguments e = absurd cc
block_by text at (name ∷ []) arguments e = absurd cc
block_by text at (name ∷ count ∷ []) arguments e =
    let ok = unless_ok (operand_form_refusal text at (is_symbol_at text name && member_has_form_of numeral.Small text count) (first_out_of_range_place numeral.Small text (count ∷ []))) (arg.Symbol name.span ∷ number_arg numeral.Small text count ∷ []) arguments e in
    let symbol = (and_parts (is_symbol_at text name) (member_has_form_of numeral.Small text count) (of_form text at (is_symbol_at text name && member_has_form_of numeral.Small text count) (first_out_of_range_place numeral.Small text (count ∷ [])) ok.0)).0 in
    carried text (arg.Symbol name.span ∷ number_arg numeral.Small text count ∷ []) arguments ok.1
    (two_args text (arg.Symbol name.span) (number_arg numeral.Small text count) (symbol_named text name.span symbol) refl)
block_by text at (name ∷ count ∷ other ∷ more) arguments e = absurd cc

block : (text : List ℕ) (operand : Span) (arguments : List Arg) → parse_block text operand ≡ Ok arguments → args_are_named text arguments ≡ true
unfolding parse_block
block text operand arguments e = block_by text operand.from (members text operand) arguments e

-- the names of sections
word_named : (word bytes : List ℕ) → is_text word bytes ≡ true → is_name (take 32 word) ≡ true → is_name (take 32 bytes) ≡ true
word_named word bytes e definition_of_name = ap (λ (b : List ℕ). is_name (take 32 b)) (same_is bytes word e) ∙ definition_of_name

text_named : is_name (take 32 (codes "text")) ≡ true
unfolding is_name
text_named = refl

link_named : is_name (take 32 (codes "link")) ≡ true
unfolding is_name
link_named = refl

static_named : is_name (take 32 (codes "static")) ≡ true
unfolding is_name
static_named = refl

section_by : (bytes : List ℕ) (a b c : Bool) → is_text (codes "text") bytes ≡ a → is_text (codes "link") bytes ≡ b → is_text (codes "static") bytes ≡ c → is_some (cond a (Some Text) (cond b (Some Linkage) (cond c (Some Static) None))) ≡ true → is_name (take 32 bytes) ≡ true
section_by bytes true b c ea eb ec e = word_named (codes "text") bytes ea text_named
section_by bytes false true c ea eb ec e = word_named (codes "link") bytes eb link_named
section_by bytes false false true ea eb ec e = word_named (codes "static") bytes ec static_named
section_by bytes false false false ea eb ec e = absurd (true≢false (sym e))

section : (text : List ℕ) (operand : Span) (arguments : List Arg) → parse_section text operand ≡ Ok arguments → args_are_named text arguments ≡ true
unfolding parse_section used_section
section text operand arguments e =
    let bytes = slice_of text operand in
    let ok = unless_ok (operand_form_refusal text operand.from (is_section (slice_of text operand)) None) (arg.Symbol operand ∷ []) arguments e in
    carried text (arg.Symbol operand ∷ []) arguments ok.1
    (one_arg text (arg.Symbol operand) (section_by (slice_of text operand) (is_text (codes "text") (slice_of text operand)) (is_text (codes "link") (slice_of text operand)) (is_text (codes "static") (slice_of text operand)) refl refl refl
    (of_form text operand.from (is_section (slice_of text operand)) None ok.0)))

-- characters
characters_last : (text : List ℕ) (span : Span) (bad : Option ℕ) (arguments : List Arg) → characters_unless_bad text span bad ≡ Ok arguments → args_are_named text arguments ≡ true
characters_last text span (Some place) arguments e = absurd cc
characters_last text span None arguments e = carried text (arg.Chars (packed_words (slice_of text span)) ∷ []) arguments (cc) (one_arg text (arg.Chars (packed_words (slice_of text span))) refl)

characters_end : (text : List ℕ) (rest span : Span) (ended : Bool) (arguments : List Arg) → characters_if_ended text rest span ended ≡ Ok arguments → args_are_named text arguments ≡ true
characters_end text rest span true arguments e = characters_last text span (first_bad_place text span) arguments e
characters_end text rest span false arguments e = absurd cc

characters_close : (text : List ℕ) (rest : Span) (close : Option ℕ) (arguments : List Arg) → characters_if_closed text rest close ≡ Ok arguments → args_are_named text arguments ≡ true
characters_close text rest (Some close) arguments e =
    characters_end text rest (span_at (rest.from + 1) close) (is_blank_or_comment (slice_of text (span_at (close + 1) rest.to))) arguments e
characters_close text rest None arguments e = absurd cc

characters_begin : (text : List ℕ) (rest : Span) (refusal : ParseRefusal) (b : Bool) (close : Option ℕ) (arguments : List Arg) → cond b (characters_if_closed text rest close) (Err refusal) ≡ Ok arguments → args_are_named text arguments ≡ true
characters_begin text rest refusal true close arguments e = characters_close text rest close arguments e
characters_begin text rest refusal false close arguments e = absurd cc

placed : (text : List ℕ) (operand : Span) (arguments : List Arg) → parse_characters text operand ≡ Ok arguments → args_are_named text arguments ≡ true
unfolding parse_characters
placed text operand arguments e =
    let delimiter = slice_index text operand.from in
    characters_begin text operand (record { place = operand.from; code = E1 }) (is_placeable_character (slice_index text operand.from)) (place_of text (span_at (operand.from + 1) operand.to) (slice_index text operand.from)) arguments e

-- ---- operands

segment_by : (y s n : Bool) → (y || s) ≡ true → (y ≡ true → n ≡ true) → (s || n) ≡ true
segment_by y true n e h = refl
segment_by true false n e h = h refl
segment_by false false n e h = absurd (true≢false (sym e))

segment_named : (text : List ℕ) (span : Span) → is_segment_text (slice_of text span) ≡ true → segment_is_named text (Some span) ≡ true
segment_named text span e =
    segment_by (is_symbol (slice_of text span)) (is_some (own_section (slice_of text span))) (is_name (name_at text span)) e (symbol_named text span)

entry_by : (text : List ℕ) (span : Span) (b y : Bool) → (b || y) ≡ true → (y ≡ true → is_name (name_at text span) ≡ true) → entry_is_named text (cond b None (Some span)) ≡ true
entry_by text span true y e h = refl
entry_by text span false y e h = h e

body_named : (text : List ℕ) (b : Body) (terms : List Term) (tag : ℕ) → has_valid_parts text b ≡ true → arg_is_named text (operand_of text b terms tag) ≡ true
body_named text (body.Through pr offset) terms tag e = refl
body_named text (body.External segment entry tail) terms tag e =
    let parts = and_parts (is_segment_text (slice_of text segment) && is_entry_text (slice_of text entry)) (is_text_after_entry (slice_of text tail)) e in
    let two = and_parts (is_segment_text (slice_of text segment)) (is_entry_text (slice_of text entry)) parts.0 in
    and_from (segment_is_named text (Some segment)) (entry_is_named text (entry_if_any text entry)) (segment_named text segment two.0)
    (entry_by text entry (length (slice_of text entry) == 0) (is_symbol (slice_of text entry)) two.1 (symbol_named text entry))
body_named text (body.Plain whole) terms tag e = refl

operand_by_body : (text : List ℕ) (at : ℕ) (b : Body) (pieces : List TextPiece) (tag : Option ℕ) (arguments : List Arg)
    → value_unless (operand_form_refusal text at (is_operand text b pieces tag) (first_out_of_range_place numeral.Small text pieces)) (operand_of text b (map (term_of text) pieces) (unwrap_or tag 0) ∷ []) ≡ Ok arguments → args_are_named text arguments ≡ true
operand_by_body text at b pieces tag arguments e =
    let ok = unless_ok (operand_form_refusal text at (is_operand text b pieces tag) (first_out_of_range_place numeral.Small text pieces)) (operand_of text b (map (term_of text) pieces) (unwrap_or tag 0) ∷ []) arguments e in
    let form = and_parts (has_valid_parts text b && list_all (is_term_at text) pieces) (is_some tag) (of_form text at (is_operand text b pieces tag) (first_out_of_range_place numeral.Small text pieces) ok.0) in
    let is = (and_parts (has_valid_parts text b) (list_all (is_term_at text) pieces) form.0).0 in
    carried text (operand_of text b (map (term_of text) pieces) (unwrap_or tag 0) ∷ []) arguments ok.1
    (one_arg text (operand_of text b (map (term_of text) pieces) (unwrap_or tag 0)) (body_named text b (map (term_of text) pieces) (unwrap_or tag 0) is))

operand : (text : List ℕ) (span : Span) (arguments : List Arg) → parse_operand text span ≡ Ok arguments → args_are_named text arguments ≡ true
unfolding parse_operand
operand text span arguments e =
    let comma = place_of text span 44 in
    let b = body_of text (body_span span (place_of text span 44)) in
    operand_by_body text span.from (body_of text (body_span span (place_of text span 44))) (body_pieces text (body_of text (body_span span (place_of text span 44)))) (modifier_tag_after_comma text span (place_of text span 44)) arguments e

-- ---- lines

with_named : (o : Operation) (text : List ℕ) (span : Span) (arguments : List Arg) → args_with o text span ≡ Ok arguments → args_are_named text arguments ≡ true
with_named operation.Instruction text span arguments e = operand text span arguments e
with_named operation.Names text span arguments e = names text span arguments e
with_named operation.Value text span arguments e = value text span arguments e
with_named operation.Section text span arguments e = section text span arguments e
with_named operation.Decimal text span arguments e = numbers numeral.Decimal text span arguments e
with_named operation.Octal text span arguments e = numbers numeral.Octal text span arguments e
with_named operation.Characters text span arguments e = placed text span arguments e
with_named operation.Halves text span arguments e = halves text span arguments e
with_named operation.Block text span arguments e = block text span arguments e
with_named operation.Bare text span arguments e = absurd cc
with_named operation.End text span arguments e = carried text [] arguments (cc) (no_args text)

by_named : (o : Operation) (text : List ℕ) (op : ℕ) (given : Option Span) (arguments : List Arg) → args_if_present o text op given ≡ Ok arguments → args_are_named text arguments ≡ true
by_named o text op (Some span) arguments e = with_named o text span arguments e
by_named o text op None arguments e = carried text [] arguments (unless_ok (missing_operand_refusal o op) [] arguments e).1 (no_args text)

line_with_named : (text : List ℕ) (row : Row) (head : Head) (given : Result (List Arg) ParseRefusal) (line : Line36) → ((arguments : List Arg) → given ≡ Ok arguments → args_are_named text arguments ≡ true)
    → line_with text row head given ≡ Ok line → args_are_named text line.args ≡ true
line_with_named text row head (Ok arguments) line definition_of_name e =
    let same : line_of text row head arguments ≡ line = cc in
    sym (ap (λ (l : Line36). args_are_named text l.args) same) ∙ definition_of_name arguments refl
line_with_named text row head (Err refusal) line definition_of_name e = absurd cc

line_by_named : (text : List ℕ) (row : Row) (head : Head) (op : Span) (o : Option Operation) (line : Line36) → line_with_operation text row head op o ≡ Ok line → args_are_named text line.args ≡ true
unfolding args_of
line_by_named text row head op (Some o) line e =
    line_with_named text row head (args_of o text op.from (span_at op.to row.span.to)) line (λ arguments f. by_named o text op.from (operand_for o text (span_at op.to row.span.to)) arguments f) e
line_by_named text row head op None line e = absurd cc

line_from_named : (text : List ℕ) (row : Row) (head : Head) (op : Option Span) (line : Line36) → line_from text row head op ≡ Ok line → args_are_named text line.args ≡ true
line_from_named text row head (Some op) line e = line_by_named text row head op (operation_of (slice_of text op)) line e
line_from_named text row head None line e =
    let same : line_of text row head [] ≡ line = cc in
    sym (ap (λ (l : Line36). args_are_named text l.args) same) ∙ no_args text

line_unless_named : (text : List ℕ) (row : Row) (head : Head) (refusal : Option ParseRefusal) (line : Line36) → line_unless_refused refusal text row head ≡ Ok line → args_are_named text line.args ≡ true
line_unless_named text row head (Some refusal) line e = absurd cc
line_unless_named text row head None line e = line_from_named text row head head.op line e

line_named : (text : List ℕ) (row : Row) (line : Line36) → parse_line text row ≡ Ok line → args_are_named text line.args ≡ true
unfolding parse_line
line_named text row line e =
    line_unless_named text row (head_of text row.span) (label_refusal text (head_of text row.span).labels) line e

-- ---- the source

one_more : (text : List ℕ) (before : List Line36) (line : Line36) → lines_are_named text before ≡ true → args_are_named text line.args ≡ true → lines_are_named text (before ++ line ∷ []) ≡ true
unfolding lines_are_named
one_more text [] line all own = and_from (args_are_named text line.args) true own refl
one_more text (other ∷ before) line all own =
    let parts = and_parts (args_are_named text other.args) (lines_are_named text before) all in
    and_from (args_are_named text other.args) (lines_are_named text (before ++ line ∷ [])) parts.0 (one_more text before line parts.1 own)

last_by : (text : List ℕ) (more lines : List Line36) (rest : Result (List Line36) AlmFault) (b : Bool) → lines_are_named text more ≡ true → (rest ≡ Ok lines → lines_are_named text lines ≡ true)
    → cond b (Ok more) rest ≡ Ok lines → lines_are_named text lines ≡ true
last_by text more lines rest true all next e =
    let same : more ≡ lines = cc in
    sym (ap (λ (l : List Line36). lines_are_named text l) same) ∙ all
last_by text more lines rest false all next e = next e

continued_named : (text : List ℕ) (row : Row) (before : List Line36) (further : List Line36 → Result (List Line36) AlmFault) (given : Result Line36 ParseRefusal) (lines : List Line36)
    → lines_are_named text before ≡ true → ((line : Line36) → given ≡ Ok line → args_are_named text line.args ≡ true)
    → ((more : List Line36) → lines_are_named text more ≡ true → further more ≡ Ok lines → lines_are_named text lines ≡ true)
    → lines_after_row text row before further given ≡ Ok lines → lines_are_named text lines ≡ true
continued_named text row before further (Ok line) lines all own next e =
    let more = one_more text before line all (own line refl) in
    last_by text (before ++ line ∷ []) lines (further (before ++ line ∷ [])) (is_end_operation text line.op) more (next (before ++ line ∷ []) more) e
continued_named text row before further (Err refusal) lines all own next e = absurd cc

read_named : (text : List ℕ) (before : List Line36) (rows : List Row) (lines : List Line36) → lines_are_named text before ≡ true → read_lines text before rows ≡ Ok lines → lines_are_named text lines ≡ true
unfolding read_lines
read_named text before [] lines all e =
    let same : before ≡ lines = cc in
    sym (ap (λ (l : List Line36). lines_are_named text l) same) ∙ all
read_named text before (row ∷ rows) lines all e =
    continued_named text row before (λ more. read_lines text more rows) (parse_line text row) lines all (line_named text row) (λ more definition_of_name f. read_named text more rows lines definition_of_name f) e

with_text_named : (text : List ℕ) (given : Result (List Line36) AlmFault) (source : Source) → ((lines : List Line36) → given ≡ Ok lines → lines_are_named text lines ≡ true)
    → source_with_lines text given ≡ Ok source → lines_are_named source.text source.lines ≡ true
with_text_named text (Ok lines) source definition_of_name e =
    let S : Source = record { text = text; lines = lines } in
    let same : S ≡ source = cc in
    sym (ap (λ (s : Source). lines_are_named s.text s.lines) same) ∙ definition_of_name lines refl
with_text_named text (Err fault) source definition_of_name e = absurd cc

no_lines : (text : List ℕ) → lines_are_named text [] ≡ true
unfolding lines_are_named
no_lines text = refl

pub names_read : (text : List ℕ) (source : Source) → source_of_text text ≡ Ok source → lines_are_named source.text source.lines ≡ true
unfolding source_of_text
names_read text source e =
    with_text_named text (read_lines text [] (rows_of text)) source (λ lines f. read_named text [] (rows_of text) lines (no_lines text) f) e
