-- The text of a word, alone as a source, is one line.
use Rattle.std.proofs.Common.{ℕ, ◌≡◌, ◌+◌, ◌^◌, ◌<◌, ◌==◌, Bool, true, false, List, [], ◌∷◌, ◌++◌, length, Option, Some, None, Ok, refl, ap, ◌∙◌, arith}
use Rattle.std.specs.Prelude.{codes, if◌then◌else◌}
use Rattle.std.specs.List.{list_any}
use Rattle.std.proofs.lemmas.Bool.{or_parts, ne_eqb, eq-eqb}
use Rattle.m36_inst.specs.Fields.{InstFields}
use Rattle.m36_inst.specs.Instruction.{inst_of}
use Rattle.m36_inst.specs.Lookup.{name_at}
use Rattle.alm_parse.specs.declared.line.Line36.{Line36}
use Rattle.alm_tokens.specs.declared.rows.Row.{Row}
use Rattle.alm_tokens.specs.Rows.{row_at, rows_from, rows_of}
use Rattle.alm_parse.specs.Lines.{parse_line}
use Rattle.alm_parse.specs.Sources.{is_end_operation, read_lines, source_with_lines, source_of_text}
use Rattle.m36_list.specs.Modifiers.{modifier_text}
use Rattle.m36_list.specs.Disassembly.{disassembly, text_of_fields, text_of_parts, octal_constant, address_text}
use Rattle.alm_asm.specs.Assembly.{assembled}
use Rattle.m36_list.specs.Assembled.{object_of, object_of_word, AssemblesToItself}
use Rattle.m36_list.proofs.Parted.{none_in_both}
use Rattle.m36_list.proofs.Characters.{is_line_feed, PassesNone, address_passes_none, octal_passes_none, operation_at}
use Rattle.m36_list.proofs.TagsBack.{modifier}
use Rattle.m36_list.proofs.BackAgain.{word_again}

-- no text of a word has a line feed
no_line_feed : (d : ℕ) → d < 10 → is_line_feed (48 + d) ≡ false
no_line_feed d small = ne_eqb (48 + d) 10 (λ e. absurd (omega arith))

feed_passes_none : PassesNone is_line_feed
feed_passes_none = record { digit = no_line_feed; minus = refl; letter_p = refl; letter_r = refl }

one_line_constant : (w : ℕ) → list_any is_line_feed (octal_constant w) ≡ false
one_line_constant w = octal_passes_none is_line_feed 12 w no_line_feed

one_line_parts : (w : ℕ) (i : InstFields) (name text : Option (List ℕ)) → i.y < 2 ^ 18 → name_at i.code i.bit27 ≡ name → modifier_text i.tag ≡ text → list_any is_line_feed (text_of_parts w i name text) ≡ false
one_line_parts w i (Some name) (Some text) fits named tagged =
    none_in_both is_line_feed ((name ++ codes " ") ++ address_text i) text (none_in_both is_line_feed (name ++ codes " ") (address_text i) (none_in_both is_line_feed name (codes " ") (operation_at i.code i.bit27 name named).one_line refl) (address_passes_none is_line_feed i fits feed_passes_none refl)) (modifier i.tag text tagged).one_line
one_line_parts w i (Some name) None fits named tagged = one_line_constant w
one_line_parts w i None text fits named tagged = one_line_constant w

one_line_fields : (w : ℕ) (i : InstFields) (b : Bool) → i.y < 2 ^ 18 → i.inhibit ≡ b → list_any is_line_feed (text_of_fields w i) ≡ false
one_line_fields w i true fits on = rw on (one_line_constant w)
one_line_fields w i false fits off = rw off (one_line_parts w i (name_at i.code i.bit27) (modifier_text i.tag) fits refl refl)

one_line : (w : ℕ) → w < 2 ^ 36 → list_any is_line_feed (disassembly w) ≡ false
unfolding disassembly
one_line w fits = one_line_fields w (inst_of w) (inst_of w).inhibit (omega arith) refl

-- so it is one row
row_alone : (number from at : ℕ) (xs : List ℕ) → list_any is_line_feed xs ≡ false → rows_from number from at (xs ++ 10 ∷ []) ≡ row_at number from (at + length xs) ∷ []
unfolding rows_from
row_alone number from at [] none =
    let same : (at + 1 == at + 1) ≡ true = eq-eqb (at + 1) (at + 1) refl in
    let end : at ≡ at + 0 = omega arith in
    rw (same) (ap (λ (to : ℕ). row_at number from to ∷ []) end)
row_alone number from at (x ∷ xs) none =
    let parts = or_parts (x == 10) (list_any is_line_feed xs) none in
    let end : at + 1 + length xs ≡ at + (length (x ∷ xs)) = omega arith in
    rw (parts.0) (row_alone number from (at + 1) xs parts.1 ∙ ap (λ (to : ℕ). row_at number from to ∷ []) end)

-- and the row is the last
last : (text : List ℕ) (line : Line36) (w : ℕ) (ended : Bool) → assembled record { text = text; lines = line ∷ [] } ≡ Ok (object_of_word w)
    → object_of (source_with_lines text (if ended then Ok (line ∷ []) else Ok (line ∷ []))) ≡ Ok (object_of_word w)
last text line w true h = h
last text line w false h = h

row_read : (text : List ℕ) (row : Row) (line : Line36) (w : ℕ) → parse_line text row ≡ Ok line → assembled record { text = text; lines = line ∷ [] } ≡ Ok (object_of_word w)
    → object_of (source_with_lines text (read_lines text [] (row ∷ []))) ≡ Ok (object_of_word w)
unfolding read_lines
row_read text row line w given alone = rw given (last text line w (is_end_operation text line.op) alone)

pub assembles : AssemblesToItself
unfolding source_of_text rows_of
assembles w fits =
    let source = disassembly w ++ 10 ∷ [] in
    let row = row_at 1 0 (0 + length (disassembly w)) in
    let back = word_again w 1 [] (10 ∷ []) fits in
    rw (row_alone 1 0 0 (disassembly w) (one_line w fits)) (row_read source row back.line w back.given back.alone)
