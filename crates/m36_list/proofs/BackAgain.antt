-- The text of a word is parsed as a line that places that word.
use Rattle.std.proofs.Common.{ℕ, suc, ◌≡◌, ◌+◌, ◌%◌, ◌^◌, ◌<◌, ◌==◌, Bool, true, false, List, [], ◌∷◌, ◌++◌, length, Option, Some, None, Ok, refl, sym, ap, ◌∙◌, append_assoc, length-append, arith}
use Rattle.std.specs.Prelude.{codes}
use Rattle.std.specs.Str.{bytes_eq}
use Rattle.std.proofs.lemmas.Bool.{ne_eqb}
use Rattle.m36_text.specs.Digits.{octal_text}
use Rattle.m36_text.specs.Reading.{number_read}
use Rattle.m36_text.proofs.DigitLaws.{length_octal}
use Rattle.m36_text.proofs.NumeralLaws.{reads_octal}
use Rattle.m36_inst.specs.Fields.{InstFields, IsInst}
use Rattle.m36_inst.specs.Instruction.{inst_of, inst_word}
use Rattle.m36_inst.specs.Lookup.{name_at}
use Rattle.m36_inst.proofs.Instructions.{word_back}
use Rattle.m36_inst.proofs.OneToOne.{named_code}
use Rattle.alm_parse.specs.declared.args.Arg.TheVariants.{Number}
use Rattle.alm_parse.specs.declared.line.Line36.{Line36}
use Rattle.alm_tokens.specs.declared.numerals.Numeral.TheVariants as numeral
use Rattle.alm_parse.specs.declared.operation.Operation.TheVariants.{Instruction, Octal}
use Rattle.alm_tokens.specs.declared.pieces.Separator.TheVariants.{Comma}
use Rattle.alm_tokens.specs.Tokens.{slice_of, span_at}
use Rattle.alm_tokens.specs.Pieces.{separates, pieces_of}
use Rattle.alm_parse.specs.Members.{parse_numbers}
use Rattle.alm_tokens.specs.Lists.{members, first_out_of_range_place}
use Rattle.alm_parse.specs.Operations.{operation_of, directive}
use Rattle.alm_tokens.specs.Rows.{row_at}
use Rattle.alm_parse.specs.Lines.{parse_line}
use Rattle.alm_lines.specs.SpotFields.{LocationCounter}
use Rattle.alm_asm.specs.declared.tables.Tables.{Tables}
use Rattle.alm_parse.specs.Deeds.{effect_named}
use Rattle.alm_asm.specs.Words.{words_of_effect}
use Rattle.alm_asm.specs.Assembly.{assembled}
use Rattle.m36_list.specs.Modifiers.{modifier_text}
use Rattle.m36_list.specs.Disassembly.{disassembly, text_of_fields, text_of_parts, octal_constant, address_text}
use Rattle.m36_list.specs.Assembled.{object_of_word, PlacesItself}
use Rattle.m36_list.proofs.Parted.{none_in_both}
use Rattle.m36_list.proofs.Lengths.{address_is_some}
use Rattle.m36_list.proofs.Characters.{IsOperation, operation_at, is_ending, PassesNone, address_passes_none, octal_passes_none}
use Rattle.m36_list.proofs.Spans.{slice_at}
use Rattle.m36_list.proofs.Terms.{one_piece}
use Rattle.m36_list.proofs.TagsBack.{modifier}
use Rattle.m36_list.proofs.NamedDeeds.{instruction_deed, constant_deed}
use Rattle.m36_list.proofs.WordAlone.{line_of, operand_of, constant_placed, constant_alone, gives, instruction_placed, instruction_alone}
use Rattle.m36_list.proofs.OperandRead.{operand_at}
use Rattle.m36_list.proofs.LineRead.{line_read}

-- The text is parsed as a line that places the word; alone as a source, it yields the object of the
-- word.
pub record IsWord (w number : ℕ) (before text after : List ℕ) : Type 0 where
  pub line : Line36
  pub given : parse_line (before ++ (text ++ after)) (row_at number (length before) (length before + length text)) ≡ Ok line
  pub places : (tables : Tables) (spot : LocationCounter) → words_of_effect (before ++ (text ++ after)) tables spot line.args line.deed ≡ w ∷ []
  pub alone : assembled record { text = before ++ (text ++ after); lines = line ∷ [] } ≡ Ok (object_of_word w)

some_of : (name : List ℕ) → bytes_eq name [] ≡ false → 0 < length name
some_of [] none = absurd (cc)
some_of (b ∷ name) none = omega arith

no_ending : (d : ℕ) → d < 10 → is_ending (48 + d) ≡ false
no_ending d small =
    let blank : (48 + d == 32) ≡ false = ne_eqb (48 + d) 32 (λ e. absurd (omega arith)) in
    let tab : (48 + d == 9) ≡ false = ne_eqb (48 + d) 9 (λ e. absurd (omega arith)) in
    let quote : (48 + d == 34) ≡ false = ne_eqb (48 + d) 34 (λ e. absurd (omega arith)) in
    rw (blank, tab, quote) refl

ending_passes_none : PassesNone is_ending
ending_passes_none = record { digit = no_ending; minus = refl; letter_p = refl; letter_r = refl }

instruction_operation : (code : ℕ) (bit27 : Bool) (name : List ℕ) → name_at code bit27 ≡ Some name → IsOperation name → operation_of name ≡ Some Instruction
unfolding operation_of
instruction_operation code bit27 name named o = rw (o.instruction, named_code code bit27 name named) refl

-- an instruction that is shown with its name
same_word : (i : InstFields) → IsInst i → i.inhibit ≡ false → inst_word record { y = i.y; code = i.code % 2 ^ 9; bit27 = i.bit27; inhibit = false; by_pr = i.by_pr; tag = i.tag % 2 ^ 6 } ≡ inst_word i
same_word i sized off =
    let in_code = sized.code in
    let in_tag = sized.tag in
    let code : i.code % 2 ^ 9 ≡ i.code = omega arith in
    let tag : i.tag % 2 ^ 6 ≡ i.tag = omega arith in
    let stays = sym off in
    λ k. inst_word record { y = i.y; code = code k; bit27 = i.bit27; inhibit = stays k; by_pr = i.by_pr; tag = tag k }

named_back : (w : ℕ) (i : InstFields) (name text before after line : List ℕ) (number : ℕ) → inst_word i ≡ w → IsInst i → i.inhibit ≡ false → name_at i.code i.bit27 ≡ Some name → modifier_text i.tag ≡ Some text
    → line ≡ name ++ 32 ∷ (address_text i ++ text)
    → IsWord w number before line after
named_back w i name text before after line number word sized off named tagged shape =
    let fits = sized.y in
    let o = operation_at i.code i.bit27 name named in
    let m = modifier i.tag text tagged in
    let operand = address_text i ++ text in
    let plain = none_in_both is_ending (address_text i) text (address_passes_none is_ending i fits ending_passes_none refl) m.plain in
    let more = address_is_some i in
    let both = length-append (address_text i) text in
    let long : length line ≡ length name + suc (length operand) = ap length shape ∙ length-append name (32 ∷ operand) in
    let begun = length-append before (name ++ codes " ") in
    let named_long = length-append name (codes " ") in
    let source = before ++ (line ++ after) in
    let whole : source ≡ (before ++ (name ++ codes " ")) ++ (operand ++ after) = ap (λ (t : List ℕ). before ++ (t ++ after)) shape ∙ simp append_assoc in
    let said = operand_at source (before ++ (name ++ codes " ")) after (length before + length name + 1) (length before + length line) i text fits m.back whole (omega arith) (omega arith) in
    let read = line_read number line before name operand after Instruction (operand_of said.pr said.minus said.v said.span i.tag) shape o.plain (some_of name o.some) plain (omega arith) (instruction_operation i.code i.bit27 name named o) (λ source rest. refl) said.says in
    let does = instruction_deed i.code i.bit27 name named o.instruction in
    let back : gives said.pr said.minus said.v i.tag i.code i.bit27 ≡ w = ap (λ (j : InstFields). inst_word j) (said.address.back i.code i.bit27 i.tag) ∙ same_word i sized off ∙ word in
    record {
      line = line_of number (length before) read.op (effect_named name) (operand_of said.pr said.minus said.v said.span i.tag);
      given = read.given;
      places = λ tables spot. instruction_placed source tables spot read.op (effect_named name) i.code i.bit27 said.pr said.minus said.v said.span i.tag does ∙ ap (λ (n : ℕ). n ∷ []) back;
      alone = instruction_alone source number (length before) read.op (effect_named name) i.code i.bit27 said.pr said.minus said.v said.span i.tag w does said.address.room back;
    }

-- an octal constant
octal_operation : operation_of (codes "oct") ≡ Some Octal
unfolding operation_of directive
octal_operation = refl

no_comma : (d : ℕ) → d < 10 → (48 + d == 44) ≡ false
no_comma d small = ne_eqb (48 + d) 44 (λ e. absurd (omega arith))

octal_said : (source : List ℕ) (from to w : ℕ) → w < 2 ^ 36 → slice_of source (span_at from to) ≡ octal_text 12 w → to ≡ from + 12 → parse_numbers numeral.Octal source (span_at from to) ≡ Ok (Number w ∷ [])
unfolding parse_numbers members pieces_of first_out_of_range_place
octal_said source from to w fits slice stop =
    let digits = octal_text 12 w in
    let long : length digits ≡ 12 = length_octal 12 w in
    let end : from + length digits ≡ to = omega arith in
    let read : number_read 8 digits 68719476735 ≡ Ok w = reads_octal 12 w 68719476735 (omega arith) fits (omega arith) in
    rw (slice, one_piece Comma false from from digits (octal_passes_none (separates Comma) 12 w no_comma), end, slice, read) (ap (λ (n : ℕ). Ok (Number n ∷ [])) (omega arith))

constant_back : (w number : ℕ) (before after : List ℕ) → w < 2 ^ 36 → IsWord w number before (octal_constant w) after
constant_back w number before after fits =
    let digits = octal_text 12 w in
    let long : length digits ≡ 12 = length_octal 12 w in
    let begun = length-append before (codes "oct ") in
    let source = before ++ ((codes "oct " ++ digits) ++ after) in
    let whole : source ≡ (before ++ codes "oct ") ++ (digits ++ after) = simp append_assoc in
    let all = length-append (codes "oct ") digits in
    let slice = slice_at source (before ++ codes "oct ") digits after (length before + 3 + 1) (length before + length (codes "oct " ++ digits)) whole (omega arith) (omega arith) in
    let read = line_read number (codes "oct " ++ digits) before (codes "oct") digits after Octal (Number w ∷ []) refl refl (omega arith) (octal_passes_none is_ending 12 w no_ending) (omega arith) octal_operation (λ source rest. refl) (octal_said _ (length before + 3 + 1) _ w fits slice (omega arith)) in
    let does = constant_deed in
    record {
      line = line_of number (length before) read.op (effect_named (codes "oct")) (Number w ∷ []);
      given = read.given;
      places = λ tables spot. constant_placed source tables spot read.op (effect_named (codes "oct")) w does;
      alone = constant_alone source number (length before) read.op (effect_named (codes "oct")) w does;
    }

parts_back : (w number : ℕ) (before after : List ℕ) (i : InstFields) (name text : Option (List ℕ)) → w < 2 ^ 36 → inst_word i ≡ w → IsInst i → i.inhibit ≡ false → name_at i.code i.bit27 ≡ name → modifier_text i.tag ≡ text
    → IsWord w number before (text_of_parts w i name text) after
parts_back w number before after i (Some name) (Some text) below word sized off named tagged = named_back w i name text before after (((name ++ codes " ") ++ address_text i) ++ text) number word sized off named tagged (simp append_assoc)
parts_back w number before after i (Some name) None below word sized off named tagged = constant_back w number before after below
parts_back w number before after i None text below word sized off named tagged = constant_back w number before after below

fields_back : (w number : ℕ) (before after : List ℕ) (i : InstFields) (b : Bool) → w < 2 ^ 36 → inst_word i ≡ w → IsInst i → i.inhibit ≡ b → IsWord w number before (text_of_fields w i) after
fields_back w number before after i true below word sized on = rw on (constant_back w number before after below)
fields_back w number before after i false below word sized off = rw off (parts_back w number before after i (name_at i.code i.bit27) (modifier_text i.tag) below word sized off refl refl)

pub word_again : (w number : ℕ) (before after : List ℕ) → w < 2 ^ 36 → IsWord w number before (disassembly w) after
unfolding disassembly
word_again w number before after fits = fields_back w number before after (inst_of w) (inst_of w).inhibit fits (word_back w fits) record { y = omega arith; code = omega arith; tag = omega arith } refl

pub places : PlacesItself
places w number before after tables spot fits =
    let back = word_again w number before after fits in
    rw (back.given) (ap (λ (ws : List ℕ). Some ws) (back.places tables spot))
