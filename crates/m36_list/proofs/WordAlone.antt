-- Lines that place one word: an instruction whose address is one number, and one octal constant.
use Rattle.std.proofs.Common.{ℕ, ◌≡◌, Bool, true, List, [], ◌∷◌, Option, Some, None, Ok, refl, ap}
use Rattle.std.specs.Option.{option_or}
use Rattle.alm_tokens.specs.declared.span.Span.{Span}
use Rattle.alm_parse.specs.declared.args.Arg.{Arg}
use Rattle.alm_parse.specs.declared.args.Arg.TheVariants.{Number, Operand}
use Rattle.alm_parse.specs.declared.line.Line36.{Line36}
use Rattle.alm_parse.specs.SourceFields.{Source}
use Rattle.m36_inst.specs.Instruction.{inst_word}
use Rattle.obj36_parts.specs.ObjectSegment.{definition_part, definition_section, linkage_part, linkage_section, symbol_part, symbol_section, map_part, map_words, words_of, definition_names, are_distinct, are_rising, is_well_formed, all_link_names, definition_words, expression_words, link_words, relocation_words}
use Rattle.obj36_parts.specs.Names.{with_names, all_name_words}
use Rattle.alm_lines.specs.SpotFields.{LocationCounter}
use Rattle.alm_asm.specs.declared.tables.Tables.{Tables}
use Rattle.alm_parse.specs.declared.deed.LineEffect.{LineEffect}
use Rattle.alm_parse.specs.declared.deed.LineEffect.TheVariants as deed
use Rattle.alm_lines.specs.declared.refusal.AlmRefusal.{AlmRefusal}
use Rattle.alm_lines.specs.declared.sum.Sum.{Sum}
use Rattle.alm_lines.specs.Sums.{half_of, offset_of}
use Rattle.alm_lines.specs.Expressions.{expression_place}
use Rattle.alm_lines.specs.Refusals.{earlier_refusal, fits_field, is_expressible, expression_refusal}
use Rattle.alm_lines.specs.Arguments.{words_of_args}
use Rattle.alm_lines.specs.Spots.{start, next_line_spot, end_of}
use Rattle.alm_lines.specs.Layout.{labels_refusal, definition_refusal, over_limit_refusal, refusal_after, layout_refusal}
use Rattle.alm_asm.specs.Links.{links_after, links_from}
use Rattle.alm_asm.specs.Words.{internal_instruction, instruction_word, words_of_effect, words_of_line, words_from}
use Rattle.alm_asm.specs.Relocations.{relocations_after, relocations_from}
use Rattle.alm_asm.specs.Definitions.{definitions_after, definitions_from}
use Rattle.alm_asm.specs.LineRefusals.{internal_operand_field, line_refusal, lines_refusal}
use Rattle.alm_asm.specs.Growth.{first_growth, with_relocations, growth_after_line, has_section_over_limit, growth_refusal}
use Rattle.alm_asm.specs.Assembly.{tables_of, bound_from, parts_with, parts_of, refusal_of, assembled}
use Rattle.m36_list.specs.Assembled.{object_of_word}
use Rattle.m36_list.proofs.NumberSums.{number_term, number_sum, sum_is, kind_is, known_is, none_missing}

-- such a line alone
abbrev pub line_of : ℕ → ℕ → Span → LineEffect → List Arg → Line36
line_of number at op d arguments = record { labels = []; args = arguments; op = Some op; deed = d; start = at; line = number }

abbrev pub source_of : List ℕ → ℕ → ℕ → Span → LineEffect → List Arg → Source
source_of text number at op d arguments = record { text = text; lines = line_of number at op d arguments ∷ [] }

abbrev pub operand_of : Option ℕ → Bool → ℕ → Span → ℕ → List Arg
operand_of pr minus v span tag = Operand pr None None (number_term minus v span ∷ []) tag ∷ []

-- the object of one word is an object
formed : (w : ℕ) → is_well_formed (object_of_word w) ≡ true
unfolding is_well_formed words_of definition_section definition_part linkage_section linkage_part symbol_section symbol_part map_words map_part definition_names all_link_names with_names all_name_words definition_words expression_words link_words relocation_words are_distinct are_rising
formed w = refl

text_of_parts : (source : Source) (w : ℕ) → refusal_of source ≡ None → parts_of source ≡ object_of_word w → assembled source ≡ Ok (object_of_word w)
unfolding assembled
text_of_parts source w none parts = rw (none, parts, formed w) refl

neither : (a b : Option AlmRefusal) → a ≡ None → b ≡ None → earlier_refusal a b ≡ None
neither a b first second = rw (first, second) refl

-- the refusals of the lines of a source, apart from those for the lengths of sections
abbrev lines_of : Source → Option AlmRefusal
lines_of source =
    earlier_refusal (layout_refusal source.text None [] start source.lines) (lines_refusal source.text (tables_of source.text source.lines) [] start source.lines)

-- ---- an octal constant

pub constant_placed : (text : List ℕ) (tables : Tables) (spot : LocationCounter) (op : Span) (d : LineEffect) (w : ℕ) → d ≡ deed.Words
    → words_of_effect text tables spot (Number w ∷ []) d ≡ w ∷ []
unfolding words_of_args
constant_placed text tables spot op d w does = rw (does) refl

constant_lines : (text : List ℕ) (number at : ℕ) (op : Span) (d : LineEffect) (w : ℕ) → d ≡ deed.Words
    → lines_of (source_of text number at op d (Number w ∷ [])) ≡ None
unfolding lines_refusal line_refusal layout_refusal refusal_after labels_refusal definition_refusal over_limit_refusal next_line_spot words_of_args
constant_lines text number at op d w does = rw (does) refl

constant_short : (text : List ℕ) (symbols : List (List ℕ × Sum)) (number at : ℕ) (op : Span) (d : LineEffect) (w : ℕ) → d ≡ deed.Words
    → growth_refusal text symbols first_growth start (line_of number at op d (Number w ∷ []) ∷ []) ≡ None
unfolding growth_refusal growth_after_line with_relocations has_section_over_limit next_line_spot words_of_args
constant_short text symbols number at op d w does = rw (does) refl

constant_unrefused : (text : List ℕ) (number at : ℕ) (op : Span) (d : LineEffect) (w : ℕ) → d ≡ deed.Words
    → refusal_of (source_of text number at op d (Number w ∷ [])) ≡ None
unfolding refusal_of
constant_unrefused text number at op d w does =
    let source = source_of text number at op d (Number w ∷ []) in
    let symbols = (tables_of text source.lines).symbols in
    neither (lines_of source) (growth_refusal text symbols first_growth start source.lines) (constant_lines text number at op d w does) (constant_short text symbols number at op d w does)

constant_parts : (text : List ℕ) (number at : ℕ) (op : Span) (d : LineEffect) (w : ℕ) → d ≡ deed.Words
    → parts_of (source_of text number at op d (Number w ∷ [])) ≡ object_of_word w
unfolding parts_with tables_of words_from words_of_line definitions_from definitions_after links_from links_after relocations_from relocations_after bound_from end_of next_line_spot words_of_args
constant_parts text number at op d w does = rw (does) refl

pub constant_alone : (text : List ℕ) (number at : ℕ) (op : Span) (d : LineEffect) (w : ℕ) → d ≡ deed.Words
    → assembled (source_of text number at op d (Number w ∷ [])) ≡ Ok (object_of_word w)
constant_alone text number at op d w does =
    text_of_parts (source_of text number at op d (Number w ∷ [])) w (constant_unrefused text number at op d w does) (constant_parts text number at op d w does)

-- ---- an instruction

-- the word of the instruction with this operand
abbrev pub gives : Option ℕ → Bool → ℕ → ℕ → ℕ → Bool → ℕ
gives pr minus v tag code bit27 =
    inst_word (internal_instruction code bit27 pr (half_of (number_sum minus v).value) (offset_of (number_sum minus v).value) tag)

pub instruction_placed : (text : List ℕ) (tables : Tables) (spot : LocationCounter) (op : Span) (d : LineEffect) (code : ℕ) (bit27 : Bool) (pr : Option ℕ) (minus : Bool) (v : ℕ) (span : Span) (tag : ℕ) → d ≡ deed.Instruction code bit27
    → words_of_effect text tables spot (operand_of pr minus v span tag) d ≡ gives pr minus v tag code bit27 ∷ []
unfolding instruction_word
instruction_placed text tables spot op d code bit27 pr minus v span tag does = rw (does, sum_is text tables.symbols spot minus v span) refl

expression_unrefused : (text : List ℕ) (symbols : List (List ℕ × Sum)) (spot : LocationCounter) (line : Line36) (pr : Option ℕ) (minus : Bool) (v : ℕ) (span : Span) (place : ℕ) → fits_field (internal_operand_field pr) (number_sum minus v).value ≡ true
    → expression_refusal text symbols spot line (number_term minus v span ∷ []) place (internal_operand_field pr) true ≡ None
unfolding expression_refusal is_expressible
expression_unrefused text symbols spot line pr minus v span place room =
    rw (none_missing text symbols minus v span, sum_is text symbols spot minus v span, known_is minus v, room, kind_is minus v) refl

instruction_lines : (text : List ℕ) (number at : ℕ) (op : Span) (d : LineEffect) (code : ℕ) (bit27 : Bool) (pr : Option ℕ) (minus : Bool) (v : ℕ) (span : Span) (tag : ℕ) → d ≡ deed.Instruction code bit27
    → fits_field (internal_operand_field pr) (number_sum minus v).value ≡ true
    → lines_of (source_of text number at op d (operand_of pr minus v span tag)) ≡ None
unfolding lines_refusal line_refusal layout_refusal refusal_after labels_refusal definition_refusal over_limit_refusal next_line_spot
instruction_lines text number at op d code bit27 pr minus v span tag does room =
    let arguments = operand_of pr minus v span tag in
    let line = line_of number at op d arguments in
    let symbols = (tables_of text (line ∷ [])).symbols in
    rw does (ap (λ (r : Option AlmRefusal). option_or r None) (expression_unrefused text symbols start line pr minus v span (expression_place (number_term minus v span ∷ [])) room))

instruction_short : (text : List ℕ) (symbols : List (List ℕ × Sum)) (number at : ℕ) (op : Span) (d : LineEffect) (code : ℕ) (bit27 : Bool) (pr : Option ℕ) (minus : Bool) (v : ℕ) (span : Span) (tag : ℕ) → d ≡ deed.Instruction code bit27
    → growth_refusal text symbols first_growth start (line_of number at op d (operand_of pr minus v span tag) ∷ []) ≡ None
unfolding growth_refusal growth_after_line with_relocations has_section_over_limit next_line_spot
instruction_short text symbols number at op d code bit27 pr minus v span tag does =
    rw (does, sum_is, kind_is minus v) refl

instruction_unrefused : (text : List ℕ) (number at : ℕ) (op : Span) (d : LineEffect) (code : ℕ) (bit27 : Bool) (pr : Option ℕ) (minus : Bool) (v : ℕ) (span : Span) (tag : ℕ) → d ≡ deed.Instruction code bit27
    → fits_field (internal_operand_field pr) (number_sum minus v).value ≡ true
    → refusal_of (source_of text number at op d (operand_of pr minus v span tag)) ≡ None
unfolding refusal_of
instruction_unrefused text number at op d code bit27 pr minus v span tag does room =
    let source = source_of text number at op d (operand_of pr minus v span tag) in
    let symbols = (tables_of text source.lines).symbols in
    neither (lines_of source) (growth_refusal text symbols first_growth start source.lines)
    (instruction_lines text number at op d code bit27 pr minus v span tag does room)
    (instruction_short text symbols number at op d code bit27 pr minus v span tag does)

instruction_parts : (text : List ℕ) (number at : ℕ) (op : Span) (d : LineEffect) (code : ℕ) (bit27 : Bool) (pr : Option ℕ) (minus : Bool) (v : ℕ) (span : Span) (tag w : ℕ) → d ≡ deed.Instruction code bit27
    → gives pr minus v tag code bit27 ≡ w
    → parts_of (source_of text number at op d (operand_of pr minus v span tag)) ≡ object_of_word w
unfolding parts_with tables_of words_from words_of_line definitions_from definitions_after links_from links_after relocations_from relocations_after bound_from end_of next_line_spot instruction_word
instruction_parts text number at op d code bit27 pr minus v span tag w does word =
    rw (does, sum_is, kind_is minus v, word) refl

pub instruction_alone : (text : List ℕ) (number at : ℕ) (op : Span) (d : LineEffect) (code : ℕ) (bit27 : Bool) (pr : Option ℕ) (minus : Bool) (v : ℕ) (span : Span) (tag w : ℕ) → d ≡ deed.Instruction code bit27
    → fits_field (internal_operand_field pr) (number_sum minus v).value ≡ true → gives pr minus v tag code bit27 ≡ w
    → assembled (source_of text number at op d (operand_of pr minus v span tag)) ≡ Ok (object_of_word w)
instruction_alone text number at op d code bit27 pr minus v span tag w does room word =
    text_of_parts (source_of text number at op d (operand_of pr minus v span tag)) w (instruction_unrefused text number at op d code bit27 pr minus v span tag does room) (instruction_parts text number at op d code bit27 pr minus v span tag w does word)
