-- If lines are not refused, no part of them is.
use Rattle.std.proofs.Common.{◌≡◌, ℕ, Bool, true, false, List, [], ◌∷◌, ◌++◌, Option, Some, None, is_some, refl, ap, ◌∙◌, true≢false}
use Rattle.std.specs.Option.{option_or}
use Rattle.alm_parse.specs.declared.args.Arg.{Arg}
use Rattle.alm_parse.specs.declared.line.Line36.{Line36}
use Rattle.obj36_parts.specs.declared.definition.Named.{Named}
use Rattle.alm_lines.specs.Refusals.{earlier_refusal}
use Rattle.alm_asm.specs.Definitions.{definition_of_arg, defines_entries, definitions_after, arg_refusal, names_refusal, definitions_refusal}
use Rattle.alm_asm.specs.LineRefusals.{refusal_unless, refusal_of_effect, line_refusal, lines_refusal}
use Rattle.alm_parse.specs.SourceFields.{Source}
use Rattle.alm_lines.specs.Spots.{start, next_line_spot, end_of}
use Rattle.alm_lines.specs.Layout.{layout_refusal}
use Rattle.alm_asm.specs.Growth.{first_growth, growth_refusal}
use Rattle.alm_asm.specs.Assembly.{tables_of, refusal_of}
use Rattle.alm_lines.specs.declared.sum.Sum.{Sum}
use Rattle.alm_lines.specs.SpotFields.{LocationCounter}
use Rattle.alm_asm.specs.declared.tables.Tables.{Tables}
use Rattle.alm_lines.specs.declared.refusal.AlmRefusal.{AlmRefusal}

pub sooner_none : (a b : Option AlmRefusal) → earlier_refusal a b ≡ None → (a ≡ None) × (b ≡ None)
sooner_none None b e = (refl, e)
sooner_none (Some a) None e = absurd (true≢false (ap is_some e))
sooner_none (Some a) (Some b) e = absurd (true≢false (ap is_some e))

pub unless_none : (b : Bool) (refusal : AlmRefusal) → refusal_unless b refusal ≡ None → b ≡ true
unless_none true refusal e = refl
unless_none false refusal e = absurd (true≢false (ap is_some e))

pub names_first : (text : List ℕ) (symbols : List (List ℕ × Sum)) (line : Line36) (is_entry : Bool) (done : List Named) (first : Option AlmRefusal) (arguments : List Arg)
    → names_refusal text symbols line is_entry done first arguments ≡ None → first ≡ None
unfolding names_refusal
names_first text symbols line is_entry done first [] e = e
names_first text symbols line is_entry done first (arg ∷ arguments) e =
    (sooner_none first (arg_refusal text symbols line is_entry done arg) (names_first text symbols line is_entry (done ++ definition_of_arg text symbols is_entry arg) (earlier_refusal first (arg_refusal text symbols line is_entry done arg)) arguments e)).0

pub either_none : (a b : Option AlmRefusal) → option_or a b ≡ None → (a ≡ None) × (b ≡ None)
either_none None b e = (refl, e)
either_none (Some a) b e = absurd (true≢false (ap is_some e))

pub line_parts : (text : List ℕ) (tables : Tables) (done : List Named) (spot : LocationCounter) (line : Line36) → line_refusal text tables done spot line ≡ None
    → (definitions_refusal text tables.symbols line done None line.args (defines_entries line.deed) ≡ None) × (refusal_of_effect text tables spot line line.deed ≡ None)
unfolding line_refusal
line_parts text tables done spot line e =
    sooner_none (definitions_refusal text tables.symbols line done None line.args (defines_entries line.deed)) (refusal_of_effect text tables spot line line.deed) e

-- the first line is not refused, nor are the others
both_none : (text : List ℕ) (tables : Tables) (done : List Named) (spot : LocationCounter) (line : Line36) (lines : List Line36)
    → lines_refusal text tables done spot (line ∷ lines) ≡ None
    → (line_refusal text tables done spot line ≡ None) × (lines_refusal text tables (definitions_after text tables.symbols done line) (next_line_spot text spot line) lines ≡ None)
unfolding lines_refusal
both_none text tables done spot line lines e =
    either_none (line_refusal text tables done spot line) (lines_refusal text tables (definitions_after text tables.symbols done line) (next_line_spot text spot line) lines) e

pub head_line : (text : List ℕ) (tables : Tables) (done : List Named) (spot : LocationCounter) (line : Line36) (lines : List Line36)
    → lines_refusal text tables done spot (line ∷ lines) ≡ None → line_refusal text tables done spot line ≡ None
head_line text tables done spot line lines e = (both_none text tables done spot line lines e).0

pub other_lines : (text : List ℕ) (tables : Tables) (done : List Named) (spot : LocationCounter) (line : Line36) (lines : List Line36)
    → lines_refusal text tables done spot (line ∷ lines) ≡ None
    → lines_refusal text tables (definitions_after text tables.symbols done line) (next_line_spot text spot line) lines ≡ None
other_lines text tables done spot line lines e = (both_none text tables done spot line lines e).1

-- and if lines are not refused, no first part of them is
pub lines_above : (text : List ℕ) (tables : Tables) (done : List Named) (spot : LocationCounter) (above lines : List Line36)
    → lines_refusal text tables done spot (above ++ lines) ≡ None → lines_refusal text tables done spot above ≡ None
unfolding lines_refusal
lines_above text tables done spot [] lines e = refl
lines_above text tables done spot (line ∷ above) lines e =
    let parts = both_none text tables done spot line (above ++ lines) e in
    let rest : lines_refusal text tables (definitions_after text tables.symbols done line) (next_line_spot text spot line) above ≡ None = lines_above text tables (definitions_after text tables.symbols done line) (next_line_spot text spot line) above lines parts.1 in
    ap (λ r. option_or r (lines_refusal text tables (definitions_after text tables.symbols done line) (next_line_spot text spot line) above)) parts.0 ∙ rest

-- nor is the line after these
pub line_below : (text : List ℕ) (tables : Tables) (done : List Named) (spot : LocationCounter) (above : List Line36) (line : Line36) (others : List Line36)
    → lines_refusal text tables done spot (above ++ line ∷ others) ≡ None → refusal_of_effect text tables (end_of text spot above) line line.deed ≡ None
unfolding end_of
line_below text tables done spot [] line others e = (line_parts text tables done spot line (head_line text tables done spot line others e)).1
line_below text tables done spot (first ∷ above) line others e =
    line_below text tables (definitions_after text tables.symbols done first) (next_line_spot text spot first) above line others (other_lines text tables done spot first (above ++ line ∷ others) e)

-- If a source is not refused, neither are its symbols, its single lines, nor the lengths of its
-- sections.
parts_none :
    (source : Source) → refusal_of source ≡ None
    → ((layout_refusal source.text None [] start source.lines ≡ None) × (lines_refusal source.text (tables_of source.text source.lines) [] start source.lines ≡ None))
    × (growth_refusal source.text (tables_of source.text source.lines).symbols first_growth start source.lines ≡ None)
unfolding refusal_of
parts_none source none =
    let symbols = layout_refusal source.text None [] start source.lines in
    let lines = lines_refusal source.text (tables_of source.text source.lines) [] start source.lines in
    let long = growth_refusal source.text (tables_of source.text source.lines).symbols first_growth start source.lines in
    let parts = sooner_none (earlier_refusal symbols lines) long none in
    (sooner_none symbols lines parts.0, parts.1)

pub no_layout_refusal : (source : Source) → refusal_of source ≡ None → layout_refusal source.text None [] start source.lines ≡ None
no_layout_refusal source none = (parts_none source none).0.0

pub no_lines_refusal :
    (source : Source) → refusal_of source ≡ None
    → lines_refusal source.text (tables_of source.text source.lines) [] start source.lines ≡ None
no_lines_refusal source none = (parts_none source none).0.1

pub no_growth_refusal :
    (source : Source) → refusal_of source ≡ None
    → growth_refusal source.text (tables_of source.text source.lines).symbols first_growth start source.lines ≡ None
no_growth_refusal source none = (parts_none source none).1
