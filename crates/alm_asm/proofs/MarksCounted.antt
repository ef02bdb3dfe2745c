-- The size of the symbol section counts the relocations of lines that are not refused.
use Rattle.std.proofs.Common.{◌≡◌, ℕ, ◌+◌, ◌≤◌, Bool, true, false, cond, List, [], ◌∷◌, ◌++◌, length, Option, Some, None, refl, sym, ap, ◌∙◌, arith, add-zero}
use Rattle.std.proofs.lemmas.List.{length-append}
use Rattle.alm_parse.specs.declared.args.Arg.{Arg}
use Rattle.alm_parse.specs.declared.args.Arg.TheVariants as arg
use Rattle.alm_parse.specs.declared.deed.LineEffect.{LineEffect}
use Rattle.alm_parse.specs.declared.deed.LineEffect.TheVariants as deed
use Rattle.alm_parse.specs.declared.line.Line36.{Line36}
use Rattle.obj36_parts.specs.declared.section.Section.{Section}
use Rattle.obj36_parts.specs.declared.section.Section.TheVariants.{Text, Linkage, Symbol, Static}
use Rattle.obj36_parts.specs.declared.definition.Named.{Named}
use Rattle.obj36_parts.specs.Fields.{RelocFields}
use Rattle.obj36_parts.specs.Sections.{is_text_section, same_section}
use Rattle.alm_lines.specs.Sums.{kind_of}
use Rattle.alm_lines.specs.Arguments.{first_arg, second_arg, terms_in}
use Rattle.alm_lines.specs.Spots.{next_line_spot}
use Rattle.alm_lines.specs.SpotFields.{LocationCounter}
use Rattle.alm_lines.specs.Expressions.{sum_of, expression_place}
use Rattle.alm_lines.specs.Refusals.{refusal_at}
use Rattle.alm_lines.specs.Values.{has_value}
use Rattle.alm_lines.specs.declared.sum.Sum.{Sum}
use Rattle.alm_lines.specs.declared.sum.Kind.{Kind}
use Rattle.alm_lines.specs.declared.sum.Kind.TheVariants.{Absolute, Moved, Inexpressible}
use Rattle.alm_lines.specs.declared.refusal.AlmCode.TheVariants.{E7}
use Rattle.alm_lines.specs.declared.refusal.ValueField.TheVariants.{Half}
use Rattle.alm_asm.specs.Relocations.{relocation_of_part, operand_part, operand_kind, operand_relocation, with_line_relocations, relocations_after, relocations_from}
use Rattle.alm_asm.specs.Definitions.{definitions_after}
use Rattle.alm_asm.specs.LineRefusals.{refusal_unless, op_place, external_place, internal_operand_field, internal_operand_refusal, operand_refusal, refusal_of_effect, lines_refusal}
use Rattle.alm_asm.specs.Assembly.{static_section}
use Rattle.alm_asm.specs.Growth.{relocation_count, operand_count, half_count, line_relocation_count, growth_after_line}
use Rattle.alm_asm.specs.declared.growth.Growth.{Growth}
use Rattle.alm_asm.specs.declared.tables.Tables.{Tables}
use Rattle.alm_asm.proofs.Unrefused.{sooner_none, line_parts, head_line, other_lines}
use Rattle.alm_asm.proofs.Valued.{AreKnown, valued}
use Rattle.alm_asm.proofs.ExternalsStand.{expression_none}
use Rattle.alm_asm.proofs.Grown.{growth_from, line_symbol}

-- ---- a line

-- An expression with a value is counted exactly if it has a relocation.
mark_counted : (spot : LocationCounter) (part : ℕ) (kind : Kind) (b : Bool) → b ≡ true → length (relocation_of_part spot part kind) ≡ relocation_count b kind
mark_counted spot part Absolute b e = refl
mark_counted spot part (Moved target) b e = sym (ap (λ v. cond v 1 0) e)
mark_counted spot part Inexpressible b e = refl

operand_counted : (text : List ℕ) (tables : Tables) (spot : LocationCounter) (line : Line36) (given : Option Arg) → AreKnown tables.symbols → operand_refusal text tables spot line given ≡ None
    → length (operand_relocation text tables.symbols spot given) ≡ operand_count text tables.symbols spot given
operand_counted text tables spot line (Some (arg.Symbol span)) known none = refl
operand_counted text tables spot line (Some (arg.Number word)) known none = refl
operand_counted text tables spot line (Some (arg.Chars words)) known none = refl
operand_counted text tables spot line (Some (arg.Plain terms)) known none = refl
operand_counted text tables spot line (Some (arg.Operand pr None entry terms tag)) known none =
    mark_counted spot (operand_part pr None) (kind_of (sum_of text tables.symbols spot terms)) (has_value text tables.symbols spot terms (internal_operand_field pr) true)
    (valued text tables.symbols spot line terms (expression_place terms) (internal_operand_field pr) true known none)
operand_counted text tables spot line (Some (arg.Operand pr (Some segment) entry terms tag)) known none =
    let free = expression_none text tables spot line segment entry terms tag none in
    mark_counted spot (operand_part pr (Some segment)) (operand_kind (Some segment) (sum_of text tables.symbols spot terms)) (has_value text tables.symbols spot terms Half false)
    (valued text tables.symbols spot line terms (external_place segment entry) Half false known free)
operand_counted text tables spot line None known none = refl

deed_counted : (text : List ℕ) (tables : Tables) (spot : LocationCounter) (line : Line36) (marks : List RelocFields) (d : LineEffect) → AreKnown tables.symbols → refusal_of_effect text tables spot line d ≡ None
    → length (with_line_relocations text tables.symbols spot marks line.args d) ≡ length marks + line_relocation_count text tables.symbols spot line.args d
deed_counted text tables spot line marks deed.Nothing known none = sym (add-zero (length marks))
deed_counted text tables spot line marks (deed.Instruction code bit27) known none =
    let given = first_arg line.args in
    let free = (sooner_none (refusal_unless (is_text_section spot.section) (refusal_at line (op_place line.op) E7)) (operand_refusal text tables spot line given) none).1 in
    length-append marks (operand_relocation text tables.symbols spot given) ∙ ap (λ n. length marks + n) (operand_counted text tables spot line given known free)
deed_counted text tables spot line marks deed.Entry known none = sym (add-zero (length marks))
deed_counted text tables spot line marks deed.Segdef known none = sym (add-zero (length marks))
deed_counted text tables spot line marks deed.Equ known none = sym (add-zero (length marks))
deed_counted text tables spot line marks deed.Use known none = sym (add-zero (length marks))
deed_counted text tables spot line marks deed.Words known none = sym (add-zero (length marks))
deed_counted text tables spot line marks deed.Zero known none =
    let left = terms_in (first_arg line.args) in
    let right = terms_in (second_arg line.args) in
    let free = sooner_none (internal_operand_refusal text tables spot line Half left) (internal_operand_refusal text tables spot line Half right) none in
    let a = relocation_of_part spot 0 (kind_of (sum_of text tables.symbols spot left)) in
    let b = relocation_of_part spot 1 (kind_of (sum_of text tables.symbols spot right)) in
    let first : length a ≡ half_count text tables.symbols spot left =
    mark_counted spot 0 (kind_of (sum_of text tables.symbols spot left)) (has_value text tables.symbols spot left Half true)
    (valued text tables.symbols spot line left (expression_place left) Half true known free.0) in
    let second : length b ≡ half_count text tables.symbols spot right =
    mark_counted spot 1 (kind_of (sum_of text tables.symbols spot right)) (has_value text tables.symbols spot right Half true)
    (valued text tables.symbols spot line right (expression_place right) Half true known free.1) in
    let whole = length-append (marks ++ a) b in
    let part = length-append marks a in
    omega arith
deed_counted text tables spot line marks deed.Block known none = sym (add-zero (length marks))
deed_counted text tables spot line marks deed.Even known none = sym (add-zero (length marks))
deed_counted text tables spot line marks deed.Bound known none = sym (add-zero (length marks))

-- ---- the lines

-- the number of relocations of lines in a section
counts_in : List ℕ → List (List ℕ × Sum) → Section → LocationCounter → List Line36 → ℕ
counts_in text symbols section spot [] = 0
counts_in text symbols section spot (line ∷ lines) =
    cond (same_section spot.section section) (line_relocation_count text symbols spot line.args line.deed) 0 + counts_in text symbols section (next_line_spot text spot line) lines

after_by : (b : Bool) (marks more : List RelocFields) (n : ℕ) → length more ≡ length marks + n → length (cond b more marks) ≡ length marks + cond b n 0
after_by true marks more n e = e
after_by false marks more n e = sym (add-zero (length marks))

after_counted : (text : List ℕ) (tables : Tables) (section : Section) (marks : List RelocFields) (spot : LocationCounter) (line : Line36) → AreKnown tables.symbols
    → refusal_of_effect text tables spot line line.deed ≡ None
    → length (relocations_after text tables.symbols section marks spot line) ≡ length marks + cond (same_section spot.section section) (line_relocation_count text tables.symbols spot line.args line.deed) 0
unfolding relocations_after
after_counted text tables section marks spot line known none =
    after_by (same_section spot.section section) marks (with_line_relocations text tables.symbols spot marks line.args line.deed) (line_relocation_count text tables.symbols spot line.args line.deed)
    (deed_counted text tables spot line marks line.deed known none)

from_counted : (text : List ℕ) (tables : Tables) (section : Section) (done : List Named) (marks : List RelocFields) (spot : LocationCounter) (lines : List Line36) → AreKnown tables.symbols
    → lines_refusal text tables done spot lines ≡ None
    → length (relocations_from text tables.symbols section marks spot lines) ≡ length marks + counts_in text tables.symbols section spot lines
unfolding relocations_from counts_in
from_counted text tables section done marks spot [] known none = sym (add-zero (length marks))
from_counted text tables section done marks spot (line ∷ lines) known none =
    let own = (line_parts text tables done spot line (head_line text tables done spot line lines none)).1 in
    let more = after_counted text tables section marks spot line known own in
    let rest = from_counted text tables section (definitions_after text tables.symbols done line) (relocations_after text tables.symbols section marks spot line) (next_line_spot text spot line) lines known
    (other_lines text tables done spot line lines none) in
    omega arith

-- A line is in one section.
once : (newer : Bool) (section : Section) (n : ℕ) → cond (same_section section Text) n 0 + cond (same_section section (static_section newer)) n 0 ≤ n
once true Text n = omega arith
once true Linkage n = omega arith
once true Symbol n = omega arith
once true Static n = omega arith
once false Text n = omega arith
once false Linkage n = omega arith
once false Symbol n = omega arith
once false Static n = omega arith

grown_counts : (text : List ℕ) (symbols : List (List ℕ × Sum)) (newer : Bool) (g : Growth) (spot : LocationCounter) (lines : List Line36)
    → g.symbol + counts_in text symbols Text spot lines + counts_in text symbols (static_section newer) spot lines ≤ (growth_from text symbols g spot lines).symbol
unfolding growth_from counts_in
grown_counts text symbols newer g spot [] = omega arith
grown_counts text symbols newer g spot (line ∷ lines) =
    let own = line_symbol text symbols spot g line in
    let one = once newer spot.section (line_relocation_count text symbols spot line.args line.deed) in
    let rest = grown_counts text symbols newer (growth_after_line text symbols spot g line) (next_line_spot text spot line) lines in
    omega arith

-- Each relocation is counted.
pub marks_counted : (text : List ℕ) (tables : Tables) (newer : Bool) (g : Growth) (spot : LocationCounter) (lines : List Line36) → AreKnown tables.symbols → lines_refusal text tables [] spot lines ≡ None
    → g.symbol + length (relocations_from text tables.symbols (static_section newer) (relocations_from text tables.symbols Text [] spot lines) spot lines) ≤ (growth_from text tables.symbols g spot lines).symbol
marks_counted text tables newer g spot lines known none =
    let words = from_counted text tables Text [] [] spot lines known none in
    let statics = from_counted text tables (static_section newer) [] (relocations_from text tables.symbols Text [] spot lines) spot lines known none in
    let counted = grown_counts text tables.symbols newer g spot lines in
    omega arith
