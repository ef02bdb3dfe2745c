-- In lines that are not refused, each symbol has the sum of its definition.
use Rattle.std.proofs.Common.{◌≡◌, ℕ, Bool, true, false, cond, List, [], ◌∷◌, ◌++◌, Option, Some, None, is_some, refl, sym, ap, ◌∙◌, true≢false}
use Rattle.std.specs.Map.{lookup}
use Rattle.obj36_parts.proofs.SizeLaws.{same_self}
use Rattle.alm_tokens.specs.declared.span.Span.{Span}
use Rattle.alm_parse.specs.declared.line.Line36.{Line36}
use Rattle.alm_lines.specs.Symbols.{same_name, sum_named, with_symbol}
use Rattle.alm_lines.specs.Arguments.{name_at}
use Rattle.alm_lines.specs.Spots.{start, here, next_line_spot, end_of}
use Rattle.alm_lines.specs.Refusals.{earlier_refusal, refusal_at}
use Rattle.alm_lines.specs.Layout.{redefinition, with_labels, labels_refusal, defined_symbol, defined_symbol_refusal, defined_symbol_sum, with_defined_symbol, own_redefinition, symbols_with_defined, definition_refusal, over_limit_refusal, symbols_with_labels, symbols_after, refusal_after, symbols_from, layout_refusal}
use Rattle.alm_lines.specs.declared.sum.Sum.{Sum}
use Rattle.alm_lines.specs.SpotFields.{LocationCounter}
use Rattle.alm_lines.specs.Expressions.{is_defined}
use Rattle.alm_lines.specs.declared.refusal.AlmCode.TheVariants.{E5}
use Rattle.alm_lines.specs.declared.refusal.AlmRefusal.{AlmRefusal}
use Rattle.alm_asm.proofs.Unrefused.{sooner_none}
use Rattle.alm_asm.proofs.SymbolsStand.{labels_stay, own_stays, lines_stay}

-- ---- refusals of symbols

pub some_none : (b : Bool) (refusal : AlmRefusal) → cond b (Some refusal) None ≡ None → b ≡ false
some_none true refusal e = absurd (true≢false (ap is_some e))
some_none false refusal e = refl

fresh : (text : List ℕ) (line : Line36) (symbols : List (List ℕ × Sum)) (span : Span) → redefinition text line symbols span ≡ None → is_some (sum_named (name_at text span) symbols) ≡ false
unfolding redefinition is_defined
fresh text line symbols span e = some_none (is_some (sum_named (name_at text span) symbols)) (refusal_at line span.from E5) e

labels_first : (text : List ℕ) (line : Line36) (its : Sum) (symbols : List (List ℕ × Sum)) (first : Option AlmRefusal) (spans : List Span) → labels_refusal text line its symbols first spans ≡ None → first ≡ None
unfolding labels_refusal
labels_first text line its symbols first [] e = e
labels_first text line its symbols first (span ∷ spans) e =
    (sooner_none first (redefinition text line symbols span) (labels_first text line its (with_symbol symbols (name_at text span) its) (earlier_refusal first (redefinition text line symbols span)) spans e)).0

pub after_parts : (text : List ℕ) (first : Option AlmRefusal) (symbols : List (List ℕ × Sum)) (spot : LocationCounter) (line : Line36) → refusal_after text first symbols spot line ≡ None
    → (labels_refusal text line (here spot) symbols first line.labels ≡ None) × (definition_refusal text (symbols_with_labels text symbols spot line) spot line line.deed ≡ None)
unfolding refusal_after
after_parts text first symbols spot line e =
    sooner_none (labels_refusal text line (here spot) symbols first line.labels) (definition_refusal text (symbols_with_labels text symbols spot line) spot line line.deed)
    (sooner_none (earlier_refusal (labels_refusal text line (here spot) symbols first line.labels) (definition_refusal text (symbols_with_labels text symbols spot line) spot line line.deed)) (over_limit_refusal line (next_line_spot text spot line)) e).0

pub layout_first : (text : List ℕ) (first : Option AlmRefusal) (symbols : List (List ℕ × Sum)) (spot : LocationCounter) (lines : List Line36) → layout_refusal text first symbols spot lines ≡ None → first ≡ None
unfolding layout_refusal
layout_first text first symbols spot [] e = e
layout_first text first symbols spot (line ∷ lines) e =
    labels_first text line (here spot) symbols first line.labels
    (after_parts text first symbols spot line (layout_first text (refusal_after text first symbols spot line) (symbols_after text symbols spot line) (next_line_spot text spot line) lines e)).0

-- ---- a symbol has the sum of its definition

ends_found : (b : Bool) (first its : Sum) (rest more : Option Sum) → is_some (cond b (Some first) rest) ≡ false → (is_some rest ≡ false → more ≡ Some its) → cond b (Some first) more ≡ Some its
ends_found true first its rest more e next = absurd (true≢false e)
ends_found false first its rest more e next = next e

found_last : (name : List ℕ) (symbols : List (List ℕ × Sum)) (its : Sum) → is_some (lookup (same_name name) symbols) ≡ false → lookup (same_name name) (symbols ++ (name, its) ∷ []) ≡ Some its
found_last name [] its e = ap (λ b. cond b (Some its) None) (same_self name)
found_last name (symbol ∷ symbols) its e =
    ends_found (same_name name symbol.0) symbol.1 its (lookup (same_name name) symbols) (lookup (same_name name) (symbols ++ (name, its) ∷ [])) e (found_last name symbols its)

defined : (symbols : List (List ℕ × Sum)) (name : List ℕ) (its : Sum) → is_some (sum_named name symbols) ≡ false → sum_named name (with_symbol symbols name its) ≡ Some its
unfolding sum_named with_symbol
defined symbols name its e =
    ap (λ b. lookup (same_name name) (cond b symbols (symbols ++ (name, its) ∷ []))) e ∙ found_last name symbols its e

label_means : (text : List ℕ) (line : Line36) (its : Sum) (symbols : List (List ℕ × Sum)) (first : Option AlmRefusal) (before : List Span) (span : Span) (after : List Span)
    → labels_refusal text line its symbols first (before ++ span ∷ after) ≡ None → sum_named (name_at text span) (with_labels text its symbols (before ++ span ∷ after)) ≡ Some its
unfolding labels_refusal with_labels
label_means text line its symbols first [] span after e =
    let none = labels_first text line its (with_symbol symbols (name_at text span) its) (earlier_refusal first (redefinition text line symbols span)) after e in
    let own = fresh text line symbols span (sooner_none first (redefinition text line symbols span) none).1 in
    labels_stay text (name_at text span) its its (with_symbol symbols (name_at text span) its) after (defined symbols (name_at text span) its own)
label_means text line its symbols first (other ∷ before) span after e =
    label_means text line its (with_symbol symbols (name_at text other) its) (earlier_refusal first (redefinition text line symbols other)) before span after e

own_means : (text : List ℕ) (line : Line36) (symbols : List (List ℕ × Sum)) (own : Option Span) (its : Sum) (span : Span) → own ≡ Some span → own_redefinition text line symbols own ≡ None
    → sum_named (name_at text span) (with_defined_symbol text symbols own its) ≡ Some its
own_means text line symbols own its span e none =
    let here : redefinition text line symbols span ≡ None = sym (ap (own_redefinition text line symbols) e) ∙ none in
    ap (λ (o : Option Span). sum_named (name_at text span) (with_defined_symbol text symbols o its)) e ∙ defined symbols (name_at text span) its (fresh text line symbols span here)

-- ---- in a line

labels_of_line : (text : List ℕ) (first : Option AlmRefusal) (symbols : List (List ℕ × Sum)) (spot : LocationCounter) (line : Line36) (before : List Span) (span : Span) (after : List Span)
    → refusal_after text first symbols spot line ≡ None → line.labels ≡ before ++ span ∷ after → sum_named (name_at text span) (symbols_after text symbols spot line) ≡ Some (here spot)
unfolding symbols_after symbols_with_defined
labels_of_line text first symbols spot line before span after e split =
    let labels = (after_parts text first symbols spot line e).0 in
    let split_labels : labels_refusal text line (here spot) symbols first (before ++ span ∷ after) ≡ None = sym (ap (labels_refusal text line (here spot) symbols first) split) ∙ labels in
    let means : sum_named (name_at text span) (symbols_with_labels text symbols spot line) ≡ Some (here spot) =
    ap (λ (l : List Span). sum_named (name_at text span) (with_labels text (here spot) symbols l)) split ∙ label_means text line (here spot) symbols first before span after split_labels in
    own_stays text (name_at text span) (defined_symbol_sum text (symbols_with_labels text symbols spot line) spot line line.deed) (here spot) (symbols_with_labels text symbols spot line) (defined_symbol line.deed line.args) means

own_of_line : (text : List ℕ) (first : Option AlmRefusal) (symbols : List (List ℕ × Sum)) (spot : LocationCounter) (line : Line36) (span : Span)
    → refusal_after text first symbols spot line ≡ None → defined_symbol line.deed line.args ≡ Some span
    → sum_named (name_at text span) (symbols_after text symbols spot line) ≡ Some (defined_symbol_sum text (symbols_with_labels text symbols spot line) spot line line.deed)
unfolding symbols_after symbols_with_defined definition_refusal
own_of_line text first symbols spot line span e own =
    let parts = sooner_none (own_redefinition text line (symbols_with_labels text symbols spot line) (defined_symbol line.deed line.args)) (defined_symbol_refusal text (symbols_with_labels text symbols spot line) spot line line.deed) (after_parts text first symbols spot line e).1 in
    own_means text line (symbols_with_labels text symbols spot line) (defined_symbol line.deed line.args) (defined_symbol_sum text (symbols_with_labels text symbols spot line) spot line line.deed) span own parts.0

-- ---- in lines

symbols_follow : (text : List ℕ) (symbols : List (List ℕ × Sum)) (spot : LocationCounter) (above lines : List Line36)
    → symbols_from text symbols spot (above ++ lines) ≡ symbols_from text (symbols_from text symbols spot above) (end_of text spot above) lines
unfolding symbols_from end_of
symbols_follow text symbols spot [] lines = refl
symbols_follow text symbols spot (line ∷ above) lines = symbols_follow text (symbols_after text symbols spot line) (next_line_spot text spot line) above lines

refusals_follow : (text : List ℕ) (first : Option AlmRefusal) (symbols : List (List ℕ × Sum)) (spot : LocationCounter) (above lines : List Line36)
    → layout_refusal text first symbols spot (above ++ lines) ≡ layout_refusal text (layout_refusal text first symbols spot above) (symbols_from text symbols spot above) (end_of text spot above) lines
unfolding layout_refusal symbols_from end_of
refusals_follow text first symbols spot [] lines = refl
refusals_follow text first symbols spot (line ∷ above) lines =
    refusals_follow text (refusal_after text first symbols spot line) (symbols_after text symbols spot line) (next_line_spot text spot line) above lines

-- the line after some others is not refused
line_free : (text : List ℕ) (lines above : List Line36) (line : Line36) (others : List Line36) → lines ≡ above ++ line ∷ others → layout_refusal text None [] start lines ≡ None
    → refusal_after text (layout_refusal text None [] start above) (symbols_from text [] start above) (end_of text start above) line ≡ None
unfolding layout_refusal
line_free text lines above line others split e =
    let before = layout_refusal text None [] start above in
    let symbols = symbols_from text [] start above in
    let spot = end_of text start above in
    layout_first text (refusal_after text before symbols spot line) (symbols_after text symbols spot line) (next_line_spot text spot line) others
    (sym (refusals_follow text None [] start above (line ∷ others)) ∙ sym (ap (layout_refusal text None [] start) split) ∙ e)

-- the symbols that are defined after a line are still so at the end
at_end : (text name : List ℕ) (its : Sum) (lines above : List Line36) (line : Line36) (others : List Line36) → lines ≡ above ++ line ∷ others
    → sum_named name (symbols_after text (symbols_from text [] start above) (end_of text start above) line) ≡ Some its → sum_named name (symbols_from text [] start lines) ≡ Some its
unfolding symbols_from
at_end text name its lines above line others split e =
    let symbols = symbols_from text [] start above in
    let spot = end_of text start above in
    ap (λ (l : List Line36). sum_named name (symbols_from text [] start l)) split
    ∙ ap (sum_named name) (symbols_follow text [] start above (line ∷ others))
    ∙ lines_stay text name its (symbols_after text symbols spot line) (next_line_spot text spot line) others e

pub labels_mean : (text : List ℕ) (lines above : List Line36) (line : Line36) (others : List Line36) → lines ≡ above ++ line ∷ others → layout_refusal text None [] start lines ≡ None
    → (before : List Span) (span : Span) (after : List Span) → line.labels ≡ before ++ span ∷ after
    → sum_named (name_at text span) (symbols_from text [] start lines) ≡ Some (here (end_of text start above))
labels_mean text lines above line others split e before span after labels =
    let symbols = symbols_from text [] start above in
    let spot = end_of text start above in
    at_end text (name_at text span) (here spot) lines above line others split
    (labels_of_line text (layout_refusal text None [] start above) symbols spot line before span after (line_free text lines above line others split e) labels)

pub own_mean : (text : List ℕ) (lines above : List Line36) (line : Line36) (others : List Line36) → lines ≡ above ++ line ∷ others → layout_refusal text None [] start lines ≡ None
    → (span : Span) → defined_symbol line.deed line.args ≡ Some span
    → sum_named (name_at text span) (symbols_from text [] start lines)
    ≡ Some (defined_symbol_sum text (symbols_with_labels text (symbols_from text [] start above) (end_of text start above) line) (end_of text start above) line line.deed)
own_mean text lines above line others split e span own =
    let symbols = symbols_from text [] start above in
    let spot = end_of text start above in
    at_end text (name_at text span) (defined_symbol_sum text (symbols_with_labels text symbols spot line) spot line line.deed) lines above line others split
    (own_of_line text (layout_refusal text None [] start above) symbols spot line span (line_free text lines above line others split e) own)
