-- If no definition of a symbol is refused, an expression that is not refused has a value.
use Rattle.std.proofs.Common.{◌≡◌, ℕ, Bool, true, false, cond, not, ◌&&◌, ◌||◌, List, [], ◌∷◌, Option, Some, None, is_some, unwrap_or, refl, sym, ap, true≢false}
use Rattle.std.proofs.lemmas.Bool.{or_from}
use Rattle.alm_tokens.specs.declared.span.Span.{Span}
use Rattle.alm_tokens.specs.declared.expression.Atom.{Atom}
use Rattle.alm_tokens.specs.declared.expression.Atom.TheVariants as atom
use Rattle.alm_tokens.specs.declared.expression.Term.{Term}
use Rattle.alm_parse.specs.declared.line.Line36.{Line36}
use Rattle.alm_parse.specs.declared.deed.LineEffect.{LineEffect}
use Rattle.alm_parse.specs.declared.deed.LineEffect.TheVariants as deed
use Rattle.obj36_parts.specs.declared.section.Section.{Section}
use Rattle.obj36_parts.specs.declared.section.Section.TheVariants.{Text, Linkage, Symbol, Static}
use Rattle.alm_lines.specs.Sums.{zero_sum, sum_plus, negated_sum}
use Rattle.alm_lines.specs.Symbols.{sum_named}
use Rattle.alm_lines.specs.Arguments.{name_at, second_arg, terms_in}
use Rattle.alm_lines.specs.Spots.{start, label_sum_in, here, next_line_spot}
use Rattle.alm_lines.specs.Expressions.{symbol_sum, atom_sum, term_sum, with_terms, sum_of, first_undefined_place, expression_place}
use Rattle.alm_lines.specs.Refusals.{is_expressible, refusal_unless_expressible, expression_refusal}
use Rattle.alm_lines.specs.Values.{has_value}
use Rattle.alm_lines.specs.Layout.{defined_symbol, defined_symbol_refusal, number_or_unknown, equ_sum, defined_symbol_sum, own_redefinition, symbols_with_defined, definition_refusal, symbols_with_labels, symbols_after, refusal_after, symbols_from, layout_refusal}
use Rattle.alm_lines.specs.SpotFields.{LocationCounter}
use Rattle.alm_lines.specs.declared.sum.Sum.{Sum}
use Rattle.alm_lines.specs.declared.refusal.AlmRefusal.{AlmRefusal}
use Rattle.alm_lines.specs.declared.refusal.ValueField.{ValueField}
use Rattle.alm_lines.specs.declared.refusal.ValueField.TheVariants.{Half}
use Rattle.alm_asm.proofs.EachSymbol.{Each, each_of_none, each_with_labels, each_with_own}
use Rattle.alm_asm.proofs.SymbolsMean.{after_parts, layout_first}
use Rattle.alm_asm.proofs.Unrefused.{sooner_none}

-- It does not depend on a refused `equ`.
abbrev IsKnown : Sum → Type 0
IsKnown sum = sum.unknown ≡ false

abbrev pub AreKnown : List (List ℕ × Sum) → Type 0
AreKnown symbols = Each IsKnown symbols

-- ---- sums

here_known : (section : Section) (spot : LocationCounter) → IsKnown (label_sum_in section spot)
here_known Text spot = refl
here_known Linkage spot = refl
here_known Symbol spot = refl
here_known Static spot = refl

unwrapped_known : (found : Option Sum) → ((sum : Sum) → found ≡ Some sum → IsKnown sum) → IsKnown (unwrap_or found zero_sum)
unwrapped_known None h = refl
unwrapped_known (Some sum) h = h sum refl

symbol_known : (text : List ℕ) (symbols : List (List ℕ × Sum)) (span : Span) → AreKnown symbols → IsKnown (symbol_sum text symbols span)
unfolding symbol_sum
symbol_known text symbols span all = unwrapped_known (sum_named (name_at text span) symbols) (all (name_at text span))

atom_known : (text : List ℕ) (symbols : List (List ℕ × Sum)) (spot : LocationCounter) (span : Span) (a : Atom) → AreKnown symbols → IsKnown (atom_sum text symbols spot span a)
atom_known text symbols spot span (atom.Number n) all = refl
atom_known text symbols spot span atom.Symbol all = symbol_known text symbols span all
atom_known text symbols spot span atom.Here all = here_known spot.section spot

signed_known : (minus : Bool) (sum : Sum) → IsKnown sum → IsKnown (cond minus (negated_sum sum) sum)
unfolding negated_sum
signed_known true sum e = e
signed_known false sum e = e

term_known : (text : List ℕ) (symbols : List (List ℕ × Sum)) (spot : LocationCounter) (term : Term) → AreKnown symbols → IsKnown (term_sum text symbols spot term)
unfolding term_sum
term_known text symbols spot term all =
    signed_known term.minus (atom_sum text symbols spot term.span term.what) (atom_known text symbols spot term.span term.what all)

plus_known : (a b : Sum) → IsKnown a → IsKnown b → IsKnown (sum_plus a b)
unfolding sum_plus
plus_known a b e f = or_from a.unknown b.unknown e f

added_known : (text : List ℕ) (symbols : List (List ℕ × Sum)) (spot : LocationCounter) (sum : Sum) (terms : List Term) → AreKnown symbols → IsKnown sum → IsKnown (with_terms text symbols spot sum terms)
unfolding with_terms
added_known text symbols spot sum [] all e = e
added_known text symbols spot sum (term ∷ terms) all e =
    added_known text symbols spot (sum_plus sum (term_sum text symbols spot term)) terms all (plus_known sum (term_sum text symbols spot term) e (term_known text symbols spot term all))

-- ---- an expression

said_by : (line : Line36) (missing : Option ℕ) (place : ℕ) (said : Bool) → refusal_unless_expressible line missing place said ≡ None → (is_some missing ≡ false) × (said ≡ true)
said_by line (Some at) place said e = absurd (true≢false (ap is_some e))
said_by line None place true e = (refl, refl)
said_by line None place false e = absurd (true≢false (ap is_some e))

valued_by : (missing unknown said : Bool) → missing ≡ false → unknown ≡ false → (unknown || said) ≡ true → (not missing && not unknown && said) ≡ true
valued_by true unknown said m u s = absurd (true≢false m)
valued_by false true said m u s = absurd (true≢false u)
valued_by false false said m u s = s

pub valued : (text : List ℕ) (symbols : List (List ℕ × Sum)) (spot : LocationCounter) (line : Line36) (terms : List Term) (place : ℕ) (room : ValueField) (may_move : Bool) → AreKnown symbols
    → expression_refusal text symbols spot line terms place room may_move ≡ None → has_value text symbols spot terms room may_move ≡ true
unfolding expression_refusal has_value
valued text symbols spot line terms place room may_move all e =
    let sum = sum_of text symbols spot terms in
    let missing = first_undefined_place text symbols terms in
    let parts = said_by line missing place (sum.unknown || is_expressible room may_move sum) e in
    valued_by (is_some missing) sum.unknown (is_expressible room may_move sum) parts.0 (added_known text symbols spot zero_sum terms all refl) parts.1

-- ---- symbols

value_known : (b : Bool) (sum : Sum) → b ≡ true → IsKnown (number_or_unknown b sum)
value_known true sum e = refl
value_known false sum e = absurd (true≢false (sym e))

own_known : (text : List ℕ) (symbols : List (List ℕ × Sum)) (spot : LocationCounter) (line : Line36) (d : LineEffect) → AreKnown symbols → defined_symbol_refusal text symbols spot line d ≡ None
    → IsKnown (defined_symbol_sum text symbols spot line d)
unfolding equ_sum
own_known text symbols spot line deed.Nothing all e = here_known spot.section spot
own_known text symbols spot line (deed.Instruction code bit27) all e = here_known spot.section spot
own_known text symbols spot line deed.Entry all e = here_known spot.section spot
own_known text symbols spot line deed.Segdef all e = here_known spot.section spot
own_known text symbols spot line deed.Equ all e =
    let terms = terms_in (second_arg line.args) in
    value_known (has_value text symbols spot terms Half false) (sum_of text symbols spot terms) (valued text symbols spot line terms (expression_place terms) Half false all e)
own_known text symbols spot line deed.Use all e = here_known spot.section spot
own_known text symbols spot line deed.Words all e = here_known spot.section spot
own_known text symbols spot line deed.Zero all e = here_known spot.section spot
own_known text symbols spot line deed.Block all e = here_known spot.section spot
own_known text symbols spot line deed.Even all e = here_known spot.section spot
own_known text symbols spot line deed.Bound all e = here_known spot.section spot

line_known : (text : List ℕ) (first : Option AlmRefusal) (symbols : List (List ℕ × Sum)) (spot : LocationCounter) (line : Line36) → AreKnown symbols → refusal_after text first symbols spot line ≡ None
    → AreKnown (symbols_after text symbols spot line)
unfolding symbols_after symbols_with_defined definition_refusal
line_known text first symbols spot line all e =
    let so_far = symbols_with_labels text symbols spot line in
    let known = each_with_labels IsKnown text (here spot) symbols line.labels all (here_known spot.section spot) in
    let own = sooner_none (own_redefinition text line so_far (defined_symbol line.deed line.args)) (defined_symbol_refusal text so_far spot line line.deed) (after_parts text first symbols spot line e).1 in
    each_with_own IsKnown text (defined_symbol_sum text so_far spot line line.deed) so_far (defined_symbol line.deed line.args) known (own_known text so_far spot line line.deed known own.1)

lines_known : (text : List ℕ) (first : Option AlmRefusal) (symbols : List (List ℕ × Sum)) (spot : LocationCounter) (lines : List Line36) → AreKnown symbols
    → layout_refusal text first symbols spot lines ≡ None → AreKnown (symbols_from text symbols spot lines)
unfolding layout_refusal symbols_from
lines_known text first symbols spot [] all e = all
lines_known text first symbols spot (line ∷ lines) all e =
    let free = layout_first text (refusal_after text first symbols spot line) (symbols_after text symbols spot line) (next_line_spot text spot line) lines e in
    lines_known text (refusal_after text first symbols spot line) (symbols_after text symbols spot line) (next_line_spot text spot line) lines (line_known text first symbols spot line all free) e

pub symbols_known : (text : List ℕ) (lines : List Line36) → layout_refusal text None [] start lines ≡ None → AreKnown (symbols_from text [] start lines)
symbols_known text lines e = lines_known text None [] start lines (each_of_none IsKnown) e
