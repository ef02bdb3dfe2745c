-- The properties of a value are those of the sum of its expression.
use Rattle.std.proofs.Common.{◌≡◌, ℕ, ◌+◌, Bool, true, false, List, [], ◌∷◌, Some, None, refl, ap, ◌∙◌, zero-add}
use Rattle.std.specs.Prelude.{not, option_map, if◌then◌else◌}
use Rattle.alm_tokens.specs.declared.expression.Term.{Term}
use Rattle.alm_parse.specs.declared.line.Line36.{Line36}
use Rattle.alm_lines.specs.Sums.{zero_sum, sum_plus, half_of, offset_of, kind_of}
use Rattle.alm_lines.specs.Expressions.{with_terms, sum_of, term_sum, is_defined, is_symbol_atom, is_undefined, first_undefined_place}
use Rattle.alm_lines.specs.Refusals.{is_expressible, expression_refusal}
use Rattle.alm_lines.specs.Values.{has_value, value_of_sum, value_of_expression, is_usable_value, evaluated_refusal}
use Rattle.alm_lines.specs.declared.sum.Sum.{Sum}
use Rattle.alm_lines.specs.declared.sum.Kind.TheVariants.{Absolute}
use Rattle.alm_lines.specs.declared.refusal.ValueField.{ValueField}
use Rattle.alm_lines.specs.declared.refusal.ValueField.TheVariants.{Half, Offset}
use Rattle.alm_lines.specs.SpotFields.{LocationCounter}
use Rattle.alm_lines.specs.ValueFields.{ValueFields}

-- ---- an expression of one term

begun : (s : Sum) → sum_plus zero_sum s ≡ s
unfolding sum_plus
begun s =
    λ i. record {
      value = record { up = zero-add s.value.up i; down = zero-add s.value.down i };
      text = record { up = zero-add s.text.up i; down = zero-add s.text.down i };
      inner = record { up = zero-add s.inner.up i; down = zero-add s.inner.down i };
      outer = record { up = zero-add s.outer.up i; down = zero-add s.outer.down i };
      unknown = s.unknown;
    }

pub sum_alone : (text : List ℕ) (symbols : List (List ℕ × Sum)) (spot : LocationCounter) (term : Term) → sum_of text symbols spot (term ∷ []) ≡ term_sum text symbols spot term
unfolding with_terms
sum_alone text symbols spot term = begun (term_sum text symbols spot term)

alone_by : (s d : Bool) (term : Term) → option_map (λ (t : Term). t.span.from) (if (if s then not d else false) then Some term else None)
    ≡ (if s then (if d then None else Some term.span.from) else None)
alone_by true true term = refl
alone_by true false term = refl
alone_by false d term = refl

pub undefined_alone : (text : List ℕ) (symbols : List (List ℕ × Sum)) (term : Term)
    → first_undefined_place text symbols (term ∷ []) ≡ (if is_symbol_atom term.what then (if is_defined text symbols term.span then None else Some term.span.from) else None)
unfolding first_undefined_place is_undefined
undefined_alone text symbols term = alone_by (is_symbol_atom term.what) (is_defined text symbols term.span) term

-- ---- properties of a value

same_value : (text : List ℕ) (symbols : List (List ℕ × Sum)) (spot : LocationCounter) (terms : List Term) (room : ValueField) (may_move : Bool)
    → is_usable_value room may_move (value_of_expression text symbols spot terms) ≡ has_value text symbols spot terms room may_move
unfolding value_of_expression has_value is_expressible
same_value text symbols spot terms Half may_move = refl
same_value text symbols spot terms Offset may_move = refl

pub value_given : (text : List ℕ) (symbols : List (List ℕ × Sum)) (spot : LocationCounter) (terms : List Term) (room : ValueField) (may_move : Bool) (value : ValueFields)
    → value ≡ value_of_expression text symbols spot terms → is_usable_value room may_move value ≡ has_value text symbols spot terms room may_move
value_given text symbols spot terms room may_move value e =
    ap (is_usable_value room may_move) e ∙ same_value text symbols spot terms room may_move

same_refused : (text : List ℕ) (symbols : List (List ℕ × Sum)) (spot : LocationCounter) (line : Line36) (terms : List Term) (place : ℕ) (room : ValueField) (may_move : Bool)
    → evaluated_refusal line (value_of_expression text symbols spot terms) place room may_move ≡ expression_refusal text symbols spot line terms place room may_move
unfolding value_of_expression expression_refusal is_expressible
same_refused text symbols spot line terms place Half may_move = refl
same_refused text symbols spot line terms place Offset may_move = refl

pub refused_given : (text : List ℕ) (symbols : List (List ℕ × Sum)) (spot : LocationCounter) (line : Line36) (terms : List Term) (place : ℕ) (room : ValueField) (may_move : Bool) (value : ValueFields)
    → value ≡ value_of_expression text symbols spot terms → evaluated_refusal line value place room may_move ≡ expression_refusal text symbols spot line terms place room may_move
refused_given text symbols spot line terms place room may_move value e =
    ap (λ v. evaluated_refusal line v place room may_move) e ∙ same_refused text symbols spot line terms place room may_move

pub kind_given : (text : List ℕ) (symbols : List (List ℕ × Sum)) (spot : LocationCounter) (terms : List Term) (value : ValueFields)
    → value ≡ value_of_expression text symbols spot terms → value.kind ≡ kind_of (sum_of text symbols spot terms)
unfolding value_of_expression
kind_given text symbols spot terms value e = ap (λ (v : ValueFields). v.kind) e

-- ---- no terms

pub no_value_is : (value : ValueFields)
    → value ≡ record { half = 0; undefined = None; offset = 0; kind = Absolute; fits_half = true; fits_offset = true; unknown = false }
    → value ≡ value_of_sum zero_sum None
unfolding half_of offset_of kind_of
no_value_is value e = e

pub no_terms : (text : List ℕ) (symbols : List (List ℕ × Sum)) (spot : LocationCounter) → value_of_expression text symbols spot [] ≡ value_of_sum zero_sum None
unfolding value_of_expression with_terms first_undefined_place
no_terms text symbols spot = refl
