-- The values of expressions.
use Rattle.std.specs.Prelude.{ℕ, Bool, false, not, ◌&&◌, ◌||◌, is_some, List, Option}
use Rattle.alm_tokens.specs.declared.expression.Term.{Term}
use Rattle.alm_parse.specs.declared.line.Line36.{Line36}
use Rattle.alm_lines.specs.Sums.{half_of, offset_of, kind_of}
use Rattle.alm_lines.specs.Expressions.{sum_of, first_undefined_place}
use Rattle.alm_lines.specs.Refusals.{fits_field, is_kind_allowed, is_expressible}
use Rattle.alm_lines.specs.Refusals.{refusal_unless_expressible}
use Rattle.alm_lines.specs.declared.sum.Sum.{Sum}
use Rattle.alm_lines.specs.declared.refusal.ValueField.{ValueField}
use Rattle.alm_lines.specs.declared.refusal.ValueField.TheVariants.{Half, Offset}
use Rattle.alm_lines.specs.declared.refusal.AlmRefusal.{AlmRefusal}
use Rattle.alm_lines.specs.SpotFields.{LocationCounter}
use Rattle.alm_lines.specs.ValueFields.{ValueFields}

-- the value of a sum; `undefined` is the index of the first symbol that is not defined
abbrev pub value_of_sum : Sum → Option ℕ → ValueFields
value_of_sum sum undefined =
    record {
      half = half_of sum.value;
      undefined = undefined;
      offset = offset_of sum.value;
      kind = kind_of sum;
      fits_half = fits_field Half sum.value;
      fits_offset = fits_field Offset sum.value;
      unknown = sum.unknown;
    }

-- the value of an expression
unfoldable pub value_of_expression :
    List ℕ → List (List ℕ × Sum) → LocationCounter → List Term → ValueFields
value_of_expression text symbols spot terms =
    value_of_sum (sum_of text symbols spot terms) (first_undefined_place text symbols terms)

-- whether a value fits a field
abbrev pub fits_value_field : ValueField → ValueFields → Bool
fits_value_field Half value = value.fits_half
fits_value_field Offset value = value.fits_offset

-- whether a value fits a field and an object can express it there
abbrev pub value_is_expressible : ValueField → Bool → ValueFields → Bool
value_is_expressible room may_move value =
    fits_value_field room value && is_kind_allowed may_move value.kind

-- whether an expression with this value is not refused, and does not depend on a refused `equ`
abbrev pub is_usable_value : ValueField → Bool → ValueFields → Bool
is_usable_value room may_move value =
    not (is_some value.undefined) && not value.unknown && value_is_expressible room may_move value

-- Whether an expression has a value: it is not refused, and it does not depend on a refused `equ`.
unfoldable pub has_value :
    List ℕ → List (List ℕ × Sum) → LocationCounter → List Term → ValueField → Bool → Bool
has_value text symbols spot terms room may_move =
    let sum = sum_of text symbols spot terms in
    not (is_some (first_undefined_place text symbols terms)) && not sum.unknown
    && is_expressible room may_move sum

-- whether an expression has a value and is a number that fits half a word
abbrev pub has_number : List ℕ → List (List ℕ × Sum) → LocationCounter → List Term → Bool
has_number text symbols spot terms = has_value text symbols spot terms Half false

-- the refusal of an expression that begins at `place` and has this value
abbrev pub evaluated_refusal : Line36 → ValueFields → ℕ → ValueField → Bool → Option AlmRefusal
evaluated_refusal line value place room may_move =
    refusal_unless_expressible line value.undefined place
    (value.unknown || value_is_expressible room may_move value)
