-- Refusals: their order in the text, and how an expression is refused.
use Rattle.std.specs.Prelude.{ℕ, ◌-◌, ◌%◌, ◌^◌, Bool, true, false, ◌&&◌, ◌||◌, nat_eq}
use Rattle.std.specs.Prelude.{nat_lt, List, Option, Some, None, if◌then◌else◌}
use Rattle.m36_word.specs.Field.{offset_limit}
use Rattle.obj36_parts.specs.ObjectSegment.{section_limit}
use Rattle.alm_tokens.specs.declared.expression.Term.{Term}
use Rattle.alm_parse.specs.Sources.{column_at}
use Rattle.alm_parse.specs.declared.line.Line36.{Line36}
use Rattle.alm_parse.specs.declared.fault.AlmFault.{AlmFault}
use Rattle.alm_parse.specs.declared.fault.AlmFault.TheVariants as fault
use Rattle.alm_lines.specs.Sums.{is_within, kind_of}
use Rattle.alm_lines.specs.Expressions.{sum_of, first_undefined_place}
use Rattle.alm_lines.specs.declared.sum.Balance.{Balance}
use Rattle.alm_lines.specs.declared.sum.Sum.{Sum}
use Rattle.alm_lines.specs.declared.sum.Kind.{Kind}
use Rattle.alm_lines.specs.declared.sum.Kind.TheVariants.{Absolute, Moved, Inexpressible}
use Rattle.alm_lines.specs.SpotFields.{LocationCounter}
use Rattle.alm_lines.specs.declared.refusal.AlmCode.{AlmCode}
use Rattle.alm_lines.specs.declared.refusal.AlmCode.TheVariants.{E5, E6, E7, E8}
use Rattle.alm_lines.specs.declared.refusal.AlmRefusal.{AlmRefusal}
use Rattle.alm_lines.specs.declared.refusal.ValueField.{ValueField}
use Rattle.alm_lines.specs.declared.refusal.ValueField.TheVariants.{Half, Offset}

-- the number of a code
abbrev pub code_number : AlmCode → ℕ
code_number E5 = 5
code_number E6 = 6
code_number E7 = 7
code_number E8 = 8

-- Whether a refusal precedes another: it is earlier in the text, or at the same place with a lesser
-- code.
unfoldable pub precedes : AlmRefusal → AlmRefusal → Bool
precedes a b =
    nat_lt a.place b.place
    || (nat_eq a.place b.place && nat_lt (code_number a.code) (code_number b.code))

-- the first of two refusals in the order of the text, if there are any
abbrev pub earlier_refusal : Option AlmRefusal → Option AlmRefusal → Option AlmRefusal
earlier_refusal None b = b
earlier_refusal (Some a) None = Some a
earlier_refusal (Some a) (Some b) = Some (if precedes b a then b else a)

-- the refusal with this code at an index of a line
abbrev pub refusal_at : Line36 → ℕ → AlmCode → AlmRefusal
refusal_at line at code = record { place = at; start = line.start; line = line.line; code = code }

-- the column of a refusal, counted from 1
abbrev pub column_of : AlmRefusal → ℕ
column_of refusal = column_at refusal.start refusal.place % 2 ^ 32

-- the fault with this code at a line and a column
abbrev pub fault_by : AlmCode → ℕ → ℕ → AlmFault
fault_by E5 line column = fault.E5 line column
fault_by E6 line column = fault.E6 line column
fault_by E7 line column = fault.E7 line column
fault_by E8 line column = fault.E8 line column

-- the fault of a refusal, with the number of its line and its column
unfoldable pub fault_of : AlmRefusal → AlmFault
fault_of refusal = fault_by refusal.code refusal.line (column_of refusal)

-- ---- expressions

-- Whether a number fits a field: half a word holds -131072 to 262143, the offset after a pointer
-- register -16384 to 16383.
abbrev pub fits_field : ValueField → Balance → Bool
fits_field Half value = is_within 131072 262143 value
fits_field Offset value = is_within offset_limit (offset_limit - 1) value

-- whether an object can express a sum in this field; `may_move` says whether it may be a place
abbrev pub is_kind_allowed : Bool → Kind → Bool
is_kind_allowed may_move Absolute = true
is_kind_allowed may_move (Moved section) = may_move
is_kind_allowed may_move Inexpressible = false

-- whether a sum fits a field and an object can express it there
unfoldable pub is_expressible : ValueField → Bool → Sum → Bool
is_expressible room may_move sum =
    fits_field room sum.value && is_kind_allowed may_move (kind_of sum)

-- The refusal of an expression that begins at `place`: E6 at its first symbol that is not defined,
-- if there is one, and otherwise E7, unless `said`: an object can express its value.
abbrev pub refusal_unless_expressible : Line36 → Option ℕ → ℕ → Bool → Option AlmRefusal
refusal_unless_expressible line (Some at) place said = Some (refusal_at line at E6)
refusal_unless_expressible line None place true = None
refusal_unless_expressible line None place false = Some (refusal_at line place E7)

-- The refusal of an expression that begins at `place`: E6 at its first symbol that is not defined,
-- or otherwise E7 if its value does not fit. A value that depends on a refused `equ` is not
-- refused.
unfoldable pub expression_refusal :
    List ℕ → List (List ℕ × Sum) → LocationCounter → Line36 → List Term → ℕ
    → ValueField → Bool → Option AlmRefusal
expression_refusal text symbols spot line terms place room may_move =
    let sum = sum_of text symbols spot terms in
    refusal_unless_expressible line (first_undefined_place text symbols terms) place
    (sum.unknown || is_expressible room may_move sum)

-- The refusal of an expression that must be a number that fits half a word, and not a place of a
-- section: that of an `equ`, and one after an external name.
abbrev pub number_refusal : List ℕ → List (List ℕ × Sum) → LocationCounter → Line36 → List Term → ℕ
    → Option AlmRefusal
number_refusal text symbols spot line terms place =
    expression_refusal text symbols spot line terms place Half false

-- ---- lengths

-- whether this many words are too many for a section of an object
abbrev pub is_over_limit : ℕ → Bool
is_over_limit words = nat_lt section_limit words
