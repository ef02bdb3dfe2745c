-- The sums of expressions.
use Rattle.std.specs.Prelude.{ℕ, ◌-◌, Bool, true, false, not, List, [], ◌∷◌, Option, option_map}
use Rattle.std.specs.Prelude.{is_some, unwrap_or, if◌then◌else◌}
use Rattle.std.specs.List.{find}
use Rattle.alm_tokens.specs.declared.expression.Atom.{Atom}
use Rattle.alm_tokens.specs.declared.expression.Atom.TheVariants.{Number, Symbol, Here}
use Rattle.alm_tokens.specs.declared.expression.Term.{Term}
use Rattle.alm_tokens.specs.declared.span.Span.{Span}
use Rattle.alm_lines.specs.Arguments.{name_at}
use Rattle.alm_lines.specs.Sums.{absolute, zero_sum, sum_plus, negated_sum}
use Rattle.alm_lines.specs.Symbols.{sum_named}
use Rattle.alm_lines.specs.Spots.{here}
use Rattle.alm_lines.specs.declared.sum.Sum.{Sum}
use Rattle.alm_lines.specs.SpotFields.{LocationCounter}

-- the sum of a symbol; 0 if it is not defined
unfoldable pub symbol_sum : List ℕ → List (List ℕ × Sum) → Span → Sum
symbol_sum text symbols span = unwrap_or (sum_named (name_at text span) symbols) zero_sum

-- the sum of a term without its sign
abbrev pub atom_sum : List ℕ → List (List ℕ × Sum) → LocationCounter → Span → Atom → Sum
atom_sum text symbols spot span (Number n) = absolute n
atom_sum text symbols spot span Symbol = symbol_sum text symbols span
atom_sum text symbols spot span Here = here spot

-- the sum of a term
unfoldable pub term_sum : List ℕ → List (List ℕ × Sum) → LocationCounter → Term → Sum
term_sum text symbols spot term =
    let sum = atom_sum text symbols spot term.span term.what in
    if term.minus then negated_sum sum else sum

-- a sum, to which the sums of terms are added
unfoldable pub with_terms : List ℕ → List (List ℕ × Sum) → LocationCounter → Sum → List Term → Sum
with_terms text symbols spot sum [] = sum
with_terms text symbols spot sum (term ∷ terms) =
    with_terms text symbols spot (sum_plus sum (term_sum text symbols spot term)) terms

-- the sum of an expression
abbrev pub sum_of : List ℕ → List (List ℕ × Sum) → LocationCounter → List Term → Sum
sum_of text symbols spot terms = with_terms text symbols spot zero_sum terms

-- whether a symbol is defined
unfoldable pub is_defined : List ℕ → List (List ℕ × Sum) → Span → Bool
is_defined text symbols span = is_some (sum_named (name_at text span) symbols)

-- whether a term is a symbol
abbrev pub is_symbol_atom : Atom → Bool
is_symbol_atom (Number n) = false
is_symbol_atom Symbol = true
is_symbol_atom Here = false

-- whether a term is a symbol that is not defined
unfoldable pub is_undefined : List ℕ → List (List ℕ × Sum) → Term → Bool
is_undefined text symbols term =
    if is_symbol_atom term.what then not (is_defined text symbols term.span) else false

-- the index of the first symbol that is not defined
unfoldable pub first_undefined_place : List ℕ → List (List ℕ × Sum) → List Term → Option ℕ
first_undefined_place text symbols terms =
    option_map (λ term. term.span.from) (find (is_undefined text symbols) terms)

-- the index in the text where an expression begins; a minus may be before its first term
abbrev pub expression_place : List Term → ℕ
expression_place [] = 0
expression_place (term ∷ terms) = if term.minus then term.span.from - 1 else term.span.from
