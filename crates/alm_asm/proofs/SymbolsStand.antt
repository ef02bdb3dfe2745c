-- A symbol keeps the sum of its first definition.
use Rattle.std.proofs.Common.{◌≡◌, ℕ, Bool, true, false, cond, List, [], ◌∷◌, ◌++◌, Option, Some, None, is_some, sym, ap, true≢false}
use Rattle.std.specs.Map.{lookup}
use Rattle.alm_tokens.specs.declared.span.Span.{Span}
use Rattle.alm_parse.specs.declared.line.Line36.{Line36}
use Rattle.alm_lines.specs.Symbols.{same_name, sum_named, with_symbol}
use Rattle.alm_lines.specs.Arguments.{name_at}
use Rattle.alm_lines.specs.Spots.{start, here, next_line_spot}
use Rattle.alm_lines.specs.Layout.{with_labels, defined_symbol, defined_symbol_sum, with_defined_symbol, symbols_with_defined, symbols_with_labels, symbols_after, symbols_from}
use Rattle.alm_lines.specs.declared.sum.Sum.{Sum}
use Rattle.alm_lines.specs.SpotFields.{LocationCounter}

stays_by : (b : Bool) (first sum : Sum) (rest more : Option Sum) → (rest ≡ Some sum → more ≡ Some sum) → cond b (Some first) rest ≡ Some sum → cond b (Some first) more ≡ Some sum
stays_by true first sum rest more stays e = e
stays_by false first sum rest more stays e = stays e

found_before : (name : List ℕ) (symbols more : List (List ℕ × Sum)) (sum : Sum) → lookup (same_name name) symbols ≡ Some sum → lookup (same_name name) (symbols ++ more) ≡ Some sum
found_before name [] more sum e = absurd (true≢false (sym (ap is_some e)))
found_before name (symbol ∷ symbols) more sum e =
    stays_by (same_name name symbol.0) symbol.1 sum (lookup (same_name name) symbols) (lookup (same_name name) (symbols ++ more)) (found_before name symbols more sum) e

with_one : (b : Bool) (name : List ℕ) (symbols more : List (List ℕ × Sum)) (sum : Sum) → lookup (same_name name) symbols ≡ Some sum
    → lookup (same_name name) (cond b symbols (symbols ++ more)) ≡ Some sum
with_one true name symbols more sum e = e
with_one false name symbols more sum e = found_before name symbols more sum e

stays : (name : List ℕ) (symbols : List (List ℕ × Sum)) (other : List ℕ) (its sum : Sum) → sum_named name symbols ≡ Some sum → sum_named name (with_symbol symbols other its) ≡ Some sum
unfolding sum_named with_symbol
stays name symbols other its sum e =
    with_one (is_some (sum_named other symbols)) name symbols ((other, its) ∷ []) sum e

pub labels_stay : (text name : List ℕ) (its sum : Sum) (symbols : List (List ℕ × Sum)) (spans : List Span) → sum_named name symbols ≡ Some sum
    → sum_named name (with_labels text its symbols spans) ≡ Some sum
unfolding with_labels
labels_stay text name its sum symbols [] e = e
labels_stay text name its sum symbols (span ∷ spans) e =
    labels_stay text name its sum (with_symbol symbols (name_at text span) its) spans (stays name symbols (name_at text span) its sum e)

pub own_stays : (text name : List ℕ) (its sum : Sum) (symbols : List (List ℕ × Sum)) (own : Option Span) → sum_named name symbols ≡ Some sum
    → sum_named name (with_defined_symbol text symbols own its) ≡ Some sum
own_stays text name its sum symbols None e = e
own_stays text name its sum symbols (Some span) e = stays name symbols (name_at text span) its sum e

line_stays : (text name : List ℕ) (sum : Sum) (symbols : List (List ℕ × Sum)) (spot : LocationCounter) (line : Line36) → sum_named name symbols ≡ Some sum
    → sum_named name (symbols_after text symbols spot line) ≡ Some sum
unfolding symbols_after symbols_with_defined
line_stays text name sum symbols spot line e =
    own_stays text name (defined_symbol_sum text (symbols_with_labels text symbols spot line) spot line line.deed) sum (symbols_with_labels text symbols spot line) (defined_symbol line.deed line.args)
    (labels_stay text name (here spot) sum symbols line.labels e)

pub lines_stay : (text name : List ℕ) (sum : Sum) (symbols : List (List ℕ × Sum)) (spot : LocationCounter) (lines : List Line36) → sum_named name symbols ≡ Some sum
    → sum_named name (symbols_from text symbols spot lines) ≡ Some sum
unfolding symbols_from
lines_stay text name sum symbols spot [] e = e
lines_stay text name sum symbols spot (line ∷ lines) e =
    lines_stay text name sum (symbols_after text symbols spot line) (next_line_spot text spot line) lines (line_stays text name sum symbols spot line e)

stay_from : (text name : List ℕ) (sum : Sum) (symbols : List (List ℕ × Sum)) (spot : LocationCounter) (above lines : List Line36)
    → sum_named name (symbols_from text symbols spot above) ≡ Some sum → sum_named name (symbols_from text symbols spot (above ++ lines)) ≡ Some sum
unfolding symbols_from
stay_from text name sum symbols spot [] lines e = lines_stay text name sum symbols spot lines e
stay_from text name sum symbols spot (line ∷ above) lines e =
    stay_from text name sum (symbols_after text symbols spot line) (next_line_spot text spot line) above lines e

pub symbols_stay : (text : List ℕ) (above lines : List Line36) (name : List ℕ) (sum : Sum) → sum_named name (symbols_from text [] start above) ≡ Some sum
    → sum_named name (symbols_from text [] start (above ++ lines)) ≡ Some sum
symbols_stay text above lines name sum e = stay_from text name sum [] start above lines e
