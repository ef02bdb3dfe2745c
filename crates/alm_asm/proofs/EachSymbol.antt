-- A property of each symbol, and of one more, is a property of all with that one.
use Rattle.std.proofs.Common.{◌≡◌, ℕ, Bool, true, false, cond, List, [], ◌∷◌, ◌++◌, Option, Some, None, is_some, unwrap_or, sym, ap, subst, true≢false}
use Rattle.std.specs.Map.{lookup}
use Rattle.alm_tokens.specs.declared.span.Span.{Span}
use Rattle.alm_lines.specs.Symbols.{same_name, sum_named, with_symbol}
use Rattle.alm_lines.specs.Arguments.{name_at}
use Rattle.alm_lines.specs.Layout.{with_labels, with_defined_symbol}
use Rattle.alm_lines.specs.declared.sum.Sum.{Sum}

-- the sum of each symbol has the property P
abbrev pub Each : (Sum → Type 0) → List (List ℕ × Sum) → Type 0
Each P symbols = (name : List ℕ) (sum : Sum) → sum_named name symbols ≡ Some sum → P sum

pub each_of_none : (P : Sum → Type 0) → Each P []
unfolding sum_named
each_of_none P name sum e = absurd (true≢false (sym (ap is_some e)))

later : (P : Sum → Type 0) (b : Bool) (first : Sum) (rest more : Option Sum) → ((sum : Sum) → cond b (Some first) rest ≡ Some sum → P sum)
    → (((sum : Sum) → rest ≡ Some sum → P sum) → (sum : Sum) → more ≡ Some sum → P sum)
    → (sum : Sum) → cond b (Some first) more ≡ Some sum → P sum
later P true first rest more all next sum e = all sum e
later P false first rest more all next sum e = next all sum e

only : (P : Sum → Type 0) (b : Bool) (its sum : Sum) → P its → cond b (Some its) None ≡ Some sum → P sum
only P true its sum has e = subst P (ap (λ r. unwrap_or r its) e) has
only P false its sum has e = absurd (true≢false (sym (ap is_some e)))

pushed : (P : Sum → Type 0) (name : List ℕ) (symbols : List (List ℕ × Sum)) (other : List ℕ) (its : Sum)
    → ((sum : Sum) → lookup (same_name name) symbols ≡ Some sum → P sum) → P its
    → (sum : Sum) → lookup (same_name name) (symbols ++ (other, its) ∷ []) ≡ Some sum → P sum
pushed P name [] other its all has sum e = only P (same_name name other) its sum has e
pushed P name (symbol ∷ symbols) other its all has sum e =
    later P (same_name name symbol.0) symbol.1 (lookup (same_name name) symbols) (lookup (same_name name) (symbols ++ (other, its) ∷ [])) all
    (λ rest. pushed P name symbols other its rest has) sum e

with_by : (P : Sum → Type 0) (b : Bool) (symbols : List (List ℕ × Sum)) (other : List ℕ) (its : Sum) → Each P symbols → P its → Each P (cond b symbols (symbols ++ (other, its) ∷ []))
unfolding sum_named
with_by P true symbols other its all has name sum e = all name sum e
with_by P false symbols other its all has name sum e = pushed P name symbols other its (all name) has sum e

each_with : (P : Sum → Type 0) (symbols : List (List ℕ × Sum)) (other : List ℕ) (its : Sum) → Each P symbols → P its → Each P (with_symbol symbols other its)
unfolding with_symbol
each_with P symbols other its all has = with_by P (is_some (sum_named other symbols)) symbols other its all has

pub each_with_labels : (P : Sum → Type 0) (text : List ℕ) (its : Sum) (symbols : List (List ℕ × Sum)) (spans : List Span) → Each P symbols → P its → Each P (with_labels text its symbols spans)
unfolding with_labels
each_with_labels P text its symbols [] all has = all
each_with_labels P text its symbols (span ∷ spans) all has =
    each_with_labels P text its (with_symbol symbols (name_at text span) its) spans (each_with P symbols (name_at text span) its all has) has

pub each_with_own : (P : Sum → Type 0) (text : List ℕ) (its : Sum) (symbols : List (List ℕ × Sum)) (own : Option Span) → Each P symbols → P its → Each P (with_defined_symbol text symbols own its)
each_with_own P text its symbols None all has = all
each_with_own P text its symbols (Some span) all has = each_with P symbols (name_at text span) its all has
