-- The names of definitions that are not refused are distinct.
use Rattle.std.proofs.Common.{◌≡◌, ℕ, Bool, true, false, List, [], ◌∷◌, ◌++◌, Option, Some, None, is_some, refl, sym, ap, ◌∙◌, true≢false}
use Rattle.std.specs.List.{list_any}
use Rattle.std.proofs.lemmas.List.{append-nil}
use Rattle.alm_tokens.specs.declared.span.Span.{Span}
use Rattle.alm_parse.specs.declared.args.Arg.{Arg}
use Rattle.alm_parse.specs.declared.args.Arg.TheVariants as arg
use Rattle.alm_parse.specs.declared.line.Line36.{Line36}
use Rattle.obj36_parts.specs.declared.definition.Named.{Named}
use Rattle.obj36_parts.specs.ObjectSegment.{definition_names, are_distinct}
use Rattle.alm_lines.specs.Symbols.{same_name, sum_named}
use Rattle.alm_lines.specs.Arguments.{name_at}
use Rattle.alm_lines.specs.Spots.{next_line_spot}
use Rattle.alm_lines.specs.Refusals.{earlier_refusal}
use Rattle.alm_asm.specs.Definitions.{definition_of_name, definition_of_arg, with_names, defines_entries, definitions_if_any, definitions_after, definitions_from, is_defined_name, redefined_refusal, name_refusal, arg_refusal, names_refusal, definitions_refusal}
use Rattle.alm_asm.specs.LineRefusals.{lines_refusal}
use Rattle.alm_lines.specs.declared.sum.Sum.{Sum}
use Rattle.alm_lines.specs.SpotFields.{LocationCounter}
use Rattle.alm_asm.specs.declared.tables.Tables.{Tables}
use Rattle.alm_lines.specs.declared.refusal.AlmRefusal.{AlmRefusal}
use Rattle.obj36_parts.proofs.SizeLaws.{any_definition, definition_names-append}
use Rattle.alm_asm.proofs.NamesCounted.{distinct_pushed as name_pushed}
use Rattle.alm_asm.proofs.Unrefused.{sooner_none, names_first, line_parts, head_line, other_lines}

distinct_pushed : (done : List Named) (d : Named) → are_distinct (definition_names done) ≡ true → list_any (λ x. same_name d.name x.name) done ≡ false
    → are_distinct (definition_names (done ++ d ∷ [])) ≡ true
unfolding definition_names
distinct_pushed done d e f =
    ap are_distinct (definition_names-append done (d ∷ [])) ∙ name_pushed (definition_names done) d.name e (sym (any_definition d.name done) ∙ f)

nothing_pushed : (done : List Named) → are_distinct (definition_names done) ≡ true → are_distinct (definition_names (done ++ [])) ≡ true
nothing_pushed done e = ap (λ (l : List Named). are_distinct (definition_names l)) (append-nil done) ∙ e

not_taken : (line : Line36) (at : ℕ) (is_entry : Bool) (sum : Option Sum) (taken : Bool) → redefined_refusal line at is_entry sum taken ≡ None → taken ≡ false
not_taken line at is_entry sum true e = absurd (true≢false (ap is_some e))
not_taken line at is_entry sum false e = refl

fresh_name : (text : List ℕ) (symbols : List (List ℕ × Sum)) (line : Line36) (is_entry : Bool) (done : List Named) (span : Span)
    → name_refusal text symbols line is_entry done span ≡ None → list_any (λ x. same_name (definition_of_name text symbols is_entry span).name x.name) done ≡ false
unfolding name_refusal is_defined_name definition_of_name
fresh_name text symbols line is_entry done span e =
    not_taken line span.from is_entry (sum_named (name_at text span) symbols) (list_any (λ x. same_name (name_at text span) x.name) done) e

arg_pushed : (text : List ℕ) (symbols : List (List ℕ × Sum)) (line : Line36) (is_entry : Bool) (done : List Named) (given : Arg)
    → arg_refusal text symbols line is_entry done given ≡ None → are_distinct (definition_names done) ≡ true → are_distinct (definition_names (done ++ definition_of_arg text symbols is_entry given)) ≡ true
arg_pushed text symbols line is_entry done (arg.Symbol span) e d =
    distinct_pushed done (definition_of_name text symbols is_entry span) d (fresh_name text symbols line is_entry done span e)
arg_pushed text symbols line is_entry done (arg.Number word) e d = nothing_pushed done d
arg_pushed text symbols line is_entry done (arg.Chars words) e d = nothing_pushed done d
arg_pushed text symbols line is_entry done (arg.Plain terms) e d = nothing_pushed done d
arg_pushed text symbols line is_entry done (arg.Operand pr segment entry terms tag) e d = nothing_pushed done d

args_pushed : (text : List ℕ) (symbols : List (List ℕ × Sum)) (line : Line36) (is_entry : Bool) (done : List Named) (first : Option AlmRefusal) (arguments : List Arg)
    → names_refusal text symbols line is_entry done first arguments ≡ None → are_distinct (definition_names done) ≡ true
    → are_distinct (definition_names (with_names text symbols is_entry done arguments)) ≡ true
unfolding names_refusal with_names
args_pushed text symbols line is_entry done first [] e d = d
args_pushed text symbols line is_entry done first (given ∷ arguments) e d =
    let none = names_first text symbols line is_entry (done ++ definition_of_arg text symbols is_entry given) (earlier_refusal first (arg_refusal text symbols line is_entry done given)) arguments e in
    let own = (sooner_none first (arg_refusal text symbols line is_entry done given) none).1 in
    args_pushed text symbols line is_entry (done ++ definition_of_arg text symbols is_entry given) (earlier_refusal first (arg_refusal text symbols line is_entry done given)) arguments e (arg_pushed text symbols line is_entry done given own d)

line_pushed : (text : List ℕ) (symbols : List (List ℕ × Sum)) (line : Line36) (done : List Named) (first : Option AlmRefusal) (gives : Option Bool)
    → definitions_refusal text symbols line done first line.args gives ≡ None → are_distinct (definition_names done) ≡ true
    → are_distinct (definition_names (definitions_if_any text symbols done line.args gives)) ≡ true
line_pushed text symbols line done first None e d = d
line_pushed text symbols line done first (Some is_entry) e d = args_pushed text symbols line is_entry done first line.args e d

after_pushed : (text : List ℕ) (symbols : List (List ℕ × Sum)) (line : Line36) (done : List Named) (first : Option AlmRefusal)
    → definitions_refusal text symbols line done first line.args (defines_entries line.deed) ≡ None → are_distinct (definition_names done) ≡ true
    → are_distinct (definition_names (definitions_after text symbols done line)) ≡ true
unfolding definitions_after
after_pushed text symbols line done first e d = line_pushed text symbols line done first (defines_entries line.deed) e d

pub distinct : (text : List ℕ) (tables : Tables) (done : List Named) (spot : LocationCounter) (lines : List Line36)
    → lines_refusal text tables done spot lines ≡ None → are_distinct (definition_names done) ≡ true
    → are_distinct (definition_names (definitions_from text tables.symbols done lines)) ≡ true
unfolding definitions_from
distinct text tables done spot [] e d = d
distinct text tables done spot (line ∷ lines) e d =
    let parts = line_parts text tables done spot line (head_line text tables done spot line lines e) in
    distinct text tables (definitions_after text tables.symbols done line) (next_line_spot text spot line) lines (other_lines text tables done spot line lines e) (after_pushed text tables.symbols line done None parts.0 d)
