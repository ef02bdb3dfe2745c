-- The definitions of lines are valid in an object.
use Rattle.std.proofs.Common.{◌≡◌, ℕ, ◌^◌, ◌<◌, Bool, true, false, ◌&&◌, ltb, leb, List, [], ◌∷◌, ◌++◌, Option, Some, None, refl, sym, ◌∙◌, true≢false, arith}
use Rattle.std.specs.List.{list_all}
use Rattle.std.proofs.lemmas.Bool.{and_parts, and_from, lt-ltb}
use Rattle.std.proofs.lemmas.List.Folds.{list_all-append}
use Rattle.alm_tokens.specs.declared.span.Span.{Span}
use Rattle.alm_parse.specs.declared.args.Arg.{Arg}
use Rattle.alm_parse.specs.declared.args.Arg.TheVariants as arg
use Rattle.alm_parse.specs.declared.line.Line36.{Line36}
use Rattle.obj36_parts.specs.declared.section.Section.TheVariants.{Text, Linkage, Symbol, Static}
use Rattle.obj36_parts.specs.declared.definition.Named.{Named}
use Rattle.obj36_parts.specs.Names.{is_name}
use Rattle.obj36_parts.specs.Sections.{class_number}
use Rattle.obj36_parts.specs.ObjectSegment.{version_of, greatest_class_number, is_valid_definition}
use Rattle.alm_lines.specs.Sums.{half_of, kind_of}
use Rattle.alm_lines.specs.Arguments.{name_at}
use Rattle.alm_lines.specs.Expressions.{symbol_sum}
use Rattle.alm_asm.specs.Definitions.{section_of, definition_of_name, definition_of_arg, with_names, defines_entries, definitions_if_any, definitions_after, definitions_from}
use Rattle.alm_asm.specs.Laws.{arg_is_named, args_are_named, lines_are_named}
use Rattle.alm_lines.specs.declared.sum.Balance.{Balance}
use Rattle.alm_lines.specs.declared.sum.Sum.{Sum}
use Rattle.alm_lines.specs.declared.sum.Kind.{Kind}
use Rattle.alm_lines.specs.declared.sum.Kind.TheVariants.{Absolute, Moved, Inexpressible}
use Rattle.alm_asm.proofs.Fitting.{AllFit, symbol_fits, good_kind, kind_good}

pub half_small : (b : Balance) → half_of b < 2 ^ 18
unfolding half_of
half_small b = omega arith

class_good : (outer : Bool) (kind : Kind) → good_kind outer kind ≡ true → leb (class_number (section_of kind)) (greatest_class_number (version_of outer)) ≡ true
class_good true Absolute e = refl
class_good true (Moved Text) e = refl
class_good true (Moved Linkage) e = refl
class_good true (Moved Symbol) e = absurd (true≢false (sym e))
class_good true (Moved Static) e = refl
class_good true Inexpressible e = refl
class_good false Absolute e = refl
class_good false (Moved Text) e = refl
class_good false (Moved Linkage) e = refl
class_good false (Moved Symbol) e = absurd (true≢false (sym e))
class_good false (Moved Static) e = absurd (true≢false (sym e))
class_good false Inexpressible e = refl

named_good : (outer : Bool) (text : List ℕ) (symbols : List (List ℕ × Sum)) (is_entry : Bool) (span : Span) → AllFit outer symbols → is_name (name_at text span) ≡ true
    → is_valid_definition (version_of outer) (definition_of_name text symbols is_entry span) ≡ true
unfolding is_valid_definition definition_of_name
named_good outer text symbols is_entry span all name =
    let sum = symbol_sum text symbols span in
    let small = lt-ltb (half_of sum.value) (2 ^ 18) (half_small sum.value) in
    and_from (is_name (name_at text span) && ltb (half_of sum.value) (2 ^ 18)) (leb (class_number (section_of (kind_of sum))) (greatest_class_number (version_of outer)))
    (and_from (is_name (name_at text span)) (ltb (half_of sum.value) (2 ^ 18)) name small)
    (class_good outer (kind_of sum) (kind_good outer sum (symbol_fits outer text symbols span all)))

both_good : (version : ℕ) (done more : List Named) → list_all (is_valid_definition version) done ≡ true → list_all (is_valid_definition version) more ≡ true
    → list_all (is_valid_definition version) (done ++ more) ≡ true
both_good version done more d e =
    list_all-append (is_valid_definition version) done more ∙ and_from (list_all (is_valid_definition version) done) (list_all (is_valid_definition version) more) d e

arg_good : (outer : Bool) (text : List ℕ) (symbols : List (List ℕ × Sum)) (is_entry : Bool) (given : Arg) → AllFit outer symbols → arg_is_named text given ≡ true
    → list_all (is_valid_definition (version_of outer)) (definition_of_arg text symbols is_entry given) ≡ true
arg_good outer text symbols is_entry (arg.Symbol span) all name =
    and_from (is_valid_definition (version_of outer) (definition_of_name text symbols is_entry span)) true (named_good outer text symbols is_entry span all name) refl
arg_good outer text symbols is_entry (arg.Number word) all name = refl
arg_good outer text symbols is_entry (arg.Chars words) all name = refl
arg_good outer text symbols is_entry (arg.Plain terms) all name = refl
arg_good outer text symbols is_entry (arg.Operand pr segment entry terms tag) all name = refl

args_good : (outer : Bool) (text : List ℕ) (symbols : List (List ℕ × Sum)) (is_entry : Bool) (done : List Named) (arguments : List Arg) → AllFit outer symbols → args_are_named text arguments ≡ true
    → list_all (is_valid_definition (version_of outer)) done ≡ true → list_all (is_valid_definition (version_of outer)) (with_names text symbols is_entry done arguments) ≡ true
unfolding with_names args_are_named
args_good outer text symbols is_entry done [] all names d = d
args_good outer text symbols is_entry done (given ∷ arguments) all names d =
    let parts = and_parts (arg_is_named text given) (args_are_named text arguments) names in
    args_good outer text symbols is_entry (done ++ definition_of_arg text symbols is_entry given) arguments all parts.1
    (both_good (version_of outer) done (definition_of_arg text symbols is_entry given) d (arg_good outer text symbols is_entry given all parts.0))

line_good : (outer : Bool) (text : List ℕ) (symbols : List (List ℕ × Sum)) (done : List Named) (arguments : List Arg) (gives : Option Bool) → AllFit outer symbols → args_are_named text arguments ≡ true
    → list_all (is_valid_definition (version_of outer)) done ≡ true → list_all (is_valid_definition (version_of outer)) (definitions_if_any text symbols done arguments gives) ≡ true
line_good outer text symbols done arguments None all names d = d
line_good outer text symbols done arguments (Some is_entry) all names d = args_good outer text symbols is_entry done arguments all names d

pub definitions_good : (outer : Bool) (text : List ℕ) (symbols : List (List ℕ × Sum)) (done : List Named) (lines : List Line36) → AllFit outer symbols → lines_are_named text lines ≡ true
    → list_all (is_valid_definition (version_of outer)) done ≡ true → list_all (is_valid_definition (version_of outer)) (definitions_from text symbols done lines) ≡ true
unfolding definitions_from definitions_after lines_are_named
definitions_good outer text symbols done [] all names d = d
definitions_good outer text symbols done (line ∷ lines) all names d =
    let parts = and_parts (args_are_named text line.args) (lines_are_named text lines) names in
    definitions_good outer text symbols (definitions_after text symbols done line) lines all parts.1
    (line_good outer text symbols done line.args (defines_entries line.deed) all parts.0 d)
