-- Definitions: the names of `entry` and `segdef` lines in order, and their refusals.
use Rattle.std.specs.Prelude.{ℕ, Bool, true, false, not, ◌&&◌, List, [], ◌∷◌, ◌++◌, Option, Some}
use Rattle.std.specs.Prelude.{None}
use Rattle.alm_tokens.specs.declared.span.Span.{Span}
use Rattle.alm_parse.specs.declared.args.Arg.{Arg}
use Rattle.alm_parse.specs.declared.args.Arg.TheVariants as arg
use Rattle.alm_parse.specs.declared.line.Line36.{Line36}
use Rattle.obj36_parts.specs.declared.section.Section.{Section}
use Rattle.obj36_parts.specs.declared.section.Section.TheVariants.{Text, Linkage, Symbol, Static}
use Rattle.obj36_parts.specs.declared.definition.Named.{Named}
use Rattle.obj36_parts.specs.ObjectSegment.{has_definition}
use Rattle.alm_lines.specs.Sums.{half_of, kind_of}
use Rattle.alm_lines.specs.Symbols.{sum_named}
use Rattle.alm_lines.specs.Arguments.{name_at}
use Rattle.alm_lines.specs.Expressions.{symbol_sum}
use Rattle.alm_lines.specs.Refusals.{earlier_refusal, refusal_at, fits_field}
use Rattle.alm_lines.specs.declared.sum.Sum.{Sum}
use Rattle.alm_lines.specs.declared.sum.Kind.{Kind}
use Rattle.alm_lines.specs.declared.sum.Kind.TheVariants.{Absolute, Moved, Inexpressible}
use Rattle.alm_parse.specs.declared.deed.LineEffect.{LineEffect}
use Rattle.alm_parse.specs.declared.deed.LineEffect.TheVariants as deed
use Rattle.alm_lines.specs.declared.refusal.AlmCode.TheVariants.{E5, E6, E7}
use Rattle.alm_lines.specs.declared.refusal.AlmRefusal.{AlmRefusal}
use Rattle.alm_lines.specs.declared.refusal.ValueField.TheVariants.{Half}

-- ---- the definitions

-- The section of a definition whose symbol is of this kind. A symbol that is not a place of a
-- section is no label; its definition is refused.
abbrev pub section_of : Kind → Section
section_of Absolute = Text
section_of (Moved section) = section
section_of Inexpressible = Text

-- the definition of a name, with the section and the value of its symbol
unfoldable pub definition_of_name : List ℕ → List (List ℕ × Sum) → Bool → Span → Named
definition_of_name text symbols is_entry span =
    let sum = symbol_sum text symbols span in
    record {
      name = name_at text span;
      def = record {
        section = section_of (kind_of sum);
        value = half_of sum.value;
        is_entry = is_entry;
      };
    }

-- the definition that an argument gives; only a symbol gives one
abbrev pub definition_of_arg : List ℕ → List (List ℕ × Sum) → Bool → Arg → List Named
definition_of_arg text symbols is_entry (arg.Symbol span) =
    definition_of_name text symbols is_entry span ∷ []
definition_of_arg text symbols is_entry (arg.Number word) = []
definition_of_arg text symbols is_entry (arg.Chars words) = []
definition_of_arg text symbols is_entry (arg.Plain terms) = []
definition_of_arg text symbols is_entry (arg.Operand pr segment entry terms tag) = []

-- the definitions `done`, with those of the arguments
unfoldable pub with_names : List ℕ → List (List ℕ × Sum) → Bool → List Named → List Arg → List Named
with_names text symbols is_entry done [] = done
with_names text symbols is_entry done (arg ∷ arguments) =
    with_names text symbols is_entry (done ++ definition_of_arg text symbols is_entry arg) arguments

-- whether a line defines names (`Some`), and if so whether they are entries
abbrev pub defines_entries : LineEffect → Option Bool
defines_entries deed.Nothing = None
defines_entries (deed.Instruction code bit27) = None
defines_entries deed.Entry = Some true
defines_entries deed.Segdef = Some false
defines_entries deed.Equ = None
defines_entries deed.Use = None
defines_entries deed.Words = None
defines_entries deed.Zero = None
defines_entries deed.Block = None
defines_entries deed.Even = None
defines_entries deed.Bound = None

-- the definitions `done`, with those of the arguments if their line defines names
abbrev pub definitions_if_any : List ℕ → List (List ℕ × Sum) → List Named → List Arg → Option Bool
    → List Named
definitions_if_any text symbols done arguments None = done
definitions_if_any text symbols done arguments (Some is_entry) =
    with_names text symbols is_entry done arguments

-- the definitions `done`, with those of a line
unfoldable pub definitions_after : List ℕ → List (List ℕ × Sum) → List Named → Line36 → List Named
definitions_after text symbols done line =
    definitions_if_any text symbols done line.args (defines_entries line.deed)

-- the definitions of the lines, after those so far
unfoldable pub definitions_from : List ℕ → List (List ℕ × Sum) → List Named → List Line36
    → List Named
definitions_from text symbols done [] = done
definitions_from text symbols done (line ∷ lines) =
    definitions_from text symbols (definitions_after text symbols done line) lines

-- ---- refusals of definitions

-- whether a name has a definition already
unfoldable pub is_defined_name : List Named → List ℕ → Bool
is_defined_name done name = has_definition name done

-- Whether a name can be defined for a symbol of this kind: an entry must be a place of the text,
-- another definition a place of any section.
abbrev pub is_label_kind : Bool → Kind → Bool
is_label_kind is_entry Absolute = false
is_label_kind is_entry (Moved Text) = true
is_label_kind is_entry (Moved Linkage) = not is_entry
is_label_kind is_entry (Moved Symbol) = not is_entry
is_label_kind is_entry (Moved Static) = not is_entry
is_label_kind is_entry Inexpressible = false

-- whether a name can be defined for a symbol with this sum: it is such a place, and its value fits
-- half a word
unfoldable pub is_label : Bool → Sum → Bool
is_label is_entry sum = fits_field Half sum.value && is_label_kind is_entry (kind_of sum)

-- E7 at the index `at`, unless a name can be defined for the symbol, which the last argument says
abbrev pub label_refusal : Line36 → ℕ → Bool → Option AlmRefusal
label_refusal line at true = None
label_refusal line at false = Some (refusal_at line at E7)

-- E6 for a symbol that is not defined, and E7 for one for which no name can be defined
abbrev pub sum_refusal : Line36 → ℕ → Bool → Option Sum → Option AlmRefusal
sum_refusal line at is_entry None = Some (refusal_at line at E6)
sum_refusal line at is_entry (Some sum) = label_refusal line at (is_label is_entry sum)

-- E5 for a name that has a definition already, which the last argument says, and otherwise as
-- `sum_refusal`
abbrev pub redefined_refusal : Line36 → ℕ → Bool → Option Sum → Bool → Option AlmRefusal
redefined_refusal line at is_entry sum true = Some (refusal_at line at E5)
redefined_refusal line at is_entry sum false = sum_refusal line at is_entry sum

-- the refusal of a name that a line defines, given the definitions above it, if it is refused
unfoldable pub name_refusal : List ℕ → List (List ℕ × Sum) → Line36 → Bool → List Named → Span
    → Option AlmRefusal
name_refusal text symbols line is_entry done span =
    redefined_refusal line span.from is_entry (sum_named (name_at text span) symbols)
    (is_defined_name done (name_at text span))

-- the refusal of an argument as a name that a line defines; only symbols are names
abbrev pub arg_refusal : List ℕ → List (List ℕ × Sum) → Line36 → Bool → List Named → Arg
    → Option AlmRefusal
arg_refusal text symbols line is_entry done (arg.Symbol span) =
    name_refusal text symbols line is_entry done span
arg_refusal text symbols line is_entry done (arg.Number word) = None
arg_refusal text symbols line is_entry done (arg.Chars words) = None
arg_refusal text symbols line is_entry done (arg.Plain terms) = None
arg_refusal text symbols line is_entry done (arg.Operand pr segment entry terms tag) = None

-- the first in the text of `first` and the refusals of these arguments, each given the definitions
-- of those before it
unfoldable pub names_refusal : List ℕ → List (List ℕ × Sum) → Line36 → Bool → List Named
    → Option AlmRefusal → List Arg → Option AlmRefusal
names_refusal text symbols line is_entry done first [] = first
names_refusal text symbols line is_entry done first (arg ∷ arguments) =
    names_refusal text symbols line is_entry (done ++ definition_of_arg text symbols is_entry arg)
    (earlier_refusal first (arg_refusal text symbols line is_entry done arg)) arguments

-- As `names_refusal`, for a line that may define no names, which the last argument says. Then only
-- `first` can refuse it.
abbrev pub definitions_refusal :
    List ℕ → List (List ℕ × Sum) → Line36 → List Named → Option AlmRefusal
    → List Arg → Option Bool → Option AlmRefusal
definitions_refusal text symbols line done first arguments None = first
definitions_refusal text symbols line done first arguments (Some is_entry) =
    names_refusal text symbols line is_entry done first arguments
