-- Values that are computed once for each line: that of its first argument, and the index of its
-- link.
use Rattle.std.specs.Prelude.{ℕ, ◌≡◌, ◌<◌, Bool, true, false, nat_lt, List, [], ◌∷◌, ◌++◌, length}
use Rattle.std.specs.Prelude.{Option, Some, None}
use Rattle.std.specs.List.{position}
use Rattle.alm_parse.specs.declared.args.Arg.{Arg}
use Rattle.alm_parse.specs.declared.line.Line36.{Line36}
use Rattle.obj36_parts.specs.Fields.{LinkFields}
use Rattle.obj36_parts.specs.Indexes.{same_link, has_link}
use Rattle.alm_lines.specs.Arguments.{first_arg, terms_in}
use Rattle.alm_lines.specs.Spots.{next_line_spot}
use Rattle.alm_lines.specs.Values.{value_of_expression}
use Rattle.alm_lines.specs.declared.sum.Sum.{Sum}
use Rattle.alm_lines.specs.SpotFields.{LocationCounter}
use Rattle.alm_asm.specs.Links.{operand_args, link_in}
use Rattle.alm_asm.specs.declared.seen.LineValues.{LineValues}

-- the index of a link in a list, if there is a link and the list has it
abbrev pub index_in_links : List LinkFields → Option LinkFields → Option ℕ
index_in_links links None = None
index_in_links links (Some link) = position (same_link link) links

-- the values of a line: that of its first argument, and the index of its link
unfoldable pub values_of_line :
    List ℕ → List (List ℕ × Sum) → List LinkFields → LocationCounter → Line36 → LineValues
values_of_line text symbols links spot line =
    record {
      value = value_of_expression text symbols spot (terms_in (first_arg line.args));
      place = index_in_links links
          (link_in text symbols spot (first_arg (operand_args line.deed line.args)));
    }

-- The values of lines: those of a line with these arguments, if it has any, before those of the
-- lines below.
unfoldable pub with_values_before : List Arg → LineValues → List LineValues → List LineValues
with_values_before [] seen later = later
with_values_before (argument ∷ arguments) seen later = seen ∷ later

-- the values of lines, with those of one more line at the end, if it has arguments
unfoldable pub with_values : List LineValues → List Arg → LineValues → List LineValues
with_values before [] seen = before
with_values before (argument ∷ arguments) seen = before ++ seen ∷ []

-- the values of the lines that have arguments, in order
unfoldable pub values_from :
    List ℕ → List (List ℕ × Sum) → List LinkFields → LocationCounter → List Line36
    → List LineValues
values_from text symbols links spot [] = []
values_from text symbols links spot (line ∷ lines) =
    with_values_before line.args (values_of_line text symbols links spot line)
    (values_from text symbols links (next_line_spot text spot line) lines)

-- whether there is an index, and it is below a count
abbrev pub is_below : Option ℕ → ℕ → Bool
is_below None count = false
is_below (Some place) count = nat_lt place count

-- Each link whose index among all links is below the length of `some` is in `some`.
pub record AreFirst (some all : List LinkFields) : Type 0 where
  pub each : (l : LinkFields) (place : ℕ) → position (same_link l) all ≡ Some place
      → place < length some → has_link l some ≡ true
