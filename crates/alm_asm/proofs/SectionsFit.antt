-- Each section of the object of lines that are not refused is within the limit.
use Rattle.std.proofs.Common.{◌≡◌, ℕ, ◌+◌, ◌*◌, ◌≤◌, Bool, true, false, ◌&&◌, leb, cond, List, [], length, None, refl, ap, arith}
use Rattle.std.proofs.lemmas.Bool.{le-leb}
use Rattle.alm_parse.specs.SourceFields.{Source}
use Rattle.obj36_parts.specs.declared.section.Section.TheVariants.{Text}
use Rattle.obj36_parts.specs.Fields.{LinkFields}
use Rattle.obj36_parts.specs.ObjectSegment.{is_newer_version, version_of, inner_statics, definition_names, outer_statics, are_distinct, definition_section, linkage_section, symbol_section, first_expression_at, section_limit, sections_fit}
use Rattle.obj36_parts.specs.PartsFields.{PartsFields}
use Rattle.obj36_parts.proofs.LengthLaws.{length-definition_part, length-linkage_part, length-symbol_part}
use Rattle.alm_lines.specs.Spots.{start, count_in, end_of}
use Rattle.alm_lines.specs.SpotFields.{LocationCounter}
use Rattle.alm_lines.specs.Layout.{symbols_from}
use Rattle.alm_asm.specs.Words.{words_from}
use Rattle.alm_asm.specs.Growth.{first_growth}
use Rattle.alm_asm.specs.Assembly.{tables_of, static_section, padded_statics, parts_with, parts_of, refusal_of}
use Rattle.alm_asm.proofs.Unrefused.{no_layout_refusal, no_lines_refusal, no_growth_refusal}
use Rattle.alm_asm.proofs.PlaceLaws.{places_count}
use Rattle.alm_asm.proofs.PlacedWords.{evened_length}
use Rattle.alm_asm.proofs.TooLong.{static_holds}
use Rattle.alm_asm.proofs.Valued.{symbols_known}
use Rattle.alm_asm.proofs.Grown.{end_within, links_grown}
use Rattle.alm_asm.proofs.MarksCounted.{marks_counted}
use Rattle.alm_asm.proofs.DefinitionsCounted.{definitions_counted}
use Rattle.alm_asm.proofs.CountsFit.{counts_fit}

-- The limit is even, and so is the number of words of the linkage section with the evening word.
linkage_fits : (newer : Bool) (ending : LocationCounter) (words : List ℕ) (links : ℕ) → count_in (static_section newer) ending ≡ length words → 8 + ending.inner + 2 * links ≤ section_limit
    → 8 + length (cond (is_newer_version (version_of newer)) [] (padded_statics newer words)) + 2 * links ≤ section_limit
linkage_fits true ending words links same fits = omega arith
linkage_fits false ending words links same fits = let even = evened_length false words in omega arith

statics_fit : (newer : Bool) (ending : LocationCounter) (words : List ℕ) → count_in (static_section newer) ending ≡ length words → ending.outer ≤ section_limit
    → length (cond (is_newer_version (version_of newer)) (padded_statics newer words) []) ≤ section_limit
statics_fit true ending words same fits = omega arith
statics_fit false ending words same fits = omega arith

-- no section of these parts is over the limit
record AreWithin (parts : PartsFields) : Type 0 where
  pub text : length parts.text ≤ section_limit
  pub definition : length (definition_section parts) ≤ section_limit
  pub linkage : length (linkage_section parts) ≤ section_limit
  pub statics : length (outer_statics parts) ≤ section_limit
  pub symbol : length (symbol_section parts) ≤ section_limit

all_five : (a b c d e : Bool) → a ≡ true → b ≡ true → c ≡ true → d ≡ true → e ≡ true → (a && b && c && d && e) ≡ true
all_five true true true true true p q r s t = refl
all_five true true true true false p q r s t = cc
all_five true true true false e p q r s t = cc
all_five true true false d e p q r s t = cc
all_five true false c d e p q r s t = cc
all_five false b c d e p q r s t = cc

within_fit : (parts : PartsFields) → AreWithin parts → sections_fit parts ≡ true
unfolding sections_fit
within_fit parts are =
    all_five (leb (length parts.text) section_limit) (leb (length (definition_section parts)) section_limit) (leb (length (linkage_section parts)) section_limit)
    (leb (length (outer_statics parts)) section_limit) (leb (length (symbol_section parts)) section_limit)
    (le-leb (length parts.text) section_limit are.text) (le-leb (length (definition_section parts)) section_limit are.definition)
    (le-leb (length (linkage_section parts)) section_limit are.linkage) (le-leb (length (outer_statics parts)) section_limit are.statics)
    (le-leb (length (symbol_section parts)) section_limit are.symbol)

are_within : (source : Source) → refusal_of source ≡ None → are_distinct (definition_names (parts_of source).definitions) ≡ true → AreWithin (parts_of source)
unfolding parts_with tables_of definition_section linkage_section symbol_section
are_within source none distinct =
    let text = source.text in
    let lines = source.lines in
    let tables = tables_of source.text source.lines in
    let symbols = symbols_from source.text [] start source.lines in
    let newer = (end_of source.text start source.lines).uses_outer in
    let parts = parts_of source in
    let ending = end_of source.text start source.lines in
    let statics = words_from text tables (static_section newer) [] start lines in
    let same = places_count text tables (static_section newer) lines (static_holds newer) in
    let within = end_within text symbols lines (no_growth_refusal source none) in
    let links = ap (λ (l : List LinkFields). length l) (links_grown text symbols first_growth start lines) in
    let linkage : 8 + ending.inner + 2 * length parts.links ≤ section_limit = omega (arith, within.linkage, links) in
    let linked = linkage_fits newer ending statics (length parts.links) same linkage in
    let marked = marks_counted text tables newer first_growth start lines (symbols_known text lines (no_layout_refusal source none)) (no_lines_refusal source none) in
    let definition_of_name = definitions_counted text tables start lines (no_lines_refusal source none) distinct in
    let placed = counts_fit text lines (no_layout_refusal source none) in
    record {
      text = omega (arith, placed.text, places_count text tables Text lines refl);
      definition = omega (arith, definition_of_name, within.definition, length-definition_part parts.definitions parts.links);
      statics = statics_fit newer ending statics same placed.outer;
      linkage = omega (arith, linked, length-linkage_part (inner_statics parts) parts.links (first_expression_at (length parts.definitions)));
      symbol = omega (arith, marked, within.symbol, length-symbol_part parts.relocations);
    }

pub object_fits : (source : Source) → refusal_of source ≡ None → are_distinct (definition_names (parts_of source).definitions) ≡ true → sections_fit (parts_of source) ≡ true
object_fits source none distinct = within_fit (parts_of source) (are_within source none distinct)
