-- The parts that are returned are the object of the lines.
use Rattle.std.proofs.Common.{◌≡◌, ℕ, ◌+◌, ◌%◌, ◌^◌, ◌<◌, ◌≤◌, Bool, true, false, cond, eqb, List, [], ◌∷◌, ◌++◌, length, Option, Some, None, Result, Ok, Err, refl, sym, ap, ◌∙◌, subst, arith}
use Rattle.std.specs.Prelude.{IfOk}
use Rattle.alm_parse.specs.SourceFields.{Source}
use Rattle.alm_parse.specs.declared.line.Line36.{Line36}
use Rattle.alm_parse.specs.declared.fault.AlmFault.{AlmFault}
use Rattle.alm_parse.specs.Sources.{IsResultOf}
use Rattle.obj36_parts.specs.declared.section.Section.TheVariants.{Text}
use Rattle.obj36_parts.specs.PartsFields.{PartsFields}
use Rattle.obj36_parts.specs.ObjectSegment.{is_newer_version, version_of, rounded_up_to_even, head_words, is_well_formed}
use Rattle.obj36_parts.proofs.Formed.{is_formed}
use Rattle.obj36_parts.proofs.LengthLaws.{length-words_of, least_size}
use Rattle.alm_lines.specs.Spots.{start, count_in, end_of}
use Rattle.alm_asm.specs.Words.{words_from}
use Rattle.alm_lines.specs.Layout.{symbols_from}
use Rattle.alm_asm.specs.Assembly.{first_link, tables_of, static_section, parts_with, parts_of, refusal_of, last_line, parts_if_well_formed, assembled_unless_refused, assembled}
use Rattle.alm_asm.specs.Assembles.{padded_static_count, Assembles}
use Rattle.alm_lines.specs.SpotFields.{LocationCounter}
use Rattle.alm_asm.specs.declared.tables.Tables.{Tables}
use Rattle.alm_lines.specs.declared.refusal.AlmRefusal.{AlmRefusal}
use Rattle.alm_asm.proofs.Unrefused.{no_layout_refusal, no_lines_refusal}
use Rattle.alm_asm.proofs.PlaceLaws.{places_count, grows_to_end}
use Rattle.alm_asm.proofs.PlacedWords.{stands, evened_stands, evened_behind, evened_length, end_outer, unbound, bound_is}
use Rattle.alm_asm.proofs.LinksApart.{links_apart}
use Rattle.alm_asm.proofs.Valued.{symbols_known}
use Rattle.alm_asm.proofs.ExternalsStand.{external_stands}
use Rattle.alm_asm.proofs.SectionsAreOneKind.{section_stands, end_follows}
use Rattle.alm_asm.proofs.TooLong.{static_holds}
use Rattle.alm_asm.proofs.SymbolsMean.{labels_mean, own_mean}
use Rattle.alm_asm.proofs.SectionsFit.{object_fits}

short : (p : PartsFields) → is_well_formed p ≡ true → length p.text < 2 ^ 18
short p formed =
    let fits = (is_formed p formed).fits in
    let sum = length-words_of p in
    let head = least_size (eqb p.version 2) in
    omega arith

bound_in_text : (text : List ℕ) (tables : Tables) (lines above : List Line36) (line : Line36) (others : List Line36) → lines ≡ above ++ line ∷ others
    → length (words_from text tables Text [] start lines) < 2 ^ 18 → (end_of text start above).text % 2 ^ 18 ≡ (end_of text start above).text
bound_in_text text tables lines above line others split small =
    let spot = end_of text start above in
    let whole : (end_of text start lines).text ≡ length (words_from text tables Text [] start lines) = places_count text tables Text lines refl in
    let parted : (end_of text start lines).text ≡ (end_of text spot (line ∷ others)).text = ap (λ (l : List Line36). (end_of text start l).text) split ∙ ap (λ (s : LocationCounter). s.text) (end_follows text start above (line ∷ others)) in
    let plus_words : spot.text ≤ (end_of text spot (line ∷ others)).text = grows_to_end Text text tables spot (line ∷ others) refl in
    let least : spot.text < 2 ^ 18 = omega arith in
    omega arith

-- the offset of the links in operands is that in the object
links_at_by : (newer : Bool) (ending : LocationCounter) (statics : List ℕ) → ending.uses_outer ≡ newer
    → length statics ≡ padded_static_count newer (count_in (static_section newer) ending)
    → first_link ending ≡ head_words + length (cond (is_newer_version (version_of newer)) [] statics)
links_at_by true ending statics e n = ap (λ b. cond b head_words (head_words + rounded_up_to_even ending.inner)) e
links_at_by false ending statics e n = ap (λ b. cond b head_words (head_words + rounded_up_to_even ending.inner)) e ∙ ap (λ k. head_words + k) (sym n)

parts_assemble : (source : Source) → refusal_of source ≡ None → is_well_formed (parts_of source) ≡ true → Assembles source (parts_of source)
unfolding parts_with tables_of refusal_of
parts_assemble source none formed =
    let text = source.text in
    let lines = source.lines in
    let tables = tables_of source.text source.lines in
    let newer = (end_of source.text start source.lines).uses_outer in
    let section = static_section newer in
    let free = no_layout_refusal source none in
    let well = is_formed (parts_of source) formed in
    let small = short (parts_of source) formed in
    record {
      sections = λ above line others split. section_stands text tables lines above line others split (no_lines_refusal source none);
      text = λ above line others split here. stands text tables Text lines above line others refl split here;
      statics = λ above line others split here. evened_stands newer (count_in section (end_of text start above)) _ (words_from text tables section [] start lines) (stands text tables section lines above line others (static_holds newer) split here);
      text_length = sym (places_count text tables Text lines refl);
      statics_length = evened_length newer (words_from text tables section [] start lines) ∙ ap (λ n. padded_static_count newer n) (sym (places_count text tables section lines (static_holds newer)));
      evening = evened_behind newer (words_from text tables section [] start lines) (count_in section (end_of text start lines)) (sym (places_count text tables section lines (static_holds newer)));
      labels = λ above line others split. labels_mean text lines above line others split free;
      own = λ above line others split. own_mean text lines above line others split free;
      links = λ above line others split external. external_stands text tables lines above line others split (symbols_known text lines free) (no_lines_refusal source none) external;
      links_in_order = refl;
      links_apart = links_apart text (symbols_from text [] start lines) start lines;
      links_at = links_at_by newer (end_of text start lines) _ refl
          (evened_length newer (words_from text tables section [] start lines) ∙ ap (λ n. padded_static_count newer n) (sym (places_count text tables section lines (static_holds newer))));
      definitions = refl;
      distinct = well.distinct;
      relocations = refl;
      rising = well.rising;
      bound = λ above line others split this last. bound_is text lines above line others split this last ∙ bound_in_text text tables lines above line others split small;
      unbound = λ last. unbound text 0 start lines last;
      version = ap version_of (end_outer text start lines);
      fits = object_fits source none well.distinct;
    }

record IsMade (source : Source) (parts : PartsFields) : Type 0 where
  none : refusal_of source ≡ None
  formed : is_well_formed (parts_of source) ≡ true
  parts_are : parts_of source ≡ parts

made_by : (source : Source) (parts : PartsFields) (refusal : Option AlmRefusal) (b : Bool) → refusal_of source ≡ refusal → is_well_formed (parts_of source) ≡ b
    → assembled_unless_refused source refusal ≡ Ok parts → parts_if_well_formed (parts_of source) (last_line 1 source.lines) b ≡ Ok parts → IsMade source parts
made_by source parts (Some refusal) b r f e g = absurd cc
made_by source parts None true r f e g = record { none = r; formed = f; parts_are = cc }
made_by source parts None false r f e g = absurd cc

shown : (source : Source) (parts : PartsFields) (refusal : Option AlmRefusal) → refusal_of source ≡ refusal → assembled_unless_refused source refusal ≡ Ok parts → IsMade source parts
shown source parts (Some refusal) r e = absurd cc
shown source parts None r e = made_by source parts None (is_well_formed (parts_of source)) r refl e e

pub assembles : (source : Source) (parts : PartsFields) → assembled source ≡ Ok parts → Assembles source parts
unfolding assembled
assembles source parts e =
    let is = shown source parts (refusal_of source) refl e in
    subst (Assembles source) is.parts_are (parts_assemble source is.none is.formed)

pub says_assembles : (source : Source) (answer : Result PartsFields AlmFault) → IsResultOf answer (assembled source) → IfOk answer (λ parts. Assembles source parts)
says_assembles source (Ok parts) e = assembles source parts e
says_assembles source (Err fault) e = tt
