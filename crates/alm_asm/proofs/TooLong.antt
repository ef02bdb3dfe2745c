-- The parts of lines that are not refused are well formed, unless the object has more than 2^18
-- words.
use Rattle.std.proofs.Common.{◌≡◌, ℕ, ◌+◌, ◌*◌, ◌%◌, ◌^◌, ◌<◌, ◌≤◌, Bool, true, false, cond, ◌&&◌, ◌||◌, leb, eqb, List, [], ◌∷◌, ◌++◌, length, None, refl, sym, ◌∙◌, subst, true≢false, arith}
use Rattle.std.specs.List.{list_all}
use Rattle.std.proofs.lemmas.Bool.{and_from, le-leb, leb-true, eqb-false, eq-eqb}
use Rattle.std.proofs.lemmas.List.{length-append}
use Rattle.alm_parse.specs.SourceFields.{Source}
use Rattle.alm_parse.specs.declared.line.Line36.{Line36}
use Rattle.obj36_parts.specs.declared.section.Section.TheVariants.{Text}
use Rattle.obj36_parts.specs.declared.definition.Named.{Named}
use Rattle.obj36_parts.specs.Fields.{LinkFields, RelocFields}
use Rattle.obj36_parts.specs.PartsFields.{PartsFields}
use Rattle.obj36_parts.specs.Sections.{section_number}
use Rattle.obj36_parts.specs.ObjectSegment.{is_newer, version_of, inner_statics, outer_statics, words_of, definition_names, are_distinct, is_valid_definition, is_valid_link, is_valid_relocation, are_rising, is_well_formed}
use Rattle.obj36_parts.proofs.Formed.{is_formed}
use Rattle.obj36_parts.proofs.LengthLaws.{length-words_of, least_size}
use Rattle.alm_lines.specs.Spots.{start, count_in, next_line_spot, end_of}
use Rattle.alm_asm.specs.Links.{links_from}
use Rattle.alm_asm.specs.Words.{words_from}
use Rattle.alm_asm.specs.Relocations.{relocations_from}
use Rattle.alm_lines.specs.Layout.{symbols_from}
use Rattle.alm_asm.specs.Definitions.{definitions_from}
use Rattle.alm_asm.specs.LineRefusals.{lines_refusal}
use Rattle.alm_asm.proofs.Unrefused.{no_lines_refusal}
use Rattle.alm_asm.specs.Assembly.{tables_of, bound_after_line, bound_from, static_section, padded_statics, parts_with, parts_of, refusal_of}
use Rattle.alm_asm.specs.Laws.{can_have_words, lines_are_named}
use Rattle.alm_lines.specs.declared.sum.Sum.{Sum}
use Rattle.alm_lines.specs.SpotFields.{LocationCounter}
use Rattle.alm_asm.specs.declared.tables.Tables.{Tables}
use Rattle.alm_parse.specs.declared.deed.LineEffect.{LineEffect}
use Rattle.alm_parse.specs.declared.deed.LineEffect.TheVariants as deed
use Rattle.alm_asm.proofs.Distinct.{distinct}
use Rattle.alm_asm.proofs.Fitting.{AllFit, StandAt, start_stands, symbols_fit}
use Rattle.alm_asm.proofs.GoodDefinitions.{definitions_good}
use Rattle.alm_asm.proofs.GoodLinks.{links_good}
use Rattle.alm_asm.proofs.GoodMarks.{Room, Good, limit, word_number, none_in_order, further_good, marks_good}
use Rattle.alm_asm.proofs.PlaceLaws.{places_count, grows}

-- ---- well-formed parts, one part after another

abbrev made_of : Bool → List ℕ → List ℕ → List Named → List LinkFields → List RelocFields → ℕ → PartsFields
made_of newer text statics definitions links marks bound =
    record { text = text; statics = statics; definitions = definitions; links = links; relocations = marks; entry_bound = bound; version = version_of newer }

record AreGood (newer : Bool) (p : PartsFields) : Type 0 where
  bound : leb p.entry_bound (length p.text) ≡ true
  even : (is_newer p || eqb (length p.statics % 2) 0) ≡ true
  definitions : list_all (is_valid_definition p.version) p.definitions ≡ true
  distinct : are_distinct (definition_names p.definitions) ≡ true
  links : list_all (is_valid_link p.version) p.links ≡ true
  relocations : list_all (is_valid_relocation (length p.text) (length (inner_statics p)) (length (outer_statics p)) p.version) p.relocations ≡ true
  rising : are_rising 0 3 p.relocations ≡ true

all_of : (a b c d e f g h i : Bool) → a ≡ true → b ≡ true → c ≡ true → d ≡ true → e ≡ true → f ≡ true → g ≡ true → h ≡ true → i ≡ true
    → ((((((((a && b) && c) && d) && e) && f) && g) && h) && i) ≡ true
all_of a b c d e f g h i pa pb pc pd pe pf pg ph pi =
    and_from (((((((a && b) && c) && d) && e) && f) && g) && h) i (and_from ((((((a && b) && c) && d) && e) && f) && g) h (and_from (((((a && b) && c) && d) && e) && f) g (and_from ((((a && b) && c) && d) && e) f (and_from (((a && b) && c) && d) e (and_from ((a && b) && c) d (and_from (a && b) c (and_from a b pa pb) pc) pd) pe) pf) pg) ph) pi

version_good : (newer : Bool) → (eqb (version_of newer) 1 || eqb (version_of newer) 2) ≡ true
version_good true = refl
version_good false = refl

formed : (newer : Bool) (text statics : List ℕ) (definitions : List Named) (links : List LinkFields) (marks : List RelocFields) (bound : ℕ)
    → leb (length (words_of (made_of newer text statics definitions links marks bound))) (2 ^ 18) ≡ true → AreGood newer (made_of newer text statics definitions links marks bound)
    → is_well_formed (made_of newer text statics definitions links marks bound) ≡ true
unfolding is_well_formed
formed newer text statics definitions links marks bound size good =
    let p = made_of newer text statics definitions links marks bound in
    all_of (eqb (version_of newer) 1 || eqb (version_of newer) 2) (leb (length (words_of p)) (2 ^ 18)) (leb bound (length text)) (is_newer p || eqb (length statics % 2) 0) (list_all (is_valid_definition (version_of newer)) definitions) (are_distinct (definition_names definitions)) (list_all (is_valid_link (version_of newer)) links)
    (list_all (is_valid_relocation (length text) (length (inner_statics p)) (length (outer_statics p)) (version_of newer)) marks) (are_rising 0 3 marks)
    (version_good newer) size good.bound good.even good.definitions good.distinct good.links good.relocations good.rising

by_size : (p : PartsFields) (b : Bool) → leb (length (words_of p)) (2 ^ 18) ≡ b → (b ≡ true → is_well_formed p ≡ true) → is_well_formed p ≡ b
by_size p true e good = good refl
by_size p false e good = by (is_well_formed p) refl
  where
    by : (c : Bool) → is_well_formed p ≡ c → is_well_formed p ≡ false
    by true f = absurd (true≢false (sym (le-leb (length (words_of p)) (2 ^ 18) (is_formed p f).fits) ∙ e))
    by false f = f

-- ---- the entry bound

bound_kept : (spot : LocationCounter) (bound : ℕ) (d : LineEffect) → bound ≤ spot.text → bound_after_line spot bound d ≤ spot.text
bound_kept spot bound deed.Nothing h = h
bound_kept spot bound (deed.Instruction code bit27) h = h
bound_kept spot bound deed.Entry h = h
bound_kept spot bound deed.Segdef h = h
bound_kept spot bound deed.Equ h = h
bound_kept spot bound deed.Use h = h
bound_kept spot bound deed.Words h = h
bound_kept spot bound deed.Zero h = h
bound_kept spot bound deed.Block h = h
bound_kept spot bound deed.Even h = h
bound_kept spot bound deed.Bound h = omega arith

bound_good : (text : List ℕ) (tables : Tables) (bound : ℕ) (spot : LocationCounter) (lines : List Line36) → bound ≤ spot.text → bound_from text bound spot lines ≤ (end_of text spot lines).text
unfolding bound_from end_of
bound_good text tables bound spot [] h = h
bound_good text tables bound spot (line ∷ lines) h =
    let kept = bound_kept spot bound line.deed h in
    let plus_words : spot.text ≤ (next_line_spot text spot line).text = grows Text text tables spot line refl in
    bound_good text tables (bound_after_line spot bound line.deed) (next_line_spot text spot line) lines (omega arith)

-- ---- static words

even_by : (words : List ℕ) (b : Bool) → eqb (length words % 2) 0 ≡ b → eqb (length (cond b words (words ++ 0 ∷ [])) % 2) 0 ≡ true
even_by words true e = e
even_by words false e =
    let odd = eqb-false (length words % 2) 0 e in
    let longer = length-append words (0 ∷ []) in
    eq-eqb (length (words ++ 0 ∷ []) % 2) 0 (omega arith)

statics_even : (newer : Bool) (words text : List ℕ) (definitions : List Named) (links : List LinkFields) (marks : List RelocFields) (bound : ℕ)
    → (is_newer (made_of newer text (padded_statics newer words) definitions links marks bound) || eqb (length (padded_statics newer words) % 2) 0) ≡ true
statics_even true words text definitions links marks bound = refl
statics_even false words text definitions links marks bound = even_by words (eqb (length words % 2) 0) refl

longer_by : (words : List ℕ) (b : Bool) → length words ≤ length (cond b words (words ++ 0 ∷ []))
longer_by words true = omega arith
longer_by words false = let e = length-append words (0 ∷ []) in omega arith

evened_longer : (newer : Bool) (words : List ℕ) → length words ≤ length (padded_statics newer words)
evened_longer true words = omega arith
evened_longer false words = longer_by words (eqb (length words % 2) 0)

-- ---- bounds

abbrev room_of : Bool → PartsFields → Room
room_of newer p = record { text = length p.text; inner = length (inner_statics p); outer = length (outer_statics p); newer = newer }

static_room : (newer : Bool) (text statics : List ℕ) (definitions : List Named) (links : List LinkFields) (marks : List RelocFields) (bound : ℕ)
    → limit (static_section newer) (room_of newer (made_of newer text statics definitions links marks bound)) ≡ length statics
static_room true text statics definitions links marks bound = refl
static_room false text statics definitions links marks bound = refl

pub static_holds : (newer : Bool) → can_have_words (static_section newer) ≡ true
static_holds true = refl
static_holds false = refl

text_first : (newer : Bool) (n : ℕ) → n < 2 ^ 18 → section_number Text * 2 ^ 18 + n ≤ word_number (static_section newer) start
text_first true n h = omega arith
text_first false n h = omega arith

no_names : are_distinct (definition_names []) ≡ true
unfolding are_distinct definition_names
no_names = refl

-- ---- the parts of lines

module _ (text : List ℕ) (tables : Tables) (lines : List Line36) (uses : (end_of text start lines).uses_outer ≡ tables.uses_outer)
    (symbols : symbols_from text [] start lines ≡ tables.symbols) (links : links_from text tables.symbols [] start lines ≡ tables.links)
    (names : lines_are_named text lines ≡ true) (none : lines_refusal text tables [] start lines ≡ None) where
  abbrev newer : Bool
  newer = tables.uses_outer

  abbrev words : List ℕ
  words = words_from text tables Text [] start lines

  abbrev statics : List ℕ
  statics = words_from text tables (static_section tables.uses_outer) [] start lines

  abbrev definitions : List Named
  definitions = definitions_from text tables.symbols [] lines

  abbrev of_text : List RelocFields
  of_text = relocations_from text tables.symbols Text [] start lines

  abbrev marks : List RelocFields
  marks = relocations_from text tables.symbols (static_section tables.uses_outer) of_text start lines

  abbrev bound : ℕ
  bound = bound_from text 0 start lines

  abbrev parts : PartsFields
  parts = made_of newer words (padded_statics newer statics) definitions tables.links marks bound

  fit : AllFit newer tables.symbols
  fit = subst (λ (b : Bool). AllFit b tables.symbols) uses (subst (λ (s : List (List ℕ × Sum)). AllFit (end_of text start lines).uses_outer s) symbols (symbols_fit text lines))

  stand : StandAt text newer start lines
  stand = subst (λ (b : Bool). StandAt text b start lines) uses (start_stands text lines)

  relocations_good : length words + 8 < 2 ^ 18 → length (padded_statics newer statics) + 8 < 2 ^ 18 → Good (room_of newer parts) (word_number (static_section newer) (end_of text start lines)) marks
  relocations_good small few =
      let room = room_of newer parts in
      let begin : Good room (word_number Text start) [] = record { order = none_in_order; all = refl } in
      let in_text : count_in Text (end_of text start lines) ≡ length words = places_count text tables Text lines refl in
      let own : count_in Text (end_of text start lines) ≤ limit Text room = omega arith in
      let after = marks_good room text tables Text [] start lines fit stand refl own small begin in
      let in_statics : count_in (static_section newer) (end_of text start lines) ≡ length statics = places_count text tables (static_section newer) lines (static_holds newer) in
      let wide = static_room newer words (padded_statics newer statics) definitions tables.links marks bound in
      let longer = evened_longer newer statics in
      let theirs : count_in (static_section newer) (end_of text start lines) ≤ limit (static_section newer) room = omega arith in
      let room_left : limit (static_section newer) room + 8 < 2 ^ 18 = omega arith in
      let first = text_first newer (count_in Text (end_of text start lines)) (omega arith) in
      marks_good room text tables (static_section newer) of_text start lines fit stand (static_holds newer) theirs room_left
      (further_good room (word_number Text (end_of text start lines)) (word_number (static_section newer) start) of_text first after)

  are_good : leb (length (words_of parts)) (2 ^ 18) ≡ true → AreGood newer parts
  are_good size =
      let least = leb-true (length (words_of parts)) (2 ^ 18) size in
      let sum = length-words_of parts in
      let head = least_size (eqb (version_of newer) 2) in
      let good = relocations_good (omega arith) (omega arith) in
      let in_text : count_in Text (end_of text start lines) ≡ length words = places_count text tables Text lines refl in
      let low = bound_good text tables 0 start lines (omega arith) in
      record {
        bound = le-leb bound (length words) (omega arith);
        even = statics_even newer statics words definitions tables.links marks bound;
        definitions = definitions_good newer text tables.symbols [] lines fit names refl;
        distinct = distinct text tables [] start lines none no_names;
        links = subst (λ (l : List LinkFields). list_all (is_valid_link (version_of newer)) l ≡ true) links (links_good text tables [] [] start lines none names refl);
        relocations = good.all;
        rising = good.order.rising;
      }

  pub parts_formed : is_well_formed (parts_with text tables lines) ≡ leb (length (words_of (parts_with text tables lines))) (2 ^ 18)
  unfolding parts_with
  parts_formed =
      by_size parts (leb (length (words_of parts)) (2 ^ 18)) refl
      (λ size. formed newer words (padded_statics newer statics) definitions tables.links marks bound size (are_good size))

pub only_too_long : (source : Source) → lines_are_named source.text source.lines ≡ true → refusal_of source ≡ None
    → is_well_formed (parts_of source) ≡ leb (length (words_of (parts_of source))) (2 ^ 18)
unfolding refusal_of tables_of
only_too_long source names none =
    parts_formed source.text (tables_of source.text source.lines) source.lines refl refl refl names (no_lines_refusal source none)
