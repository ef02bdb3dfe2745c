-- Lines that are not refused are in the text or in static words of one kind.
use Rattle.std.proofs.Common.{◌≡◌, ℕ, Bool, true, false, cond, not, ◌&&◌, List, [], ◌∷◌, ◌++◌, Option, Some, None, ◌⊎◌, inl, inr, refl, sym, ap, ◌∙◌, true≢false}
use Rattle.std.specs.Prelude.{codes, unwrap_or}
use Rattle.std.proofs.lemmas.Bool.{not-true}
use Rattle.alm_tokens.specs.Tokens.{slice_of, is_text}
use Rattle.alm_tokens.specs.declared.span.Span.{Span}
use Rattle.alm_parse.specs.declared.args.Arg.{Arg}
use Rattle.alm_parse.specs.declared.line.Line36.{Line36}
use Rattle.obj36_parts.specs.declared.section.Section.{Section}
use Rattle.obj36_parts.specs.declared.section.Section.TheVariants.{Text, Linkage, Symbol, Static}
use Rattle.obj36_parts.specs.declared.definition.Named.{Named}
use Rattle.alm_parse.specs.Pairs.{used_section}
use Rattle.alm_lines.specs.Arguments.{first_arg, symbol_in, section_in}
use Rattle.alm_lines.specs.Spots.{start, place, plus_words_in, with_section, size_of, next_spot, next_line_spot, end_of}
use Rattle.alm_lines.specs.Refusals.{refusal_at}
use Rattle.alm_asm.specs.Definitions.{definitions_after}
use Rattle.alm_asm.specs.LineRefusals.{op_place, may_select, refusal_of_effect, lines_refusal}
use Rattle.alm_asm.specs.Assembly.{static_section}
use Rattle.alm_lines.specs.SpotFields.{LocationCounter}
use Rattle.alm_asm.specs.declared.tables.Tables.{Tables}
use Rattle.alm_parse.specs.declared.deed.LineEffect.{LineEffect}
use Rattle.alm_parse.specs.declared.deed.LineEffect.TheVariants as deed
use Rattle.alm_lines.specs.declared.refusal.AlmCode.TheVariants.{E7}
use Rattle.alm_asm.specs.Laws.{can_have_words}
use Rattle.alm_asm.proofs.Unrefused.{unless_none, line_parts, head_line, other_lines, lines_above}
use Rattle.alm_asm.proofs.Fitting.{end_uses}

-- static words are of a kind that a line has selected, and of one kind
abbrev is_kept : Section → Bool → Bool → Bool
is_kept Text inner outer = not (inner && outer)
is_kept Linkage inner outer = inner && not outer
is_kept Symbol inner outer = false
is_kept Static inner outer = outer && not inner

abbrev kept : LocationCounter → Bool
kept spot = is_kept spot.section spot.uses_inner spot.uses_outer

grown_kept : (section : Section) (spot : LocationCounter) (n : ℕ) → kept (plus_words_in section spot n) ≡ kept spot
grown_kept Text spot n = refl
grown_kept Linkage spot n = refl
grown_kept Symbol spot n = refl
grown_kept Static spot n = refl

-- no two kinds
one_kind : (section : Section) (inner outer : Bool) → is_kept section inner outer ≡ true → (inner && outer) ≡ false
one_kind Text inner outer e = not-true (inner && outer) e
one_kind Linkage true true e = absurd (true≢false (sym e))
one_kind Linkage true false e = refl
one_kind Linkage false outer e = refl
one_kind Symbol inner outer e = absurd (true≢false (sym e))
one_kind Static inner false e = absurd (true≢false (sym e))
one_kind Static true true e = absurd (true≢false (sym e))
one_kind Static false true e = refl

entered_by : (a b c : Bool) → can_have_words (unwrap_or (cond a (Some Text) (cond b (Some Linkage) (cond c (Some Static) None))) Text) ≡ true
entered_by true b c = refl
entered_by false true c = refl
entered_by false false true = refl
entered_by false false false = refl

names_section : (text : List ℕ) (name : Option Span) → can_have_words (section_in text name) ≡ true
unfolding used_section
names_section text None = refl
names_section text (Some span) =
    entered_by (is_text (codes "text") (slice_of text span)) (is_text (codes "link") (slice_of text span)) (is_text (codes "static") (slice_of text span))

entered_kept : (spot : LocationCounter) (definition_of_name : Section) → can_have_words definition_of_name ≡ true → may_select spot definition_of_name ≡ true → (spot.uses_inner && spot.uses_outer) ≡ false → kept (with_section spot definition_of_name) ≡ true
entered_kept spot Text n m e = ap not e
entered_kept spot Linkage n m e = m
entered_kept spot Symbol n m e = absurd (true≢false (sym n))
entered_kept spot Static n m e = m

moved_kept : (text : List ℕ) (tables : Tables) (spot : LocationCounter) (line : Line36) (d : LineEffect) → refusal_of_effect text tables spot line d ≡ None → kept spot ≡ true → kept (next_spot text d line.args spot) ≡ true
moved_kept text tables spot line deed.Nothing none e = e
moved_kept text tables spot line (deed.Instruction code bit27) none e = grown_kept spot.section spot 1 ∙ e
moved_kept text tables spot line deed.Entry none e = e
moved_kept text tables spot line deed.Segdef none e = e
moved_kept text tables spot line deed.Equ none e = e
moved_kept text tables spot line deed.Use none e =
    let definition_of_name = section_in text (symbol_in (first_arg line.args)) in
    entered_kept spot (section_in text (symbol_in (first_arg line.args))) (names_section text (symbol_in (first_arg line.args)))
    (unless_none (may_select spot (section_in text (symbol_in (first_arg line.args)))) (refusal_at line (op_place line.op) E7) none) (one_kind spot.section spot.uses_inner spot.uses_outer e)
moved_kept text tables spot line deed.Words none e = grown_kept spot.section spot (size_of deed.Words line.args (place spot)) ∙ e
moved_kept text tables spot line deed.Zero none e = grown_kept spot.section spot 1 ∙ e
moved_kept text tables spot line deed.Block none e = grown_kept spot.section spot (size_of deed.Block line.args (place spot)) ∙ e
moved_kept text tables spot line deed.Even none e = grown_kept spot.section spot (size_of deed.Even line.args (place spot)) ∙ e
moved_kept text tables spot line deed.Bound none e = e

below_kept : (text : List ℕ) (tables : Tables) (spot : LocationCounter) (line : Line36) → refusal_of_effect text tables spot line line.deed ≡ None → kept spot ≡ true → kept (next_line_spot text spot line) ≡ true
unfolding next_line_spot
below_kept text tables spot line none e = moved_kept text tables spot line line.deed none e

-- a section that was selected stays so
grown_inner : (section : Section) (spot : LocationCounter) (n : ℕ) → (plus_words_in section spot n).uses_inner ≡ spot.uses_inner
grown_inner Text spot n = refl
grown_inner Linkage spot n = refl
grown_inner Symbol spot n = refl
grown_inner Static spot n = refl

entered_inner : (spot : LocationCounter) (definition_of_name : Section) → spot.uses_inner ≡ true → (with_section spot definition_of_name).uses_inner ≡ true
entered_inner spot Text e = e
entered_inner spot Linkage e = refl
entered_inner spot Symbol e = e
entered_inner spot Static e = e

moved_inner : (text : List ℕ) (d : LineEffect) (arguments : List Arg) (spot : LocationCounter) → spot.uses_inner ≡ true → (next_spot text d arguments spot).uses_inner ≡ true
moved_inner text deed.Nothing arguments spot e = e
moved_inner text (deed.Instruction code bit27) arguments spot e = grown_inner spot.section spot 1 ∙ e
moved_inner text deed.Entry arguments spot e = e
moved_inner text deed.Segdef arguments spot e = e
moved_inner text deed.Equ arguments spot e = e
moved_inner text deed.Use arguments spot e = entered_inner spot (section_in text (symbol_in (first_arg arguments))) e
moved_inner text deed.Words arguments spot e = grown_inner spot.section spot (size_of deed.Words arguments (place spot)) ∙ e
moved_inner text deed.Zero arguments spot e = grown_inner spot.section spot 1 ∙ e
moved_inner text deed.Block arguments spot e = grown_inner spot.section spot (size_of deed.Block arguments (place spot)) ∙ e
moved_inner text deed.Even arguments spot e = grown_inner spot.section spot (size_of deed.Even arguments (place spot)) ∙ e
moved_inner text deed.Bound arguments spot e = e

end_inner : (text : List ℕ) (spot : LocationCounter) (lines : List Line36) → spot.uses_inner ≡ true → (end_of text spot lines).uses_inner ≡ true
unfolding end_of next_line_spot
end_inner text spot [] e = e
end_inner text spot (line ∷ lines) e = end_inner text (next_line_spot text spot line) lines (moved_inner text line.deed line.args spot e)

end_kept : (text : List ℕ) (tables : Tables) (done : List Named) (spot : LocationCounter) (lines : List Line36) → lines_refusal text tables done spot lines ≡ None → kept spot ≡ true → kept (end_of text spot lines) ≡ true
unfolding end_of
end_kept text tables done spot [] none e = e
end_kept text tables done spot (line ∷ lines) none e =
    let own = (line_parts text tables done spot line (head_line text tables done spot line lines none)).1 in
    end_kept text tables (definitions_after text tables.symbols done line) (next_line_spot text spot line) lines (other_lines text tables done spot line lines none) (below_kept text tables spot line own e)

abbrev Stands : Bool → Section → Type 0
Stands newer section = (section ≡ Text) ⊎ (section ≡ static_section newer)

stands_by : (section : Section) (inner outer newer : Bool) → is_kept section inner outer ≡ true → (outer ≡ true → newer ≡ true) → (inner ≡ true → newer ≡ false) → Stands newer section
stands_by Text inner outer newer k o i = inl refl
stands_by Linkage true outer newer k o i = inr (ap static_section (sym (i refl)))
stands_by Linkage false outer newer k o i = absurd (true≢false (sym k))
stands_by Symbol inner outer newer k o i = absurd (true≢false (sym k))
stands_by Static inner true newer k o i = inr (ap static_section (sym (o refl)))
stands_by Static inner false newer k o i = absurd (true≢false (sym k))

other_kind : (inner outer : Bool) → (inner && outer) ≡ false → inner ≡ true → outer ≡ false
other_kind true outer e i = e
other_kind false outer e i = absurd (true≢false (sym i))

pub end_follows : (text : List ℕ) (spot : LocationCounter) (above lines : List Line36) → end_of text spot (above ++ lines) ≡ end_of text (end_of text spot above) lines
unfolding end_of
end_follows text spot [] lines = refl
end_follows text spot (line ∷ above) lines = end_follows text (next_line_spot text spot line) above lines

pub section_stands : (text : List ℕ) (tables : Tables) (lines above : List Line36) (line : Line36) (others : List Line36) → lines ≡ above ++ line ∷ others
    → lines_refusal text tables [] start lines ≡ None
    → ((end_of text start above).section ≡ Text) ⊎ ((end_of text start above).section ≡ static_section (end_of text start lines).uses_outer)
section_stands text tables lines above line others split none =
    let spot = end_of text start above in
    let before : lines_refusal text tables [] start above ≡ None =
    lines_above text tables [] start above (line ∷ others) (sym (ap (λ (l : List Line36). lines_refusal text tables [] start l) split) ∙ none) in
    let whole : end_of text start lines ≡ end_of text spot (line ∷ others) = ap (λ (l : List Line36). end_of text start l) split ∙ end_follows text start above (line ∷ others) in
    let outer : (end_of text start lines).uses_outer ≡ (end_of text spot (line ∷ others)).uses_outer = ap (λ (s : LocationCounter). s.uses_outer) whole in
    let inner : (end_of text start lines).uses_inner ≡ (end_of text spot (line ∷ others)).uses_inner = ap (λ (s : LocationCounter). s.uses_inner) whole in
    let ending = end_of text start lines in
    let good : kept (end_of text start lines) ≡ true = end_kept text tables [] start lines none refl in
    stands_by spot.section spot.uses_inner spot.uses_outer ending.uses_outer (end_kept text tables [] start above before refl)
    (λ o. outer ∙ end_uses text spot (line ∷ others) o)
    (λ i. other_kind ending.uses_inner ending.uses_outer (one_kind ending.section ending.uses_inner ending.uses_outer good) (inner ∙ end_inner text spot (line ∷ others) i))
