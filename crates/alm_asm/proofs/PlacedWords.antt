-- The words of a line are after those of the lines above it.
use Rattle.std.proofs.Common.{◌≡◌, ℕ, ◌+◌, ◌%◌, ◌^◌, Bool, true, false, cond, ◌||◌, eqb, List, [], ◌∷◌, ◌++◌, length, refl, sym, ap, ◌∙◌, subst, true≢false, append_assoc, append-nil, arith}
use Rattle.std.specs.Prelude.{replicate}
use Rattle.std.specs.List.{list_any}
use Rattle.std.proofs.lemmas.Bool.{eqb-true, eqb-false, or_parts}
use Rattle.std.proofs.lemmas.List.{append-nil, length-append}
use Rattle.alm_parse.specs.declared.args.Arg.{Arg}
use Rattle.alm_parse.specs.declared.line.Line36.{Line36}
use Rattle.obj36_parts.specs.declared.section.Section.{Section}
use Rattle.obj36_parts.specs.declared.section.Section.TheVariants.{Text, Linkage, Symbol, Static}
use Rattle.obj36_parts.proofs.SizeLaws.{or_assoc, or_none}
use Rattle.alm_lines.specs.Arguments.{first_arg, symbol_in, section_in}
use Rattle.alm_lines.specs.Spots.{start, count_in, place, plus_words_in, with_section, size_of, next_spot, next_line_spot, end_of}
use Rattle.alm_asm.specs.Words.{words_of_effect, words_of_line, words_from}
use Rattle.obj36_parts.specs.Sections.{same_section}
use Rattle.alm_asm.specs.Assembly.{bound_after_line, bound_from, padded_statics}
use Rattle.alm_asm.specs.Laws.{can_have_words}
use Rattle.alm_asm.specs.LineRefusals.{is_static}
use Rattle.alm_asm.specs.Assembles.{OccursAfter, padded_static_count, enters_static, is_use_static, is_entrybound_effect, is_entrybound, padding_words}
use Rattle.alm_lines.specs.SpotFields.{LocationCounter}
use Rattle.alm_asm.specs.declared.tables.Tables.{Tables}
use Rattle.alm_parse.specs.declared.deed.LineEffect.{LineEffect}
use Rattle.alm_parse.specs.declared.deed.LineEffect.TheVariants as deed
use Rattle.alm_asm.proofs.PlaceLaws.{places_count, words_follow, same_self}

gathered : (text : List ℕ) (tables : Tables) (section : Section) (words : List ℕ) (spot : LocationCounter) (lines : List Line36)
    → words_from text tables section words spot lines ≡ words ++ words_from text tables section [] spot lines
unfolding words_from
gathered text tables section words spot [] = sym (append-nil words)
gathered text tables section words spot (line ∷ lines) =
    let own = words_of_line text tables section spot line in
    gathered text tables section (words ++ own) (next_line_spot text spot line) lines
    ∙ append_assoc words own (words_from text tables section [] (next_line_spot text spot line) lines)
    ∙ ap (λ (l : List ℕ). words ++ l) (sym (gathered text tables section own (next_line_spot text spot line) lines))

own_words : (text : List ℕ) (tables : Tables) (section : Section) (spot : LocationCounter) (line : Line36) → spot.section ≡ section
    → words_of_line text tables section spot line ≡ words_of_effect text tables spot line.args line.deed
unfolding words_of_line
own_words text tables section spot line e =
    ap (λ b. cond b (words_of_effect text tables spot line.args line.deed) []) (ap (λ (s : Section). same_section s section) e ∙ same_self section)

pub stands : (text : List ℕ) (tables : Tables) (section : Section) (lines above : List Line36) (line : Line36) (others : List Line36) → can_have_words section ≡ true
    → lines ≡ above ++ line ∷ others → (end_of text start above).section ≡ section
    → OccursAfter (count_in section (end_of text start above)) (words_of_effect text tables (end_of text start above) line.args line.deed) (words_from text tables section [] start lines)
unfolding words_from
stands text tables section lines above line others p split here =
    let spot = end_of text start above in
    let front = words_from text tables section [] start above in
    record {
      front = front;
      rest = words_from text tables section [] (next_line_spot text spot line) others;
      whole = ap (λ (l : List Line36). words_from text tables section [] start l) split
          ∙ words_follow text tables section above (line ∷ others)
          ∙ gathered text tables section (front ++ words_of_line text tables section spot line) (next_line_spot text spot line) others
          ∙ ap (λ (l : List ℕ). (front ++ l) ++ words_from text tables section [] (next_line_spot text spot line) others) (own_words text tables section spot line here);
      place = sym (places_count text tables section above p);
    }

more_behind : (count : ℕ) (part words more : List ℕ) → OccursAfter count part words → OccursAfter count part (words ++ more)
more_behind count part words more at = record {
  front = at.front;
  rest = at.rest ++ more;
  whole = ap (λ (l : List ℕ). l ++ more) at.whole ∙ append_assoc (at.front ++ part) at.rest more;
  place = at.place;
}

evened_by : (count : ℕ) (part words : List ℕ) (b : Bool) → OccursAfter count part words → OccursAfter count part (cond b words (words ++ 0 ∷ []))
evened_by count part words true at = at
evened_by count part words false at = more_behind count part words (0 ∷ []) at

pub evened_stands : (newer : Bool) (count : ℕ) (part words : List ℕ) → OccursAfter count part words → OccursAfter count part (padded_statics newer words)
evened_stands true count part words at = at
evened_stands false count part words at = evened_by count part words (eqb (length words % 2) 0) at

evened_length_by : (words : List ℕ) (b : Bool) → eqb (length words % 2) 0 ≡ b → length (cond b words (words ++ 0 ∷ [])) ≡ length words + length words % 2
evened_length_by words true e = let z = eqb-true (length words % 2) 0 e in omega arith
evened_length_by words false e =
    let odd = eqb-false (length words % 2) 0 e in
    let longer = length-append words (0 ∷ []) in
    omega arith

behind_by : (words : List ℕ) (b : Bool) → eqb (length words % 2) 0 ≡ b → OccursAfter (length words) (replicate (length words % 2) 0) (cond b words (words ++ 0 ∷ []))
behind_by words true e =
    let z : length words % 2 ≡ 0 = eqb-true (length words % 2) 0 e in
    record { front = words; rest = []; whole = sym (append-nil words) ∙ ap (λ n. words ++ replicate n 0) (sym z) ∙ sym (append-nil (words ++ replicate (length words % 2) 0)); place = refl }
behind_by words false e =
    let odd = eqb-false (length words % 2) 0 e in
    let o : length words % 2 ≡ 1 = omega arith in
    record { front = words; rest = []; whole = ap (λ n. words ++ replicate n 0) (sym o) ∙ sym (append-nil (words ++ replicate (length words % 2) 0)); place = refl }

-- after the words that lines place comes the evening word, if there is one
evening_by : (newer : Bool) (words : List ℕ) → OccursAfter (length words) (padding_words newer (length words)) (padded_statics newer words)
evening_by true words = record { front = words; rest = []; whole = sym (append-nil words) ∙ sym (append-nil (words ++ [])); place = refl }
evening_by false words = behind_by words (eqb (length words % 2) 0) refl

pub evened_behind : (newer : Bool) (words : List ℕ) (count : ℕ) → length words ≡ count → OccursAfter count (padding_words newer count) (padded_statics newer words)
evened_behind newer words count e = subst (λ n. OccursAfter n (padding_words newer n) (padded_statics newer words)) e (evening_by newer words)

pub evened_length : (newer : Bool) (words : List ℕ) → length (padded_statics newer words) ≡ padded_static_count newer (length words)
evened_length true words = refl
evened_length false words = evened_length_by words (eqb (length words % 2) 0) refl

-- ---- the version

or_true : (b : Bool) → true ≡ (b || true)
or_true true = refl
or_true false = refl

grown_outer : (section : Section) (spot : LocationCounter) (n : ℕ) → (plus_words_in section spot n).uses_outer ≡ (spot.uses_outer || false)
grown_outer Text spot n = sym (or_none spot.uses_outer)
grown_outer Linkage spot n = sym (or_none spot.uses_outer)
grown_outer Symbol spot n = sym (or_none spot.uses_outer)
grown_outer Static spot n = sym (or_none spot.uses_outer)

entered_outer : (spot : LocationCounter) (definition_of_name : Section) → (with_section spot definition_of_name).uses_outer ≡ (spot.uses_outer || is_static definition_of_name)
entered_outer spot Text = sym (or_none spot.uses_outer)
entered_outer spot Linkage = sym (or_none spot.uses_outer)
entered_outer spot Symbol = sym (or_none spot.uses_outer)
entered_outer spot Static = or_true spot.uses_outer

moved_outer : (text : List ℕ) (d : LineEffect) (arguments : List Arg) (spot : LocationCounter)
    → (next_spot text d arguments spot).uses_outer ≡ (spot.uses_outer || enters_static d (section_in text (symbol_in (first_arg arguments))))
moved_outer text deed.Nothing arguments spot = sym (or_none spot.uses_outer)
moved_outer text (deed.Instruction code bit27) arguments spot = grown_outer spot.section spot 1
moved_outer text deed.Entry arguments spot = sym (or_none spot.uses_outer)
moved_outer text deed.Segdef arguments spot = sym (or_none spot.uses_outer)
moved_outer text deed.Equ arguments spot = sym (or_none spot.uses_outer)
moved_outer text deed.Use arguments spot = entered_outer spot (section_in text (symbol_in (first_arg arguments)))
moved_outer text deed.Words arguments spot = grown_outer spot.section spot (size_of deed.Words arguments (place spot))
moved_outer text deed.Zero arguments spot = grown_outer spot.section spot 1
moved_outer text deed.Block arguments spot = grown_outer spot.section spot (size_of deed.Block arguments (place spot))
moved_outer text deed.Even arguments spot = grown_outer spot.section spot (size_of deed.Even arguments (place spot))
moved_outer text deed.Bound arguments spot = sym (or_none spot.uses_outer)

pub end_outer : (text : List ℕ) (spot : LocationCounter) (lines : List Line36) → (end_of text spot lines).uses_outer ≡ (spot.uses_outer || list_any (is_use_static text) lines)
unfolding end_of next_line_spot is_use_static
end_outer text spot [] = sym (or_none spot.uses_outer)
end_outer text spot (line ∷ lines) =
    end_outer text (next_line_spot text spot line) lines
    ∙ ap (λ b. b || list_any (is_use_static text) lines) (moved_outer text line.deed line.args spot)
    ∙ or_assoc spot.uses_outer (is_use_static text line) (list_any (is_use_static text) lines)

-- ---- the entry bound

no_bound : (spot : LocationCounter) (bound : ℕ) (d : LineEffect) → is_entrybound_effect d ≡ false → bound_after_line spot bound d ≡ bound
no_bound spot bound deed.Nothing e = refl
no_bound spot bound (deed.Instruction code bit27) e = refl
no_bound spot bound deed.Entry e = refl
no_bound spot bound deed.Segdef e = refl
no_bound spot bound deed.Equ e = refl
no_bound spot bound deed.Use e = refl
no_bound spot bound deed.Words e = refl
no_bound spot bound deed.Zero e = refl
no_bound spot bound deed.Block e = refl
no_bound spot bound deed.Even e = refl
no_bound spot bound deed.Bound e = absurd (true≢false e)

a_bound : (spot : LocationCounter) (bound : ℕ) (d : LineEffect) → is_entrybound_effect d ≡ true → bound_after_line spot bound d ≡ spot.text % 2 ^ 18
a_bound spot bound deed.Nothing e = absurd (true≢false (sym e))
a_bound spot bound (deed.Instruction code bit27) e = absurd (true≢false (sym e))
a_bound spot bound deed.Entry e = absurd (true≢false (sym e))
a_bound spot bound deed.Segdef e = absurd (true≢false (sym e))
a_bound spot bound deed.Equ e = absurd (true≢false (sym e))
a_bound spot bound deed.Use e = absurd (true≢false (sym e))
a_bound spot bound deed.Words e = absurd (true≢false (sym e))
a_bound spot bound deed.Zero e = absurd (true≢false (sym e))
a_bound spot bound deed.Block e = absurd (true≢false (sym e))
a_bound spot bound deed.Even e = absurd (true≢false (sym e))
a_bound spot bound deed.Bound e = refl

pub unbound : (text : List ℕ) (bound : ℕ) (spot : LocationCounter) (lines : List Line36) → list_any is_entrybound lines ≡ false → bound_from text bound spot lines ≡ bound
unfolding bound_from is_entrybound
unbound text bound spot [] e = refl
unbound text bound spot (line ∷ lines) e =
    let parts = or_parts (is_entrybound line) (list_any is_entrybound lines) e in
    unbound text (bound_after_line spot bound line.deed) (next_line_spot text spot line) lines parts.1 ∙ no_bound spot bound line.deed parts.0

bound_follows : (text : List ℕ) (bound : ℕ) (spot : LocationCounter) (above lines : List Line36)
    → bound_from text bound spot (above ++ lines) ≡ bound_from text (bound_from text bound spot above) (end_of text spot above) lines
unfolding bound_from end_of
bound_follows text bound spot [] lines = refl
bound_follows text bound spot (line ∷ above) lines = bound_follows text (bound_after_line spot bound line.deed) (next_line_spot text spot line) above lines

pub bound_is : (text : List ℕ) (lines above : List Line36) (line : Line36) (others : List Line36) → lines ≡ above ++ line ∷ others
    → is_entrybound line ≡ true → list_any is_entrybound others ≡ false → bound_from text 0 start lines ≡ (end_of text start above).text % 2 ^ 18
unfolding bound_from is_entrybound
bound_is text lines above line others split this none =
    let before = bound_from text 0 start above in
    let spot = end_of text start above in
    ap (λ (l : List Line36). bound_from text 0 start l) split
    ∙ bound_follows text 0 start above (line ∷ others)
    ∙ unbound text (bound_after_line spot before line.deed) (next_line_spot text spot line) others none
    ∙ a_bound spot before line.deed this
