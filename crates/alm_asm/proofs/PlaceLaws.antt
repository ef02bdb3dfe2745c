-- Places count words, and words follow one another.
use Rattle.std.proofs.Common.{◌≡◌, ℕ, ◌+◌, ◌%◌, ◌≤◌, Bool, true, false, cond, List, [], ◌∷◌, ◌++◌, length, refl, sym, ap, ◌∙◌, true≢false, arith, add-zero}
use Rattle.std.proofs.lemmas.List.{length-append, length-replicate}
use Rattle.alm_parse.specs.declared.args.Arg.{Arg}
use Rattle.alm_parse.specs.declared.line.Line36.{Line36}
use Rattle.obj36_parts.specs.declared.section.Section.{Section}
use Rattle.obj36_parts.specs.declared.section.Section.TheVariants.{Text, Linkage, Symbol, Static}
use Rattle.alm_lines.specs.Arguments.{first_arg, second_arg, symbol_in, number_in, words_of_args, section_in}
use Rattle.alm_lines.specs.Spots.{start, count_in, place, plus_words_in, with_section, size_of, next_spot, next_line_spot, end_of}
use Rattle.alm_asm.specs.Words.{instruction_word, halves_word, words_of_effect, words_of_line, words_from}
use Rattle.obj36_parts.specs.Sections.{same_section}
use Rattle.alm_asm.specs.Laws.{can_have_words}
use Rattle.alm_lines.specs.SpotFields.{LocationCounter}
use Rattle.alm_asm.specs.declared.tables.Tables.{Tables}
use Rattle.alm_parse.specs.declared.deed.LineEffect.{LineEffect}
use Rattle.alm_parse.specs.declared.deed.LineEffect.TheVariants as deed

-- a section's count grows by the words that are placed in it
grown_counts : (to from : Section) (spot : LocationCounter) (n : ℕ) → can_have_words to ≡ true → count_in to (plus_words_in from spot n) ≡ count_in to spot + cond (same_section from to) n 0
grown_counts Text Text spot n p = refl
grown_counts Text Linkage spot n p = sym (add-zero spot.text)
grown_counts Text Symbol spot n p = sym (add-zero spot.text)
grown_counts Text Static spot n p = sym (add-zero spot.text)
grown_counts Linkage Text spot n p = sym (add-zero spot.inner)
grown_counts Linkage Linkage spot n p = refl
grown_counts Linkage Symbol spot n p = sym (add-zero spot.inner)
grown_counts Linkage Static spot n p = sym (add-zero spot.inner)
grown_counts Symbol from spot n p = absurd (true≢false (sym p))
grown_counts Static Text spot n p = sym (add-zero spot.outer)
grown_counts Static Linkage spot n p = sym (add-zero spot.outer)
grown_counts Static Symbol spot n p = sym (add-zero spot.outer)
grown_counts Static Static spot n p = refl

entered_counts : (to definition_of_name : Section) (spot : LocationCounter) → count_in to (with_section spot definition_of_name) ≡ count_in to spot
entered_counts Text Text spot = refl
entered_counts Text Linkage spot = refl
entered_counts Text Symbol spot = refl
entered_counts Text Static spot = refl
entered_counts Linkage Text spot = refl
entered_counts Linkage Linkage spot = refl
entered_counts Linkage Symbol spot = refl
entered_counts Linkage Static spot = refl
entered_counts Symbol Text spot = refl
entered_counts Symbol Linkage spot = refl
entered_counts Symbol Symbol spot = refl
entered_counts Symbol Static spot = refl
entered_counts Static Text spot = refl
entered_counts Static Linkage spot = refl
entered_counts Static Symbol spot = refl
entered_counts Static Static spot = refl

length_if : (b : Bool) (words : List ℕ) → length (cond b words []) ≡ cond b (length words) 0
length_if true words = refl
length_if false words = refl

none_if : (b : Bool) (n : ℕ) → n ≡ n + length (cond b [] (let none : List ℕ = [] in none))
none_if true n = sym (add-zero n)
none_if false n = sym (add-zero n)

growth_after_line : (to from : Section) (spot : LocationCounter) (n : ℕ) (words : List ℕ) → can_have_words to ≡ true → length words ≡ n
    → count_in to (plus_words_in from spot n) ≡ count_in to spot + length (cond (same_section from to) words [])
growth_after_line to from spot n words p e =
    grown_counts to from spot n p ∙ ap (λ m. count_in to spot + cond (same_section from to) m 0) (sym e) ∙ ap (λ m. count_in to spot + m) (sym (length_if (same_section from to) words))

pub counted_by : (to : Section) (text : List ℕ) (tables : Tables) (spot : LocationCounter) (arguments : List Arg) (d : LineEffect) → can_have_words to ≡ true
    → count_in to (next_spot text d arguments spot) ≡ count_in to spot + length (cond (same_section spot.section to) (words_of_effect text tables spot arguments d) [])
counted_by to text tables spot arguments deed.Nothing p = none_if (same_section spot.section to) (count_in to spot)
counted_by to text tables spot arguments (deed.Instruction code bit27) p =
    growth_after_line to spot.section spot 1 (instruction_word text tables spot code bit27 arguments ∷ []) p refl
counted_by to text tables spot arguments deed.Entry p = none_if (same_section spot.section to) (count_in to spot)
counted_by to text tables spot arguments deed.Segdef p = none_if (same_section spot.section to) (count_in to spot)
counted_by to text tables spot arguments deed.Equ p = none_if (same_section spot.section to) (count_in to spot)
counted_by to text tables spot arguments deed.Use p =
    entered_counts to (section_in text (symbol_in (first_arg arguments))) spot ∙ none_if (same_section spot.section to) (count_in to spot)
counted_by to text tables spot arguments deed.Words p =
    growth_after_line to spot.section spot (length (words_of_args [] arguments)) (words_of_args [] arguments) p refl
counted_by to text tables spot arguments deed.Zero p = growth_after_line to spot.section spot 1 (halves_word text tables spot arguments ∷ []) p refl
counted_by to text tables spot arguments deed.Block p =
    growth_after_line to spot.section spot (number_in (second_arg arguments)) (words_of_effect text tables spot arguments deed.Block) p (length-replicate (number_in (second_arg arguments)) 0)
counted_by to text tables spot arguments deed.Even p =
    growth_after_line to spot.section spot (place spot % 2) (words_of_effect text tables spot arguments deed.Even) p (length-replicate (place spot % 2) 0)
counted_by to text tables spot arguments deed.Bound p = none_if (same_section spot.section to) (count_in to spot)

pub counted : (to : Section) (text : List ℕ) (tables : Tables) (spot : LocationCounter) (line : Line36) → can_have_words to ≡ true
    → count_in to (next_line_spot text spot line) ≡ count_in to spot + length (words_of_line text tables to spot line)
unfolding next_line_spot words_of_line
counted to text tables spot line p = counted_by to text tables spot line.args line.deed p

all_counted : (to : Section) (text : List ℕ) (tables : Tables) (words : List ℕ) (spot : LocationCounter) (lines : List Line36) → can_have_words to ≡ true
    → count_in to spot ≡ length words → count_in to (end_of text spot lines) ≡ length (words_from text tables to words spot lines)
unfolding end_of words_from
all_counted to text tables words spot [] p e = e
all_counted to text tables words spot (line ∷ lines) p e =
    all_counted to text tables (words ++ words_of_line text tables to spot line) (next_line_spot text spot line) lines p
    (counted to text tables spot line p ∙ ap (λ n. n + length (words_of_line text tables to spot line)) e ∙ sym (length-append words (words_of_line text tables to spot line)))

starts_empty : (to : Section) → count_in to start ≡ 0
starts_empty Text = refl
starts_empty Linkage = refl
starts_empty Symbol = refl
starts_empty Static = refl

pub places_count : (text : List ℕ) (tables : Tables) (section : Section) (above : List Line36) → can_have_words section ≡ true
    → count_in section (end_of text start above) ≡ length (words_from text tables section [] start above)
places_count text tables section above p = all_counted section text tables [] start above p (starts_empty section)

-- words that lack none of the lines are as many as are counted at their end
pub words_counted : (text : List ℕ) (tables : Tables) (section : Section) (lines : List Line36) (words : List ℕ) (spot : LocationCounter) (rest : List Line36)
    → rest ≡ [] → words_from text tables section words spot rest ≡ words_from text tables section [] start lines
    → can_have_words section ≡ true → length words ≡ count_in section (end_of text start lines)
unfolding words_from
words_counted text tables section lines words spot rest none whole can =
    let all : words ≡ words_from text tables section [] start lines =
    sym (ap (λ (ls : List Line36). words_from text tables section words spot ls) none) ∙ whole in
    ap length all ∙ sym (places_count text tables section lines can)

-- the size of a line is the number of words that it places
sized_by : (text : List ℕ) (tables : Tables) (spot : LocationCounter) (arguments : List Arg) (d : LineEffect) → size_of d arguments (place spot) ≡ length (words_of_effect text tables spot arguments d)
sized_by text tables spot arguments deed.Nothing = refl
sized_by text tables spot arguments (deed.Instruction code bit27) = refl
sized_by text tables spot arguments deed.Entry = refl
sized_by text tables spot arguments deed.Segdef = refl
sized_by text tables spot arguments deed.Equ = refl
sized_by text tables spot arguments deed.Use = refl
sized_by text tables spot arguments deed.Words = refl
sized_by text tables spot arguments deed.Zero = refl
sized_by text tables spot arguments deed.Block = sym (length-replicate (number_in (second_arg arguments)) 0)
sized_by text tables spot arguments deed.Even = sym (length-replicate (place spot % 2) 0)
sized_by text tables spot arguments deed.Bound = refl

pub same_self : (section : Section) → same_section section section ≡ true
same_self Text = refl
same_self Linkage = refl
same_self Symbol = refl
same_self Static = refl

pub sizes_count : (text : List ℕ) (tables : Tables) (spot : LocationCounter) (line : Line36)
    → size_of line.deed line.args (place spot) ≡ length (words_of_line text tables spot.section spot line)
unfolding words_of_line
sizes_count text tables spot line =
    sized_by text tables spot line.args line.deed
    ∙ sym (ap (λ b. length (cond b (words_of_effect text tables spot line.args line.deed) [])) (same_self spot.section))

follow_from : (text : List ℕ) (tables : Tables) (section : Section) (words : List ℕ) (spot : LocationCounter) (above lines : List Line36)
    → words_from text tables section words spot (above ++ lines) ≡ words_from text tables section (words_from text tables section words spot above) (end_of text spot above) lines
unfolding end_of words_from
follow_from text tables section words spot [] lines = refl
follow_from text tables section words spot (line ∷ above) lines =
    follow_from text tables section (words ++ words_of_line text tables section spot line) (next_line_spot text spot line) above lines

pub words_follow : (text : List ℕ) (tables : Tables) (section : Section) (above lines : List Line36)
    → words_from text tables section [] start (above ++ lines) ≡ words_from text tables section (words_from text tables section [] start above) (end_of text start above) lines
words_follow text tables section above lines = follow_from text tables section [] start above lines

-- ---- counts never decrease

pub grown_self : (section : Section) (spot : LocationCounter) (n : ℕ) → can_have_words section ≡ true → count_in section (plus_words_in section spot n) ≡ count_in section spot + n
grown_self Text spot n p = refl
grown_self Linkage spot n p = refl
grown_self Symbol spot n p = absurd (true≢false (sym p))
grown_self Static spot n p = refl

pub moved_grows : (to : Section) (text : List ℕ) (tables : Tables) (spot : LocationCounter) (arguments : List Arg) (d : LineEffect) → can_have_words to ≡ true
    → count_in to spot ≤ count_in to (next_spot text d arguments spot)
moved_grows to text tables spot arguments d p = let e = counted_by to text tables spot arguments d p in omega arith

pub grows : (to : Section) (text : List ℕ) (tables : Tables) (spot : LocationCounter) (line : Line36) → can_have_words to ≡ true → count_in to spot ≤ count_in to (next_line_spot text spot line)
grows to text tables spot line p = let e = counted to text tables spot line p in omega arith

pub grows_to_end : (to : Section) (text : List ℕ) (tables : Tables) (spot : LocationCounter) (lines : List Line36) → can_have_words to ≡ true → count_in to spot ≤ count_in to (end_of text spot lines)
unfolding end_of
grows_to_end to text tables spot [] p = omega arith
grows_to_end to text tables spot (line ∷ lines) p =
    let here = grows to text tables spot line p in
    let more = grows_to_end to text tables (next_line_spot text spot line) lines p in
    omega arith
