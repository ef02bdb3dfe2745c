-- If no line selects the static section, no expression is a place of it.
use Rattle.std.proofs.Common.{◌≡◌, ℕ, ◌+◌, ◌≤◌, Bool, true, false, cond, ◌&&◌, List, [], ◌∷◌, Option, Some, None, unwrap_or, refl, sym, ap, ◌∙◌, true≢false, arith}
use Rattle.std.proofs.lemmas.Bool.{and_left, and_right, le-ltb}
use Rattle.alm_tokens.specs.declared.span.Span.{Span}
use Rattle.alm_tokens.specs.declared.expression.Atom.{Atom}
use Rattle.alm_tokens.specs.declared.expression.Atom.TheVariants as atom
use Rattle.alm_tokens.specs.declared.expression.Term.{Term}
use Rattle.alm_parse.specs.declared.args.Arg.{Arg}
use Rattle.alm_parse.specs.declared.line.Line36.{Line36}
use Rattle.obj36_parts.specs.declared.section.Section.{Section}
use Rattle.obj36_parts.specs.declared.section.Section.TheVariants.{Text, Linkage, Symbol, Static}
use Rattle.alm_lines.specs.Sums.{zero_sum, sum_plus, negated_sum, kind_of, is_zero, is_one}
use Rattle.alm_lines.specs.Symbols.{sum_named}
use Rattle.alm_lines.specs.Arguments.{name_at, first_arg, second_arg, symbol_in, terms_in, section_in}
use Rattle.alm_lines.specs.Spots.{start, label_sum_in, here, place, plus_words_in, with_section, size_of, next_spot, next_line_spot, end_of}
use Rattle.alm_lines.specs.Expressions.{symbol_sum, atom_sum, term_sum, with_terms, sum_of}
use Rattle.alm_lines.specs.Values.{has_value}
use Rattle.alm_lines.specs.Layout.{number_or_unknown, equ_sum, defined_symbol, defined_symbol_sum, symbols_with_defined, symbols_with_labels, symbols_after, symbols_from}
use Rattle.alm_lines.specs.declared.sum.Sum.{Sum}
use Rattle.alm_lines.specs.declared.sum.Kind.{Kind}
use Rattle.alm_lines.specs.declared.sum.Kind.TheVariants.{Absolute, Moved, Inexpressible}
use Rattle.alm_lines.specs.SpotFields.{LocationCounter}
use Rattle.alm_parse.specs.declared.deed.LineEffect.{LineEffect}
use Rattle.alm_parse.specs.declared.deed.LineEffect.TheVariants as deed
use Rattle.alm_lines.specs.declared.refusal.ValueField.TheVariants.{Half}
use Rattle.alm_asm.specs.LineRefusals.{is_static}
use Rattle.alm_asm.proofs.EachSymbol.{Each, each_of_none, each_with_labels, each_with_own}

abbrev pub Fits : Bool → Sum → Type 0
Fits outer sum = outer ≡ false → sum.outer.up ≡ sum.outer.down

abbrev pub AllFit : Bool → List (List ℕ × Sum) → Type 0
AllFit outer symbols = Each (Fits outer) symbols

-- ---- places of lines

grown_uses : (section : Section) (spot : LocationCounter) (n : ℕ) → (plus_words_in section spot n).uses_outer ≡ spot.uses_outer
grown_uses Text spot n = refl
grown_uses Linkage spot n = refl
grown_uses Symbol spot n = refl
grown_uses Static spot n = refl

pub grown_section : (section : Section) (spot : LocationCounter) (n : ℕ) → (plus_words_in section spot n).section ≡ spot.section
grown_section Text spot n = refl
grown_section Linkage spot n = refl
grown_section Symbol spot n = refl
grown_section Static spot n = refl

entered_uses : (spot : LocationCounter) (definition_of_name : Section) → spot.uses_outer ≡ true → (with_section spot definition_of_name).uses_outer ≡ true
entered_uses spot Text e = e
entered_uses spot Linkage e = e
entered_uses spot Symbol e = e
entered_uses spot Static e = refl

entered_keeps : (spot : LocationCounter) (definition_of_name : Section) → (is_static spot.section ≡ true → spot.uses_outer ≡ true) → is_static (with_section spot definition_of_name).section ≡ true → (with_section spot definition_of_name).uses_outer ≡ true
entered_keeps spot Text h e = absurd (true≢false (sym e))
entered_keeps spot Linkage h e = absurd (true≢false (sym e))
entered_keeps spot Symbol h e = h e
entered_keeps spot Static h e = refl

grown_keeps : (section : Section) (spot : LocationCounter) (n : ℕ) → (is_static spot.section ≡ true → spot.uses_outer ≡ true)
    → is_static (plus_words_in section spot n).section ≡ true → (plus_words_in section spot n).uses_outer ≡ true
grown_keeps section spot n h e = grown_uses section spot n ∙ h (sym (ap is_static (grown_section section spot n)) ∙ e)

moved_uses : (text : List ℕ) (d : LineEffect) (arguments : List Arg) (spot : LocationCounter) → spot.uses_outer ≡ true → (next_spot text d arguments spot).uses_outer ≡ true
moved_uses text deed.Nothing arguments spot e = e
moved_uses text (deed.Instruction code bit27) arguments spot e = grown_uses spot.section spot 1 ∙ e
moved_uses text deed.Entry arguments spot e = e
moved_uses text deed.Segdef arguments spot e = e
moved_uses text deed.Equ arguments spot e = e
moved_uses text deed.Use arguments spot e = entered_uses spot (section_in text (symbol_in (first_arg arguments))) e
moved_uses text deed.Words arguments spot e = grown_uses spot.section spot (size_of deed.Words arguments (place spot)) ∙ e
moved_uses text deed.Zero arguments spot e = grown_uses spot.section spot 1 ∙ e
moved_uses text deed.Block arguments spot e = grown_uses spot.section spot (size_of deed.Block arguments (place spot)) ∙ e
moved_uses text deed.Even arguments spot e = grown_uses spot.section spot (size_of deed.Even arguments (place spot)) ∙ e
moved_uses text deed.Bound arguments spot e = e

moved_keeps : (text : List ℕ) (d : LineEffect) (arguments : List Arg) (spot : LocationCounter) → (is_static spot.section ≡ true → spot.uses_outer ≡ true)
    → is_static (next_spot text d arguments spot).section ≡ true → (next_spot text d arguments spot).uses_outer ≡ true
moved_keeps text deed.Nothing arguments spot h = h
moved_keeps text (deed.Instruction code bit27) arguments spot h = grown_keeps spot.section spot 1 h
moved_keeps text deed.Entry arguments spot h = h
moved_keeps text deed.Segdef arguments spot h = h
moved_keeps text deed.Equ arguments spot h = h
moved_keeps text deed.Use arguments spot h = entered_keeps spot (section_in text (symbol_in (first_arg arguments))) h
moved_keeps text deed.Words arguments spot h = grown_keeps spot.section spot (size_of deed.Words arguments (place spot)) h
moved_keeps text deed.Zero arguments spot h = grown_keeps spot.section spot 1 h
moved_keeps text deed.Block arguments spot h = grown_keeps spot.section spot (size_of deed.Block arguments (place spot)) h
moved_keeps text deed.Even arguments spot h = grown_keeps spot.section spot (size_of deed.Even arguments (place spot)) h
moved_keeps text deed.Bound arguments spot h = h

pub end_uses : (text : List ℕ) (spot : LocationCounter) (lines : List Line36) → spot.uses_outer ≡ true → (end_of text spot lines).uses_outer ≡ true
unfolding end_of next_line_spot
end_uses text spot [] e = e
end_uses text spot (line ∷ lines) e = end_uses text (next_line_spot text spot line) lines (moved_uses text line.deed line.args spot e)

-- Lines at a place. At their end it is known whether a line has selected the static section.
pub record StandAt (text : List ℕ) (outer : Bool) (spot : LocationCounter) (lines : List Line36) : Type 0 where
  pub kept : is_static spot.section ≡ true → spot.uses_outer ≡ true
  pub ends : (end_of text spot lines).uses_outer ≡ outer

pub others_stand : (text : List ℕ) (outer : Bool) (spot : LocationCounter) (line : Line36) (lines : List Line36) → StandAt text outer spot (line ∷ lines) → StandAt text outer (next_line_spot text spot line) lines
unfolding end_of next_line_spot
others_stand text outer spot line lines at = record { kept = moved_keeps text line.deed line.args spot at.kept; ends = at.ends }

pub no_static : (text : List ℕ) (outer : Bool) (spot : LocationCounter) (lines : List Line36) → StandAt text outer spot lines → outer ≡ false → is_static spot.section ≡ false
no_static text outer spot lines at none = by (is_static spot.section) refl
  where
    by : (b : Bool) → is_static spot.section ≡ b → is_static spot.section ≡ false
    by true e = absurd (true≢false (sym (end_uses text spot lines (at.kept e)) ∙ at.ends ∙ none))
    by false e = e

-- ---- sums

pub here_fits : (outer : Bool) (section : Section) (spot : LocationCounter) → (outer ≡ false → is_static section ≡ false) → Fits outer (label_sum_in section spot)
here_fits outer Text spot h none = refl
here_fits outer Linkage spot h none = refl
here_fits outer Symbol spot h none = refl
here_fits outer Static spot h none = absurd (true≢false (h none))

unwrapped_fits : (outer : Bool) (found : Option Sum) → ((sum : Sum) → found ≡ Some sum → Fits outer sum) → Fits outer (unwrap_or found zero_sum)
unwrapped_fits outer None h none = refl
unwrapped_fits outer (Some sum) h none = h sum refl none

pub symbol_fits : (outer : Bool) (text : List ℕ) (symbols : List (List ℕ × Sum)) (span : Span) → AllFit outer symbols → Fits outer (symbol_sum text symbols span)
unfolding symbol_sum
symbol_fits outer text symbols span all = unwrapped_fits outer (sum_named (name_at text span) symbols) (all (name_at text span))

atom_fits : (outer : Bool) (text : List ℕ) (symbols : List (List ℕ × Sum)) (spot : LocationCounter) (span : Span) (a : Atom) → AllFit outer symbols → (outer ≡ false → is_static spot.section ≡ false)
    → Fits outer (atom_sum text symbols spot span a)
atom_fits outer text symbols spot span (atom.Number n) all h none = refl
atom_fits outer text symbols spot span atom.Symbol all h none = symbol_fits outer text symbols span all none
atom_fits outer text symbols spot span atom.Here all h none = here_fits outer spot.section spot h none

signed_fits : (outer minus : Bool) (sum : Sum) → Fits outer sum → Fits outer (cond minus (negated_sum sum) sum)
unfolding negated_sum
signed_fits outer true sum fits none = sym (fits none)
signed_fits outer false sum fits none = fits none

term_fits : (outer : Bool) (text : List ℕ) (symbols : List (List ℕ × Sum)) (spot : LocationCounter) (term : Term) → AllFit outer symbols → (outer ≡ false → is_static spot.section ≡ false)
    → Fits outer (term_sum text symbols spot term)
unfolding term_sum
term_fits outer text symbols spot term all h =
    signed_fits outer term.minus (atom_sum text symbols spot term.span term.what) (atom_fits outer text symbols spot term.span term.what all h)

plus_fits : (outer : Bool) (a b : Sum) → Fits outer a → Fits outer b → Fits outer (sum_plus a b)
unfolding sum_plus
plus_fits outer a b f g none = λ i. f none i + g none i

added_fits : (outer : Bool) (text : List ℕ) (symbols : List (List ℕ × Sum)) (spot : LocationCounter) (sum : Sum) (terms : List Term) → AllFit outer symbols → (outer ≡ false → is_static spot.section ≡ false)
    → Fits outer sum → Fits outer (with_terms text symbols spot sum terms)
unfolding with_terms
added_fits outer text symbols spot sum [] all h fits = fits
added_fits outer text symbols spot sum (term ∷ terms) all h fits =
    added_fits outer text symbols spot (sum_plus sum (term_sum text symbols spot term)) terms all h (plus_fits outer sum (term_sum text symbols spot term) fits (term_fits outer text symbols spot term all h))

pub sum_fits : (outer : Bool) (text : List ℕ) (symbols : List (List ℕ × Sum)) (spot : LocationCounter) (terms : List Term) → AllFit outer symbols → (outer ≡ false → is_static spot.section ≡ false)
    → Fits outer (sum_of text symbols spot terms)
sum_fits outer text symbols spot terms all h = added_fits outer text symbols spot zero_sum terms all h (λ none. refl)

-- ---- symbols

value_fits : (outer valued : Bool) (sum : Sum) → Fits outer (number_or_unknown valued sum)
value_fits outer true sum none = refl
value_fits outer false sum none = refl

of_value_fits : (outer : Bool) (text : List ℕ) (symbols : List (List ℕ × Sum)) (spot : LocationCounter) (line : Line36) → Fits outer (equ_sum text symbols spot line)
unfolding equ_sum
of_value_fits outer text symbols spot line =
    value_fits outer (has_value text symbols spot (terms_in (second_arg line.args)) Half false) (sum_of text symbols spot (terms_in (second_arg line.args)))

own_sum_fits : (outer : Bool) (text : List ℕ) (symbols : List (List ℕ × Sum)) (spot : LocationCounter) (line : Line36) (d : LineEffect) → (outer ≡ false → is_static spot.section ≡ false)
    → Fits outer (defined_symbol_sum text symbols spot line d)
own_sum_fits outer text symbols spot line deed.Nothing h = here_fits outer spot.section spot h
own_sum_fits outer text symbols spot line (deed.Instruction code bit27) h = here_fits outer spot.section spot h
own_sum_fits outer text symbols spot line deed.Entry h = here_fits outer spot.section spot h
own_sum_fits outer text symbols spot line deed.Segdef h = here_fits outer spot.section spot h
own_sum_fits outer text symbols spot line deed.Equ h = of_value_fits outer text symbols spot line
own_sum_fits outer text symbols spot line deed.Use h = here_fits outer spot.section spot h
own_sum_fits outer text symbols spot line deed.Words h = here_fits outer spot.section spot h
own_sum_fits outer text symbols spot line deed.Zero h = here_fits outer spot.section spot h
own_sum_fits outer text symbols spot line deed.Block h = here_fits outer spot.section spot h
own_sum_fits outer text symbols spot line deed.Even h = here_fits outer spot.section spot h
own_sum_fits outer text symbols spot line deed.Bound h = here_fits outer spot.section spot h

line_fits : (outer : Bool) (text : List ℕ) (symbols : List (List ℕ × Sum)) (spot : LocationCounter) (line : Line36) → AllFit outer symbols → (outer ≡ false → is_static spot.section ≡ false)
    → AllFit outer (symbols_after text symbols spot line)
unfolding symbols_after symbols_with_defined
line_fits outer text symbols spot line all h =
    each_with_own (Fits outer) text (defined_symbol_sum text (symbols_with_labels text symbols spot line) spot line line.deed) (symbols_with_labels text symbols spot line) (defined_symbol line.deed line.args)
    (each_with_labels (Fits outer) text (here spot) symbols line.labels all (here_fits outer spot.section spot h))
    (own_sum_fits outer text (symbols_with_labels text symbols spot line) spot line line.deed h)

lines_fit : (outer : Bool) (text : List ℕ) (symbols : List (List ℕ × Sum)) (spot : LocationCounter) (lines : List Line36) → AllFit outer symbols → StandAt text outer spot lines
    → AllFit outer (symbols_from text symbols spot lines)
unfolding symbols_from
lines_fit outer text symbols spot [] all at = all
lines_fit outer text symbols spot (line ∷ lines) all at =
    lines_fit outer text (symbols_after text symbols spot line) (next_line_spot text spot line) lines (line_fits outer text symbols spot line all (no_static text outer spot (line ∷ lines) at)) (others_stand text outer spot line lines at)

pub start_stands : (text : List ℕ) (lines : List Line36) → StandAt text (end_of text start lines).uses_outer start lines
start_stands text lines = record { kept = λ e. absurd (true≢false (sym e)); ends = refl }

pub symbols_fit : (text : List ℕ) (lines : List Line36) → AllFit (end_of text start lines).uses_outer (symbols_from text [] start lines)
symbols_fit text lines = lines_fit (end_of text start lines).uses_outer text [] start lines (each_of_none (Fits (end_of text start lines).uses_outer)) (start_stands text lines)

-- ---- kinds

abbrev pub good_kind : Bool → Kind → Bool
good_kind outer Absolute = true
good_kind outer (Moved Text) = true
good_kind outer (Moved Linkage) = true
good_kind outer (Moved Symbol) = false
good_kind outer (Moved Static) = outer
good_kind outer Inexpressible = true

kind_by : (outer a b c d : Bool) → (outer ≡ false → d ≡ false) → good_kind outer (cond a Absolute (cond b (Moved Text) (cond c (Moved Linkage) (cond d (Moved Static) Inexpressible)))) ≡ true
kind_by outer true b c d h = refl
kind_by outer false true c d h = refl
kind_by outer false false true d h = refl
kind_by true false false false true h = refl
kind_by false false false false true h = absurd (true≢false (h refl))
kind_by outer false false false false h = refl

pub kind_good : (outer : Bool) (s : Sum) → Fits outer s → good_kind outer (kind_of s) ≡ true
unfolding kind_of
kind_good outer s fits =
    kind_by outer (is_zero s.text && is_zero s.inner && is_zero s.outer) (is_one s.text && is_zero s.inner && is_zero s.outer) (is_zero s.text && is_one s.inner && is_zero s.outer) (is_zero s.text && is_zero s.inner && is_one s.outer)
    (λ none. let least : s.outer.up ≤ s.outer.down = (let e = fits none in omega arith) in
    and_right (is_zero s.text && is_zero s.inner) (is_one s.outer) (and_left _ _ (le-ltb s.outer.down s.outer.up least)))
