-- If the length of no section is refused, the lines place no more words in any section than it may
-- have.
use Rattle.std.proofs.Common.{◌≡◌, ℕ, ◌%◌, ◌≤◌, false, ltb, List, [], ◌∷◌, length, Option, None, subst, arith}
use Rattle.std.proofs.lemmas.Bool.{ltb-false}
use Rattle.alm_parse.specs.declared.args.Arg.{Arg}
use Rattle.alm_parse.specs.declared.line.Line36.{Line36}
use Rattle.alm_parse.specs.declared.deed.LineEffect.{LineEffect}
use Rattle.alm_parse.specs.declared.deed.LineEffect.TheVariants as deed
use Rattle.obj36_parts.specs.ObjectSegment.{section_limit}
use Rattle.obj36_parts.specs.declared.section.Section.{Section}
use Rattle.obj36_parts.specs.declared.section.Section.TheVariants.{Text, Linkage, Symbol, Static}
use Rattle.alm_lines.specs.Arguments.{first_arg, second_arg, symbol_in, number_in, words_of_args, section_in}
use Rattle.alm_lines.specs.Spots.{start, count_in, count, place, here, plus_words_in, with_section, next_spot, next_line_spot, end_of}
use Rattle.alm_lines.specs.SpotFields.{LocationCounter}
use Rattle.alm_lines.specs.Refusals.{earlier_refusal, refusal_at}
use Rattle.alm_lines.specs.Layout.{labels_refusal, definition_refusal, symbols_with_labels, over_limit_refusal, symbols_after, refusal_after, layout_refusal}
use Rattle.alm_lines.specs.declared.sum.Sum.{Sum}
use Rattle.alm_lines.specs.declared.refusal.AlmRefusal.{AlmRefusal}
use Rattle.alm_lines.specs.declared.refusal.AlmCode.TheVariants.{E8}
use Rattle.alm_asm.proofs.Unrefused.{sooner_none}
use Rattle.alm_asm.proofs.Fitting.{grown_section}
use Rattle.alm_asm.proofs.SymbolsMean.{layout_first, some_none}

-- at most this many words in each section
pub record AreShort (spot : LocationCounter) : Type 0 where
  pub text : spot.text ≤ section_limit
  pub inner : spot.inner ≤ section_limit
  pub outer : spot.outer ≤ section_limit

-- The section of a line is the only one that grows with it.
grown_short : (section : Section) (spot : LocationCounter) (n : ℕ) → count_in section (plus_words_in section spot n) ≤ section_limit → AreShort spot → AreShort (plus_words_in section spot n)
grown_short Text spot n h at = record { text = h; inner = at.inner; outer = at.outer }
grown_short Linkage spot n h at = record { text = at.text; inner = h; outer = at.outer }
grown_short Symbol spot n h at = at
grown_short Static spot n h at = record { text = at.text; inner = at.inner; outer = h }

placed_short : (spot : LocationCounter) (n : ℕ) → count (plus_words_in spot.section spot n) ≤ section_limit → AreShort spot → AreShort (plus_words_in spot.section spot n)
placed_short spot n h at =
    grown_short spot.section spot n (subst (λ (s : Section). count_in s (plus_words_in spot.section spot n) ≤ section_limit) (grown_section spot.section spot n) h) at

entered_short : (spot : LocationCounter) (definition_of_name : Section) → AreShort spot → AreShort (with_section spot definition_of_name)
entered_short spot Text at = record { text = at.text; inner = at.inner; outer = at.outer }
entered_short spot Linkage at = record { text = at.text; inner = at.inner; outer = at.outer }
entered_short spot Symbol at = at
entered_short spot Static at = record { text = at.text; inner = at.inner; outer = at.outer }

moved_short : (text : List ℕ) (d : LineEffect) (arguments : List Arg) (spot : LocationCounter) → count (next_spot text d arguments spot) ≤ section_limit → AreShort spot → AreShort (next_spot text d arguments spot)
moved_short text deed.Nothing arguments spot h at = at
moved_short text (deed.Instruction code bit27) arguments spot h at = placed_short spot 1 h at
moved_short text deed.Entry arguments spot h at = at
moved_short text deed.Segdef arguments spot h at = at
moved_short text deed.Equ arguments spot h at = at
moved_short text deed.Use arguments spot h at = entered_short spot (section_in text (symbol_in (first_arg arguments))) at
moved_short text deed.Words arguments spot h at = placed_short spot (length (words_of_args [] arguments)) h at
moved_short text deed.Zero arguments spot h at = placed_short spot 1 h at
moved_short text deed.Block arguments spot h at = placed_short spot (number_in (second_arg arguments)) h at
moved_short text deed.Even arguments spot h at = placed_short spot (place spot % 2) h at
moved_short text deed.Bound arguments spot h at = at

count_fits : (text : List ℕ) (first : Option AlmRefusal) (symbols : List (List ℕ × Sum)) (spot : LocationCounter) (line : Line36) → refusal_after text first symbols spot line ≡ None
    → count (next_line_spot text spot line) ≤ section_limit
unfolding refusal_after over_limit_refusal
count_fits text first symbols spot line e =
    let words = count (next_line_spot text spot line) in
    let others = earlier_refusal (labels_refusal text line (here spot) symbols first line.labels) (definition_refusal text (symbols_with_labels text symbols spot line) spot line line.deed) in
    let long = (sooner_none others (over_limit_refusal line (next_line_spot text spot line)) e).1 in
    ltb-false section_limit words (some_none (ltb section_limit words) (refusal_at line line.start E8) long)

below_short : (text : List ℕ) (spot : LocationCounter) (line : Line36) → count (next_line_spot text spot line) ≤ section_limit → AreShort spot → AreShort (next_line_spot text spot line)
unfolding next_line_spot
below_short text spot line h at = moved_short text line.deed line.args spot h at

end_short : (text : List ℕ) (first : Option AlmRefusal) (symbols : List (List ℕ × Sum)) (spot : LocationCounter) (lines : List Line36) → layout_refusal text first symbols spot lines ≡ None
    → AreShort spot → AreShort (end_of text spot lines)
unfolding layout_refusal end_of
end_short text first symbols spot [] e at = at
end_short text first symbols spot (line ∷ lines) e at =
    let refused = refusal_after text first symbols spot line in
    let more = symbols_after text symbols spot line in
    let free = layout_first text refused more (next_line_spot text spot line) lines e in
    end_short text refused more (next_line_spot text spot line) lines e (below_short text spot line (count_fits text first symbols spot line free) at)

pub counts_fit : (text : List ℕ) (lines : List Line36) → layout_refusal text None [] start lines ≡ None → AreShort (end_of text start lines)
counts_fit text lines e = end_short text None [] start lines e (record { text = omega arith; inner = omega arith; outer = omega arith })
