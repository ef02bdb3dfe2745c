-- The words of a section, line by line.
use Rattle.std.proofs.Common.{ℕ, ◌≡◌, ◌+◌, ◌^◌, ◌<◌, ◌≤◌, List, ◌∷◌, ◌++◌, length, take, drop, get_or, sym, ap, ◌∙◌, append_assoc, arith}
use Rattle.std.proofs.lemmas.List.{at_drop_more, at_drop_all, append-nil, length-take, length-drop}
use Rattle.alm_parse.specs.declared.line.Line36.{Line36}
use Rattle.obj36_parts.specs.declared.section.Section.{Section}
use Rattle.alm_lines.specs.SpotFields.{LocationCounter}
use Rattle.alm_lines.specs.Spots.{start, next_line_spot}
use Rattle.m36_list.specs.Listing.{placed_lines, size_in, section_words}

-- one more line
pub line_listed : (old next all name : List ℕ) (section : Section) (text left here later : List ℕ) (at size : ℕ) (spot under : LocationCounter) (lines : List Line36) (i : ℕ) (row : Line36)
    → i < length lines → row ≡ get_or lines i row → size ≡ size_in section text spot row → here ≡ take size left → later ≡ drop size left → under ≡ next_line_spot text spot row
    → next ≡ old ++ placed_lines name row.line at here
    → old ++ section_words name section text at left spot (drop i lines) ≡ all
    → next ++ section_words name section text (at + length here) later under (drop (i + 1) lines) ≡ all
unfolding section_words
line_listed old next all name section text left here later at size spot under lines i row lt is sized first rest moved put so_far =
    let F : List Line36 → List ℕ = λ ls. section_words name section text at left spot ls in
    let one : F (drop i lines) ≡ F (get_or lines i row ∷ drop (i + 1) lines) = at_drop_more F lines i row lt in
    let own : F (row ∷ drop (i + 1) lines) ≡ F (get_or lines i row ∷ drop (i + 1) lines) = ap (λ (r : Line36). F (r ∷ drop (i + 1) lines)) is in
    rw (put, first, rest, moved, sized, append_assoc) (ap (λ (t : List ℕ). old ++ t) (own ∙ sym one) ∙ so_far)

pub still_fits : (at size : ℕ) (left here later : List ℕ) → here ≡ take size left → later ≡ drop size left → at + length left ≤ 2 ^ 18 → at + length here + length later ≤ 2 ^ 18
still_fits at size left here later first rest fits =
    let a = ap length first ∙ length-take size left in
    let b = ap length rest ∙ length-drop size left in
    omega arith

-- and all
pub all_listed : (new old name : List ℕ) (section : Section) (text own left words : List ℕ) (at first : ℕ) (spot : LocationCounter) (lines rows : List Line36) (i : ℕ)
    → length lines ≤ i → text ≡ own → lines ≡ rows
    → new ++ section_words name section text at left spot (drop i lines) ≡ old ++ section_words name section text first words start lines
    → new ≡ old ++ section_words name section own first words start rows
unfolding section_words
all_listed new old name section text own left words at first spot lines rows i le same_text same_lines so_far =
    sym (append-nil new) ∙ ap (λ (t : List ℕ). new ++ t) (sym (at_drop_all (λ (ls : List Line36). section_words name section text at left spot ls) lines i le)) ∙ so_far
    ∙ ap (λ (t : List ℕ). old ++ section_words name section t first words start lines) same_text ∙ ap (λ (ls : List Line36). old ++ section_words name section own first words start ls) same_lines
