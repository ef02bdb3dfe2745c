-- Lines of lists, one after another.
use Rattle.std.proofs.Common.{ℕ, ◌≡◌, ◌+◌, ◌*◌, ◌<◌, ◌≤◌, List, ◌++◌, length, drop, get_or, sym, ap, ◌∙◌, append_assoc, arith}
use Rattle.std.proofs.lemmas.List.{at_drop_more, at_drop_all, append-nil}
use Rattle.std.specs.List.{flat_map}
use Rattle.obj36_parts.specs.Fields.{LinkFields}
use Rattle.obj36_parts.specs.declared.definition.Named.{Named}
use Rattle.m36_list.specs.Listing.{placed_line, placed_lines}
use Rattle.m36_list.specs.Print.{definition_line, link_line, link_lines, word_line, word_lines}

-- one more definition
pub definition_put : (old next all : List ℕ) (ds : List Named) (i : ℕ) (d : Named) → i < length ds → d ≡ get_or ds i d → next ≡ old ++ definition_line d
    → old ++ flat_map definition_line (drop i ds) ≡ all → next ++ flat_map definition_line (drop (i + 1) ds) ≡ all
definition_put old next all ds i d lt is put so_far =
    let one : flat_map definition_line (drop i ds) ≡ definition_line (get_or ds i d) ++ flat_map definition_line (drop (i + 1) ds) = at_drop_more (λ (xs : List Named). flat_map definition_line xs) ds i d lt in
    rw (put, append_assoc) (ap (λ (x : Named). old ++ (definition_line x ++ flat_map definition_line (drop (i + 1) ds))) is ∙ ap (λ (t : List ℕ). old ++ t) (sym one) ∙ so_far)

pub definitions_put : (new all : List ℕ) (ds : List Named) (i : ℕ) → length ds ≤ i → new ++ flat_map definition_line (drop i ds) ≡ all → new ≡ all
definitions_put new all ds i le so_far = sym (append-nil new) ∙ ap (λ (t : List ℕ). new ++ t) (sym (at_drop_all (λ (xs : List Named). flat_map definition_line xs) ds i le)) ∙ so_far

-- one more link
pub link_put : (old next all : List ℕ) (ls : List LinkFields) (first i : ℕ) (l : LinkFields) → i < length ls → l ≡ get_or ls i l → next ≡ old ++ link_line (first + 2 * i) l
    → old ++ link_lines (first + 2 * i) (drop i ls) ≡ all → next ++ link_lines (first + 2 * (i + 1)) (drop (i + 1) ls) ≡ all
unfolding link_lines
link_put old next all ls first i l lt is put so_far =
    let at : first + 2 * (i + 1) ≡ first + 2 * i + 2 = omega arith in
    let one : link_lines (first + 2 * i) (drop i ls) ≡ link_line (first + 2 * i) (get_or ls i l) ++ link_lines (first + 2 * i + 2) (drop (i + 1) ls) = at_drop_more (λ (xs : List LinkFields). link_lines (first + 2 * i) xs) ls i l lt in
    rw (at, put, append_assoc) (ap (λ (x : LinkFields). old ++ (link_line (first + 2 * i) x ++ link_lines (first + 2 * i + 2) (drop (i + 1) ls))) is ∙ ap (λ (t : List ℕ). old ++ t) (sym one) ∙ so_far)

pub links_put : (new all : List ℕ) (ls : List LinkFields) (at i : ℕ) → length ls ≤ i → new ++ link_lines at (drop i ls) ≡ all → new ≡ all
unfolding link_lines
links_put new all ls at i le so_far = sym (append-nil new) ∙ ap (λ (t : List ℕ). new ++ t) (sym (at_drop_all (λ (xs : List LinkFields). link_lines at xs) ls i le)) ∙ so_far

-- one more word
pub word_put : (old next all : List ℕ) (words : List ℕ) (i : ℕ) (w : ℕ) → i < length words → w ≡ get_or words i w → next ≡ old ++ word_line i w
    → old ++ word_lines i (drop i words) ≡ all → next ++ word_lines (i + 1) (drop (i + 1) words) ≡ all
unfolding word_lines
word_put old next all words i w lt is put so_far =
    let one : word_lines i (drop i words) ≡ word_line i (get_or words i w) ++ word_lines (i + 1) (drop (i + 1) words) = at_drop_more (λ (ws : List ℕ). word_lines i ws) words i w lt in
    rw (put, append_assoc) (ap (λ (x : ℕ). old ++ (word_line i x ++ word_lines (i + 1) (drop (i + 1) words))) is ∙ ap (λ (t : List ℕ). old ++ t) (sym one) ∙ so_far)

-- and all
pub words_put : (new all : List ℕ) (words : List ℕ) (i : ℕ) → length words ≤ i → new ++ word_lines i (drop i words) ≡ all → new ≡ all
unfolding word_lines
words_put new all words i le so_far = sym (append-nil new) ∙ ap (λ (t : List ℕ). new ++ t) (sym (at_drop_all (λ (ws : List ℕ). word_lines i ws) words i le)) ∙ so_far

-- one more placed word
pub placed_put : (old next all name : List ℕ) (number first : ℕ) (words : List ℕ) (i : ℕ) (w : ℕ) → i < length words → w ≡ get_or words i w → next ≡ old ++ placed_line name number (first + i) w
    → old ++ placed_lines name number (first + i) (drop i words) ≡ all → next ++ placed_lines name number (first + (i + 1)) (drop (i + 1) words) ≡ all
unfolding placed_lines
placed_put old next all name number first words i w lt is put so_far =
    let at : first + (i + 1) ≡ first + i + 1 = omega arith in
    let one : placed_lines name number (first + i) (drop i words) ≡ placed_line name number (first + i) (get_or words i w) ++ placed_lines name number (first + i + 1) (drop (i + 1) words) = at_drop_more (λ (ws : List ℕ). placed_lines name number (first + i) ws) words i w lt in
    rw (at, put, append_assoc) (ap (λ (x : ℕ). old ++ (placed_line name number (first + i) x ++ placed_lines name number (first + i + 1) (drop (i + 1) words))) is ∙ ap (λ (t : List ℕ). old ++ t) (sym one) ∙ so_far)

pub all_placed_put : (new all name : List ℕ) (number at : ℕ) (words : List ℕ) (i : ℕ) → length words ≤ i → new ++ placed_lines name number at (drop i words) ≡ all → new ≡ all
unfolding placed_lines
all_placed_put new all name number at words i le so_far = sym (append-nil new) ∙ ap (λ (t : List ℕ). new ++ t) (sym (at_drop_all (λ (ws : List ℕ). placed_lines name number at ws) words i le)) ∙ so_far
