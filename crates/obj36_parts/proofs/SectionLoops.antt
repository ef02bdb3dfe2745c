-- Steps of the loops that write sections.
use Rattle.std.proofs.Common.{ℕ, ◌≡◌, ◌+◌, ◌-◌, ◌^◌, ◌<◌, ◌≤◌, List, [], ◌∷◌, ◌++◌, length, drop, get_or, refl, sym, ap, ◌∙◌, append_assoc, arith}
use Rattle.std.proofs.lemmas.List.{at_drop_more, at_drop_all, append-nil, length-drop}
use Rattle.obj36_parts.specs.Fields.{LinkFields, RelocFields}
use Rattle.obj36_parts.specs.declared.definition.Named.{Named}
use Rattle.obj36_parts.specs.Halves.{word_with_halves}
use Rattle.obj36_parts.specs.Names.{name_offset}
use Rattle.obj36_parts.specs.ObjectSegment.{offset_if_any, class_of, definition_words, section_or_name_offset, entry_name_offset, expression_words, link_words, relocation_word, relocation_words}

-- two words and the rest
two_more : (out next total rest : List ℕ) (a b : ℕ) → next ≡ out ++ a ∷ b ∷ [] → out ++ a ∷ b ∷ rest ≡ total → next ++ rest ≡ total
two_more out next total rest a b e so_far = ap (λ (o : List ℕ). o ++ rest) e ∙ append_assoc out (a ∷ b ∷ []) rest ∙ so_far

one_more : (out next total rest : List ℕ) (a : ℕ) → next ≡ out ++ a ∷ [] → out ++ a ∷ rest ≡ total → next ++ rest ≡ total
one_more out next total rest a e so_far = ap (λ (o : List ℕ). o ++ rest) e ∙ append_assoc out (a ∷ []) rest ∙ so_far

-- ---- definitions

definition_step : (names : List (List ℕ)) (base : ℕ) (d : Named) (ds : List Named) (at : ℕ)
    → definition_words names base (d ∷ ds) at ≡ word_with_halves (offset_if_any (length ds) (at + 2)) (class_of d.def) ∷ word_with_halves d.def.value (name_offset d.name names base) ∷ definition_words names base ds (at + 2)
unfolding definition_words
definition_step names base d ds at = refl

pub definition_more : (names : List (List ℕ)) (base : ℕ) (ds : List Named) (i at place : ℕ) (d : Named) (out next total : List ℕ) → i < length ds → d ≡ get_or ds i d
    → place ≡ offset_if_any (length ds - i - 1) (at + 2)
    → next ≡ out ++ word_with_halves place (class_of d.def) ∷ word_with_halves d.def.value (name_offset d.name names base) ∷ []
    → out ++ definition_words names base (drop i ds) at ≡ total → next ++ definition_words names base (drop (i + 1) ds) (at + 2) ≡ total
definition_more names base ds i at place d out next total lt is p e so_far =
    let rest = drop (i + 1) ds in
    let left : length ds - i - 1 ≡ length rest = omega (arith, length-drop (i + 1) ds) in
    let spelled : definition_words names base (drop i ds) at ≡ word_with_halves place (class_of d.def) ∷ word_with_halves d.def.value (name_offset d.name names base) ∷ definition_words names base rest (at + 2) =
    at_drop_more (λ (xs : List Named). definition_words names base xs at) ds i d lt ∙ ap (λ (x : Named). definition_words names base (x ∷ rest) at) (sym is) ∙ definition_step names base d rest at
    ∙ ap (λ n. word_with_halves n (class_of d.def) ∷ word_with_halves d.def.value (name_offset d.name names base) ∷ definition_words names base rest (at + 2)) (ap (λ n. offset_if_any n (at + 2)) (sym left) ∙ sym p)
    in
    two_more out next total (definition_words names base rest (at + 2)) (word_with_halves place (class_of d.def)) (word_with_halves d.def.value (name_offset d.name names base)) e
    (ap (λ (ws : List ℕ). out ++ ws) (sym spelled) ∙ so_far)

pub definitions_done : (names : List (List ℕ)) (base : ℕ) (ds : List Named) (i at : ℕ) (out total : List ℕ) → length ds ≤ i → out ++ definition_words names base (drop i ds) at ≡ total → out ≡ total
unfolding definition_words
definitions_done names base ds i at out total le so_far = sym (append-nil out) ∙ sym (at_drop_all (λ (xs : List Named). out ++ definition_words names base xs at) ds i le) ∙ so_far

-- ---- expressions

expression_step : (names : List (List ℕ)) (base : ℕ) (l : LinkFields) (ls : List LinkFields)
    → expression_words names base (l ∷ ls) ≡ word_with_halves l.kind (section_or_name_offset names base l) ∷ word_with_halves (entry_name_offset names base l) l.expr ∷ expression_words names base ls
unfolding expression_words
expression_step names base l ls = refl

pub expression_more : (names : List (List ℕ)) (base : ℕ) (ls : List LinkFields) (i : ℕ) (l : LinkFields) (out next total : List ℕ) → i < length ls → l ≡ get_or ls i l
    → next ≡ out ++ word_with_halves l.kind (section_or_name_offset names base l) ∷ word_with_halves (entry_name_offset names base l) l.expr ∷ []
    → out ++ expression_words names base (drop i ls) ≡ total → next ++ expression_words names base (drop (i + 1) ls) ≡ total
expression_more names base ls i l out next total lt is e so_far =
    let rest = drop (i + 1) ls in
    let spelled : expression_words names base (drop i ls) ≡ word_with_halves l.kind (section_or_name_offset names base l) ∷ word_with_halves (entry_name_offset names base l) l.expr ∷ expression_words names base rest =
    at_drop_more (λ (xs : List LinkFields). expression_words names base xs) ls i l lt ∙ ap (λ (x : LinkFields). expression_words names base (x ∷ rest)) (sym is) ∙ expression_step names base l rest
    in
    two_more out next total (expression_words names base rest) (word_with_halves l.kind (section_or_name_offset names base l)) (word_with_halves (entry_name_offset names base l) l.expr) e
    (ap (λ (ws : List ℕ). out ++ ws) (sym spelled) ∙ so_far)

pub expressions_done : (names : List (List ℕ)) (base : ℕ) (ls : List LinkFields) (i : ℕ) (out total : List ℕ) → length ls ≤ i → out ++ expression_words names base (drop i ls) ≡ total → out ≡ total
unfolding expression_words
expressions_done names base ls i out total le so_far = sym (append-nil out) ∙ sym (at_drop_all (λ (xs : List LinkFields). out ++ expression_words names base xs) ls i le) ∙ so_far

-- ---- links

link_step : (l : LinkFields) (ls : List LinkFields) (at expression : ℕ) → link_words (l ∷ ls) at expression ≡ word_with_halves (2 ^ 18 - at) 38 ∷ word_with_halves expression l.modifier ∷ link_words ls (at + 2) (expression + 2)
unfolding link_words
link_step l ls at expression = refl

pub link_more : (ls : List LinkFields) (i at expression : ℕ) (l : LinkFields) (out next total : List ℕ) → i < length ls → l ≡ get_or ls i l
    → next ≡ out ++ word_with_halves (2 ^ 18 - at) 38 ∷ word_with_halves expression l.modifier ∷ []
    → out ++ link_words (drop i ls) at expression ≡ total → next ++ link_words (drop (i + 1) ls) (at + 2) (expression + 2) ≡ total
link_more ls i at expression l out next total lt is e so_far =
    let rest = drop (i + 1) ls in
    let spelled : link_words (drop i ls) at expression ≡ word_with_halves (2 ^ 18 - at) 38 ∷ word_with_halves expression l.modifier ∷ link_words rest (at + 2) (expression + 2) =
    at_drop_more (λ (xs : List LinkFields). link_words xs at expression) ls i l lt ∙ ap (λ (x : LinkFields). link_words (x ∷ rest) at expression) (sym is) ∙ link_step l rest at expression
    in
    two_more out next total (link_words rest (at + 2) (expression + 2)) (word_with_halves (2 ^ 18 - at) 38) (word_with_halves expression l.modifier) e
    (ap (λ (ws : List ℕ). out ++ ws) (sym spelled) ∙ so_far)

pub links_done : (ls : List LinkFields) (i at expression : ℕ) (out total : List ℕ) → length ls ≤ i → out ++ link_words (drop i ls) at expression ≡ total → out ≡ total
unfolding link_words
links_done ls i at expression out total le so_far = sym (append-nil out) ∙ sym (at_drop_all (λ (xs : List LinkFields). out ++ link_words xs at expression) ls i le) ∙ so_far

-- ---- relocations

relocation_step : (r : RelocFields) (rs : List RelocFields) → relocation_words (r ∷ rs) ≡ relocation_word r ∷ relocation_words rs
unfolding relocation_words
relocation_step r rs = refl

pub relocation_more : (rs : List RelocFields) (i : ℕ) (r : RelocFields) (out next total : List ℕ) → i < length rs → r ≡ get_or rs i r → next ≡ out ++ relocation_word r ∷ []
    → out ++ relocation_words (drop i rs) ≡ total → next ++ relocation_words (drop (i + 1) rs) ≡ total
relocation_more rs i r out next total lt is e so_far =
    let rest = drop (i + 1) rs in
    let spelled : relocation_words (drop i rs) ≡ relocation_word r ∷ relocation_words rest =
    at_drop_more (λ (xs : List RelocFields). relocation_words xs) rs i r lt ∙ ap (λ (x : RelocFields). relocation_words (x ∷ rest)) (sym is) ∙ relocation_step r rest
    in
    one_more out next total (relocation_words rest) (relocation_word r) e (ap (λ (ws : List ℕ). out ++ ws) (sym spelled) ∙ so_far)

pub relocations_done : (rs : List RelocFields) (i : ℕ) (out total : List ℕ) → length rs ≤ i → out ++ relocation_words (drop i rs) ≡ total → out ≡ total
unfolding relocation_words
relocations_done rs i out total le so_far = sym (append-nil out) ∙ sym (at_drop_all (λ (xs : List RelocFields). out ++ relocation_words xs) rs i le) ∙ so_far
