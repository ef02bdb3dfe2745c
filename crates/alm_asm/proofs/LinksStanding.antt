-- The list of links has the link of each external operand.
use Rattle.std.proofs.Common.{◌≡◌, ℕ, Bool, true, false, cond, List, [], ◌∷◌, ◌++◌, Option, Some, None, refl, ap, ◌∙◌}
use Rattle.std.specs.List.{list_any}
use Rattle.std.proofs.lemmas.Bool.{or_left, or_right}
use Rattle.std.proofs.lemmas.List.Folds.{list_any-append}
use Rattle.alm_parse.specs.declared.line.Line36.{Line36}
use Rattle.obj36_parts.specs.Fields.{LinkFields}
use Rattle.obj36_parts.proofs.IndexLaws.{link_self}
use Rattle.alm_lines.specs.Arguments.{first_arg}
use Rattle.alm_lines.specs.Spots.{start, next_line_spot, end_of}
use Rattle.alm_asm.specs.Links.{operand_args, link_in, with_link, links_after, links_from}
use Rattle.obj36_parts.specs.Indexes.{same_link}
use Rattle.alm_lines.specs.declared.sum.Sum.{Sum}
use Rattle.alm_lines.specs.SpotFields.{LocationCounter}

stays_by : (l other : LinkFields) (links : List LinkFields) (b : Bool) → list_any (same_link l) links ≡ true → list_any (same_link l) (cond b links (links ++ other ∷ [])) ≡ true
stays_by l other links true e = e
stays_by l other links false e = list_any-append (same_link l) links (other ∷ []) ∙ or_left (list_any (same_link l) links) (list_any (same_link l) (other ∷ [])) e

pub stays_with : (l : LinkFields) (links : List LinkFields) (more : Option LinkFields) → list_any (same_link l) links ≡ true → list_any (same_link l) (with_link links more) ≡ true
stays_with l links None e = e
stays_with l links (Some other) e = stays_by l other links (list_any (same_link other) links) e

stays_from : (text : List ℕ) (symbols : List (List ℕ × Sum)) (l : LinkFields) (links : List LinkFields) (spot : LocationCounter) (lines : List Line36) → list_any (same_link l) links ≡ true
    → list_any (same_link l) (links_from text symbols links spot lines) ≡ true
unfolding links_from links_after
stays_from text symbols l links spot [] e = e
stays_from text symbols l links spot (line ∷ lines) e =
    stays_from text symbols l (links_after text symbols links spot line) (next_line_spot text spot line) lines
    (stays_with l links (link_in text symbols spot (first_arg (operand_args line.deed line.args))) e)

added_by : (l : LinkFields) (links : List LinkFields) (b : Bool) → list_any (same_link l) links ≡ b → list_any (same_link l) (cond b links (links ++ l ∷ [])) ≡ true
added_by l links true e = e
added_by l links false e =
    list_any-append (same_link l) links (l ∷ []) ∙ or_right (list_any (same_link l) links) (list_any (same_link l) (l ∷ [])) (or_left (same_link l l) false (link_self l))

pub added_with : (l : LinkFields) (links : List LinkFields) (given : Option LinkFields) → given ≡ Some l → list_any (same_link l) (with_link links given) ≡ true
added_with l links given e = ap (λ (g : Option LinkFields). list_any (same_link l) (with_link links g)) e ∙ added_by l links (list_any (same_link l) links) refl

follows : (text : List ℕ) (symbols : List (List ℕ × Sum)) (links : List LinkFields) (spot : LocationCounter) (above lines : List Line36)
    → links_from text symbols links spot (above ++ lines) ≡ links_from text symbols (links_from text symbols links spot above) (end_of text spot above) lines
unfolding links_from end_of
follows text symbols links spot [] lines = refl
follows text symbols links spot (line ∷ above) lines = follows text symbols (links_after text symbols links spot line) (next_line_spot text spot line) above lines

pub link_stands : (text : List ℕ) (symbols : List (List ℕ × Sum)) (lines above : List Line36) (line : Line36) (others : List Line36) (l : LinkFields) → lines ≡ above ++ line ∷ others
    → link_in text symbols (end_of text start above) (first_arg (operand_args line.deed line.args)) ≡ Some l → list_any (same_link l) (links_from text symbols [] start lines) ≡ true
unfolding links_from links_after
link_stands text symbols lines above line others l split given =
    let before = links_from text symbols [] start above in
    let spot = end_of text start above in
    ap (λ (x : List Line36). list_any (same_link l) (links_from text symbols [] start x)) split
    ∙ ap (λ (x : List LinkFields). list_any (same_link l) x) (follows text symbols [] start above (line ∷ others))
    ∙ stays_from text symbols l (links_after text symbols before spot line) (next_line_spot text spot line) others
    (added_with l before (link_in text symbols spot (first_arg (operand_args line.deed line.args))) given)
