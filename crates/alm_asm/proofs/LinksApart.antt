-- No two links are the same.
use Rattle.std.proofs.Common.{◌≡◌, ℕ, Bool, true, false, cond, not, ◌&&◌, List, [], ◌∷◌, ◌++◌, Option, Some, None, refl, sym, ap, ◌∙◌}
use Rattle.std.specs.List.{list_any}
use Rattle.std.proofs.lemmas.Bool.{and_parts, and_from, not-true, or_parts, or_from}
use Rattle.std.proofs.lemmas.Cmp.{nat_eq_equiv, nat_list_eq_equiv}
use Rattle.std.proofs.lemmas.List.Folds.{list_any-append}
use Rattle.alm_parse.specs.declared.line.Line36.{Line36}
use Rattle.obj36_parts.specs.Fields.{LinkFields}
use Rattle.obj36_parts.specs.Sections.{section_number}
use Rattle.alm_lines.specs.Arguments.{first_arg}
use Rattle.alm_lines.specs.Spots.{next_line_spot}
use Rattle.alm_asm.specs.Links.{operand_args, link_in, with_link, links_after, links_from}
use Rattle.obj36_parts.specs.Indexes.{same_link}
use Rattle.alm_asm.specs.Assembles.{are_distinct_links}
use Rattle.alm_lines.specs.declared.sum.Sum.{Sum}
use Rattle.alm_lines.specs.SpotFields.{LocationCounter}

link_turned : (a b : LinkFields) → same_link a b ≡ same_link b a
unfolding same_link
link_turned a b =
    let kind = nat_eq_equiv.symm a.kind b.kind in
    let section = nat_eq_equiv.symm (section_number a.section) (section_number b.section) in
    let name = nat_list_eq_equiv.symm a.name b.name in
    let entry = nat_list_eq_equiv.symm a.entry b.entry in
    let expr = nat_eq_equiv.symm a.expr b.expr in
    let modifier = nat_eq_equiv.symm a.modifier b.modifier in
    λ i. ((((kind i && section i) && name i) && entry i) && expr i) && modifier i

pushed : (links : List LinkFields) (l : LinkFields) → are_distinct_links links ≡ true → list_any (same_link l) links ≡ false → are_distinct_links (links ++ l ∷ []) ≡ true
unfolding are_distinct_links
pushed [] l e f = refl
pushed (x ∷ links) l e f =
    let parts = and_parts (not (list_any (same_link x) links)) (are_distinct_links links) e in
    let others = or_parts (same_link l x) (list_any (same_link l) links) f in
    let last : list_any (same_link x) (l ∷ []) ≡ false = or_from (same_link x l) false (link_turned x l ∙ others.0) refl in
    let none : list_any (same_link x) (links ++ l ∷ []) ≡ false =
    list_any-append (same_link x) links (l ∷ []) ∙ or_from (list_any (same_link x) links) (list_any (same_link x) (l ∷ [])) (not-true (list_any (same_link x) links) parts.0) last in
    and_from (not (list_any (same_link x) (links ++ l ∷ []))) (are_distinct_links (links ++ l ∷ [])) (ap not none) (pushed links l parts.1 others.1)

with_by : (links : List LinkFields) (l : LinkFields) (b : Bool) → list_any (same_link l) links ≡ b → are_distinct_links links ≡ true → are_distinct_links (cond b links (links ++ l ∷ [])) ≡ true
with_by links l true e a = a
with_by links l false e a = pushed links l a e

with_apart : (links : List LinkFields) (given : Option LinkFields) → are_distinct_links links ≡ true → are_distinct_links (with_link links given) ≡ true
with_apart links None a = a
with_apart links (Some l) a = with_by links l (list_any (same_link l) links) refl a

from_apart : (text : List ℕ) (symbols : List (List ℕ × Sum)) (links : List LinkFields) (spot : LocationCounter) (lines : List Line36) → are_distinct_links links ≡ true → are_distinct_links (links_from text symbols links spot lines) ≡ true
unfolding links_from links_after
from_apart text symbols links spot [] a = a
from_apart text symbols links spot (line ∷ lines) a =
    from_apart text symbols (links_after text symbols links spot line) (next_line_spot text spot line) lines
    (with_apart links (link_in text symbols spot (first_arg (operand_args line.deed line.args))) a)

no_links : are_distinct_links [] ≡ true
unfolding are_distinct_links
no_links = refl

pub links_apart : (text : List ℕ) (symbols : List (List ℕ × Sum)) (spot : LocationCounter) (lines : List Line36) → are_distinct_links (links_from text symbols [] spot lines) ≡ true
links_apart text symbols spot lines = from_apart text symbols [] spot lines no_links

-- links that lack none of the lines
pub apart_at_end : (text : List ℕ) (symbols : List (List ℕ × Sum)) (old links : List LinkFields) (first spot : LocationCounter) (lines rest : List Line36)
    → rest ≡ [] → links_from text symbols links spot rest ≡ links_from text symbols old first lines
    → are_distinct_links old ≡ true → are_distinct_links links ≡ true
unfolding links_from
apart_at_end text symbols old links first spot lines rest none whole apart =
    let all : links ≡ links_from text symbols old first lines =
    sym (ap (λ (ls : List Line36). links_from text symbols links spot ls) none) ∙ whole in
    ap are_distinct_links all ∙ from_apart text symbols old first lines apart
