-- Steps of the loop over the lines of access lists.
use Rattle.std.proofs.Common.{ℕ, ◌≡◌, ◌+◌, ◌<◌, List, [], ◌∷◌, length, map, Option, Some, Ok, Err, refl, sym, ap, subst, ◌∙◌, arith}
use Rattle.m36_text.specs.Lines.{lines_of, unended_line}
use Rattle.m36_acl.specs.declared.fault.AclFault.{AclFault}
use Rattle.m36_acl.specs.declared.fault.AclFault.TheVariants as fault
use Rattle.m36_acl.specs.AccessLine.{Line, parsed_line}
use Rattle.m36_text.specs.Results.{and_then}
use Rattle.m36_acl.specs.AccessLists.{Lists, ListsResult, RefusesWith, with_line, lists_from, parsed_lines}

given_more : (rest line behind : List ℕ) → lines_of rest ≡ Some line ∷ lines_of behind
    → parsed_lines rest ≡ parsed_line (Some line) ∷ parsed_lines behind
unfolding parsed_lines
given_more rest line behind e = ap (map parsed_line) e

from_first : (n : ℕ) (above : Lists) (rest line behind : List ℕ) → lines_of rest ≡ Some line ∷ lines_of behind
    → lists_from n above (parsed_lines rest)
    ≡ and_then (with_line n above (parsed_line (Some line))) (λ next. lists_from (n + 1) next (parsed_lines behind))
unfolding lists_from
from_first n above rest line behind e = ap (λ (ls : List (Option Line)). lists_from n above ls) (given_more rest line behind e)

-- a line that has no code
pub line_read : (n : ℕ) (above next : Lists) (rest line behind : List ℕ) (total : ListsResult)
    → lines_of rest ≡ Some line ∷ lines_of behind → with_line n above (parsed_line (Some line)) ≡ Ok next
    → lists_from n above (parsed_lines rest) ≡ total → lists_from (n + 1) next (parsed_lines behind) ≡ total
line_read n above next rest line behind total e here so_far =
    ap (λ (r : ListsResult). and_then r (λ l. lists_from (n + 1) l (parsed_lines behind))) (sym here)
    ∙ sym (from_first n above rest line behind e) ∙ so_far

told_on : (told : AclFault) (r : ListsResult) (next : Lists → ListsResult) → RefusesWith told r → RefusesWith told (and_then r next)
told_on (fault.C1 n) r next e = ap (λ (s : ListsResult). and_then s next) e
told_on (fault.C2 n) r next e = ap (λ (s : ListsResult). and_then s next) e
told_on fault.NoMemory r next e = tt

-- a line that has a code
pub line_told : (n : ℕ) (above : Lists) (rest line behind : List ℕ) (total : ListsResult) (told : AclFault)
    → lines_of rest ≡ Some line ∷ lines_of behind → RefusesWith told (with_line n above (parsed_line (Some line)))
    → lists_from n above (parsed_lines rest) ≡ total → RefusesWith told total
line_told n above rest line behind total told e here so_far =
    subst (λ (r : ListsResult). RefusesWith told r) (sym (from_first n above rest line behind e) ∙ so_far)
    (told_on told (with_line n above (parsed_line (Some line))) (λ l. lists_from (n + 1) l (parsed_lines behind)) here)

cut_rest : (n : ℕ) (above : Lists) (rest : List ℕ) → 0 < length rest
    → lists_from n above (map parsed_line (unended_line rest)) ≡ Err (fault.C1 n)
unfolding lists_from parsed_line
cut_rest n above [] some = absurd (omega (arith, some))
cut_rest n above (b ∷ rest) some = refl

whole_rest : (n : ℕ) (above : Lists) (rest : List ℕ) → length rest ≡ 0
    → lists_from n above (map parsed_line (unended_line rest)) ≡ Ok above
unfolding lists_from
whole_rest n above [] none = refl
whole_rest n above (b ∷ rest) none = absurd (omega (arith, none))

-- the end of the text
pub lines_read : (n : ℕ) (above : Lists) (rest : List ℕ) (total : ListsResult) → lines_of rest ≡ unended_line rest → length rest ≡ 0
    → lists_from n above (parsed_lines rest) ≡ total → total ≡ Ok above
unfolding parsed_lines
lines_read n above rest total e none so_far =
    sym so_far ∙ ap (λ (ls : List (Option (List ℕ))). lists_from n above (map parsed_line ls)) e ∙ whole_rest n above rest none

-- a last line that lacks its line feed
pub line_cut : (n : ℕ) (above : Lists) (rest : List ℕ) (total : ListsResult) → lines_of rest ≡ unended_line rest → 0 < length rest
    → lists_from n above (parsed_lines rest) ≡ total → total ≡ Err (fault.C1 n)
unfolding parsed_lines
line_cut n above rest total e some so_far =
    sym so_far ∙ ap (λ (ls : List (Option (List ℕ))). lists_from n above (map parsed_line ls)) e ∙ cut_rest n above rest some
