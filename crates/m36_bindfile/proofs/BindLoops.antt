-- Steps of the loops over the lines of a bind file.
use Rattle.std.proofs.Common.{ℕ, ◌≡◌, ◌+◌, ◌<◌, ◌≤◌, Bool, true, false, List, [], ◌∷◌, ◌++◌, length, map, Option, Some, None, Result, Ok, Err, refl, sym, ap, ◌∙◌, arith}
use Rattle.std.proofs.lemmas.List.{length-append}
use Rattle.std.specs.Prelude.{◌||◌}
use Rattle.std.specs.List.{list_any}
use Rattle.m36_text.specs.Lines.{lines_of, open_lines_of, unended_line, last_of}
use Rattle.m36_bindfile.specs.declared.line.BindLine.{BindLine}
use Rattle.m36_bindfile.specs.declared.fault.BindFault.{BindFault}
use Rattle.m36_bindfile.specs.declared.fault.BindFault.TheVariants as fault
use Rattle.m36_bindfile.specs.BindFile.{parsed_bind_line, parsed_bind_lines, is_object_line, has_object, lines_from, line_in_order, continue_with_line, lacks_line_feed}

-- ---- an `object` line

object_line_first : (rest line behind : List ℕ) → open_lines_of rest ≡ line ∷ open_lines_of behind
    → has_object rest ≡ (is_object_line (parsed_bind_line (Some line)) || has_object behind)
unfolding has_object
object_line_first rest line behind e = ap (λ (ls : List (List ℕ)). list_any (λ l. is_object_line (parsed_bind_line (Some l))) ls) e

pub object_found : (rest line behind : List ℕ) (total : Bool) → open_lines_of rest ≡ line ∷ open_lines_of behind
    → true ≡ is_object_line (parsed_bind_line (Some line)) → has_object rest ≡ total → true ≡ total
object_found rest line behind total e here so_far =
    ap (λ (b : Bool). (b || has_object behind)) here ∙ sym (object_line_first rest line behind e) ∙ so_far

pub object_more : (rest line behind : List ℕ) (total : Bool) → open_lines_of rest ≡ line ∷ open_lines_of behind
    → false ≡ is_object_line (parsed_bind_line (Some line)) → has_object rest ≡ total → has_object behind ≡ total
object_more rest line behind total e here so_far =
    ap (λ (b : Bool). (b || has_object behind)) here ∙ sym (object_line_first rest line behind e) ∙ so_far

pub object_none : (rest : List ℕ) (total : Bool) → open_lines_of rest ≡ [] → has_object rest ≡ total → false ≡ total
unfolding has_object
object_none rest total e so_far = ap (λ (ls : List (List ℕ)). list_any (λ l. is_object_line (parsed_bind_line (Some l))) ls) (sym e) ∙ so_far

-- ---- lines in order

given_more : (rest line behind : List ℕ) → lines_of rest ≡ Some line ∷ lines_of behind
    → parsed_bind_lines rest ≡ parsed_bind_line (Some line) ∷ parsed_bind_lines behind
unfolding parsed_bind_lines
given_more rest line behind e = ap (map parsed_bind_line) e

from_first : (above : List BindLine) (rest line behind : List ℕ) → lines_of rest ≡ Some line ∷ lines_of behind
    → lines_from above (parsed_bind_lines rest)
    ≡ continue_with_line (Err (fault.B1 (length above + 1))) (λ next. lines_from (above ++ next ∷ []) (parsed_bind_lines behind)) (line_in_order (last_of above) (parsed_bind_line (Some line)))
unfolding lines_from
from_first above rest line behind e = ap (λ (ls : List (Option BindLine)). lines_from above ls) (given_more rest line behind e)

pub line_read : (above next : List BindLine) (one : BindLine) (rest line behind : List ℕ) (total : Result (List BindLine) BindFault)
    → lines_of rest ≡ Some line ∷ lines_of behind → Some one ≡ line_in_order (last_of above) (parsed_bind_line (Some line)) → next ≡ above ++ one ∷ []
    → lines_from above (parsed_bind_lines rest) ≡ total → lines_from next (parsed_bind_lines behind) ≡ total
line_read above next one rest line behind total e here grown so_far =
    ap (λ (ls : List BindLine). lines_from ls (parsed_bind_lines behind)) grown
    ∙ ap (λ (o : Option BindLine). continue_with_line (Err (fault.B1 (length above + 1))) (λ l. lines_from (above ++ l ∷ []) (parsed_bind_lines behind)) o) here
    ∙ sym (from_first above rest line behind e) ∙ so_far

pub line_wrong : (above : List BindLine) (number : ℕ) (rest line behind : List ℕ) (total : Result (List BindLine) BindFault)
    → lines_of rest ≡ Some line ∷ lines_of behind → None ≡ line_in_order (last_of above) (parsed_bind_line (Some line)) → number ≡ length above + 1
    → lines_from above (parsed_bind_lines rest) ≡ total → total ≡ Err (fault.B1 number)
line_wrong above number rest line behind total e here at so_far =
    sym so_far ∙ from_first above rest line behind e
    ∙ ap (λ (o : Option BindLine). continue_with_line (Err (fault.B1 (length above + 1))) (λ l. lines_from (above ++ l ∷ []) (parsed_bind_lines behind)) o) (sym here)
    ∙ ap (λ (n : ℕ). Err (fault.B1 n)) (sym at)

cut_rest : (above : List BindLine) (rest : List ℕ) → lacks_line_feed rest ≡ true → lines_from above (map parsed_bind_line (unended_line rest)) ≡ Err (fault.B1 (length above + 1))
unfolding lines_from parsed_bind_line
cut_rest above [] cut = cc
cut_rest above (b ∷ rest) cut = refl

whole_rest : (above : List BindLine) (rest : List ℕ) → lacks_line_feed rest ≡ false → lines_from above (map parsed_bind_line (unended_line rest)) ≡ Ok above
unfolding lines_from
whole_rest above [] whole = refl
whole_rest above (b ∷ rest) whole = cc

pub lines_read : (above : List BindLine) (total : Result (List BindLine) BindFault) (rest : List ℕ) → lines_of rest ≡ unended_line rest → lacks_line_feed rest ≡ false
    → lines_from above (parsed_bind_lines rest) ≡ total → total ≡ Ok above
unfolding parsed_bind_lines
lines_read above total rest e whole so_far =
    sym so_far ∙ ap (λ (ls : List (Option (List ℕ))). lines_from above (map parsed_bind_line ls)) e ∙ whole_rest above rest whole

pub line_cut : (above : List BindLine) (number : ℕ) (total : Result (List BindLine) BindFault) (rest : List ℕ) → lines_of rest ≡ unended_line rest → lacks_line_feed rest ≡ true
    → number ≡ length above + 1 → lines_from above (parsed_bind_lines rest) ≡ total → total ≡ Err (fault.B1 number)
unfolding parsed_bind_lines
line_cut above number total rest e cut at so_far =
    sym so_far ∙ ap (λ (ls : List (Option (List ℕ))). lines_from above (map parsed_bind_line ls)) e ∙ cut_rest above rest cut
    ∙ ap (λ (n : ℕ). Err (fault.B1 n)) (sym at)

-- each line above has at least one byte

pub few_more : (above next : List BindLine) (one : BindLine) (a b t : ℕ) → next ≡ above ++ one ∷ [] → b < a → length above + a ≤ t → length next + b ≤ t
few_more above next one a b t e lt le =
    let n : length next ≡ length above + 1 = ap length e ∙ length-append above (one ∷ []) in omega arith
