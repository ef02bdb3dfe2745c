-- Definitions that are retained, line by line.
use Rattle.std.proofs.Common.{ℕ, ◌≡◌, ◌+◌, Bool, false, cond, ◌||◌, List, [], ◌∷◌, ◌++◌, Some, Result, Ok, Err, sym, ap, ◌∙◌}
use Rattle.std.specs.List.{list_any}
use Rattle.obj36_parts.specs.Names.{same}
use Rattle.obj36_parts.specs.declared.definition.Named.{Named}
use Rattle.m36_bindfile.specs.declared.fault.BindFault.{BindFault}
use Rattle.m36_bindfile.specs.declared.fault.BindFault.TheVariants as fault
use Rattle.m36_bindfile.specs.declared.line.BindLine.{BindLine}
use Rattle.m36_bindfile.specs.BindFile.{IsBindRefusal}
use Rattle.m36_relocate.specs.declared.exports.Export.{Export}
use Rattle.m36_text.specs.Results.{and_then}
use Rattle.m36_bind.specs.Kept.{with_retained, with_retain_line, with_retain_lines}
use Rattle.m36_bind.proofs.ComponentLaws.{refused_whole}

pub keep_done :
    (before after : List Named) (n : ℕ) (name copy : List ℕ) (e : Export)
    → (list_any (λ d. same name d.name) before || e.twice) ≡ false → copy ≡ name → after ≡ before ++ record { name = copy; def = e.def } ∷ []
    → with_retained before n name (Some e) ≡ Ok after
keep_done before after n name copy e new is grown =
    let named : List ℕ → Named = λ m. record { name = m; def = e.def } in
    ap (λ (b : Bool). cond b (Err (fault.B3 n)) (Ok (before ++ named name ∷ []))) new
    ∙ ap (λ (m : List ℕ). Ok (before ++ named m ∷ [])) (sym is) ∙ ap (λ (ds : List Named). Ok ds) (sym grown)

first_kept :
    (exports : List (List ℕ × Export)) (kept : List Named) (n : ℕ) (line : BindLine) (others rest : List BindLine) → rest ≡ line ∷ others
    → with_retain_lines exports kept n rest ≡ and_then (with_retain_line exports kept n line) (λ more. with_retain_lines exports more (n + 1) others)
unfolding with_retain_lines
first_kept exports kept n line others rest is = ap (with_retain_lines exports kept n) is

pub keep_goes :
    (exports : List (List ℕ × Export)) (kept more : List Named) (n : ℕ) (line : BindLine) (others rest : List BindLine) (whole : Result (List Named) BindFault)
    → rest ≡ line ∷ others → with_retain_line exports kept n line ≡ Ok more → with_retain_lines exports kept n rest ≡ whole
    → with_retain_lines exports more (n + 1) others ≡ whole
keep_goes exports kept more n line others rest whole is goes so_far =
    sym (ap (λ (d : Result (List Named) BindFault). and_then d (λ m. with_retain_lines exports m (n + 1) others)) goes)
    ∙ sym (first_kept exports kept n line others rest is) ∙ so_far

pub keep_stops :
    (exports : List (List ℕ × Export)) (kept : List Named) (n : ℕ) (line : BindLine) (others rest : List BindLine) (told : BindFault) (whole : Result (List Named) BindFault)
    → rest ≡ line ∷ others → IsBindRefusal told (with_retain_line exports kept n line) → with_retain_lines exports kept n rest ≡ whole → IsBindRefusal told whole
keep_stops exports kept n line others rest told whole is refused so_far =
    refused_whole told (with_retain_line exports kept n line) (λ more. with_retain_lines exports more (n + 1) others) whole refused
    (sym (first_kept exports kept n line others rest is) ∙ so_far)

pub keep_ends :
    (exports : List (List ℕ × Export)) (kept : List Named) (n : ℕ) (rest : List BindLine) (whole : Result (List Named) BindFault)
    → rest ≡ [] → with_retain_lines exports kept n rest ≡ whole → whole ≡ Ok kept
unfolding with_retain_lines
keep_ends exports kept n rest whole none so_far = sym so_far ∙ ap (with_retain_lines exports kept n) none
