-- Components that are added line by line.
use Rattle.std.proofs.Common.{ℕ, ◌≡◌, ◌+◌, Bool, true, false, cond, List, [], ◌∷◌, ◌++◌, Option, Some, Result, Ok, Err, sym, ap, subst, ◌∙◌, ◌<◌, ◌≤◌, length, get_or, drop}
use Rattle.std.proofs.lemmas.List.{drop_more, at_drop_all}
use Rattle.std.specs.List.{list_any}
use Rattle.obj36_parts.specs.PartsFields.{PartsFields}
use Rattle.obj36_parts.specs.Names.{same}
use Rattle.m36_bindfile.specs.declared.fault.BindFault.{BindFault}
use Rattle.m36_bindfile.specs.declared.fault.BindFault.TheVariants as fault
use Rattle.m36_bindfile.specs.declared.line.BindLine.{BindLine}
use Rattle.m36_bindfile.specs.BindFile.{IsBindRefusal}
use Rattle.m36_relocate.specs.Fields.{BasesFields}
use Rattle.m36_bind.specs.Given.{NamedObjectsFields}
use Rattle.m36_relocate.specs.Layout.{next_bases}
use Rattle.m36_relocate.specs.Exports.{with_own_definitions}
use Rattle.m36_relocate.specs.declared.exports.Export.{Export}
use Rattle.m36_text.specs.Results.{and_then}
use Rattle.m36_bind.specs.Components.{PlacedComponentFields, PlacedComponents, component, with_component, no_components, names_of, components_in, with_found_object, with_component_of_line, with_components_of_lines, components_of_lines, AddsComponent}
use Rattle.m36_bind.proofs.ComponentLaws.{refused_on, refused_whole}

-- ---- one component

pub pick_done :
    (before after : List PlacedComponentFields) (next behind : BasesFields) (n : ℕ) (name : List ℕ) (p q : PartsFields) (table : List (List ℕ × Export))
    → list_any (same name) (names_of before) ≡ false → q ≡ p → table ≡ with_own_definitions [] q.definitions
    → after ≡ before ++ component name q next table ∷ [] → behind ≡ next_bases next q
    → with_found_object (record { placed = before; next = next }) n name (Some p) ≡ Ok (record { placed = after; next = behind })
pick_done before after next behind n name p q table fresh is tabled grown goes =
    let all : PlacedComponents = record { placed = before; next = next } in
    let old : List PlacedComponentFields → BasesFields → PlacedComponents = λ items b. record { placed = items; next = b } in
    let items : before ++ component name p next (with_own_definitions [] p.definitions) ∷ [] ≡ after =
    ap (λ (r : PartsFields). before ++ component name r next (with_own_definitions [] r.definitions) ∷ []) (sym is)
    ∙ ap (λ (t : List (List ℕ × Export)). before ++ component name q next t ∷ []) (sym tabled) ∙ sym grown
    in
    let bases : next_bases next p ≡ behind = ap (next_bases next) (sym is) ∙ sym goes in
    ap (λ (b : Bool). cond b (Err (fault.B3 n)) (Ok (with_component all (component name p next (with_own_definitions [] p.definitions))))) fresh
    ∙ (λ i. Ok (old (items i) (bases i)))

pub pick_refused :
    (all : PlacedComponents) (n : ℕ) (name : List ℕ) (p : PartsFields) → list_any (same name) (names_of all.placed) ≡ true
    → with_found_object all n name (Some p) ≡ Err (fault.B3 n)
pick_refused all n name p stands =
    ap (λ (b : Bool). cond b (Err (fault.B3 n)) (Ok (with_component all (component name p all.next (with_own_definitions [] p.definitions))))) stands

pub ruleset picking = (pick_done, pick_refused)

-- for the object that was found

pub pick_found :
    (new : List PlacedComponentFields) (result : Result BasesFields BindFault) (all : PlacedComponents) (n : ℕ) (name : List ℕ) (found given : Option PartsFields)
    → found ≡ given → AddsComponent new result (with_found_object all n name found) → AddsComponent new result (with_found_object all n name given)
pick_found new result all n name found given is picks =
    let P : Option PartsFields → Type 0 = λ o. AddsComponent new result (with_found_object all n name o) in subst P is picks

-- ---- lines in order

first_picked :
    (given : NamedObjectsFields) (all : PlacedComponents) (n : ℕ) (line : BindLine) (others rest : List BindLine) → rest ≡ line ∷ others
    → with_components_of_lines given all n rest ≡ and_then (with_component_of_line given all n line) (λ more. with_components_of_lines given more (n + 1) others)
unfolding with_components_of_lines
first_picked given all n line others rest is = ap (with_components_of_lines given all n) is

pub pick_goes :
    (given : NamedObjectsFields) (all more : PlacedComponents) (n : ℕ) (line : BindLine) (others rest : List BindLine) (whole : Result PlacedComponents BindFault)
    → rest ≡ line ∷ others → with_component_of_line given all n line ≡ Ok more → with_components_of_lines given all n rest ≡ whole
    → with_components_of_lines given more (n + 1) others ≡ whole
pick_goes given all more n line others rest whole is components_of so_far =
    sym (ap (λ (d : Result PlacedComponents BindFault). and_then d (λ m. with_components_of_lines given m (n + 1) others)) components_of)
    ∙ sym (first_picked given all n line others rest is) ∙ so_far

pub pick_stops :
    (given : NamedObjectsFields) (all : PlacedComponents) (n : ℕ) (line : BindLine) (others rest lines : List BindLine) (told : BindFault)
    → rest ≡ line ∷ others → IsBindRefusal told (with_component_of_line given all n line)
    → with_components_of_lines given all n rest ≡ with_components_of_lines given no_components 1 lines → IsBindRefusal told (components_of_lines given lines)
unfolding components_of_lines
pick_stops given all n line others rest lines told is refused so_far =
    refused_on told (with_components_of_lines given no_components 1 lines) (λ a. Ok (components_in a))
    (refused_whole told (with_component_of_line given all n line) (λ more. with_components_of_lines given more (n + 1) others)
    (with_components_of_lines given no_components 1 lines) refused (sym (first_picked given all n line others rest is) ∙ so_far))

pub pick_ends :
    (given : NamedObjectsFields) (all : PlacedComponents) (n : ℕ) (rest lines : List BindLine)
    → rest ≡ [] → with_components_of_lines given all n rest ≡ with_components_of_lines given no_components 1 lines
    → components_of_lines given lines ≡ Ok all.placed
unfolding components_of_lines with_components_of_lines
pick_ends given all n rest lines none so_far =
    let done : with_components_of_lines given no_components 1 lines ≡ Ok all = sym so_far ∙ ap (with_components_of_lines given all n) none in
    ap (λ (d : Result PlacedComponents BindFault). and_then d (λ a. Ok (components_in a))) done

-- the rest of the lines

pub first_left : (lines : List BindLine) (i : ℕ) (line : BindLine) → i < length lines → line ≡ get_or lines i line → drop i lines ≡ line ∷ drop (i + 1) lines
first_left lines i line lt is = drop_more lines i line lt ∙ ap (λ (x : BindLine). x ∷ drop (i + 1) lines) (sym is)

pub none_left : (lines : List BindLine) (i : ℕ) → length lines ≤ i → drop i lines ≡ []
none_left lines i le = at_drop_all (λ (ls : List BindLine). ls) lines i le
