-- The bound object, from its parts.
use Rattle.std.proofs.Common.{ℕ, ◌≡◌, true, false, List, [], Result, Ok, sym, subst, ◌∙◌}
use Rattle.obj36_parts.specs.Fields.{LinkFields, RelocFields}
use Rattle.obj36_parts.specs.PartsFields.{PartsFields}
use Rattle.obj36_parts.specs.ObjectSegment.{version_of}
use Rattle.obj36_parts.specs.declared.definition.Named.{Named}
use Rattle.m36_bindfile.specs.declared.fault.BindFault.{BindFault}
use Rattle.m36_bindfile.specs.declared.line.BindLine.{BindLine}
use Rattle.m36_bindfile.specs.BindFile.{bind_lines, has_version_line, IsBindRefusal, BindResult}
use Rattle.m36_relocate.specs.Fields.{ShapeFields}
use Rattle.m36_bind.specs.Given.{NamedObjectsFields}
use Rattle.m36_text.specs.Results.{and_then}
use Rattle.m36_bind.specs.Components.{PlacedComponentFields, components_of_lines}
use Rattle.m36_bind.specs.Kept.{exports_from, with_retain_lines}
use Rattle.m36_bind.specs.Links.{links_from}
use Rattle.m36_bind.specs.Bound.{bound_shape_of, with_component_words, relocations_from, first_entry_bound, bound_parts, checked_bound_parts, bound_object_of_components, bound_object_of_lines, bound_object_of}
use Rattle.m36_bind.proofs.ComponentLaws.{refused_on}

-- ---- the parts

pub parts_bound :
    (frame : ShapeFields) (all : List PlacedComponentFields) (kept : List Named) (parts : PartsFields) (text statics : List ℕ) (links : List LinkFields)
    (relocations : List RelocFields) (bound version : ℕ)
    → text ≡ with_component_words frame false [] all → statics ≡ with_component_words frame true [] all → links ≡ links_from frame all [] all
    → relocations ≡ relocations_from frame true (relocations_from frame false [] all) all → bound ≡ first_entry_bound all
    → version ≡ version_of frame.newer
    → parts ≡ record { text = text; statics = statics; definitions = kept; links = links; relocations = relocations; entry_bound = bound; version = version }
    → parts ≡ bound_parts frame all kept
unfolding bound_parts
parts_bound frame all kept parts text statics links relocations bound version t s l r b v is =
    is ∙ (λ i. record { text = t i; statics = s i; definitions = kept; links = l i; relocations = r i; entry_bound = b i; version = v i })

-- ---- results, one after another

goes_on : {A B : Type 0} (result : Result B BindFault) (d : Result A BindFault) (a : A) (f : A → Result B BindFault)
    → d ≡ Ok a → BindResult result (f a) → BindResult result (and_then d f)
goes_on {A} {B} result d a f is says =
    let P : Result A BindFault → Type 0 = λ x. BindResult result (and_then x f) in subst P (sym is) says

pub components_go :
    (frame : ShapeFields) (all : List PlacedComponentFields) (lines : List BindLine) (kept : List Named) (result : Result PartsFields BindFault)
    → with_retain_lines (exports_from frame [] all) [] 1 lines ≡ Ok kept → BindResult result (checked_bound_parts frame all kept)
    → BindResult result (bound_object_of_components frame all lines)
components_go frame all lines kept result keeps says =
    goes_on result (with_retain_lines (exports_from frame [] all) [] 1 lines) kept (λ k. checked_bound_parts frame all k) keeps says

pub components_stop :
    (frame : ShapeFields) (all : List PlacedComponentFields) (lines : List BindLine) (told : BindFault)
    → IsBindRefusal told (with_retain_lines (exports_from frame [] all) [] 1 lines) → IsBindRefusal told (bound_object_of_components frame all lines)
components_stop frame all lines told refused =
    refused_on told (with_retain_lines (exports_from frame [] all) [] 1 lines) (λ k. checked_bound_parts frame all k) refused

pub ruleset of_components = (components_go, components_stop)

pub lines_go :
    (given : NamedObjectsFields) (lines : List BindLine) (all : List PlacedComponentFields) (frame : ShapeFields) (result : Result PartsFields BindFault)
    → components_of_lines given lines ≡ Ok all → frame ≡ bound_shape_of (has_version_line lines) all → BindResult result (bound_object_of_components frame all lines)
    → BindResult result (bound_object_of_lines given lines)
lines_go given lines all frame result picks is says =
    let P : ShapeFields → Type 0 = λ f. BindResult result (bound_object_of_components f all lines) in
    goes_on result (components_of_lines given lines) all (λ a. bound_object_of_components (bound_shape_of (has_version_line lines) a) a lines) picks (subst P is says)

pub lines_stop :
    (given : NamedObjectsFields) (lines : List BindLine) (told : BindFault)
    → IsBindRefusal told (components_of_lines given lines) → IsBindRefusal told (bound_object_of_lines given lines)
lines_stop given lines told refused =
    refused_on told (components_of_lines given lines) (λ a. bound_object_of_components (bound_shape_of (has_version_line lines) a) a lines) refused

pub ruleset of_lines = (lines_go, lines_stop)

pub text_goes :
    (text : List ℕ) (names : List (List ℕ)) (objects : List PartsFields) (given : NamedObjectsFields) (lines lent : List BindLine) (result : Result PartsFields BindFault)
    → bind_lines text ≡ Ok lines → lent ≡ lines → given ≡ record { names = names; objects = objects } → BindResult result (bound_object_of_lines given lent)
    → BindResult result (bound_object_of text names objects)
unfolding bound_object_of
text_goes text names objects given lines lent result reads is are says =
    let all : NamedObjectsFields = record { names = names; objects = objects } in
    let P : List BindLine → Type 0 = λ ls. BindResult result (bound_object_of_lines given ls) in
    let Q : NamedObjectsFields → Type 0 = λ g. BindResult result (bound_object_of_lines g lines) in
    goes_on result (bind_lines text) lines (λ ls. bound_object_of_lines all ls) reads (subst Q are (subst P is says))

pub text_stops :
    (text : List ℕ) (names : List (List ℕ)) (objects : List PartsFields) (told : BindFault)
    → IsBindRefusal told (bind_lines text) → IsBindRefusal told (bound_object_of text names objects)
unfolding bound_object_of
text_stops text names objects told refused =
    let all : NamedObjectsFields = record { names = names; objects = objects } in
    refused_on told (bind_lines text) (λ ls. bound_object_of_lines all ls) refused

pub ruleset of_text = (text_goes, text_stops)
