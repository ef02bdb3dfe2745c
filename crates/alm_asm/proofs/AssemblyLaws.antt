-- The results of the assembler.
use Rattle.std.proofs.Common.{◌≡◌, ℕ, List, [], Option, Some, None, Result, Ok, Err, refl, sym, ap, subst, ◌∙◌}
use Rattle.alm_parse.specs.SourceFields.{Source}
use Rattle.alm_parse.specs.declared.fault.AlmFault.{AlmFault}
use Rattle.alm_parse.specs.declared.fault.AlmFault.TheVariants.{E1, E2, E3, E4, E5, E6, E7, E8, NoMemory}
use Rattle.alm_parse.specs.Sources.{IsFaultOf, IsResultOf}
use Rattle.obj36_parts.specs.PartsFields.{PartsFields}
use Rattle.obj36_parts.specs.ObjectSegment.{is_well_formed}
use Rattle.alm_parse.specs.declared.line.Line36.{Line36}
use Rattle.alm_lines.specs.Spots.{start}
use Rattle.alm_lines.specs.Layout.{layout_refusal}
use Rattle.alm_lines.specs.Refusals.{fault_of, earlier_refusal}
use Rattle.alm_asm.specs.LineRefusals.{lines_refusal}
use Rattle.alm_asm.specs.Growth.{first_growth, growth_refusal}
use Rattle.alm_asm.specs.declared.tables.Tables.{Tables}
use Rattle.alm_asm.specs.Assembly.{tables_of, refusal_in, refusal_of, unless_refused, parts_with, last_line, parts_if_well_formed, assembled_unless_refused, assembled}
use Rattle.alm_lines.specs.declared.refusal.AlmRefusal.{AlmRefusal}

-- a fault is that of the definition
pub refuses : {A : Type 0} (f : AlmFault) (definition : Result A AlmFault) → definition ≡ Err f → IsFaultOf f definition
refuses (E1 line column) definition e = e
refuses (E2 line column) definition e = e
refuses (E3 line column) definition e = e
refuses (E4 line column) definition e = e
refuses (E5 line column) definition e = e
refuses (E6 line column) definition e = e
refuses (E7 line column) definition e = e
refuses (E8 line column) definition e = e
refuses NoMemory definition e = tt

-- ---- tables

refusal_found : (text : List ℕ) (lines : List Line36) (tables : Tables) (found refused : Option AlmRefusal)
    → tables ≡ tables_of text lines → found ≡ layout_refusal text None [] start lines
    → refused ≡ earlier_refusal (earlier_refusal found (lines_refusal text tables [] start lines)) (growth_refusal text tables.symbols first_growth start lines)
    → refused ≡ refusal_in text lines
refusal_found text lines tables found refused t f r =
    r ∙ (λ i. earlier_refusal (earlier_refusal (f i) (lines_refusal text (t i) [] start lines)) (growth_refusal text (t i).symbols first_growth start lines))

pub tells_tables : (text : List ℕ) (lines : List Line36) (tables : Tables) (found refused : Option AlmRefusal)
    → tables ≡ tables_of text lines → found ≡ layout_refusal text None [] start lines
    → refused ≡ earlier_refusal (earlier_refusal found (lines_refusal text tables [] start lines)) (growth_refusal text tables.symbols first_growth start lines)
    → refused ≡ None
    → unless_refused text lines (refusal_in text lines) ≡ Ok tables
tells_tables text lines tables found refused t f r none =
    ap (unless_refused text lines) (sym (refusal_found text lines tables found refused t f r) ∙ none)
    ∙ ap (λ (whole : Tables). Ok whole) (sym t)

pub tells_refusal : (text : List ℕ) (lines : List Line36) (tables : Tables) (found refused : Option AlmRefusal) (refusal : AlmRefusal) (fault : AlmFault)
    → tables ≡ tables_of text lines → found ≡ layout_refusal text None [] start lines
    → refused ≡ earlier_refusal (earlier_refusal found (lines_refusal text tables [] start lines)) (growth_refusal text tables.symbols first_growth start lines)
    → refused ≡ Some refusal → fault ≡ fault_of refusal
    → IsFaultOf fault (unless_refused text lines (refusal_in text lines))
tells_refusal text lines tables found refused refusal fault t f r some is =
    refuses fault (unless_refused text lines (refusal_in text lines))
    (ap (unless_refused text lines) (sym (refusal_found text lines tables found refused t f r) ∙ some) ∙ ap (λ (why : AlmFault). Err why) (sym is))

pub ruleset refuses_or_tables = (tells_tables, tells_refusal)

-- ---- the object of tables

-- the object of tables, or why there are none
made_by : List ℕ → List Line36 → Result Tables AlmFault → Result PartsFields AlmFault
made_by text lines (Ok tables) =
    parts_if_well_formed (parts_with text tables lines) (last_line 1 lines) (is_well_formed (parts_with text tables lines))
made_by text lines (Err fault) = Err fault

by_refusal : (source : Source) (refused : Option AlmRefusal)
    → made_by source.text source.lines (unless_refused source.text source.lines refused) ≡ assembled_unless_refused source refused
unfolding made_by
by_refusal source None = refl
by_refusal source (Some refusal) = refl

made_all : (source : Source) (text : List ℕ) (lines : List Line36) → text ≡ source.text → lines ≡ source.lines
    → made_by text lines (unless_refused text lines (refusal_in text lines)) ≡ assembled source
unfolding assembled refusal_of
made_all source text lines t l =
    (λ i. made_by (t i) (l i) (unless_refused (t i) (l i) (refusal_in (t i) (l i)))) ∙ by_refusal source (refusal_of source)

-- the fault of the tables is that of the object
no_tables : (text : List ℕ) (lines : List Line36) (f : AlmFault) (definition : Result Tables AlmFault)
    → IsFaultOf f definition → IsFaultOf f (made_by text lines definition)
unfolding made_by
no_tables text lines (E1 line column) definition e = ap (made_by text lines) e
no_tables text lines (E2 line column) definition e = ap (made_by text lines) e
no_tables text lines (E3 line column) definition e = ap (made_by text lines) e
no_tables text lines (E4 line column) definition e = ap (made_by text lines) e
no_tables text lines (E5 line column) definition e = ap (made_by text lines) e
no_tables text lines (E6 line column) definition e = ap (made_by text lines) e
no_tables text lines (E7 line column) definition e = ap (made_by text lines) e
no_tables text lines (E8 line column) definition e = ap (made_by text lines) e
no_tables text lines NoMemory definition e = tt

pub tells_fault : (source : Source) (text : List ℕ) (lines : List Line36) (f : AlmFault) → text ≡ source.text → lines ≡ source.lines
    → IsFaultOf f (unless_refused text lines (refusal_in text lines)) → IsFaultOf f (assembled source)
tells_fault source text lines f t l e =
    subst (IsFaultOf f) (made_all source text lines t l) (no_tables text lines f (unless_refused text lines (refusal_in text lines)) e)

pub tells_object : (source : Source) (text : List ℕ) (lines : List Line36) (tables : Tables) (result : Result PartsFields AlmFault)
    → text ≡ source.text → lines ≡ source.lines → unless_refused text lines (refusal_in text lines) ≡ Ok tables
    → IsResultOf result (parts_if_well_formed (parts_with text tables lines) (last_line 1 lines) (is_well_formed (parts_with text tables lines))) → IsResultOf result (assembled source)
unfolding made_by
tells_object source text lines tables result t l e says =
    subst (IsResultOf result) (ap (made_by text lines) (sym e) ∙ made_all source text lines t l) says
