-- The result of `lay`, by the frames, the gates and the start.
use Rattle.std.proofs.Common.{ℕ, ◌≡◌, ◌<◌, ◌≤◌, Bool, true, false, cond, List, length, Option, Some, None, Result, Ok, Err, sym, ap, subst, ◌∙◌}
use Rattle.std.proofs.lemmas.Bool.{lt-ltb, le-ltb}
use Rattle.m36_dir.specs.Catalog.{CatalogFields}
use Rattle.m36_boot.specs.declared.fault.BootFault.{BootFault}
use Rattle.m36_boot.specs.declared.fault.BootFault.TheVariants as fault
use Rattle.m36_link.specs.Fields.{SnapFields}
use Rattle.m36_link.specs.Known.{segment_of, object_in}
use Rattle.m36_link.specs.Snap.{RefusedFields}
use Rattle.m36_boot.specs.Start.{start_answer, start_segment, may_start}
use Rattle.m36_boot.specs.Refusals.{StartAnswer, is_object, start_answer_if, start_answer_at, start_of, least_frames, first_or, boot_answer, first_gate_fault, ReportsFault, ReportsGateFault}

pub lay_few : (catalog : CatalogFields) (files : List (List ℕ)) → catalog.frames < 24 → boot_answer catalog files ≡ Err fault.U1
unfolding boot_answer
lay_few catalog files few =
    let answer = first_or (first_gate_fault catalog files 0 (length catalog.segments)) (start_of catalog files) in
    ap (λ b. cond b (Err fault.U1) answer) (lt-ltb catalog.frames least_frames few)

enough : (catalog : CatalogFields) (files : List (List ℕ)) → 24 ≤ catalog.frames
    → boot_answer catalog files ≡ first_or (first_gate_fault catalog files 0 (length catalog.segments)) (start_of catalog files)
unfolding boot_answer
enough catalog files many =
    let answer = first_or (first_gate_fault catalog files 0 (length catalog.segments)) (start_of catalog files) in
    ap (λ b. cond b (Err fault.U1) answer) (le-ltb catalog.frames least_frames many)

gates_told : (told : BootFault) (first : Option BootFault) (answer : StartAnswer) → ReportsGateFault told first → ReportsFault told (first_or first answer)
gates_told fault.NoMemory first answer says = tt
gates_told fault.U1 first answer says = ap (λ o. first_or o answer) says
gates_told (fault.U2 n) first answer says = ap (λ o. first_or o answer) says
gates_told fault.U3 first answer says = ap (λ o. first_or o answer) says
gates_told (fault.U4 n) first answer says = ap (λ o. first_or o answer) says

pub lay_gates : (catalog : CatalogFields) (files : List (List ℕ)) (told : BootFault) → 24 ≤ catalog.frames
    → ReportsGateFault told (first_gate_fault catalog files 0 (length catalog.segments)) → ReportsFault told (boot_answer catalog files)
lay_gates catalog files told many says =
    let P : StartAnswer → Type 0 = λ x. ReportsFault told x in
    subst P (sym (enough catalog files many))
    (gates_told told (first_gate_fault catalog files 0 (length catalog.segments)) (start_of catalog files) says)

pub lay_from : (catalog : CatalogFields) (files : List (List ℕ)) → 24 ≤ catalog.frames
    → first_gate_fault catalog files 0 (length catalog.segments) ≡ None → boot_answer catalog files ≡ start_of catalog files
lay_from catalog files many none = enough catalog files many ∙ ap (λ o. first_or o (start_of catalog files)) none

pub lay_start : (catalog : CatalogFields) (files : List (List ℕ)) (told : BootFault) → 24 ≤ catalog.frames
    → first_gate_fault catalog files 0 (length catalog.segments) ≡ None → ReportsFault told (start_of catalog files) → ReportsFault told (boot_answer catalog files)
lay_start catalog files told many none says =
    let P : StartAnswer → Type 0 = λ x. ReportsFault told x in
    subst P (sym (lay_from catalog files many none)) says

pub lay_point : (catalog : CatalogFields) (files : List (List ℕ)) (s : SnapFields) → 24 ≤ catalog.frames
    → first_gate_fault catalog files 0 (length catalog.segments) ≡ None → start_of catalog files ≡ Ok s → boot_answer catalog files ≡ Ok s
lay_point catalog files s many none is = lay_from catalog files many none ∙ is

-- ---- the start is the answer to the link

answer_by : (may : Bool) (answer : Result SnapFields RefusedFields) (s : SnapFields) → start_answer_if may answer ≡ Ok s → answer ≡ Ok s
answer_by true (Ok snap) s e = cc
answer_by true (Err why) s e = absurd (cc)
answer_by false answer s e = absurd (cc)

object_by : (is : Bool) (answer : StartAnswer) (told : BootFault) (s : SnapFields) → cond is answer (Err told) ≡ Ok s → answer ≡ Ok s
object_by true answer told s e = e
object_by false answer told s e = absurd (cc)

answer_in : (catalog : CatalogFields) (files : List (List ℕ)) (seg : Option ℕ) (s : SnapFields) → start_answer_at catalog files seg ≡ Ok s
    → start_answer catalog files ≡ Ok s
answer_in catalog files None s e = absurd (cc)
answer_in catalog files (Some seg) s e =
    answer_by (may_start catalog.start.ring (segment_of catalog seg)) (start_answer catalog files) s
    (object_by (is_object (segment_of catalog seg) (object_in files seg)) _ (fault.U4 seg) s e)

pub start_answers : (catalog : CatalogFields) (files : List (List ℕ)) (s : SnapFields) → start_of catalog files ≡ Ok s → start_answer catalog files ≡ Ok s
unfolding start_of
start_answers catalog files s e = answer_in catalog files (start_segment catalog) s e

pub ruleset answers = (lay_few, lay_point)
