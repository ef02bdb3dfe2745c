-- Directories of a catalog: each once, and each the one with its number.
use Rattle.std.proofs.Common.{ℕ, ◌≡◌, ◌<◌, Bool, true, false, cond, List, [], ◌∷◌, ◌++◌, length, Option, Some, None, Ok, refl, sym, ap, subst, ◌∙◌}
use Rattle.std.specs.Prelude.{find, slice_get, unwrap_or, Contains}
use Rattle.std.specs.List.{list_any, position_or_len, position}
use Rattle.std.proofs.lemmas.Cmp.{nat_list_eq_equiv}
use Rattle.std.proofs.lemmas.List.Folds.{find_at}
use Rattle.m36_text.specs.Texts.{is_text}
use Rattle.m36_text.specs.Once.{are_distinct_by}
use Rattle.m36_dir.specs.declared.boot_line.BootLine.{BootLine}
use Rattle.m36_dir.specs.declared.boot_line.BootLine.TheVariants as line
use Rattle.m36_dir.specs.BootOrder.{first_code, well_formed_lines}
use Rattle.m36_dir.specs.Catalog.{CatalogFields, with_directory_of, directories_from, directory_number_in, catalog_in, catalog_of}
use Rattle.m36_dir.specs.IsCatalog.{DirectoriesOnce}
use Rattle.m36_dir.proofs.Distinct.{distinct_more}
use Rattle.m36_dir.proofs.Kept.{same_text, or_second, number_is, read_by}
use Rattle.m36_dir.proofs.Finding.{any_from_contains}

-- ---- each once

more_once_if : (b : Bool) (dirs : List (List ℕ)) (dir : List ℕ) → list_any (is_text dir) dirs ≡ b → are_distinct_by is_text dirs ≡ true
    → are_distinct_by is_text (cond b dirs (dirs ++ dir ∷ [])) ≡ true
more_once_if true dirs dir has once = once
more_once_if false dirs dir has once = distinct_more is_text (λ x y. nat_list_eq_equiv.symm y x) dirs dir once has

line_once : (dirs : List (List ℕ)) (l : BootLine) → are_distinct_by is_text dirs ≡ true → are_distinct_by is_text (with_directory_of dirs l) ≡ true
line_once dirs (line.Segment given) once = more_once_if (list_any (is_text given.dir) dirs) dirs given.dir refl once
line_once dirs (line.Frames n) once = once
line_once dirs (line.Work dir) once = once
line_once dirs (line.Library dir) once = once
line_once dirs (line.Name name) once = once
line_once dirs (line.Start start) once = once

lines_once : (dirs : List (List ℕ)) (lines : List BootLine) → are_distinct_by is_text dirs ≡ true → are_distinct_by is_text (directories_from dirs lines) ≡ true
unfolding directories_from
lines_once dirs [] once = once
lines_once dirs (l ∷ lines) once = lines_once (with_directory_of dirs l) lines (line_once dirs l once)

pub are_once : (dirs : List (List ℕ)) (lines : List BootLine) → dirs ≡ directories_from [] lines → are_distinct_by is_text dirs ≡ true
are_once dirs lines e = ap (are_distinct_by is_text) e ∙ lines_once [] lines refl

of_lines : (lines : List BootLine) → are_distinct_by is_text (catalog_in lines).directories ≡ true
unfolding catalog_in
of_lines lines = lines_once [] lines refl

pub directories_once : DirectoriesOnce
unfolding catalog_of
directories_once text c e =
    let read = read_by (first_code text) (catalog_in (well_formed_lines text)) c e in
    let P : CatalogFields → Type 0 = λ x. are_distinct_by is_text x.directories ≡ true in
    subst P read.1 (of_lines (well_formed_lines text))

-- ---- the directory with a number

first_if : (b : Bool) (d dir : List ℕ) (o : Option (List ℕ)) → is_text dir d ≡ b → (b ≡ false → o ≡ Some dir)
    → cond b (Some d) o ≡ Some dir
first_if true d dir o same later = ap (λ x. Some x) (sym (same_text dir d same))
first_if false d dir o other later = later refl

first_same : (dirs : List (List ℕ)) (dir : List ℕ) → list_any (is_text dir) dirs ≡ true → find (is_text dir) dirs ≡ Some dir
first_same [] dir e = absurd (cc)
first_same (d ∷ dirs) dir e =
    first_if (is_text dir d) d dir (find (is_text dir) dirs) refl
    (λ other. first_same dirs dir (or_second (is_text dir d) (list_any (is_text dir) dirs) e other))

pub number_inverse : (dirs : List (List ℕ)) (dir : List ℕ) (o : Option ℕ) → o ≡ position (is_text dir) dirs → Contains dirs dir
    → slice_get dirs (unwrap_or o 0) ≡ Some dir
unfolding directory_number_in
number_inverse dirs dir o e has =
    let any = any_from_contains dir dirs has in
    let number : unwrap_or (position (is_text dir) dirs) 0 ≡ position_or_len (is_text dir) dirs = number_is dirs dir any in
    ap (λ (x : Option ℕ). slice_get dirs (unwrap_or x 0)) e
    ∙ ap (slice_get dirs) number
    ∙ sym (find_at (is_text dir) dirs)
    ∙ first_same dirs dir any
