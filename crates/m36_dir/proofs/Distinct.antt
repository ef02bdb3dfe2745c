-- Lists without repeated items.
use Rattle.std.proofs.Common.{◌≡◌, Bool, true, false, not, ◌&&◌, List, [], ◌∷◌, ◌++◌, refl, ap, ◌∙◌}
use Rattle.std.specs.List.{list_any}
use Rattle.std.proofs.lemmas.Bool.{and_parts, and_from, not-true, or_parts, or_from}
use Rattle.std.proofs.lemmas.Cmp.{nat_list_eq_equiv}
use Rattle.std.proofs.lemmas.List.Folds.{list_any-append}
use Rattle.m36_text.specs.Once.{are_distinct_by}
use Rattle.m36_dir.specs.BootOrder.{Entry, is_same_entry}

-- one more at the end, which is the same as none of them
pub distinct_more : {A : Type 0} (same : A → A → Bool) → ((x y : A) → same x y ≡ same y x) → (xs : List A) (x : A)
    → are_distinct_by same xs ≡ true → list_any (same x) xs ≡ false → are_distinct_by same (xs ++ x ∷ []) ≡ true
distinct_more same symm [] x once none = refl
distinct_more same symm (first ∷ xs) x once none =
    let parts = and_parts (not (list_any (same first) xs)) (are_distinct_by same xs) once in
    let others = or_parts (same x first) (list_any (same x) xs) none in
    let last : list_any (same first) (x ∷ []) ≡ false = or_from (same first x) false (symm first x ∙ others.0) refl in
    let fresh : list_any (same first) (xs ++ x ∷ []) ≡ false =
    list_any-append (same first) xs (x ∷ [])
    ∙ or_from (list_any (same first) xs) (list_any (same first) (x ∷ [])) (not-true (list_any (same first) xs) parts.0) last in
    and_from (not (list_any (same first) (xs ++ x ∷ []))) (are_distinct_by same (xs ++ x ∷ [])) (ap not fresh)
    (distinct_more same symm xs x parts.1 others.1)

-- equality of names in directories is symmetric
pub entry_symm : (a b : Entry) → is_same_entry a b ≡ is_same_entry b a
entry_symm a b = λ i. nat_list_eq_equiv.symm b.dir a.dir i && nat_list_eq_equiv.symm b.name a.name i
