-- If names are different from each other and all are in another list, their words are at most those
-- of that list.
use Rattle.std.proofs.Common.{◌≡◌, ℕ, ◌+◌, ◌≤◌, Bool, true, false, cond, not, ◌||◌, List, [], ◌∷◌, ◌++◌, length, refl, sym, ap, ◌∙◌, true≢false, arith}
use Rattle.std.specs.List.{list_any}
use Rattle.std.proofs.lemmas.Bool.{and_parts, and_from, not-true, or_left, or_right, or_from, or_parts}
use Rattle.std.proofs.lemmas.Cmp.{nat_list_eq_equiv}
use Rattle.std.proofs.lemmas.List.Folds.{list_any-append}
use Rattle.std.proofs.lemmas.List.{length-append}
use Rattle.obj36_parts.specs.Names.{same, with_name, with_names, name_size, name_words, all_name_words}
use Rattle.obj36_parts.specs.ObjectSegment.{are_distinct}
use Rattle.obj36_parts.proofs.SizeLaws.{same_is, same_self, length-name_words}
use Rattle.alm_asm.proofs.LinksSoFar.{or_second}

-- a list has a name
abbrev pub IsIn : List ℕ → List (List ℕ) → Type 0
IsIn name names = list_any (same name) names ≡ true

-- a list has all of these names
abbrev pub AreIn : List (List ℕ) → List (List ℕ) → Type 0
AreIn names others = (name : List ℕ) → IsIn name names → IsIn name others

-- the sum over names of a number for each
unfoldable pub total : (List ℕ → ℕ) → List (List ℕ) → ℕ
total f [] = 0
total f (name ∷ names) = f name + total f names

pub total_last : (f : List ℕ → ℕ) (names : List (List ℕ)) (name : List ℕ) → total f (names ++ name ∷ []) ≡ total f names + f name
unfolding total
total_last f [] name = omega arith
total_last f (first ∷ names) name = omega (arith, total_last f names name)

pub total_words : (names : List (List ℕ)) → length (all_name_words names) ≡ total name_size names
unfolding total all_name_words
total_words [] = refl
total_words (name ∷ names) = omega (arith, length-append (name_words name) (all_name_words names), length-name_words name, total_words names)

-- ---- all names but one

without : List ℕ → List (List ℕ) → List (List ℕ)
without name [] = []
without name (first ∷ names) = cond (same name first) names (first ∷ without name names)

total_by : (f : List ℕ → ℕ) (name first : List ℕ) (names rest : List (List ℕ)) (b : Bool) → same name first ≡ b → (b ≡ false → f name + total f rest ≡ total f names)
    → f name + total f (cond b names (first ∷ rest)) ≡ f first + total f names
unfolding total
total_by f name first names rest true e later = ap (λ (n : List ℕ). f n + total f names) (same_is name first e)
total_by f name first names rest false e later = let h = later refl in omega arith

total_without : (f : List ℕ → ℕ) (name : List ℕ) (names : List (List ℕ)) → IsIn name names → f name + total f (without name names) ≡ total f names
unfolding total without
total_without f name [] e = absurd (true≢false (sym e))
total_without f name (first ∷ names) e =
    total_by f name first names (without name names) (same name first) refl (λ other. total_without f name names (or_second (same name first) (list_any (same name) names) e other))

in_by : (other name first : List ℕ) (names rest : List (List ℕ)) (b : Bool) → same name first ≡ b → same other name ≡ false → IsIn other (first ∷ names)
    → (IsIn other names → IsIn other rest) → IsIn other (cond b names (first ∷ rest))
in_by other name first names rest true e differs h later =
    or_second (same other first) (list_any (same other) names) h (sym (ap (λ (n : List ℕ). same other n) (same_is name first e)) ∙ differs)
in_by other name first names rest false e differs h later = by (same other first) refl
  where
    by : (c : Bool) → same other first ≡ c → (same other first || list_any (same other) rest) ≡ true
    by true t = or_left (same other first) (list_any (same other) rest) t
    by false t = or_right (same other first) (list_any (same other) rest) (later (or_second (same other first) (list_any (same other) names) h t))

in_without : (other name : List ℕ) (names : List (List ℕ)) → same other name ≡ false → IsIn other names → IsIn other (without name names)
unfolding without
in_without other name [] differs h = h
in_without other name (first ∷ names) differs h =
    in_by other name first names (without name names) (same name first) refl differs h (λ later. in_without other name names differs later)

-- a name that a list has differs from one that it does not have
other_name : (other name : List ℕ) (names : List (List ℕ)) (b : Bool) → same other name ≡ b → IsIn other names → list_any (same name) names ≡ false → same other name ≡ false
other_name other name names true e h none =
    absurd (true≢false (sym h ∙ ap (λ (n : List ℕ). list_any (same n) names) (same_is other name e) ∙ none))
other_name other name names false e h none = e

pub total_within : (f : List ℕ → ℕ) (names others : List (List ℕ)) → are_distinct names ≡ true → AreIn names others → total f names ≤ total f others
unfolding total are_distinct
total_within f [] others distinct within = omega arith
total_within f (name ∷ names) others distinct within =
    let parts = and_parts (not (list_any (same name) names)) (are_distinct names) distinct in
    let alone = not-true (list_any (same name) names) parts.0 in
    let here = within name (or_left (same name name) (list_any (same name) names) (same_self name)) in
    let rest = total_within f names (without name others) parts.1
    (λ other h. in_without other name others (other_name other name names (same other name) refl h alone) (within other (or_right (same other name) (list_any (same other) names) h))) in
    let whole = total_without f name others here in
    omega arith

-- ---- the words of names

pub distinct_pushed : (names : List (List ℕ)) (name : List ℕ) → are_distinct names ≡ true → list_any (same name) names ≡ false → are_distinct (names ++ name ∷ []) ≡ true
unfolding are_distinct
distinct_pushed [] name d none = refl
distinct_pushed (first ∷ names) name d none =
    let parts = and_parts (not (list_any (same first) names)) (are_distinct names) d in
    let others = or_parts (same name first) (list_any (same name) names) none in
    let last : list_any (same first) (name ∷ []) ≡ false = or_from (same first name) false (nat_list_eq_equiv.symm first name ∙ others.0) refl in
    let fresh : list_any (same first) (names ++ name ∷ []) ≡ false =
    list_any-append (same first) names (name ∷ []) ∙ or_from (list_any (same first) names) (list_any (same first) (name ∷ [])) (not-true (list_any (same first) names) parts.0) last in
    and_from (not (list_any (same first) (names ++ name ∷ []))) (are_distinct (names ++ name ∷ [])) (ap not fresh) (distinct_pushed names name parts.1 others.1)

distinct_by : (names : List (List ℕ)) (name : List ℕ) (b : Bool) → list_any (same name) names ≡ b → are_distinct names ≡ true → are_distinct (cond b names (names ++ name ∷ [])) ≡ true
distinct_by names name true e d = d
distinct_by names name false e d = distinct_pushed names name d e

distinct_with : (names more : List (List ℕ)) → are_distinct names ≡ true → are_distinct (with_names names more) ≡ true
unfolding with_names with_name
distinct_with names [] d = d
distinct_with names (name ∷ more) d = distinct_with (with_name names name) more (distinct_by names name (list_any (same name) names) refl d)

none_distinct : are_distinct [] ≡ true
unfolding are_distinct
none_distinct = refl

pub uses_distinct : (uses : List (List ℕ)) → are_distinct (with_names [] uses) ≡ true
uses_distinct uses = distinct_with [] uses none_distinct
