-- What is found in the table of names.
use Rattle.std.proofs.Common.{ℕ, suc, ◌≡◌, ◌+◌, ◌^◌, ◌≤◌, Bool, true, false, cond, List, [], ◌∷◌, ◌++◌, length, Some, is_some, refl, sym, ap, ◌∙◌, subst, arith}
use Rattle.std.specs.Prelude.{unwrap_or}
use Rattle.std.specs.List.{list_any}
use Rattle.std.specs.Map.{lookup}
use Rattle.std.proofs.lemmas.List.{length-append}
use Rattle.indexmap.specs.IndexMap.{insert_entry}
use Rattle.obj36_parts.specs.Names.{same, with_name, names_in, name_offset, name_size, name_words, all_name_words}
use Rattle.obj36_parts.specs.NameTables.{names_with_offsets, ArePlaced}
use Rattle.obj36_parts.proofs.IndexLaws.{goes_last, names_in_last, looked}
use Rattle.obj36_parts.proofs.NameTables.{one_more}
use Rattle.obj36_parts.proofs.SizeLaws.{length-name_words, all_words_last}

pub nothing_laid : (entries : List (List ℕ × ℕ)) (base : ℕ) → entries ≡ [] → base ≤ 2 ^ 40 → ArePlaced entries base base
unfolding names_with_offsets all_name_words
nothing_laid entries base e near =
    let P : List (List ℕ × ℕ) → Type 0 = λ es. ArePlaced es base base in
    subst P (sym e) (record { near = near; places = refl; behind = omega arith; small = omega arith })

-- ---- a name that is not in the table is added at the end

length-names_in : (entries : List (List ℕ × ℕ)) → length (names_in entries) ≡ length entries
length-names_in [] = refl
length-names_in (e ∷ entries) = ap suc (length-names_in entries)

laid_last : (names : List (List ℕ)) (name : List ℕ) (at : ℕ) → names_with_offsets (names ++ name ∷ []) at ≡ names_with_offsets names at ++ (name, at + length (all_name_words names)) ∷ []
unfolding names_with_offsets all_name_words
laid_last [] name at = ap (λ n. (name, n) ∷ []) (let k : at ≡ at + 0 = omega arith in k)
laid_last (n ∷ names) name at =
    let k : at + name_size n + length (all_name_words names) ≡ at + length (name_words n ++ all_name_words names) =
    omega (arith, length-append (name_words n) (all_name_words names), length-name_words n) in
    ap (λ (es : List (List ℕ × ℕ)). (n, at) ∷ es) (laid_last names name (at + name_size n) ∙ ap (λ m. names_with_offsets names (at + name_size n) ++ (name, m) ∷ []) k)

pub laid_more : (entries new : List (List ℕ × ℕ)) (base next after n : ℕ) (name : List ℕ) → ArePlaced entries base next → is_some (lookup (same name) entries) ≡ false
    → new ≡ insert_entry same entries name next → n ≡ name_size name → n ≤ 9 → after ≡ next + n → ArePlaced new base after
laid_more entries new base next after n name h none e long short a =
    let all : new ≡ entries ++ (name, next) ∷ [] = e ∙ goes_last same entries name next none in
    let names : names_in new ≡ names_in entries ++ name ∷ [] = ap names_in all ∙ names_in_last entries name next in
    let words : length (all_name_words (names_in new)) ≡ length (all_name_words (names_in entries)) + name_size name =
    ap (λ (ns : List (List ℕ)). length (all_name_words ns)) names ∙ all_words_last (names_in entries) name in
    let count : length new ≡ length entries + 1 = ap length all ∙ length-append entries ((name, next) ∷ []) in
    record {
      near = h.near;
      places =
          all ∙ (λ i. h.places i ++ (name, h.behind i) ∷ []) ∙ sym (laid_last (names_in entries) name base)
          ∙ ap (λ (ns : List (List ℕ)). names_with_offsets ns base) (sym names);
      behind = omega (arith, h.behind);
      small = omega (arith, h.small);
    }

pub named_there : (entries : List (List ℕ × ℕ)) (name : List ℕ) → is_some (lookup (same name) entries) ≡ true → names_in entries ≡ with_name (names_in entries) name
unfolding with_name
named_there entries name some = sym (ap (λ b. cond b (names_in entries) (names_in entries ++ name ∷ [])) (sym (looked name entries) ∙ some))

pub named_last : (entries new : List (List ℕ × ℕ)) (name : List ℕ) (place : ℕ) → is_some (lookup (same name) entries) ≡ false → new ≡ insert_entry same entries name place
    → names_in new ≡ with_name (names_in entries) name
unfolding with_name
named_last entries new name place none e =
    ap names_in (e ∙ goes_last same entries name place none) ∙ names_in_last entries name place
    ∙ sym (ap (λ b. cond b (names_in entries) (names_in entries ++ name ∷ [])) (sym (looked name entries) ∙ none))

pub few_named : (names new : List (List ℕ)) (name : List ℕ) → new ≡ with_name names name → length new ≤ length names + 1
unfolding with_name
few_named names new name e = omega (arith, ap length e, one_more names name (list_any (same name) names))

-- ---- the offset of a name

place_told : (name : List ℕ) (names : List (List ℕ)) (at : ℕ) → unwrap_or (lookup (same name) (names_with_offsets names at)) (at + length (all_name_words names)) ≡ name_offset name names at
unfolding names_with_offsets name_offset all_name_words
place_told name [] at = omega arith
place_told name (n ∷ names) at = by (same name n) (place_told name names (at + name_size n))
  where
    by : (b : Bool)
        → unwrap_or (lookup (same name) (names_with_offsets names (at + name_size n))) (at + name_size n + length (all_name_words names)) ≡ name_offset name names (at + name_size n)
        → unwrap_or (cond b (Some at) (lookup (same name) (names_with_offsets names (at + name_size n)))) (at + length (name_words n ++ all_name_words names))
        ≡ cond b at (name_offset name names (at + name_size n))
    by true later = refl
    by false later =
        ap (λ m. unwrap_or (lookup (same name) (names_with_offsets names (at + name_size n))) m)
        (let k : at + length (name_words n ++ all_name_words names) ≡ at + name_size n + length (all_name_words names) =
        omega (arith, length-append (name_words n) (all_name_words names), length-name_words n) in k)
        ∙ later

pub found_laid : (entries : List (List ℕ × ℕ)) (base next : ℕ) (name : List ℕ) → ArePlaced entries base next
    → unwrap_or (lookup (same name) entries) next ≡ name_offset name (names_in entries) base
found_laid entries base next name h = (λ i. unwrap_or (lookup (same name) (h.places i)) (h.behind i)) ∙ place_told name (names_in entries) base
