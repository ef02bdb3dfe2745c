-- Steps of the loops that make the table of names.
use Rattle.std.proofs.Common.{ℕ, suc, ◌≡◌, ◌+◌, ◌-◌, ◌*◌, ◌/◌, ◌<◌, ◌≤◌, Bool, true, false, cond, List, [], ◌∷◌, ◌++◌, length, drop, get_or, refl, sym, ap, ◌∙◌, append_assoc, arith}
use Rattle.std.proofs.lemmas.List.{at_drop_more, at_drop_all, append-nil, length-append}
use Rattle.std.specs.List.{list_any}
use Rattle.obj36_parts.specs.Fields.{LinkFields}
use Rattle.obj36_parts.specs.declared.definition.Named.{Named}
use Rattle.obj36_parts.specs.Names.{same, with_name, with_names, name_size, name_word, name_words_from, name_words, all_name_words}
use Rattle.obj36_parts.specs.ObjectSegment.{definition_names, link_names, name_used, entry_used, all_link_names, has_name, has_entry}

pub with_names-append : (names xs ys : List (List ℕ)) → with_names names (xs ++ ys) ≡ with_names (with_names names xs) ys
unfolding with_names
with_names-append names [] ys = refl
with_names-append names (x ∷ xs) ys = with_names-append (with_name names x) xs ys

pub added_then : (names next all xs ys : List (List ℕ)) → next ≡ with_names names xs → all ≡ with_names next ys → all ≡ with_names names (xs ++ ys)
added_then names next all xs ys e f = f ∙ ap (λ (ns : List (List ℕ)). with_names ns ys) e ∙ sym (with_names-append names xs ys)

-- ---- names of definitions and links

pub definition_added : (names next total : List (List ℕ)) (ds : List Named) (i : ℕ) (d : Named) → i < length ds → d ≡ get_or ds i d → next ≡ with_name names d.name
    → with_names names (definition_names (drop i ds)) ≡ total → with_names next (definition_names (drop (i + 1) ds)) ≡ total
unfolding with_names definition_names
definition_added names next total ds i d lt is e so_far =
    let one : with_names names (definition_names (drop i ds)) ≡ with_names names (definition_names (get_or ds i d ∷ drop (i + 1) ds)) = at_drop_more (λ (xs : List Named). with_names names (definition_names xs)) ds i d lt in
    ap (λ (ns : List (List ℕ)). with_names ns (definition_names (drop (i + 1) ds))) (e ∙ ap (λ (x : Named). with_name names x.name) is) ∙ sym one ∙ so_far

pub definitions_added : (names total : List (List ℕ)) (ds : List Named) (i : ℕ) → length ds ≤ i → with_names names (definition_names (drop i ds)) ≡ total → names ≡ total
unfolding with_names definition_names
definitions_added names total ds i le so_far = sym (at_drop_all (λ (xs : List Named). with_names names (definition_names xs)) ds i le) ∙ so_far

pub link_added : (names next total : List (List ℕ)) (ls : List LinkFields) (i : ℕ) (l : LinkFields) → i < length ls → l ≡ get_or ls i l → next ≡ with_names names (link_names l)
    → with_names names (all_link_names (drop i ls)) ≡ total → with_names next (all_link_names (drop (i + 1) ls)) ≡ total
unfolding all_link_names
link_added names next total ls i l lt is e so_far =
    let one : with_names names (all_link_names (drop i ls)) ≡ with_names names (link_names (get_or ls i l) ++ all_link_names (drop (i + 1) ls)) = at_drop_more (λ (xs : List LinkFields). with_names names (all_link_names xs)) ls i l lt in
    ap (λ (ns : List (List ℕ)). with_names ns (all_link_names (drop (i + 1) ls))) (e ∙ ap (λ (x : LinkFields). with_names names (link_names x)) is)
    ∙ sym (with_names-append names (link_names (get_or ls i l)) (all_link_names (drop (i + 1) ls))) ∙ sym one ∙ so_far

pub links_added : (names total : List (List ℕ)) (ls : List LinkFields) (i : ℕ) → length ls ≤ i → with_names names (all_link_names (drop i ls)) ≡ total → names ≡ total
unfolding with_names all_link_names
links_added names total ls i le so_far = sym (at_drop_all (λ (xs : List LinkFields). with_names names (all_link_names xs)) ls i le) ∙ so_far

-- ---- the words of names

pub word_pushed : (out next total name : List ℕ) (j count : ℕ) → j < count → next ≡ out ++ name_word name j ∷ []
    → out ++ name_words_from name j (count - j) ≡ total → next ++ name_words_from name (j + 1) (count - (j + 1)) ≡ total
unfolding name_words_from
word_pushed out next total name j count lt e so_far =
    let k : count - j ≡ suc (count - (j + 1)) = omega arith in
    let one : name_words_from name j (count - j) ≡ name_word name j ∷ name_words_from name (j + 1) (count - (j + 1)) = ap (name_words_from name j) k ∙ ap (λ n. name_word name j ∷ name_words_from name n (count - (j + 1))) (omega arith) in
    ap (λ (o : List ℕ). o ++ name_words_from name (j + 1) (count - (j + 1))) e
    ∙ append_assoc out (name_word name j ∷ []) (name_words_from name (j + 1) (count - (j + 1)))
    ∙ ap (λ (ws : List ℕ). out ++ ws) (sym one) ∙ so_far

pub all_words : (out total name : List ℕ) (j count : ℕ) → count ≤ j → out ++ name_words_from name j (count - j) ≡ total → out ≡ total
unfolding name_words_from
all_words out total name j count le so_far =
    let none : count - j ≡ 0 = omega arith in
    sym (append-nil out) ∙ ap (λ n. out ++ name_words_from name j n) (sym none) ∙ so_far

pub first_word : (out name : List ℕ) (count : ℕ) → count ≡ length name / 4 + 1 → out ++ name_words_from name 0 (count - 0) ≡ out ++ name_words name
unfolding name_words name_size
first_word out name count e = ap (λ n. out ++ name_words_from name 0 n) (let k : count - 0 ≡ length name / 4 + 1 = omega arith in k)

pub name_pushed : (out next total name : List ℕ) (names : List (List ℕ)) (i : ℕ) → i < length names → name ≡ get_or names i name → next ≡ out ++ name_words name
    → out ++ all_name_words (drop i names) ≡ total → next ++ all_name_words (drop (i + 1) names) ≡ total
unfolding all_name_words
name_pushed out next total name names i lt is e so_far =
    let one : out ++ all_name_words (drop i names) ≡ out ++ (name_words (get_or names i name) ++ all_name_words (drop (i + 1) names)) = at_drop_more (λ (xs : List (List ℕ)). out ++ all_name_words xs) names i name lt in
    ap (λ (o : List ℕ). o ++ all_name_words (drop (i + 1) names)) (e ∙ ap (λ (x : List ℕ). out ++ name_words x) is)
    ∙ append_assoc out (name_words (get_or names i name)) (all_name_words (drop (i + 1) names)) ∙ sym one ∙ so_far

pub no_name_pushed : (out total : List ℕ) (names : List (List ℕ)) (i : ℕ) → length names ≤ i → out ++ all_name_words (drop i names) ≡ total → out ≡ total
unfolding all_name_words
no_name_pushed out total names i le so_far = sym (append-nil out) ∙ sym (at_drop_all (λ (xs : List (List ℕ)). out ++ all_name_words xs) names i le) ∙ so_far

-- ---- how many names there are

pub one_more : (names : List (List ℕ)) (name : List ℕ) (b : Bool) → length (cond b names (names ++ name ∷ [])) ≤ length names + 1
one_more names name true = omega arith
one_more names name false = omega (arith, length-append names (name ∷ []))

pub few_with : (names more : List (List ℕ)) → length (with_names names more) ≤ length names + length more
unfolding with_names with_name
few_with names [] = omega arith
few_with names (name ∷ more) =
    omega (arith, few_with (with_name names name) more, one_more names name (list_any (same name) names))

pub few_definitions : (ds : List Named) → length (definition_names ds) ≡ length ds
unfolding definition_names
few_definitions [] = refl
few_definitions (d ∷ ds) = ap suc (few_definitions ds)

few_of : (name entry : List ℕ) (a b : Bool) → length (cond a (name ∷ []) [] ++ cond b (entry ∷ []) []) ≤ 2
few_of name entry true true = omega arith
few_of name entry true false = omega arith
few_of name entry false true = omega arith
few_of name entry false false = omega arith

few_links : (ls : List LinkFields) → length (all_link_names ls) ≤ 2 * length ls
unfolding all_link_names link_names name_used entry_used
few_links [] = omega arith
few_links (l ∷ ls) = omega (arith, few_links ls, length-append (link_names l) (all_link_names ls), few_of l.name l.entry (has_name l.kind) (has_entry l.kind))

pub few_alone : (ds : List Named) (names : List (List ℕ)) → names ≡ with_names [] (definition_names ds) → length names ≤ length ds
few_alone ds names e = omega (arith, ap length e, few_with [] (definition_names ds), few_definitions ds)

pub few_linked : (ls : List LinkFields) (names : List (List ℕ)) → names ≡ with_names [] (all_link_names ls) → length names ≤ 2 * length ls
few_linked ls names e = omega (arith, ap length e, few_with [] (all_link_names ls), few_links ls)
