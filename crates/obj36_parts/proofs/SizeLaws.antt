-- The number of words of names that are each stored once.
use Rattle.std.proofs.Common.{ℕ, zero, suc, ◌≡◌, ◌+◌, ◌-◌, Bool, true, false, cond, eqb, ◌||◌, List, [], ◌∷◌, ◌++◌, length, refl, sym, ap, ◌∙◌, append_assoc, arith}
use Rattle.std.specs.List.{list_any}
use Rattle.std.proofs.lemmas.Bool.{eqb-true, eq-eqb, and_parts, and_from}
use Rattle.std.proofs.lemmas.List.{length-append}
use Rattle.std.proofs.lemmas.List.Folds.{list_any-append}
use Rattle.obj36_parts.specs.Fields.{LinkFields}
use Rattle.obj36_parts.specs.declared.definition.Named.{Named}
use Rattle.obj36_parts.specs.Names.{same, with_name, with_names, name_size, name_words_from, name_words, all_name_words}
use Rattle.obj36_parts.specs.ObjectSegment.{definition_names, link_names, all_link_names}
use Rattle.obj36_parts.specs.Sizes.{distinct_names_size, total_names_size, undefined_name_size, undefined_names_size}
use Rattle.obj36_parts.proofs.NameTables.{with_names-append}

-- ---- names that are the same

pub same_is : (a b : List ℕ) → same a b ≡ true → a ≡ b
same_is [] [] e = refl
same_is [] (y ∷ b) e = absurd cc
same_is (x ∷ a) [] e = absurd cc
same_is (x ∷ a) (y ∷ b) e =
    let both = and_parts (eqb x y) (same a b) e in
    ap (λ n. n ∷ a) (eqb-true x y both.0) ∙ ap (λ (l : List ℕ). y ∷ l) (same_is a b both.1)

pub same_self : (a : List ℕ) → same a a ≡ true
same_self [] = refl
same_self (x ∷ a) = and_from (eqb x x) (same a a) (eq-eqb x x refl) (same_self a)

-- ---- whether a name is in several lists

pub any_definition : (name : List ℕ) (ds : List Named) → list_any (λ d. same name d.name) ds ≡ list_any (same name) (definition_names ds)
unfolding definition_names
any_definition name [] = refl
any_definition name (d ∷ ds) = ap (λ b. same name d.name || b) (any_definition name ds)

-- ---- a name is in the table exactly if it was used

or_same : (a b : Bool) → (b ≡ true → a ≡ true) → (a || b) ≡ a
or_same true b h = refl
or_same false true h = sym (h refl)
or_same false false h = refl

pub or_assoc : (a b c : Bool) → ((a || b) || c) ≡ (a || (b || c))
or_assoc true b c = refl
or_assoc false b c = refl

pub or_none : (a : Bool) → (a || false) ≡ a
or_none true = refl
or_none false = refl

any_with_by : (x y : List ℕ) (names : List (List ℕ)) (b : Bool) → b ≡ list_any (same y) names → list_any (same x) (cond b names (names ++ y ∷ [])) ≡ (list_any (same x) names || same x y)
any_with_by x y names true e =
    sym (or_same (list_any (same x) names) (same x y) (λ h. ap (λ (n : List ℕ). list_any (same n) names) (same_is x y h) ∙ sym e))
any_with_by x y names false e = list_any-append (same x) names (y ∷ []) ∙ ap (λ c. list_any (same x) names || c) (or_none (same x y))

any_with : (x y : List ℕ) (names : List (List ℕ)) → list_any (same x) (with_name names y) ≡ (list_any (same x) names || same x y)
unfolding with_name
any_with x y names = any_with_by x y names (list_any (same y) names) refl

pub any_among : (x : List ℕ) (names us : List (List ℕ)) → list_any (same x) (with_names names us) ≡ (list_any (same x) names || list_any (same x) us)
unfolding with_names
any_among x names [] = sym (or_none (list_any (same x) names))
any_among x names (u ∷ us) =
    any_among x (with_name names u) us ∙ ap (λ b. b || list_any (same x) us) (any_with x u names) ∙ or_assoc (list_any (same x) names) (same x u) (list_any (same x) us)

-- ---- lengths

words_from_length : (name : List ℕ) (j count : ℕ) → length (name_words_from name j count) ≡ count
unfolding name_words_from
words_from_length name j zero = refl
words_from_length name j (suc count) = ap suc (words_from_length name (suc j) count)

pub length-name_words : (name : List ℕ) → length (name_words name) ≡ name_size name
unfolding name_words
length-name_words name = words_from_length name 0 (name_size name)

pub all_words_last : (names : List (List ℕ)) (name : List ℕ) → length (all_name_words (names ++ name ∷ [])) ≡ length (all_name_words names) + name_size name
unfolding all_name_words
all_words_last [] name = omega (arith, length-append (name_words name) [], length-name_words name)
all_words_last (first ∷ names) name =
    omega (arith, length-append (name_words first) (all_name_words (names ++ name ∷ [])), length-append (name_words first) (all_name_words names), all_words_last names name)

added_by : (names : List (List ℕ)) (x : List ℕ) (b : Bool) → length (all_name_words (cond b names (names ++ x ∷ []))) ≡ length (all_name_words names) + cond b 0 (name_size x)
added_by names x true = omega arith
added_by names x false = all_words_last names x

-- ---- names of two lists

pub definition_names-append : (xs ys : List Named) → definition_names (xs ++ ys) ≡ definition_names xs ++ definition_names ys
unfolding definition_names
definition_names-append [] ys = refl
definition_names-append (x ∷ xs) ys = ap (λ (ns : List (List ℕ)). x.name ∷ ns) (definition_names-append xs ys)

pub all_link_names-append : (xs ys : List LinkFields) → all_link_names (xs ++ ys) ≡ all_link_names xs ++ all_link_names ys
unfolding all_link_names
all_link_names-append [] ys = refl
all_link_names-append (x ∷ xs) ys = ap (λ (ns : List (List ℕ)). link_names x ++ ns) (all_link_names-append xs ys) ∙ sym (append_assoc (link_names x) (all_link_names xs) (all_link_names ys))

-- the words of names, one name after another
all_length_is : (names : List (List ℕ)) → length (all_name_words names) ≡ total_names_size names
unfolding all_name_words total_names_size
all_length_is [] = refl
all_length_is (name ∷ names) =
    omega (arith, length-append (name_words name) (all_name_words names), length-name_words name, all_length_is names)

-- whether a definition has a name
named : List Named → List ℕ → Bool
named ds x = list_any (λ d. same x d.name) ds

others_last : (ds : List Named) (names : List (List ℕ)) (x : List ℕ)
    → undefined_names_size ds (names ++ x ∷ []) ≡ undefined_names_size ds names + cond (named ds x) 0 (name_size x)
unfolding undefined_names_size undefined_name_size named
others_last ds [] x = omega arith
others_last ds (name ∷ names) x = omega (arith, others_last ds names x)

others_by : (ds : List Named) (names : List (List ℕ)) (x : List ℕ) (b : Bool)
    → undefined_names_size ds (cond b names (names ++ x ∷ [])) ≡ undefined_names_size ds names + cond b 0 (cond (named ds x) 0 (name_size x))
others_by ds names x true = omega arith
others_by ds names x false = others_last ds names x

neither : (d c : Bool) (n : ℕ) → cond (d || c) 0 n ≡ cond c 0 (cond d 0 n)
neither true true n = refl
neither true false n = refl
neither false c n = refl

-- The names of the table are those of the definitions and those that only links use.
record Beside (ds : List Named) (alone all : List (List ℕ)) : Type 0 where
  among : (x : List ℕ) → list_any (same x) all ≡ (named ds x || list_any (same x) alone)
  long : length (all_name_words all) ≡ total_names_size (with_names [] (definition_names ds)) + undefined_names_size ds alone

beside_none : (ds : List Named) → Beside ds [] (with_names [] (definition_names ds))
unfolding undefined_names_size named
beside_none ds = record {
  among = λ x. any_among x [] (definition_names ds) ∙ sym (any_definition x ds) ∙ sym (or_none (named ds x));
  long = omega (arith, all_length_is (with_names [] (definition_names ds)));
}

longer : (ds : List Named) (alone all : List (List ℕ)) (x : List ℕ) (b c : Bool) (a : ℕ) → b ≡ (named ds x || c)
    → length (all_name_words all) ≡ a + undefined_names_size ds alone
    → length (all_name_words (cond b all (all ++ x ∷ []))) ≡ a + undefined_names_size ds (cond c alone (alone ++ x ∷ []))
longer ds alone all x b c a e long =
    let same_words : cond b 0 (name_size x) ≡ cond c 0 (cond (named ds x) 0 (name_size x)) =
    ap (λ v. cond v 0 (name_size x)) e ∙ neither (named ds x) c (name_size x) in
    omega (arith, added_by all x b, others_by ds alone x c)

beside_one : (ds : List Named) (alone all : List (List ℕ)) (x : List ℕ) → Beside ds alone all → Beside ds (with_name alone x) (with_name all x)
unfolding with_name
beside_one ds alone all x h = record {
  among = λ y.
      any_with y x all ∙ ap (λ b. b || same y x) (h.among y) ∙ or_assoc (named ds y) (list_any (same y) alone) (same y x)
      ∙ ap (λ b. named ds y || b) (sym (any_with y x alone));
  long = longer ds alone all x (list_any (same x) all) (list_any (same x) alone) (total_names_size (with_names [] (definition_names ds))) (h.among x) h.long;
}

beside_all : (ds : List Named) (alone all xs : List (List ℕ)) → Beside ds alone all → Beside ds (with_names alone xs) (with_names all xs)
unfolding with_names
beside_all ds alone all [] h = h
beside_all ds alone all (x ∷ xs) h = beside_all ds (with_name alone x) (with_name all x) xs (beside_one ds alone all x h)

pub length_of_both : (ds : List Named) (ls : List LinkFields)
    → distinct_names_size (definition_names ds ++ all_link_names ls) ≡ total_names_size (with_names [] (definition_names ds)) + undefined_names_size ds (with_names [] (all_link_names ls))
unfolding distinct_names_size
length_of_both ds ls =
    ap (λ (ns : List (List ℕ)). length (all_name_words ns)) (with_names-append [] (definition_names ds) (all_link_names ls))
    ∙ (beside_all ds [] (with_names [] (definition_names ds)) (all_link_names ls) (beside_none ds)).long

pub length_told : (ds : List Named) (ls : List LinkFields) (own others : List (List ℕ)) (n m : ℕ)
    → own ≡ with_names [] (definition_names ds) → others ≡ with_names [] (all_link_names ls) → n ≡ total_names_size own → m ≡ undefined_names_size ds others
    → n + m ≡ distinct_names_size (definition_names ds ++ all_link_names ls)
length_told ds ls own others n m e f g h =
    omega (arith, length_of_both ds ls, g ∙ ap total_names_size e, h ∙ ap (λ (ns : List (List ℕ)). undefined_names_size ds ns) f)
