-- Symbols are added at the end.
use Rattle.std.proofs.Common.{◌≡◌, ℕ, suc, subst, arith, Bool, true, false, cond, List, [], ◌∷◌, ◌++◌, Option, Some, None, is_some, refl, sym, ap, ◌∙◌, true≢false}
use Rattle.std.specs.Map.{lookup}
use Rattle.indexmap.specs.IndexMap.{insert_entry}
use Rattle.alm_lines.specs.declared.sum.Sum.{Sum}
use Rattle.alm_lines.specs.Symbols.{same_name, sum_named, with_symbol}
use Rattle.alm_lines.specs.Sums.{IsTerm}
use Rattle.std.specs.Prelude.{IfSome}
use Rattle.std.specs.List.{All}
use Rattle.std.proofs.lemmas.List.Elements.{All-cons, All-nil}

abbrev pub AreTerms : List ℕ × Sum → Type 0
AreTerms symbol = IsTerm symbol.1

no_tail : (b : Bool) (s : Sum) (r : Option Sum) → cond b (Some s) r ≡ None → (b ≡ false) × (r ≡ None)
no_tail true s r e = absurd (true≢false (ap is_some e))
no_tail false s r e = (refl, e)

-- a symbol that is not defined is added at the end
goes_last : (symbols : List (List ℕ × Sum)) (name : List ℕ) (sum : Sum) → lookup (same_name name) symbols ≡ None
    → insert_entry same_name symbols name sum ≡ symbols ++ (name, sum) ∷ []
goes_last [] name sum none = refl
goes_last (symbol ∷ symbols) name sum none =
    let parts = no_tail (same_name name symbol.0) symbol.1 (lookup (same_name name) symbols) none in
    ap (λ b. cond b ((symbol.0, sum) ∷ symbols) (symbol ∷ insert_entry same_name symbols name sum)) parts.0 ∙ ap (λ l. symbol ∷ l) (goes_last symbols name sum parts.1)

is_none : (r : Option Sum) → is_some r ≡ false → r ≡ None
is_none None e = refl
is_none (Some s) e = absurd (true≢false e)

pub defined_new : (symbols new : List (List ℕ × Sum)) (name : List ℕ) (sum : Sum) → is_some (sum_named name symbols) ≡ false
    → new ≡ insert_entry same_name symbols name sum → new ≡ with_symbol symbols name sum
unfolding with_symbol sum_named
defined_new symbols new name sum none e =
    e ∙ goes_last symbols name sum (is_none (lookup (same_name name) symbols) none) ∙ sym (ap (λ b. cond b symbols (symbols ++ (name, sum) ∷ [])) none)

pub defined_old : (symbols : List (List ℕ × Sum)) (name : List ℕ) (sum : Sum) → is_some (sum_named name symbols) ≡ true
    → symbols ≡ with_symbol symbols name sum
unfolding with_symbol
defined_old symbols name sum some = sym (ap (λ b. cond b symbols (symbols ++ (name, sum) ∷ [])) some)

-- ---- each is a term

all_rest : (symbol : List ℕ × Sum) (symbols : List (List ℕ × Sum)) → All AreTerms (symbol ∷ symbols) → All AreTerms symbols
all_rest symbol symbols all k d within = all (suc k) d (omega arith)

some_small : (b : Bool) (s : Sum) (r : Option Sum) → IsTerm s → IfSome r IsTerm → IfSome (cond b (Some s) r) IsTerm
some_small true s r h k = h
some_small false s r h k = k

looked_small : (name : List ℕ) (symbols : List (List ℕ × Sum)) → All AreTerms symbols → IfSome (lookup (same_name name) symbols) IsTerm
looked_small name [] all = tt
looked_small name (symbol ∷ symbols) all =
    some_small (same_name name symbol.0) symbol.1 (lookup (same_name name) symbols) (all 0 symbol (omega arith)) (looked_small name symbols (all_rest symbol symbols all))

pub found_small : (name : List ℕ) (symbols : List (List ℕ × Sum)) (r : Option Sum) → All AreTerms symbols → r ≡ sum_named name symbols → IfSome r IsTerm
unfolding sum_named
found_small name symbols r all e = subst (λ o. IfSome o IsTerm) (sym e) (looked_small name symbols all)

cond_all : (b : Bool) (xs ys : List (List ℕ × Sum)) → All AreTerms xs → All AreTerms ys → All AreTerms (cond b xs ys)
cond_all true xs ys h k = h
cond_all false xs ys h k = k

inserted_all : (symbols : List (List ℕ × Sum)) (name : List ℕ) (sum : Sum) → All AreTerms symbols → IsTerm sum → All AreTerms (insert_entry same_name symbols name sum)
inserted_all [] name sum all small = All-cons AreTerms (name, sum) [] small (All-nil AreTerms)
inserted_all (symbol ∷ symbols) name sum all small =
    cond_all (same_name name symbol.0) ((symbol.0, sum) ∷ symbols) (symbol ∷ insert_entry same_name symbols name sum)
    (All-cons AreTerms (symbol.0, sum) symbols small (all_rest symbol symbols all))
    (All-cons AreTerms symbol (insert_entry same_name symbols name sum) (all 0 symbol (omega arith)) (inserted_all symbols name sum (all_rest symbol symbols all) small))

pub stay_small : (symbols new : List (List ℕ × Sum)) (name : List ℕ) (sum : Sum) → All AreTerms symbols → IsTerm sum → new ≡ insert_entry same_name symbols name sum
    → All AreTerms new
stay_small symbols new name sum all small e = subst (All AreTerms) (sym e) (inserted_all symbols name sum all small)

pub ruleset defined = (defined_new, defined_old)
