-- The term that decides is the first that matches.
use Rattle.std.proofs.Common.{ℕ, ◌≡◌, ◌<◌, ◌≤◌, Bool, true, false, List, length, get_or, Option, Some, None, refl, sym, ap, subst, arith}
use Rattle.std.specs.Prelude.{position}
use Rattle.std.specs.List.{position_or_len}
use Rattle.std.proofs.Math.Dec.{ltb}
use Rattle.std.proofs.lemmas.Bool.{ltb-true, ltb-false}
use Rattle.std.proofs.lemmas.List.{get_or-take, length-take-le}
use Rattle.std.proofs.lemmas.List.Quantifiers.{position-Some}
use Rattle.std.proofs.lemmas.List.Sums.{fails_before_first}
use Rattle.std.proofs.lemmas.Option.{cond_some, get_or_from_slice_get}
use Rattle.m36_text.proofs.Splitting.{cond_none}
use Rattle.m36_acl.specs.declared.policy.Decision.{Decision}
use Rattle.m36_acl.specs.Fields.{TermFields}
use Rattle.m36_acl.specs.Users.{matches}
use Rattle.m36_acl.specs.Policy.{terms_of, decision_of_term, decision_at, first_match_decision, policy, IsFirstMatch, IsDecisionOf, FirstMatchDecides}
use Rattle.m36_acl.proofs.Places.{at_place}

none_passes : {X : Type 0} (p : X → Bool) (xs : List X) (k : ℕ) (d : X) → position p xs ≡ None → k < length xs → p (get_or xs k d) ≡ false
none_passes p xs k d none lt =
    let past : length xs ≤ position_or_len p xs =
    ltb-false _ _ (cond_none (ltb (position_or_len p xs) (length xs)) (position_or_len p xs) none) in
    fails_before_first p xs k d (omega arith)

within : {X : Type 0} (p : X → Bool) (xs : List X) (i : ℕ) → position p xs ≡ Some i → i < length xs
within p xs i e =
    let at = cond_some (ltb (position_or_len p xs) (length xs)) (position_or_len p xs) i e in
    let lt : position_or_len p xs < length xs = ltb-true _ _ at.0 in
    omega (arith, lt, at.1)

first_at : (terms : List TermFields) (user : List ℕ) (place : ℕ) → position (λ term. matches term.text user) terms ≡ Some place
    → IsFirstMatch terms user (decision_at terms (Some place)) place
first_at terms user place e =
    let p : TermFields → Bool = λ (term : TermFields). matches term.text user in
    let inside : place < length terms = within p terms place e in
    let at = at_place terms place inside in
    let same : get_or terms place at.x ≡ at.x = get_or_from_slice_get terms place at.x at.x at.stands in
    record {
      term = at.x;
      stands = at.stands;
      matching = subst (λ (t : TermFields). matches t.text user ≡ true) same (position-Some p terms place at.x e).1;
      earlier = λ k d lt.
          let below : k < place = omega (arith, lt, length-take-le place terms (omega (arith, inside))) in
          subst (λ (t : TermFields). matches t.text user ≡ false) (sym (get_or-take place terms k d below))
          ((position-Some p terms place d e).2 k below);
      rights = ap (λ (o : Option TermFields). decision_of_term place o) at.stands;
    }

by_position : (terms : List TermFields) (user : List ℕ) (o : Option ℕ) → position (λ term. matches term.text user) terms ≡ o
    → IsDecisionOf terms user (decision_at terms o) (decision_at terms o).term
by_position terms user None e =
    ((λ k d lt. none_passes (λ (term : TermFields). matches term.text user) terms k d e lt), refl)
by_position terms user (Some place) e =
    let first = first_at terms user place e in
    subst (λ (o : Option ℕ). IsDecisionOf terms user (decision_at terms (Some place)) o)
    (sym (ap (λ (d : Decision). d.term) first.rights)) first

pub first_match_decides : FirstMatchDecides
unfolding policy first_match_decision
first_match_decides lists dir name user =
    let terms = terms_of lists dir name in
    by_position terms user (position (λ (term : TermFields). matches term.text user) terms) refl
