-- What a user may do with a segment, by its access list.
use Rattle.std.specs.Prelude.{ℕ, ◌≡◌, true, false, List, [], find, position, take, slice_get}
use Rattle.std.specs.Prelude.{Option, Some, None, All}
use Rattle.m36_dir.specs.BootOrder.{entry}
use Rattle.m36_acl.specs.declared.policy.Decision.{Decision}
use Rattle.m36_acl.specs.Fields.{TermFields, AclSegmentFields}
use Rattle.m36_acl.specs.Users.{matches}
use Rattle.m36_acl.specs.AccessLists.{Lists, is_list_of}

-- ---- the list of a segment

-- the terms of a list, or none if there is no list
abbrev pub terms_in : Option AclSegmentFields → List TermFields
terms_in None = []
terms_in (Some segment) = segment.terms

-- the access list of a segment; empty if no `segment` line names it
unfoldable pub terms_of : Lists → List ℕ → List ℕ → List TermFields
terms_of lists dir name = terms_in (find (is_list_of (entry dir name)) lists)

-- ---- the first term that matches

-- no right, and no term
abbrev pub no_rights : Decision
no_rights = record { readable = false; executable = false; writable = false; term = None }

-- the rights of a term, with its index
abbrev pub decision_of_term : ℕ → Option TermFields → Decision
decision_of_term place None = no_rights
decision_of_term place (Some term) =
    record {
      readable = term.readable;
      executable = term.executable;
      writable = term.writable;
      term = Some place;
    }

-- the decision by the term at an index
abbrev pub decision_at : List TermFields → Option ℕ → Decision
decision_at terms None = no_rights
decision_at terms (Some place) = decision_of_term place (slice_get terms place)

-- The mode of the first term that matches the user, with the index of that term. If none matches,
-- no right and no term.
unfoldable pub first_match_decision : List TermFields → List ℕ → Decision
first_match_decision terms user =
    decision_at terms (position (λ term. matches term.text user) terms)

-- what a user may do with a segment, by the lists
unfoldable pub policy : Lists → List ℕ → List ℕ → List ℕ → Decision
policy lists dir name user = first_match_decision (terms_of lists dir name) user

-- ---- laws

-- no term matches the user
abbrev pub NoneMatches : List TermFields → List ℕ → Type 0
NoneMatches terms user = All (λ term. matches term.text user ≡ false) terms

-- The term at this index gives the rights, and is the first that matches.
pub record IsFirstMatch
    (terms : List TermFields) (user : List ℕ) (d : Decision) (place : ℕ) : Type 0 where
  pub term : TermFields
  pub stands : slice_get terms place ≡ Some term
  pub matching : matches term.text user ≡ true
  pub earlier : NoneMatches (take place terms) user
  pub rights : d ≡ decision_of_term place (Some term)

-- a decision by the term at an index, which is the first that matches; or by none, if none matches
abbrev pub IsDecisionOf : List TermFields → List ℕ → Decision → Option ℕ → Type 0
IsDecisionOf terms user d None = NoneMatches terms user × (d ≡ no_rights)
IsDecisionOf terms user d (Some place) = IsFirstMatch terms user d place

-- The first term that matches decides. If none matches, there is no right.
abbrev pub FirstMatchDecides : Type 0
FirstMatchDecides = (lists : Lists) (dir name user : List ℕ) →
    IsDecisionOf (terms_of lists dir name) user (policy lists dir name user)
    (policy lists dir name user).term
