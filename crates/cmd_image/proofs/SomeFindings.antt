-- It is not possible that an audit has no list of findings.
use Rattle.std.proofs.Common.{ℕ, zero, suc, ◌<◌, List, ◌++◌, Option, Some, None, refl, arith, inl, inr}
use Rattle.std.proofs.lemmas.Bool.{cases_lt}
use Rattle.m36_desc.specs.Fields.{DbrFields}
use Rattle.m36_model.specs.Place.{core_sdw}
use Rattle.m36_model.specs.Audit.{IsOutOfOrder, IsInTwoTables, IsTableAndSegment, IsInTwoSegments, IsNoGate, HasNoStack}
use Rattle.m36_model.specs.Audit.{Finds, numbered_finding, AreFindings}

-- If no least place breaks a condition, no place does.
none_below : (Breaks : ℕ → Type 0) → ((x : Option ℕ) → ¬ Finds Breaks x) → (n p : ℕ) → p < n → Breaks p → ⊥
none_below Breaks none zero p below breaks = absurd (omega arith)
none_below Breaks none (suc n) p below breaks =
    none (Some p) (breaks, λ q other. elim (cases_lt q p) [ inl less ↦ absurd (none_below Breaks none n q (omega arith) other) | inr most ↦ most ])

pub some_find : (Breaks : ℕ → Type 0) → ¬ ((x : Option ℕ) → ¬ Finds Breaks x)
some_find Breaks none = none None (λ p breaks. none_below Breaks none (suc p) p (omega arith) breaks)

pub some_findings : (core : List ℕ) (dbr : DbrFields) → ¬ ((findings : List (ℕ × ℕ)) → ¬ AreFindings core dbr findings)
some_findings core dbr none =
    some_find (IsOutOfOrder (core_sdw core dbr)) (λ first finds_first.
    some_find (IsInTwoTables core dbr) (λ second finds_second.
    some_find (IsTableAndSegment core dbr) (λ third finds_third.
    some_find (IsInTwoSegments core dbr) (λ fourth finds_fourth.
    some_find (IsNoGate (core_sdw core dbr)) (λ fifth finds_fifth.
    some_find (HasNoStack dbr (core_sdw core dbr)) (λ sixth finds_sixth.
    none (numbered_finding 1 first ++ numbered_finding 2 second ++ numbered_finding 3 third ++ numbered_finding 4 fourth ++ numbered_finding 5 fifth ++ numbered_finding 6 sixth) (record {
      first = first;
      finds_first = finds_first;
      second = second;
      finds_second = finds_second;
      third = third;
      finds_third = finds_third;
      fourth = fourth;
      finds_fourth = finds_fourth;
      fifth = fifth;
      finds_fifth = finds_fifth;
      sixth = sixth;
      finds_sixth = finds_sixth;
      listed = refl;
    })))))))
