-- Each number of a schedule is that of a process.
use Rattle.std.proofs.Common.{◌≡◌, ℕ, zero, suc, ◌<◌, true, List, [], ◌∷◌, Some, subst}
use Rattle.std.specs.Prelude.{slice_get, nat_lt}
use Rattle.std.proofs.lemmas.Bool.{and_parts, ltb-true}
use Rattle.m36_procs.specs.ProcsFile.{are_process_numbers}

pub named_at :
    (count : ℕ) (schedule : List ℕ) (i p : ℕ)
    → are_process_numbers count schedule ≡ true → slice_get schedule i ≡ Some p → p < count
named_at count [] i p named at = absurd (cc)
named_at count (n ∷ schedule) zero p named at =
    let same : n ≡ p = cc in
    subst (λ m. m < count) same (ltb-true n count (and_parts (nat_lt n count) (are_process_numbers count schedule) named).0)
named_at count (n ∷ schedule) (suc i) p named at =
    named_at count schedule i p (and_parts (nat_lt n count) (are_process_numbers count schedule) named).1 at
