-- Laws of the states that are kept.
use Rattle.std.proofs.Common.{◌≡◌, ◌+◌, ◌<◌, ◌^◌, ℕ, Bool, List, [], ◌∷◌, ◌++◌, take, sym, ap, subst, ◌∙◌, arith, add-one}
use Rattle.std.specs.List.{filter}
use Rattle.std.proofs.lemmas.List.Elements.{All-nil, All-take, All-filter, All-push}
use Rattle.m36_back.specs.History.{state_at}
use Rattle.m36_back.specs.Kept.{AllKept, PastInvariant}
use Rattle.m36_back.specs.declared.kept.Kept.{Kept}

pub first_kept :
    {M : Type 0} (after : M → M) (first : M) (kept : List (Kept M)) (n : ℕ)
    → AllKept after first kept → AllKept after first (take n kept)
first_kept after first kept n all = All-take (λ k. k.state ≡ state_at after first k.at) n kept all

pub some_kept :
    {M : Type 0} (after : M → M) (first : M) (p : Kept M → Bool) (kept : List (Kept M))
    → AllKept after first kept → AllKept after first (filter p kept)
some_kept after first p kept all = All-filter p (λ k. k.state ≡ state_at after first k.at) kept all

pub one_more_kept :
    {M : Type 0} (after : M → M) (first : M) (kept : List (Kept M)) (k : Kept M)
    → AllKept after first kept → k.state ≡ state_at after first k.at → AllKept after first (kept ++ k ∷ [])
one_more_kept after first kept k all is = All-push (λ k. k.state ≡ state_at after first k.at) kept k all is

pub ruleset keeping = (first_kept, some_kept, one_more_kept)

-- ---- the invariant of a machine that can go back

-- no step was taken yet
pub new_history :
    {M : Type 0} (after : M → M) (first machine : M) (kept : List (Kept M))
    → first ≡ machine → kept ≡ [] → PastInvariant after first machine 0 kept
unfolding state_at
new_history after first machine kept is none = record {
  bound = omega arith;
  state = sym is;
  all = subst (AllKept after first) (sym none) (All-nil (λ k. k.state ≡ state_at after first k.at));
}

-- one more step
pub stepped_history :
    {M : Type 0} (after : M → M) (first machine next : M) (taken count : ℕ) (kept others : List (Kept M))
    → PastInvariant after first machine taken kept → next ≡ after machine → count ≡ taken + 1 → count < 2 ^ 64
    → (AllKept after first kept → next ≡ state_at after first count → AllKept after first others)
    → PastInvariant after first next count others
unfolding state_at
stepped_history after first machine next taken count kept others before is one below keeps =
    let there : next ≡ state_at after first count = is ∙ ap after before.state ∙ ap (state_at after first) (sym (one ∙ add-one taken)) in
    record { bound = below; state = there; all = keeps before.all there }
