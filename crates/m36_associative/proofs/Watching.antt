-- Watched addresses, when more are added.
use Rattle.std.proofs.Common.{ℕ, ◌≡◌, ◌≢◌, ◌≤◌, ◌<◌, ◌⊎◌, Bool, true, false, ◌||◌, List, [], ◌∷◌, ◌++◌, nat_eq, refl, sym, ap, subst, ◌∙◌, inl, inr, arith, eqb-true, eq-eqb}
use Rattle.m36_associative.specs.Watched.{is_watched, AreWithin}

or_true : (b : Bool) → (b || true) ≡ true
or_true true = refl
or_true false = refl

-- the address that was added is watched
pub watched_added : (xs : List ℕ) (a : ℕ) → is_watched (xs ++ a ∷ []) a ≡ true
unfolding is_watched
watched_added [] a = ap (λ t. t || false) (eq-eqb a a refl)
watched_added (x ∷ xs) a = ap (λ t. nat_eq x a || t) (watched_added xs a) ∙ or_true (nat_eq x a)

-- those that were watched are watched
or_more : (b c d : Bool) → (c ≡ true → d ≡ true) → (b || c) ≡ true → (b || d) ≡ true
or_more true c d f h = refl
or_more false c d f h = f h

pub watched_more : (xs : List ℕ) (a b : ℕ) → is_watched xs b ≡ true → is_watched (xs ++ a ∷ []) b ≡ true
unfolding is_watched
watched_more [] a b h = cc
watched_more (x ∷ xs) a b h = or_more (nat_eq x b) _ _ (watched_more xs a b) h

-- no others are watched
or_either : (b c : Bool) → (b || c) ≡ true → (b ≡ true) ⊎ (c ≡ true)
or_either true c h = inl refl
or_either false c h = inr h

pub watched_either : (xs : List ℕ) (a b : ℕ) → is_watched (xs ++ a ∷ []) b ≡ true → (is_watched xs b ≡ true) ⊎ (a ≡ b)
unfolding is_watched
watched_either [] a b h = elim (or_either (nat_eq a b) false h) [ inl e ↦ inr (eqb-true a b e) | inr e ↦ absurd (cc) ]
watched_either (x ∷ xs) a b h = elim (or_either (nat_eq x b) _ h) [
  | inl e ↦ inl (ap (λ t. t || is_watched xs b) e)
  | inr e ↦ elim (watched_either xs a b e) [ inl k ↦ inl (ap (λ t. nat_eq x b || t) k ∙ or_true (nat_eq x b)) | inr k ↦ inr k ]
]

-- all addresses are from the lowest to the highest
pub within_added : (xs : List ℕ) (low high low' high' a : ℕ) → AreWithin xs low high → low' ≤ low → low' ≤ a → high ≤ high' → a ≤ high' → AreWithin (xs ++ a ∷ []) low' high'
within_added xs low high low' high' a h i j k l b e = elim (watched_either xs a b e) [
  | inl w ↦ let u = (h b w).0 in let v = (h b w).1 in (omega arith, omega arith)
  | inr same ↦ (omega arith, omega arith)
]

pub nothing_within : (low high : ℕ) → AreWithin [] low high
unfolding is_watched
nothing_within low high a h = absurd (cc)

-- an address outside of these is not watched
outside_by : (xs : List ℕ) (a : ℕ) (t : Bool) → is_watched xs a ≡ t → (is_watched xs a ≡ true → ⊥) → is_watched xs a ≡ false
outside_by xs a true e refused = absurd (refused e)
outside_by xs a false e refused = e

pub not_below : (xs : List ℕ) (low high a : ℕ) → AreWithin xs low high → a < low → is_watched xs a ≡ false
not_below xs low high a h k = outside_by xs a (is_watched xs a) refl (λ e. let u = (h a e).0 in omega arith)

pub not_above : (xs : List ℕ) (low high a : ℕ) → AreWithin xs low high → high < a → is_watched xs a ≡ false
not_above xs low high a h k = outside_by xs a (is_watched xs a) refl (λ e. let u = (h a e).1 in omega arith)

-- a watched address differs from one that is not watched
pub differs : (xs : List ℕ) (a b : ℕ) → is_watched xs b ≡ true → is_watched xs a ≡ false → b ≢ a
differs xs a b h k e = let same : is_watched xs a ≡ true = subst (λ (c : ℕ). is_watched xs c ≡ true) e h in let wrong : true ≡ false = sym same ∙ k in cc

pub ruleset added = (watched_added, watched_more, within_added)
