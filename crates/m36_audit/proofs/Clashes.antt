-- If two processes have something at a word, and two different things are there, then two different
-- processes have different things there.
use Rattle.std.proofs.Common.{◌≡◌, ◌≢◌, ℕ, sym, ◌∙◌, subst, inl, inr}
use Rattle.std.specs.Prelude.{◌⊎◌}
use Rattle.std.proofs.lemmas.Bool.{cases_eq}

pub record Clash {I : Type 0} (Has : ℕ → I → Type 0) : Type 0 where
  pub one : ℕ
  pub other : ℕ
  pub thing : I
  pub other_thing : I
  pub has : Has one thing
  pub has_other : Has other other_thing
  pub apart : one ≢ other
  pub differ : thing ≢ other_thing

module _ {I : Type 0} (Has : ℕ → I → Type 0) (same : (x y : I) → (x ≡ y) ⊎ (x ≡ y → ⊥)) where
  -- a third process has something: it differs from what one of two others has
  beside : (i m : ℕ) (x y z : I) → Has i x → Has i y → x ≢ y → Has m z → m ≢ i → Clash Has
  beside i m x y z has has_too differ third apart = at (same z x)
    where
      at : (z ≡ x) ⊎ (z ≡ x → ⊥) → Clash Has
      at (inl e) = record { one = m; other = i; thing = z; other_thing = y; has = third; has_other = has_too; apart = apart; differ = λ g. differ (sym e ∙ g) }
      at (inr far) = record { one = m; other = i; thing = z; other_thing = x; has = third; has_other = has; apart = apart; differ = far }

  pub clash : (k l i j : ℕ) (u v x y : I) → k ≢ l → Has k u → Has l v → Has i x → Has j y → x ≢ y → Clash Has
  clash k l i j u v x y two has_k has_l has_i has_j differ = at (cases_eq i j)
    where
      third : (k ≡ i) ⊎ (k ≡ i → ⊥) → Has i y → Clash Has
      third (inl e) has = beside i l x y v has_i has differ has_l (λ g. two (e ∙ sym g))
      third (inr far) has = beside i k x y u has_i has differ has_k far

      at : (i ≡ j) ⊎ (i ≡ j → ⊥) → Clash Has
      at (inl e) = third (cases_eq k i) (subst (λ (n : ℕ). Has n y) (sym e) has_j)
      at (inr far) = record { one = i; other = j; thing = x; other_thing = y; has = has_i; has_other = has_j; apart = far; differ = differ }
