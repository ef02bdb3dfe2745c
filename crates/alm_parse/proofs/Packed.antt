-- Characters packed into words, word by word.
use Rattle.std.proofs.Common.{◌≡◌, ℕ, ◌<◌, List, [], ◌∷◌, ◌++◌, length, drop, refl, sym, ap, ◌∙◌, arith, append-nil}
use Rattle.alm_parse.specs.Characters.{first_word, packed_words}

pub packed_first : (bytes : List ℕ) → 0 < length bytes → packed_words bytes ≡ first_word bytes ∷ packed_words (drop 4 bytes)
unfolding packed_words first_word
packed_first [] some = absurd (omega arith)
packed_first (a ∷ []) some = refl
packed_first (a ∷ b ∷ []) some = refl
packed_first (a ∷ b ∷ c ∷ []) some = refl
packed_first (a ∷ b ∷ c ∷ d ∷ rest) some = refl

pub packed_none : (bytes : List ℕ) → length bytes ≡ 0 → packed_words bytes ≡ []
unfolding packed_words
packed_none [] none = refl
packed_none (a ∷ bytes) none = absurd (omega (arith, none))

-- if nothing is left, everything is packed
pub packed_done : (words whole rest : List ℕ) → length rest ≡ 0 → words ++ packed_words rest ≡ whole → words ≡ whole
packed_done words whole rest none e = sym (append-nil words) ∙ ap (λ more. words ++ more) (sym (packed_none rest none)) ∙ e
