-- Packing and unpacking, group by group.
use Rattle.std.proofs.Common.{ℕ, suc, ◌≡◌, ◌+◌, ◌*◌, ◌/◌, ◌%◌, ◌^◌, ◌<◌, ◌≤◌, List, [], ◌∷◌, ◌++◌, length, take, drop, get_or, refl, ap, ◌∙◌, arith, add-one}
use Rattle.std.proofs.lemmas.Int.Digits.{number_more}
use Rattle.std.proofs.lemmas.List.{length-drop, append-nil, append_assoc}
use Rattle.std.proofs.Math.Nat.{pow-suc, pow-le-pow_right}
use Rattle.m36_text.specs.Digits.{digits}
use Rattle.m36_text.specs.Packing.{packed, number_of_bytes, words_of, last_word}

-- two words more
pub packed_pair : (words : List ℕ) → 2 ≤ length words
    → packed words ≡ digits 256 9 (get_or words 0 0 * 2 ^ 36 + get_or words 1 0) ++ packed (drop 2 words)
unfolding packed
packed_pair [] long = absurd (omega arith)
packed_pair (word ∷ []) long = absurd (omega arith)
packed_pair (even ∷ odd ∷ words) long = refl

-- a last single word, and none
pub packed_one : (words : List ℕ) → length words ≡ 1 → packed words ≡ digits 256 5 (get_or words 0 0 * 16)
unfolding packed
packed_one [] one = absurd (omega arith)
packed_one (word ∷ []) one = refl
packed_one (even ∷ odd ∷ words) one = absurd (omega arith)

pub nothing_packed : (text words : List ℕ) → length words ≡ 0 → text ++ packed words ≡ text
unfolding packed
nothing_packed text [] none = append-nil text
nothing_packed text (word ∷ words) none = absurd (omega arith)

-- one byte more
pub bits_none : number_of_bytes [] ≡ 0
unfolding number_of_bytes
bits_none = refl

pub bits_more : (bytes : List ℕ) (i : ℕ) → i < length bytes → number_of_bytes (take (i + 1) bytes) ≡ number_of_bytes (take i bytes) * 256 + get_or bytes i 0
unfolding number_of_bytes
bits_more bytes i within = number_more 256 bytes i within

-- one group more
pub words_more : (bytes : List ℕ) → 9 ≤ length bytes
    → words_of (length bytes / 9) bytes ≡ number_of_bytes (take 9 bytes) / 2 ^ 36 ∷ number_of_bytes (take 9 bytes) % 2 ^ 36 ∷ words_of (length (drop 9 bytes) / 9) (drop 9 bytes)
unfolding words_of
words_more bytes long =
    let groups : length bytes / 9 ≡ suc (length (drop 9 bytes) / 9) = omega (arith, length-drop 9 bytes) in
    rw groups

pub group_pushed : (bytes old new : List ℕ) (bits : ℕ) → 9 ≤ length bytes → bits ≡ number_of_bytes (take 9 bytes)
    → new ≡ old ++ bits / 2 ^ 36 ∷ bits % 2 ^ 36 ∷ []
    → new ++ words_of (length (drop 9 bytes) / 9) (drop 9 bytes) ≡ old ++ words_of (length bytes / 9) bytes
group_pushed bytes old new bits long read pushed =
    rw (words_more bytes long, pushed, append_assoc, read)

-- fewer than nine bytes
pub words_last : (bytes : List ℕ) → length bytes < 9 → words_of (length bytes / 9) bytes ≡ last_word bytes
unfolding words_of
words_last bytes short =
    let none : length bytes / 9 ≡ 0 = omega arith in
    rw none

pub fits_more : (i value byte : ℕ) → i < 9 → value < 256 ^ i → byte < 256 → (value * 256 + byte < 256 ^ (i + 1)) × (value * 256 + byte < 2 ^ 72)
fits_more i value byte within fits below =
    let step : 256 ^ (i + 1) ≡ 256 ^ i * 256 = ap (λ n. 256 ^ n) (add-one i) ∙ pow-suc 256 i in
    let all : 256 ^ (i + 1) ≤ 256 ^ 9 = pow-le-pow_right {n = 256} (omega arith) {i = i + 1} {j = 9} (omega arith) in
    (rw step (omega arith), omega arith)
