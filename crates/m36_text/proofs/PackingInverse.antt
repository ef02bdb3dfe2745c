-- Packing and unpacking are inverse.
use Rattle.std.proofs.Common.{ℕ, zero, suc, ◌≡◌, ◌⊎◌, ◌+◌, ◌-◌, ◌*◌, ◌/◌, ◌%◌, ◌^◌, ◌<◌, ◌≤◌, Bool, true, false, cond, eqb, List, [], ◌∷◌, ◌++◌, length, take, drop, get_or, Ok, Err, refl, sym, ap, ◌∙◌, inl, inr, subst, arith}
use Rattle.std.specs.List.{All}
use Rattle.std.specs.Int.Digits.{AllBelowBase, number_from_digits}
use Rattle.std.proofs.lemmas.Bool.{cond-true, cond-false, eq-eqb, ne_eqb, eqb-true}
use Rattle.std.proofs.lemmas.Int.Digits.{number_lt}
use Rattle.std.proofs.lemmas.List.{length-append, length-drop, take_at, drop_at, take_all, take-append-drop, length-take-le, get_or-append_right, get_or-drop}
use Rattle.std.proofs.lemmas.List.Elements.{recursion_from_All, All-from_recursion}
use Rattle.m36_text.specs.Digits.{digits}
use Rattle.m36_text.specs.Packing.{packed, number_of_bytes, words_of, last_word, unpacked, UnpacksWhatWasPacked, PacksWhatWasUnpacked, UnpacksIntoWords}
use Rattle.m36_text.proofs.DigitLaws.{length_digits}
use Rattle.m36_text.proofs.DigitNumbers.{number_of_digits, digits_of_number}
use Rattle.m36_text.proofs.PackingLaws.{bits_more, words_more}

-- after the whole groups comes nothing, or a last word whose four spare bits are zero
abbrev IsWhole : List ℕ → Type 0
IsWhole bytes = (length bytes % 9 ≡ 0) ⊎ ((length bytes % 9 ≡ 5) × (get_or bytes (length bytes - 1) 0 % 16 ≡ 0))

record IsPacked (bytes words : List ℕ) : Type 0 where
  whole : IsWhole bytes
  read : words_of (length bytes / 9) bytes ≡ words

-- the cases of `unpacked`

unpacks : (bytes words : List ℕ) → IsPacked bytes words → unpacked bytes ≡ Ok words
unfolding unpacked
unpacks bytes words p =
    elim p.whole [
      | inl none ↦ cond-true (eqb (length bytes % 9) 0) _ _ (eq-eqb (length bytes % 9) 0 none) ∙ ap Ok p.read
      | inr one ↦
          cond-false (eqb (length bytes % 9) 0) _ _ (ne_eqb (length bytes % 9) 0 (λ none. let five = one.0 in absurd (omega arith)))
          ∙ (cond-true (eqb (length bytes % 9) 5) _ _ (eq-eqb (length bytes % 9) 5 one.0)
          ∙ (cond-true (eqb (get_or bytes (length bytes - 1) 0 % 16) 0) _ _ (eq-eqb (get_or bytes (length bytes - 1) 0 % 16) 0 one.1)
          ∙ ap Ok p.read))
    ]

chosen : {F : Type 0} (a b c : Bool) (w v : List ℕ) (f g : F) → cond a (Ok w) (cond b (cond c (Ok w) (Err f)) (Err g)) ≡ Ok v
    → ((a ≡ true) ⊎ ((b ≡ true) × (c ≡ true))) × (w ≡ v)
chosen true b c w v f g e = (inl refl, cc)
chosen false true true w v f g e = (inr (refl, refl), cc)
chosen false true false w v f g e = absurd cc
chosen false false c w v f g e = absurd cc

is_packed : (bytes words : List ℕ) → unpacked bytes ≡ Ok words → IsPacked bytes words
unfolding unpacked
is_packed bytes words e =
    let all = chosen (eqb (length bytes % 9) 0) (eqb (length bytes % 9) 5) (eqb (get_or bytes (length bytes - 1) 0 % 16) 0) (words_of (length bytes / 9) bytes) words _ _ e in
    record {
      whole = elim all.0 [
        | inl none ↦ inl (eqb-true (length bytes % 9) 0 none)
        | inr one ↦ inr (eqb-true (length bytes % 9) 5 one.0, eqb-true (get_or bytes (length bytes - 1) 0 % 16) 0 one.1)
      ];
      read = all.1;
    }

-- unpacking what was packed

last_word_is : (bytes : List ℕ) → 0 < length bytes → last_word bytes ≡ number_of_bytes bytes / 2 ^ 4 ∷ []
last_word_is [] some = absurd (omega arith)
last_word_is (byte ∷ bytes) some = refl

bits_of_digits : (places v : ℕ) → v < 256 ^ places → number_of_bytes (digits 256 places v) ≡ v
unfolding number_of_bytes
bits_of_digits places v fits = number_of_digits 256 places v (omega arith) fits

packed_alone : (word : ℕ) → word < 2 ^ 36 → IsPacked (digits 256 5 (word * 16)) (word ∷ [])
unfolding digits words_of
packed_alone word below = record {
  whole = inr (refl, omega arith);
  read =
      last_word_is (digits 256 5 (word * 16)) (omega arith)
      ∙ ap (λ n. n ∷ []) (ap (λ n. n / 16) (bits_of_digits 5 (word * 16) (omega arith)) ∙ omega arith);
}

joined : (n : ℕ) (bytes words : List ℕ) → n < 2 ^ 72 → IsPacked bytes words → IsPacked (digits 256 9 n ++ bytes) (n / 2 ^ 36 ∷ n % 2 ^ 36 ∷ words)
joined n bytes words below p =
    let group : List ℕ = digits 256 9 n in
    let nine : length group ≡ 9 = length_digits 256 9 n in
    let long : length (group ++ bytes) ≡ 9 + length bytes = length-append group bytes ∙ ap (λ k. k + length bytes) nine in
    let bits : number_of_bytes (take 9 (group ++ bytes)) ≡ n = ap number_of_bytes (take_at group bytes 9 nine) ∙ bits_of_digits 9 n below in
    let rest : drop 9 (group ++ bytes) ≡ bytes = drop_at group bytes 9 nine in
    record {
      whole = elim p.whole [
        | inl none ↦ inl (omega arith)
        | inr one ↦
            let five = one.0 in
            let place : length (group ++ bytes) - 1 - 9 ≡ length bytes - 1 = omega arith in
            inr (omega arith, ap (λ b. b % 16) (get_or-append_right group bytes 9 (length (group ++ bytes) - 1) 0 nine (omega arith) ∙ ap (λ k. get_or bytes k 0) place) ∙ one.1)
      ];
      read = words_more (group ++ bytes) (omega arith) ∙ rw (bits, rest) (λ i. n / 2 ^ 36 ∷ n % 2 ^ 36 ∷ p.read i);
    }

packs : (words : List ℕ) → AllBelowBase (2 ^ 36) words → IsPacked (packed words) words
unfolding packed words_of
packs [] below = record { whole = inl refl; read = refl }
packs (word ∷ []) below = packed_alone word below.0
packs (even ∷ odd ∷ words) below =
    let first = below.0 in
    let second = below.1.0 in
    let high : (even * 2 ^ 36 + odd) / 2 ^ 36 ≡ even = omega arith in
    let low : (even * 2 ^ 36 + odd) % 2 ^ 36 ≡ odd = omega arith in
    let all = joined (even * 2 ^ 36 + odd) (packed words) words (omega arith) (packs words below.1.1) in
    record { whole = all.whole; read = all.read ∙ (λ i. high i ∷ low i ∷ words) }

pub unpacks_what_was_packed : UnpacksWhatWasPacked
unpacks_what_was_packed words below = unpacks (packed words) words (packs words (recursion_from_All (λ word. word < 2 ^ 36) words below))

-- packing what was unpacked

rest_whole : (bytes : List ℕ) → 9 ≤ length bytes → IsWhole bytes → IsWhole (drop 9 bytes)
rest_whole bytes long whole =
    let shorter : length (drop 9 bytes) ≡ length bytes - 9 = length-drop 9 bytes in
    elim whole [
      | inl none ↦ inl (omega arith)
      | inr one ↦
          let five = one.0 in
          let place : 9 + (length (drop 9 bytes) - 1) ≡ length bytes - 1 = omega arith in
          inr (omega arith, ap (λ b. b % 16) (get_or-drop 9 bytes (length (drop 9 bytes) - 1) 0 ∙ ap (λ k. get_or bytes k 0) place) ∙ one.1)
    ]

below_drop : (n : ℕ) (bytes : List ℕ) → AllBelowBase 256 bytes → AllBelowBase 256 (drop n bytes)
below_drop zero bytes below = below
below_drop (suc n) [] below = tt
below_drop (suc n) (byte ∷ bytes) below = below_drop n bytes below.1

below_take : (n : ℕ) (bytes : List ℕ) → AllBelowBase 256 bytes → AllBelowBase 256 (take n bytes)
below_take zero bytes below = tt
below_take (suc n) [] below = tt
below_take (suc n) (byte ∷ bytes) below = (below.0, below_take n bytes below.1)

bits_below : (bytes : List ℕ) (n : ℕ) → length bytes ≡ n → AllBelowBase 256 bytes → number_of_bytes bytes < 256 ^ n
unfolding number_of_bytes
bits_below bytes n long below = subst (λ (k : ℕ). number_from_digits 256 bytes < 256 ^ k) long (number_lt 256 bytes below)

digits_of_bits : (bytes : List ℕ) (n : ℕ) → length bytes ≡ n → AllBelowBase 256 bytes → digits 256 n (number_of_bytes bytes) ≡ bytes
unfolding number_of_bytes
digits_of_bits bytes n long below = ap (λ k. digits 256 k (number_from_digits 256 bytes)) (sym long) ∙ digits_of_number 256 bytes below

-- the spare bits are the last four bits of the number
spare_bits : (bytes : List ℕ) → length bytes ≡ 5 → number_of_bytes bytes % 16 ≡ get_or bytes 4 0 % 16
spare_bits bytes five =
    let split : number_of_bytes bytes ≡ number_of_bytes (take 4 bytes) * 256 + get_or bytes 4 0 =
    ap number_of_bytes (sym (take_all 5 bytes (omega arith))) ∙ bits_more bytes 4 (omega arith) in
    omega arith

packed_last : (bytes : List ℕ) → length bytes < 9 → IsWhole bytes → AllBelowBase 256 bytes → packed (last_word bytes) ≡ bytes
unfolding packed
packed_last [] short whole below = refl
packed_last (byte ∷ bytes) short whole below =
    elim whole [
      | inl none ↦ absurd (omega arith)
      | inr one ↦
          let five : length (byte ∷ bytes) ≡ 5 = let left = one.0 in omega arith in
          let place : length (byte ∷ bytes) - 1 ≡ 4 = omega arith in
          let spare : number_of_bytes (byte ∷ bytes) % 16 ≡ 0 = spare_bits (byte ∷ bytes) five ∙ (ap (λ k. get_or (byte ∷ bytes) k 0 % 16) (sym place) ∙ one.1) in
          let exact : number_of_bytes (byte ∷ bytes) / 2 ^ 4 * 2 ^ 4 ≡ number_of_bytes (byte ∷ bytes) = omega arith in
          ap (digits 256 5) exact ∙ digits_of_bits (byte ∷ bytes) 5 five below
    ]

back : (groups : ℕ) (bytes : List ℕ) → length bytes / 9 ≡ groups → IsWhole bytes → AllBelowBase 256 bytes → packed (words_of groups bytes) ≡ bytes
unfolding packed words_of
back zero bytes count whole below = packed_last bytes (omega arith) whole below
back (suc groups) bytes count whole below =
    let long : 9 ≤ length bytes = omega arith in
    let nine : length (take 9 bytes) ≡ 9 = length-take-le 9 bytes long in
    let joined : number_of_bytes (take 9 bytes) / 2 ^ 36 * 2 ^ 36 + number_of_bytes (take 9 bytes) % 2 ^ 36 ≡ number_of_bytes (take 9 bytes) = omega arith in
    let rest = back groups (drop 9 bytes) (omega (arith, length-drop 9 bytes)) (rest_whole bytes long whole) (below_drop 9 bytes below) in
    ap (λ n. digits 256 9 n ++ packed (words_of groups (drop 9 bytes))) joined
    ∙ (ap (λ group. group ++ packed (words_of groups (drop 9 bytes))) (digits_of_bits (take 9 bytes) 9 nine (below_take 9 bytes below))
    ∙ (ap (λ bs. take 9 bytes ++ bs) rest ∙ take-append-drop 9 bytes))

pub packs_what_was_unpacked : PacksWhatWasUnpacked
packs_what_was_unpacked bytes words below e =
    let p = is_packed bytes words e in
    ap packed (sym p.read) ∙ back (length bytes / 9) bytes refl p.whole (recursion_from_All (λ byte. byte < 2 ^ 8) bytes below)

last_below : (bytes : List ℕ) → length bytes < 9 → IsWhole bytes → AllBelowBase 256 bytes → AllBelowBase (2 ^ 36) (last_word bytes)
last_below [] short whole below = tt
last_below (byte ∷ bytes) short whole below =
    elim whole [
      | inl none ↦ absurd (omega arith)
      | inr one ↦
          let five : length (byte ∷ bytes) ≡ 5 = let left = one.0 in omega arith in
          let bits = bits_below (byte ∷ bytes) 5 five below in
          (omega arith, tt)
    ]

all_below : (groups : ℕ) (bytes : List ℕ) → length bytes / 9 ≡ groups → IsWhole bytes → AllBelowBase 256 bytes → AllBelowBase (2 ^ 36) (words_of groups bytes)
unfolding words_of
all_below zero bytes count whole below = last_below bytes (omega arith) whole below
all_below (suc groups) bytes count whole below =
    let long : 9 ≤ length bytes = omega arith in
    let bits = bits_below (take 9 bytes) 9 (length-take-le 9 bytes long) (below_take 9 bytes below) in
    (omega arith, (omega arith, all_below groups (drop 9 bytes) (omega (arith, length-drop 9 bytes)) (rest_whole bytes long whole) (below_drop 9 bytes below)))

pub unpacks_into_words : UnpacksIntoWords
unpacks_into_words bytes words below e =
    let p = is_packed bytes words e in
    let bytes_below = recursion_from_All (λ byte. byte < 2 ^ 8) bytes below in
    subst (λ (ws : List ℕ). All (λ word. word < 2 ^ 36) ws) p.read
    (All-from_recursion (λ word. word < 2 ^ 36) (words_of (length bytes / 9) bytes) (all_below (length bytes / 9) bytes refl p.whole bytes_below))
