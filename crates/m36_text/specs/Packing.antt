-- Words packed into bytes.
use Rattle.std.specs.Prelude.{ℕ, zero, suc, ◌+◌, ◌-◌, ◌*◌, ◌/◌, ◌%◌, ◌^◌, ◌<◌, ◌≡◌, nat_eq}
use Rattle.std.specs.Prelude.{if◌then◌else◌, List, [], ◌∷◌, ◌++◌, length, take, drop, slice_index}
use Rattle.std.specs.Prelude.{Result, Ok, Err}
use Rattle.std.specs.List.{All}
use Rattle.std.specs.Int.Digits.{number_from_digits}
use Rattle.m36_word.specs.Pairs.{number_of}
use Rattle.m36_text.specs.Digits.{digits}
use Rattle.m36_text.specs.declared.packing.PackFault.{PackFault}
use Rattle.m36_text.specs.declared.packing.PackFault.TheVariants.{T3, T4, NoMemory}

-- Packs words in order, the most significant bit first. Two words are 72 bits and fill nine bytes.
-- A last single word is 36 bits and four zero bits, and fills five bytes.
unfoldable pub packed : List ℕ → List ℕ
packed [] = []
packed (last ∷ []) = digits 256 5 (last * 2 ^ 4)
packed (even ∷ odd ∷ words) =
    digits 256 9 (number_of (record { even = even; odd = odd })) ++ packed words

-- the number that bytes represent, the most significant first
unfoldable pub number_of_bytes : List ℕ → ℕ
number_of_bytes bytes = number_from_digits 256 bytes

-- The word that is packed alone in the bytes after the whole groups of nine, as a list of one; no
-- word if there are no such bytes. The low four bits of the bytes are no part of it.
abbrev pub last_word : List ℕ → List ℕ
last_word [] = []
last_word (byte ∷ bytes) = number_of_bytes (byte ∷ bytes) / 2 ^ 4 ∷ []

-- the words of this many groups of nine bytes, two each, and of the bytes that are left
unfoldable pub words_of : ℕ → List ℕ → List ℕ
words_of zero bytes = last_word bytes
words_of (suc groups) bytes =
    number_of_bytes (take 9 bytes) / 2 ^ 36 ∷ number_of_bytes (take 9 bytes) % 2 ^ 36
    ∷ words_of groups (drop 9 bytes)

-- Bytes unpacked into words. T3 with the number of bytes if no words are packed into that many. T4
-- with the index of the last byte if the four bits after a single last word are not zero.
unfoldable pub unpacked : List ℕ → Result (List ℕ) PackFault
unpacked bytes =
    if nat_eq (length bytes % 9) 0 then Ok (words_of (length bytes / 9) bytes)
    else (if nat_eq (length bytes % 9) 5
    then (if nat_eq (slice_index bytes (length bytes - 1) % 2 ^ 4) 0
    then Ok (words_of (length bytes / 9) bytes) else Err (T4 (length bytes - 1)))
    else Err (T3 (length bytes)))

-- The result of a call that unpacks is that of the definition, except that it may be NoMemory
-- whatever the bytes are.
abbrev pub UnpackResult : Result (List ℕ) PackFault → Result (List ℕ) PackFault → Type 0
UnpackResult (Ok words) definition = definition ≡ Ok words
UnpackResult (Err (T3 count)) definition = definition ≡ Err (T3 count)
UnpackResult (Err (T4 place)) definition = definition ≡ Err (T4 place)
UnpackResult (Err NoMemory) definition = Unit {0}

-- What a fault holds, if it is about `count` bytes: T3 holds their number, T4 the index of the last
-- one.
abbrev pub IsFaultOfCount : ℕ → PackFault → Type 0
IsFaultOfCount count (T3 given) = given ≡ count
IsFaultOfCount count (T4 place) = place + 1 ≡ count
IsFaultOfCount count NoMemory = Unit {0}

-- Unpacking packed words yields the same words.
abbrev pub UnpacksWhatWasPacked : Type 0
UnpacksWhatWasPacked =
    (words : List ℕ) → All (λ word. word < 2 ^ 36) words → unpacked (packed words) ≡ Ok words

-- If bytes unpack into words, packing the words yields the same bytes.
abbrev pub PacksWhatWasUnpacked : Type 0
PacksWhatWasUnpacked = (bytes words : List ℕ) → All (λ byte. byte < 2 ^ 8) bytes
    → unpacked bytes ≡ Ok words → packed words ≡ bytes

-- Bytes unpack into numbers below 2^36.
abbrev pub UnpacksIntoWords : Type 0
UnpacksIntoWords = (bytes words : List ℕ) → All (λ byte. byte < 2 ^ 8) bytes
    → unpacked bytes ≡ Ok words → All (λ word. word < 2 ^ 36) words
