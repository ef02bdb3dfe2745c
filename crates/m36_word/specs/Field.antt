-- Fields of a word; the range of an offset in a word; the number of frames that addresses reach.
use Rattle.std.specs.Prelude.{ℕ, ◌≡◌, ◌+◌, ◌-◌, ◌*◌, ◌/◌, ◌%◌, ◌^◌, ◌<◌, ◌≤◌, ◌⊎◌}

-- the field of `len` bits that begins at bit `first`, where bit 0 is the most significant of 36
abbrev pub field : ℕ → ℕ → ℕ → ℕ
field w first len = w / 2 ^ (36 - first - len) % 2 ^ len

-- the word with this field set to v: the bits above the field, v, and the bits below it
abbrev pub with_field : ℕ → ℕ → ℕ → ℕ → ℕ
with_field w first len v =
    (w / 2 ^ (36 - first) * 2 ^ len + v) * 2 ^ (36 - first - len) + w % 2 ^ (36 - first - len)

-- bit i of a word, 0 or 1; bit 0 is the most significant of 36
abbrev pub bit : ℕ → ℕ → ℕ
bit w i = field w i 1

-- The offset after a pointer register is bits 3 to 17 of a word, in two's complement. It is below
-- this limit, and not below its negative.
abbrev pub offset_limit : ℕ
offset_limit = 16384

-- the number of frames, of 1024 words each, that an address of 24 bits reaches
abbrev pub frames_reached : ℕ
frames_reached = 16384

-- A get after a put returns what was put.
abbrev pub GetsWhatWasPut : Type 0
GetsWhatWasPut =
    (w first len v : ℕ) → 1 ≤ len → first + len ≤ 36 → v < 2 ^ len
    → field (with_field w first len v) first len ≡ v

-- A put keeps every other bit.
abbrev pub KeepsOtherBits : Type 0
KeepsOtherBits =
    (w first len v i : ℕ) → 1 ≤ len → first + len ≤ 36 → v < 2 ^ len → i < 36
    → (i < first) ⊎ (first + len ≤ i) → bit (with_field w first len v) i ≡ bit w i

-- A second put replaces the first.
abbrev pub ReplacesFirstPut : Type 0
ReplacesFirstPut =
    (w first len v u : ℕ) → 1 ≤ len → first + len ≤ 36 → v < 2 ^ len → u < 2 ^ len
    → with_field (with_field w first len v) first len u ≡ with_field w first len u
