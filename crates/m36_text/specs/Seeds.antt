-- The seed of the hash tables of one input, and what a name writes to a hasher.
use Rattle.std.specs.Prelude.{ℕ, ◌+◌, ◌*◌, ◌/◌, ◌%◌, ◌^◌, List, ◌∷◌, take, drop, length, bit_or}
use Rattle.std.specs.List.{fold}
use Rattle.std.specs.Hash.{HashWrites, u64}
use Rattle.std.specs.Hash.DefaultHasher.{write, initial}
use Rattle.sha2.specs.Sha512.{sha512_256}
use Rattle.m36_text.specs.declared.seeds.HashSeed.{HashSeed}

-- the seed with this digest: a SipHash hasher that has read it
abbrev pub seed_with : List ℕ → HashSeed
seed_with digest = record { hasher = write initial digest; digest = digest }

-- the seed of an input: that of the SHA-512/256 digest of all its bytes
abbrev pub seed_of : List ℕ → HashSeed
seed_of input = seed_with (sha512_256 input)

-- a number of 64 bits, shifted left by one byte, with this byte at its low end
abbrev pub with_low_byte : ℕ → ℕ → ℕ
with_low_byte number byte = bit_or (number * 2 ^ 8 % 2 ^ 64) byte

-- how many bytes of a name are in whole words of eight bytes
abbrev pub whole_bytes : List ℕ → ℕ
whole_bytes name = length name / 8 * 8

-- the last word of a name: its length, then the bytes after its whole words
abbrev pub last_word : List ℕ → ℕ
last_word name = fold with_low_byte (length name) (drop (whole_bytes name) name)

-- what a name writes to a hasher: its whole words, then its last word
abbrev pub name_writes : List ℕ → HashWrites
name_writes name = take (whole_bytes name) name ∷ u64 (last_word name)
