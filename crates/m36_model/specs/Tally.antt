-- Indirect then tally: what the tags SD, I, AD, DI and ID do with a tally word. The word has an
-- address A (bits 0 to 17), a tally T (18 to 29) and an increment D (30 to 35). A counts modulo
-- 2^18, and T modulo 2^12. By Multics Processor Manual AL39, "Indirect then tally (IT)
-- modification"; the table here is this project's profile.
--
--   tag  name  computed address  new A  new T   tally runout
--   51   I     A                 A      T       unchanged
--   56   ID    A                 A + 1  T - 1   on if the new T is 0, otherwise off
--   54   DI    A - 1             A - 1  T + 1   on if the new T is 0, otherwise off
--   53   AD    A                 A + D  T - 1   on if the new T is 0, otherwise off
--   44   SD    A - D             A - D  T + 1   on if the new T is 0, otherwise off
use Rattle.std.specs.Prelude.{ℕ, ◌+◌, ◌-◌, ◌*◌, ◌%◌, ◌^◌, Bool, ◌||◌, ◌==◌, if◌then◌else◌}
use Rattle.m36_word.specs.Field.{field}

-- Td of SD
abbrev pub subtract_delta : ℕ
subtract_delta = 0o4

-- Td of I
abbrev pub indirect_only : ℕ
indirect_only = 0o11

-- Td of AD
abbrev pub add_delta : ℕ
add_delta = 0o13

-- Td of DI, which decreases the address and increases the tally
abbrev pub decrement_increment : ℕ
decrement_increment = 0o14

-- Td of ID, which increases the address and decreases the tally
abbrev pub increment_decrement : ℕ
increment_decrement = 0o16

-- whether Td is one of these five
abbrev pub is_tally_tag : ℕ → Bool
is_tally_tag td =
    (td == subtract_delta) || (td == indirect_only) || (td == add_delta)
    || (td == decrement_increment) || (td == increment_decrement)

-- the address in a tally word: bits 0 to 17
abbrev pub tally_address : ℕ → ℕ
tally_address w = field w 0 18

-- the tally in a tally word: bits 18 to 29
abbrev pub tally_count : ℕ → ℕ
tally_count w = field w 18 12

-- the increment in a tally word: bits 30 to 35
abbrev pub tally_delta : ℕ → ℕ
tally_delta w = field w 30 6

-- the tally word with these fields
abbrev pub tally_word : ℕ → ℕ → ℕ → ℕ
tally_word address count delta = address * 2 ^ 18 + count * 2 ^ 6 + delta

-- the result of counting a tally word: the computed address, the new word, and whether the tally
-- has run out
pub record Counted : Type 0 where
  pub address : ℕ
  pub word : ℕ
  pub runs_out : Bool

-- counts a tally word for ID (step 1) and AD: the address is used and then increased, and the tally
-- is decreased
abbrev pub counted_down : ℕ → ℕ → Counted
counted_down w step =
    let a = tally_address w in
    let t = (tally_count w + (2 ^ 12 - 1)) % 2 ^ 12 in
    record {
      address = a;
      word = tally_word ((a + step) % 2 ^ 18) t (tally_delta w);
      runs_out = t == 0;
    }

-- counts a tally word for DI (step 1) and SD: the address is decreased and then used, and the tally
-- is increased
abbrev pub counted_up : ℕ → ℕ → Counted
counted_up w step =
    let a = (tally_address w + (2 ^ 18 - step)) % 2 ^ 18 in
    let t = (tally_count w + 1) % 2 ^ 12 in
    record { address = a; word = tally_word a t (tally_delta w); runs_out = t == 0 }

-- counts a tally word, by Td of ID, AD, DI or SD
unfoldable pub tally : ℕ → ℕ → Counted
tally td w =
    if td == increment_decrement then counted_down w 1
    else if td == add_delta then counted_down w (tally_delta w)
    else if td == decrement_increment then counted_up w 1
    else counted_up w (tally_delta w)
