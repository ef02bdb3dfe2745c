-- The numbers that a seed draws.
use Rattle.std.specs.Prelude.{ℕ, zero, suc, ◌+◌, ◌*◌, ◌/◌, ◌%◌, ◌^◌}
use Rattle.m36_gen.specs.declared.draws.Draws.{Draws}

-- the next state of the generator
unfoldable pub next_state : ℕ → ℕ
next_state x = (6364136223846793005 * x + 1442695040888963407) % 2 ^ 64

-- what is drawn by a state: its upper 31 bits
abbrev pub draw_of : ℕ → ℕ
draw_of x = x / 2 ^ 33

-- the state after the three draws of a program
abbrev pub state_after_draws : ℕ → ℕ
state_after_draws x = next_state (next_state (next_state x))

-- each offset is below this
abbrev pub offset_bound : ℕ
offset_bound = 65536

-- the most rounds of a loop; each round stores one word
abbrev pub most_words : ℕ
most_words = 200

-- The three draws of a program: what its loop adds, the number of rounds, and the offset of its
-- words in the data.
unfoldable pub draws_from : ℕ → Draws
draws_from x = record {
  add = draw_of (next_state x) % 1000;
  count = 1 + draw_of (next_state (next_state x)) % most_words;
  offset = draw_of (state_after_draws x) % offset_bound;
}

-- the state of the generator of a seed before the draws of program i
unfoldable pub state_at : ℕ → ℕ → ℕ
state_at seed zero = seed
state_at seed (suc i) = state_after_draws (state_at seed i)
