-- The data has room for the words of each program.
use Rattle.std.proofs.Common.{ℕ, ◌+◌, ◌%◌, ◌<◌, arith}
use Rattle.m36_gen.specs.Draws.{next_state, draw_of, offset_bound, most_words, draws_from}
use Rattle.m36_gen.specs.Folder.{data_words, DataHoldsAll}

held : (a b : ℕ) → a % offset_bound + (1 + b % most_words) < data_words
unfolding data_words
held a b = omega arith

pub data_holds_all : DataHoldsAll
unfolding draws_from
data_holds_all x = held (draw_of (next_state (next_state (next_state x)))) (draw_of (next_state (next_state x)))
