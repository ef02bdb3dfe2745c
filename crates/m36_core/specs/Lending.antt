-- Core after a frame was borrowed to be written.
use Rattle.std.specs.Prelude.{ℕ, List}
use Rattle.std.specs.Borrow.{Lends, MutBor, Fml, Array}
use Rattle.m36_word.specs.contracts.word.Word as word
use Rattle.m36_core.specs.Frames.{with_frame}
use Rattle.m36_core.specs.contracts.memory.Core as core

-- When the borrow ends, core has the words that were left in the frame, and is otherwise unchanged.
abbrev pub LendsFrame : MutBor (List ℕ) → ℕ → MutBor (List ℕ) → Fml
LendsFrame c f r = Lends core.the_row (Array word.the_row 0) c r (with_frame c.now f)
