-- Errors that the system answered in one call, in the order of the log. A call that a signal
-- interrupts is made again, so a signal is not a fault.
use Rattle.std.specs.Prelude.{ℕ, ◌≡◌, ◌≢◌, ◌≤◌, ◌+◌, ◌-◌, ◌^◌, ◌⊎◌, List, [], ◌∷◌, ◌++◌, length}
use Rattle.std.specs.Prelude.{replicate}
use Rattle.std.specs.declared.io.ErrorKind.{ErrorKind}
use Rattle.std.specs.declared.io.ErrorKind.TheVariants.{Interrupted}

-- Only interruptions by signals were logged, perhaps none.
pub record Signals (old new : List ErrorKind) : Type 0 where
  pub count : ℕ
  pub noted : new ≡ old ++ replicate count Interrupted

-- One error was logged that is not an interruption by a signal.
pub record IsFault (old new : List ErrorKind) : Type 0 where
  pub error : ErrorKind
  pub no_signal : error ≢ Interrupted
  pub noted : new ≡ old ++ error ∷ []

-- The call gave up, after any number of signals: because of another error, or because of 2^64 - 1
-- errors.
pub record GivesUp (old new : List ErrorKind) : Type 0 where
  pub between : List ErrorKind
  pub signals : Signals old between
  pub last :
      IsFault between new ⊎ ((new ≡ between) × (length old + (2 ^ 64 - 1) ≤ length new))
