-- What `debug FILE` and `debug` need of the input to end with Done: that its bytes are known, and
-- that they are not too many.
use Rattle.std.specs.Prelude.{ℕ, ◌≡◌, List, Option, Some}
pub use Rattle.m36_debug.specs.SessionText.{IsTooLong}

-- The bytes that are left of the input at the beginning of the session are known, and they are not
-- more than a session takes.
pub record SessionNeeds (left : Option (List ℕ)) : Type 0 where
  pub bytes : List ℕ
  pub known : left ≡ Some bytes
  pub short : ¬ IsTooLong bytes
