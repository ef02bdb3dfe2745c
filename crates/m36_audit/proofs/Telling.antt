-- Values that are found by a test of the result of a definition.
use Rattle.std.proofs.Common.{◌≡◌}
use Rattle.std.specs.Prelude.{Bool, true, false, not, Option, Some, None, Result, Ok, Err}
use Rattle.std.specs.Result.{result_ok}
use Rattle.m36_audit.specs.Live.{IsSameLookup}

pub tells : {A E : Type 0} (found : Option A) (definition : Result A E) → found ≡ result_ok definition → IsSameLookup found definition
tells None (Ok a) h = cc
tells None (Err e) h = λ a k. cc
tells (Some a) (Ok b) h = cc
tells (Some a) (Err e) h = cc

-- a negated test of a value that was read gives this value
pub off : (seen value : Bool) → seen ≡ value → not seen ≡ true → value ≡ false
off true value e h = cc
off false value e h = cc

pub on : (seen value : Bool) → seen ≡ value → not seen ≡ false → value ≡ true
on true value e h = cc
on false value e h = cc
