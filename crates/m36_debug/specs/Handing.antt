-- What handing over the block says: the answers that wait in it are put.
use Rattle.std.specs.Prelude.{◌≡◌, []}
use Rattle.m36_outside.specs.declared.sink.Put.{Put}
use Rattle.m36_outside.specs.declared.sink.Put.TheVariants.{Done, Failed}
use Rattle.m36_debug.specs.declared.machine_relations.LineResult.{LineResult}
use Rattle.m36_debug.specs.declared.machine_relations.LineResult.TheVariants as ends
use Rattle.m36_debug.specs.Putting.{Pending, PutsPieces}

-- how lines ended after their answers were put: as before, or Cut if the output failed
abbrev pub after_put : Put → LineResult → LineResult
after_put Done end = end
after_put Failed end = ends.Cut

-- The lines that wait are put, and no line is added. The lines had ended with `end`; if the output
-- fails now, the result is Cut.
pub record IsHandedOver (end result : LineResult) (old new : Pending) : Type 0 where
  pub put : Put
  pub puts : PutsPieces put [] old new
  pub result_is : result ≡ after_put put end

-- Nothing is put, since the output had failed before.
pub record IsNotHandedOver (result : LineResult) (old new : Pending) : Type 0 where
  pub same : new.world ≡ old.world
  pub result_is : result ≡ ends.Cut

-- The block is handed over after lines that ended with the first argument; the second is how they
-- ended with that. Nothing is put if the output had failed before.
abbrev pub HandsOver : LineResult → LineResult → Pending → Pending → Type 0
HandsOver ends.Line result old new = IsHandedOver ends.Line result old new
HandsOver ends.Quit result old new = IsHandedOver ends.Quit result old new
HandsOver ends.Starved result old new = IsHandedOver ends.Starved result old new
HandsOver ends.Cut result old new = IsNotHandedOver result old new
