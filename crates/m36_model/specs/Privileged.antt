-- Privileged instructions. Multics Processor Manual AL39, "Privileged -- register load",
-- "Privileged -- register store", "Privileged -- clear associative memory", "Absolute address to
-- accumulator".
use Rattle.std.specs.Prelude.{ℕ, ◌*◌, ◌^◌, [], ◌∷◌, Result, slice_index}
use Rattle.m36_desc.specs.Descriptors.{dbr_of, dbr_even, dbr_odd}
use Rattle.m36_model.specs.Registers.{RegsFields}
use Rattle.m36_model.specs.Results.{OperandFields, EffectFields, A, completes, completes_with}
use Rattle.m36_model.specs.Results.{sets_register}

-- LDBR: the fields of the pair to the DBR
unfoldable pub load_dbr : OperandFields → RegsFields → Result EffectFields ℕ
load_dbr o g = completes (record g { dbr = dbr_of (slice_index o.got 0) (slice_index o.got 1) })

-- SDBR: the fields of the DBR to the pair, and zeros to the rest
unfoldable pub store_dbr : RegsFields → Result EffectFields ℕ
store_dbr g = completes_with g (dbr_even g.dbr ∷ dbr_odd g.dbr ∷ [])

-- ABSA: the core address to A 0-23, and zeros to A 24-35. Setting the indicators is this project's
-- choice.
unfoldable pub load_absolute_address : OperandFields → RegsFields → Result EffectFields ℕ
load_absolute_address o g = sets_register A (o.place * 2 ^ 12) g
