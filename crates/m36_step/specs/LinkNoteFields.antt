-- A link service, as it is reported.
use Rattle.std.specs.Prelude.{ℕ, List, Result}
use Rattle.m36_model.specs.Fields.{AtFields}
use Rattle.m36_model.specs.declared.endings.LinkCode.{LinkCode}
use Rattle.m36_word.specs.declared.pair.Pair.{Pair}

-- the name of the link, the pair or the reason why there is none, the address of the link word,
-- and the ring for which the link is snapped
pub record LinkNoteFields : Type 0 where
  pub name : List ℕ
  pub answer : Result Pair LinkCode
  pub at : AtFields
  pub ring : ℕ
