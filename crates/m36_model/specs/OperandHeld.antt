-- The words that an effect gets, by how its instruction references its operand: the word, the pair
-- or the block that it reads, or none if it reads nothing. A direct operand is one word.
use Rattle.std.specs.Prelude.{Bool, true, false, IsTrue}
use Rattle.m36_inst.specs.declared.operand.Operand.{Operand}
use Rattle.m36_inst.specs.declared.operand.Operand.TheVariants as operand
use Rattle.m36_model.specs.declared.effects.Held.{Held}
use Rattle.m36_model.specs.declared.effects.Held.TheVariants as held

-- whether the effect gets no word
abbrev pub is_empty : Held → Bool
is_empty held.Empty = true
is_empty _ = false

-- whether the effect gets one word
abbrev pub is_word : Held → Bool
is_word (held.One w) = true
is_word _ = false

-- whether the effect gets a pair
abbrev pub is_pair : Held → Bool
is_pair (held.Two p) = true
is_pair _ = false

-- whether the effect gets a block of 16 words
abbrev pub is_block : Held → Bool
is_block (held.Block b) = true
is_block _ = false

-- whether the words have the form that this kind of operand requires
abbrev pub holds_for : Operand → Held → Bool
holds_for operand.R got = is_word got
holds_for operand.Rw got = is_word got
holds_for operand.Rwl got = is_word got
holds_for operand.R2 got = is_pair got
holds_for operand.R16 got = is_block got
holds_for _ got = is_empty got

-- `holds_for` as a proposition
abbrev pub HoldsFor : Operand → Held → Type 0
HoldsFor kind got = IsTrue (holds_for kind got)
