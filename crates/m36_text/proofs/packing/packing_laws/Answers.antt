use Rattle.m36_text.proofs.PackingInverse.{unpacks_what_was_packed, packs_what_was_unpacked, unpacks_into_words}
use Rattle.m36_text.proofs.packing.packing_laws.Goals as goal

pub returns-clause-unpack : goal.returns-clause-unpack
returns-clause-unpack _ = unpacks_what_was_packed

pub returns-clause-pack : goal.returns-clause-pack
returns-clause-pack _ = packs_what_was_unpacked

pub returns-clause-words : goal.returns-clause-words
returns-clause-words _ = unpacks_into_words
