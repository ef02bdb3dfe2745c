use Rattle.std.proofs.Common.{◌≡◌, length, arith}
use Rattle.std.proofs.lemmas.Grind.{common_steps}
use Rattle.alm_parse.proofs.Packed.{packed_done}
use Rattle.alm_parse.proofs.characters.packed_words.Goals as goal

pub returns : goal.returns
returns c =
    let none : length c.loop-rest.rest.now ≡ 0 = grind (arith, common_steps) in
    packed_done c.loop-rest.words _ c.loop-rest.rest.now none c.loop-rest.invariant
