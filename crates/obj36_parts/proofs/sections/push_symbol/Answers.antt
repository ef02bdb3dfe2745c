use Rattle.std.proofs.Common.{◌++◌, ◌∷◌, [], ap, ◌∙◌}
use Rattle.obj36_parts.specs.ObjectSegment.{symbol_part}
use Rattle.obj36_parts.proofs.SectionLoops.{relocation_more, relocations_done}
use Rattle.obj36_parts.proofs.sections.push_symbol.Goals as goal

pub loop-relocation-preserved : goal.loop-relocation-preserved
loop-relocation-preserved c =
    relocation_more c.args.relocations.now c.loop-relocation.relocation-index c.relocation-item.result c.loop-relocation.out c.push-in-loop-relocation.new.self (c.args.out.now ++ symbol_part c.args.relocations.now)
    c.loop-relocation-test.true c.relocation-item.is (c.in_ok-push-2.ensures.ok ∙ ap (λ w. c.loop-relocation.out ++ w ∷ []) c.word_of_relocation.ensures) c.loop-relocation.invariant

pub returns : goal.returns
returns c = relocations_done c.args.relocations.now c.loop-relocation.relocation-index c.loop-relocation.out (c.args.out.now ++ symbol_part c.args.relocations.now) c.loop-relocation-test.false c.loop-relocation.invariant
