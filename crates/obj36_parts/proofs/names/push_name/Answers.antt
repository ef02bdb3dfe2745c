use Rattle.std.proofs.Common.{ap, ◌∙◌, ◌++◌, ◌∷◌, [], ◌+◌, ◌/◌, length}
use Rattle.obj36_parts.specs.Names.{name_words}
use Rattle.obj36_parts.proofs.NameTables.{word_pushed, all_words}
use Rattle.obj36_parts.proofs.names.push_name.Goals as goal

pub loop-j-preserved : goal.loop-j-preserved
loop-j-preserved c =
    word_pushed c.loop-j.out c.push.new.self (c.args.out.now ++ name_words c.bytes-bytes.result.now) c.bytes-bytes.result.now c.loop-j.j (length c.bytes-bytes.result.now / 4 + 1) c.loop-j-test.true
    (c.in_ok-push.ensures.ok ∙ ap (λ w. c.loop-j.out ++ w ∷ []) c.word.ensures) c.loop-j.invariant

pub returns : goal.returns
returns c =
    all_words c.loop-j.out _ c.bytes-bytes.result.now c.loop-j.j (length c.bytes-bytes.result.now / 4 + 1) c.loop-j-test.false c.loop-j.invariant
    ∙ ap (λ n. c.args.out.now ++ name_words n) c.bytes-bytes.ensures.value
