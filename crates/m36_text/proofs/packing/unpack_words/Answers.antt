use Rattle.std.proofs.Common.{◌++◌, inl, inr, sym, ap, ◌∙◌, arith}
use Rattle.m36_text.proofs.PackingLaws.{words_last}
use Rattle.m36_text.proofs.packing.unpack_words.Goals as goal

pub push_last-requires : goal.push_last-requires
push_last-requires c = elim c.requires [ inl none ↦ inl (omega arith) | inr five ↦ inr (omega arith) ]

pub returns : goal.returns
returns c =
    c.in_ok-push_last.ensures
    ∙ (ap (λ words. c.loop-rest.words ++ words) (sym (words_last c.loop-rest.rest.now (omega arith))) ∙ sym c.loop-rest.invariant.words)
