use Rattle.m36_list.proofs.CountLaws.{count_of}
use Rattle.m36_list.proofs.counts.counts_of_object.Goals as goal

pub returns : goal.returns
returns c = count_of c.args.o.now c.in_ok-words.words c.slice.result.now c.section.result.now c.section-2.result.now c.section-3.result.now c.section-4.result.now c.definition_length.result c.in_ok-words.ensures c.slice.ensures.value c.section.ensures c.definition_length.ensures c.section-2.ensures c.section-3.ensures c.section-4.ensures
