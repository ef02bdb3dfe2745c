use Rattle.m36_super.proofs.PagedContents.{page_there, not_none}
use Rattle.m36_super.proofs.content.found_word.Goals as goal

pub unreachable-requires : goal.unreachable-requires
unreachable-requires c =
    not_none c.args.core.now c.args.pager.now c.args.seg c.args.word
    (page_there _ c.args.core.now c.args.pager.now c.requires.managed c.args.seg c.args.word c.args.sdw.now c.requires.live c.requires.inside)
    c.content.result c.content.ensures c.in-None.is
