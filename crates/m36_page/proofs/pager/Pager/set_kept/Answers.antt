use Rattle.m36_page.proofs.Parts.{settled_by}
use Rattle.m36_page.proofs.SetWords.{set_kept}
use Rattle.m36_page.proofs.pager.Pager.set_kept.Goals as goal

pub returns-clause-set : goal.returns-clause-set
returns-clause-set c =
    (set_kept c.args.self.now c.set_kept_word.new.self c.args.core.now c.args.seg c.args.word c.args.w
    (settled_by c.args.self.now c.args.core.now c.requires.pager c.requires.reads c.requires.frames c.len.ensures.most) c.requires.page c.requires.away c.set_kept_word.ensures).0

pub returns-clause-reads : goal.returns-clause-reads
returns-clause-reads c =
    (set_kept c.args.self.now c.set_kept_word.new.self c.args.core.now c.args.seg c.args.word c.args.w
    (settled_by c.args.self.now c.args.core.now c.requires.pager c.requires.reads c.requires.frames c.len.ensures.most) c.requires.page c.requires.away c.set_kept_word.ensures).1
