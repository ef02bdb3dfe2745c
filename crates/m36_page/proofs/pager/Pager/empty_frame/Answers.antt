use Rattle.m36_page.proofs.Built.{emptied}
use Rattle.m36_page.proofs.pager.Pager.empty_frame.Goals as goal

pub returns-in-Some : goal.returns-in-Some
returns-in-Some c =
    emptied c.args.self.now c.args.core.now c.evict_page.new.self c.evict_page.new.core c.args.k c.in-Some.seg c.in-Some.page
    c.requires.settled c.evict_page.ensures
