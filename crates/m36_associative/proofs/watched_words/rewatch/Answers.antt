use Rattle.std.proofs.Common.{rules}
use Rattle.m36_associative.proofs.Keeping.{watches_on, watched_anew}
use Rattle.m36_associative.proofs.watched_words.rewatch.Goals as goal

pub returns : goal.returns
returns c =
    watched_anew c.args.core.now c.args.dbr c.clear_front.new.self c.watch_descriptors.new.words c.watch_table_words.new.tables (c.clear_front.ensures.right c.args.core.now c.args.dbr c.requires) c.clear_front.ensures.front c.clear_front.ensures.fetching
    (λ e seg k n. watches_on c.args.core.now c.args.dbr c.watch_descriptors.new.words c.watch_descriptors.new.tables c.watch_descriptors.new.words c.watch_table_words.new.tables (λ b k. k) c.watch_table_words.ensures.more seg (c.watch_descriptors.ensures (search rules) e seg k n))
    (c.watch_table_words.ensures.watches (search rules))
