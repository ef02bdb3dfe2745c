use Rattle.std.proofs.Common.{sym}
use Rattle.m36_boot.proofs.Sizes.{live}
use Rattle.m36_boot.proofs.tables.add_table.Goals as goal

pub words_of-requires-clause-rings : goal.words_of-requires-clause-rings
words_of-requires-clause-rings c =
    (live c.args.catalog.now c.args.files.now c.args.seg c.in-Some.sdw (record { count = c.requires.files; short = c.requires.short }) (sym c.in-Some.ensures.value)).rings

pub words_of-requires-clause-given : goal.words_of-requires-clause-given
words_of-requires-clause-given c =
    (live c.args.catalog.now c.args.files.now c.args.seg c.in-Some.sdw (record { count = c.requires.files; short = c.requires.short }) (sym c.in-Some.ensures.value)).given
