use Rattle.std.proofs.Common.{Ok, Err, ap, sym, ◌∙◌}
use Rattle.m36_walk.proofs.ReturnedWords.{found_sdw, read_told, indirect_told, odd_told}
use Rattle.m36_walk.proofs.refer.refer_read.Goals as goal

pub returns-in-Ok-clause-read : goal.returns-in-Ok-clause-read
returns-in-Ok-clause-read c = λ g e k claims refs puts changed h.
    rw c.reach_of.ensures.place (read_told g c.args.dbr e c.args.core.now c.read_by_tables.new.core c.args.at c.args.count claims refs puts changed h c.args.psr k (Ok c.in-Ok.found) c.in-Ok.ensures.spots_in_core c.in-Ok.ensures.marked)

pub returns-in-Err-clause-read : goal.returns-in-Err-clause-read
returns-in-Err-clause-read c = λ g e k claims refs puts changed h.
    read_told g c.args.dbr e c.args.core.now c.read_by_tables.new.core c.args.at c.args.count claims refs puts changed h c.args.psr k (Err c.in-Err.fault) c.in-Err.ensures.spots_in_core c.in-Err.ensures.marked

pub returns-in-Ok-clause-indirect : goal.returns-in-Ok-clause-indirect
returns-in-Ok-clause-indirect c = λ g e k claims refs puts changed h.
    rw c.reach_of.ensures.place (indirect_told g c.args.dbr e c.args.core.now c.read_by_tables.new.core c.args.at c.args.count claims refs puts changed h c.args.psr k (Ok c.in-Ok.found) c.in-Ok.ensures.spots_in_core c.in-Ok.ensures.marked)

pub returns-in-Err-clause-indirect : goal.returns-in-Err-clause-indirect
returns-in-Err-clause-indirect c = λ g e k claims refs puts changed h.
    indirect_told g c.args.dbr e c.args.core.now c.read_by_tables.new.core c.args.at c.args.count claims refs puts changed h c.args.psr k (Err c.in-Err.fault) c.in-Err.ensures.spots_in_core c.in-Err.ensures.marked

pub returns-in-Ok-clause-odd : goal.returns-in-Ok-clause-odd
returns-in-Ok-clause-odd c = λ g e k claims refs puts changed h.
    rw c.reach_of.ensures.place (odd_told g c.args.dbr e c.args.core.now c.read_by_tables.new.core c.args.at c.args.count claims refs puts changed h c.args.psr k (Ok c.in-Ok.found) c.in-Ok.ensures.spots_in_core c.in-Ok.ensures.marked)

pub returns-in-Err-clause-odd : goal.returns-in-Err-clause-odd
returns-in-Err-clause-odd c = λ g e k claims refs puts changed h.
    odd_told g c.args.dbr e c.args.core.now c.read_by_tables.new.core c.args.at c.args.count claims refs puts changed h c.args.psr k (Err c.in-Err.fault) c.in-Err.ensures.spots_in_core c.in-Err.ensures.marked

pub returns-in-Ok-clause-ring : goal.returns-in-Ok-clause-ring
returns-in-Ok-clause-ring c = c.reach_of.ensures.ring ∙ ap (λ d. d.r1) (sym (found_sdw _ c.args.core.now c.args.dbr c.args.at c.args.count c.in-Ok.found c.in-Ok.ensures.spots_in_core))
