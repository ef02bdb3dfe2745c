use Rattle.m36_gen.proofs.OneMore.{all_sources}
use Rattle.m36_gen.proofs.making.sources.Goals as goal

-- the source of the gate after those of the programs
pub returns : goal.returns
returns c =
    all_sources c.args.seed c.in_ok-files.files c.add_file.new.files c.in_ok-stop.stop c.in_ok-files.ensures c.in_ok-stop.ensures c.in_ok-add_file.ensures
