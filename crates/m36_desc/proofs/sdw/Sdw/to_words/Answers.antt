use Rattle.m36_desc.proofs.RoundTrips.{sdw_read}
use Rattle.m36_desc.proofs.sdw.Sdw.to_words.Goals as goal

pub returns-clause-back : goal.returns-clause-back
returns-clause-back c = sdw_read c.even.result c.odd.result c.args.self.now c.even.ensures.widths c.even.ensures.value c.odd.ensures
