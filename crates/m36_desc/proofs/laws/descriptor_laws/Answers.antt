use Rattle.m36_desc.proofs.RoundTrips.{sdw_back, ptw_back, dbr_back, ptr_back, its_back, itp_back, even_tags, packed_back}
use Rattle.m36_desc.proofs.laws.descriptor_laws.Goals as goal

pub returns-clause-sdw : goal.returns-clause-sdw
returns-clause-sdw _ = sdw_back

pub returns-clause-ptw : goal.returns-clause-ptw
returns-clause-ptw _ = ptw_back

pub returns-clause-dbr : goal.returns-clause-dbr
returns-clause-dbr _ = dbr_back

pub returns-clause-ptr : goal.returns-clause-ptr
returns-clause-ptr _ = ptr_back

pub returns-clause-its : goal.returns-clause-its
returns-clause-its _ = its_back

pub returns-clause-itp : goal.returns-clause-itp
returns-clause-itp _ = itp_back

pub returns-clause-tags : goal.returns-clause-tags
returns-clause-tags _ = even_tags

pub returns-clause-packed : goal.returns-clause-packed
returns-clause-packed _ = packed_back
