use Rattle.alm_asm.proofs.TooLong.{only_too_long}
use Rattle.alm_asm.proofs.ReadNames.{names_read}
use Rattle.alm_asm.proofs.PlaceLaws.{places_count, sizes_count, words_follow}
use Rattle.alm_asm.proofs.SymbolsStand.{symbols_stay}
use Rattle.alm_asm.proofs.OffsetsRead.{offsets_are_read}
use Rattle.alm_asm.proofs.MarkedParts.{parts_are_marked}
use Rattle.alm_asm.proofs.laws.assembly_laws.Goals as goal

pub returns-clause-places : goal.returns-clause-places
returns-clause-places c = places_count

pub returns-clause-sizes : goal.returns-clause-sizes
returns-clause-sizes c = sizes_count

pub returns-clause-words : goal.returns-clause-words
returns-clause-words c = words_follow

pub returns-clause-symbols : goal.returns-clause-symbols
returns-clause-symbols c = symbols_stay

pub returns-clause-offsets : goal.returns-clause-offsets
returns-clause-offsets c = offsets_are_read

pub returns-clause-parts : goal.returns-clause-parts
returns-clause-parts c = parts_are_marked

pub returns-clause-length : goal.returns-clause-length
returns-clause-length c text source read = only_too_long source (names_read text source read)
