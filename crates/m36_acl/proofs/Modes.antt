-- Modes that are printed and parsed.
use Rattle.std.proofs.Common.{true, false, refl}
use Rattle.m36_dir.specs.BootLine.{mode_of}
use Rattle.m36_acl.specs.AccessText.{ModesRoundTrip}

pub modes_come_back : ModesRoundTrip
unfolding mode_of
modes_come_back false false false = refl
modes_come_back true false false = refl
modes_come_back false true false = refl
modes_come_back true true false = refl
modes_come_back false false true = refl
modes_come_back true false true = refl
modes_come_back false true true = refl
modes_come_back true true true = refl
