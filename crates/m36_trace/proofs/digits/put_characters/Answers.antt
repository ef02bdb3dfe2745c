use Rattle.std.proofs.lemmas.Str.{IsUtf8-from_ascii}
use Rattle.m36_trace.proofs.digits.put_characters.Goals as goal

pub from_utf8_unchecked-requires : goal.from_utf8_unchecked-requires
from_utf8_unchecked-requires g c = IsUtf8-from_ascii c.args.characters.now c.requires.ascii
