-- What is made of the bytes of a file.
use Rattle.std.proofs.Common.{◌≡◌, ℕ, ◌≤◌, ◌<◌, cond, List, length, Result, Ok, Err, sym, ap, subst}
use Rattle.std.proofs.lemmas.Bool.{le-ltb, lt-ltb}
use Rattle.m36_text.specs.declared.packing.PackFault.{PackFault}
use Rattle.m36_text.specs.declared.packing.PackFault.TheVariants as pack
use Rattle.obj36_parts.specs.PartsFields.{PartsFields}
use Rattle.obj36.specs.declared.fault.ObjectFault.{ObjectFault}
use Rattle.obj36.specs.declared.fault.ObjectFault.TheVariants as fault
use Rattle.m36_status.specs.declared.status.Code.TheVariants as code
use Rattle.m36_status.specs.declared.refusal.Refusal.{Refusal}
use Rattle.m36_status.specs.Refusing.{IsRuleResult, IsRuleRefusal}
use Rattle.obj36_parts.specs.ObjectSegment.{segment_limit}
use Rattle.obj36.specs.ObjectOf.{object_of, IsObjectOf}
use Rattle.m36_status.specs.Rules.{file_refusal, check_word_count, words_or_refusal, object_refusal, object_or_refusal}
use Rattle.m36_status.proofs.GivesLaws.{gives_by, memory_given}

-- more words than a segment can have, or not
pub sized_over :
    (name words : List ℕ) (r : Refusal)
    → segment_limit < length words → IsRuleRefusal r (file_refusal name code.F3 0) → IsRuleResult (Err r) (check_word_count name words)
sized_over name words r over is =
    gives_by (List ℕ) r (file_refusal name code.F3 0) (check_word_count name words) (ap (λ b. cond b (Err (file_refusal name code.F3 0)) (Ok words)) (lt-ltb segment_limit (length words) over)) is

pub sized_within : (name words : List ℕ) → length words ≤ segment_limit → IsRuleResult (Ok words) (check_word_count name words)
sized_within name words within = ap (λ b. cond b (Err (file_refusal name code.F3 0)) (Ok words)) (le-ltb segment_limit (length words) within)

pub ruleset sizes = (sized_over, sized_within)

-- what the bytes unpack into
pub words_given :
    (name words : List ℕ) (given : Result (List ℕ) PackFault) (result : Result (List ℕ) Refusal)
    → given ≡ Ok words → IsRuleResult result (check_word_count name words) → IsRuleResult result (words_or_refusal name given)
words_given name words given result is gives = subst (λ g. IsRuleResult result (words_or_refusal name g)) (sym is) gives

pub count_refused :
    (name : List ℕ) (count : ℕ) (given : Result (List ℕ) PackFault) (r : Refusal)
    → given ≡ Err (pack.T3 count) → IsRuleRefusal r (file_refusal name code.T3 count) → IsRuleResult (Err r) (words_or_refusal name given)
count_refused name count given r is refuses = gives_by (List ℕ) r (file_refusal name code.T3 count) (words_or_refusal name given) (ap (words_or_refusal name) is) refuses

pub place_refused :
    (name : List ℕ) (place : ℕ) (given : Result (List ℕ) PackFault) (r : Refusal)
    → given ≡ Err (pack.T4 place) → IsRuleRefusal r (file_refusal name code.T4 place) → IsRuleResult (Err r) (words_or_refusal name given)
place_refused name place given r is refuses = gives_by (List ℕ) r (file_refusal name code.T4 place) (words_or_refusal name given) (ap (words_or_refusal name) is) refuses

pub ruleset unpacking = (words_given, count_refused, place_refused)

-- words that are an object
pub object_given :
    (name words : List ℕ) (parts : PartsFields)
    → IsObjectOf words (Ok parts) → IsRuleResult (Ok parts) (object_or_refusal name (object_of words))
object_given name words parts is = ap (object_or_refusal name) is

-- and words that are none
none_given :
    (name words : List ℕ) (f : ObjectFault) (r : Refusal)
    → object_of words ≡ Err f → IsRuleRefusal r (object_refusal name f) → IsRuleResult (Err r) (object_or_refusal name (object_of words))
none_given name words f r is refuses =
    gives_by PartsFields r (object_refusal name f) (object_or_refusal name (object_of words)) (ap (object_or_refusal name) is) refuses

pub object_none :
    (name words : List ℕ) (f : ObjectFault) (r : Refusal)
    → IsObjectOf words (Err f) → IsRuleRefusal r (object_refusal name f) → IsRuleResult (Err r) (object_or_refusal name (object_of words))
object_none name words (fault.O1 at) r is refuses = none_given name words (fault.O1 at) r is refuses
object_none name words (fault.O2 at) r is refuses = none_given name words (fault.O2 at) r is refuses
object_none name words (fault.O3 at) r is refuses = none_given name words (fault.O3 at) r is refuses
object_none name words (fault.O4 at) r is refuses = none_given name words (fault.O4 at) r is refuses
object_none name words (fault.O5 at) r is refuses = none_given name words (fault.O5 at) r is refuses
object_none name words (fault.O6 at) r is refuses = none_given name words (fault.O6 at) r is refuses
object_none name words (fault.O7 at) r is refuses = none_given name words (fault.O7 at) r is refuses
object_none name words (fault.O8 at) r is refuses = none_given name words (fault.O8 at) r is refuses
object_none name words fault.NoMemory r is refuses = memory_given PartsFields r (object_or_refusal name (object_of words)) refuses
