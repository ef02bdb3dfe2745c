-- The readers of one file.
use Rattle.std.proofs.Common.{◌≡◌, ℕ, List, Result, Ok, Err}
use Rattle.m36_text.specs.Packing.{unpacked}
use Rattle.obj36_parts.specs.PartsFields.{PartsFields}
use Rattle.obj36.specs.ObjectOf.{object_of}
use Rattle.m36_world.specs.Seen.{Seen}
use Rattle.m36_status.specs.declared.refusal.Refusal.{Refusal}
use Rattle.m36_status.specs.declared.status.Status.{Status}
use Rattle.m36_status.specs.Refusing.{IsRuleResult}
use Rattle.m36_status.specs.Rules.{words_or_refusal, object_or_refusal}
use Rattle.m36_program.specs.Performs.{Performs}
use Rattle.m36_program.specs.Program.{May}
use Rattle.m36_program.specs.Readers.{file_bytes}
use Rattle.m36_files.specs.Deciding.{refusal_to_status}
use Rattle.m36_files.specs.FileReaders.{file_words, file_object}
use Rattle.m36_files.proofs.DecidingLaws.{rule_after, rule_never}

pub words_read :
    (may : May) (name bytes text : List ℕ) (given : Result (List ℕ) Refusal) (result : Result (List ℕ) Status) (old new : Seen)
    → Performs {may = may} (file_bytes name) (Ok bytes) old new → text ≡ bytes
    → IsRuleResult given (words_or_refusal name (unpacked text)) → result ≡ refusal_to_status given
    → Performs {may = may} (file_words name) result old new
unfolding file_words
words_read may name bytes text given result old new performs same gives is =
    rule_after may (file_bytes name) (λ b. words_or_refusal name (unpacked b)) bytes text given result old new performs same gives is

pub words_unread :
    (may : May) (name : List ℕ) (s : Status) (old new : Seen) → Performs {may = may} (file_bytes name) (Err s) old new
    → Performs {may = may} (file_words name) (Err s) old new
unfolding file_words
words_unread may name s old new performs = rule_never may (file_bytes name) (λ b. words_or_refusal name (unpacked b)) s old new performs

pub ruleset words = (words_read, words_unread)

pub object_read :
    (may : May) (name words slice : List ℕ) (given : Result PartsFields Refusal) (result : Result PartsFields Status) (old new : Seen)
    → Performs {may = may} (file_words name) (Ok words) old new → slice ≡ words
    → IsRuleResult given (object_or_refusal name (object_of slice)) → result ≡ refusal_to_status given
    → Performs {may = may} (file_object name) result old new
unfolding file_object
object_read may name words slice given result old new performs same gives is =
    rule_after may (file_words name) (λ w. object_or_refusal name (object_of w)) words slice given result old new performs same gives is

pub object_unread :
    (may : May) (name : List ℕ) (s : Status) (old new : Seen) → Performs {may = may} (file_words name) (Err s) old new
    → Performs {may = may} (file_object name) (Err s) old new
unfolding file_object
object_unread may name s old new performs = rule_never may (file_words name) (λ w. object_or_refusal name (object_of w)) s old new performs

pub ruleset objects = (object_read, object_unread)
