-- What the answer to a write implies if it is that of the file: the files of the folder are not known.
use Rattle.std.proofs.Common.{◌≡◌, ℕ, List, None, refl, sym, subst}
use Rattle.std.specs.declared.io.ErrorKind.{ErrorKind}
use Rattle.m36_outside.specs.NameCalls.{ReplaceCalls}
use Rattle.m36_outside.specs.Put.{PutHasCause}
use Rattle.m36_outside.specs.System.{FileHasError, NotesWrite, WriteCalls, WriteHasError, WriteTakes, write_answer_of}
use Rattle.m36_outside.specs.WriteAnswer.{WriteResult, WriteHasCause}
use Rattle.m36_outside.specs.declared.folder.WriteAnswer.{WriteAnswer}
use Rattle.m36_outside.specs.declared.folder.WriteAnswer.TheVariants as write
use Rattle.m36_outside.specs.declared.name_calls.NameCall.{NameCall}
use Rattle.m36_outside.specs.declared.sink.Put.{Put}
use Rattle.m36_outside.specs.declared.sink.Put.TheVariants.{Done, Failed}

says : (put : Put) (name content : List ℕ) → WriteResult (write_answer_of put) None None name content
says Done name content = refl
says Failed name content = refl

pub write_says :
    (put : Put) (answer : WriteAnswer) (name content : List ℕ)
    → answer ≡ write_answer_of put → WriteResult answer None None name content
write_says put answer name content is =
    subst (λ a. WriteResult a None None name content) (sym is) (says put name content)

cause : (put : Put) (old new : ℕ) → PutHasCause put old new → WriteHasCause (write_answer_of put) old new
cause Done old new same = same
cause Failed old new rose = rose

pub write_cause :
    (put : Put) (answer : WriteAnswer) (old new : ℕ)
    → answer ≡ write_answer_of put → PutHasCause put old new → WriteHasCause answer old new
write_cause put answer old new is why = subst (λ a. WriteHasCause a old new) (sym is) (cause put old new why)

-- the name names no file
pub write_failed :
    (put : Put) (answer : WriteAnswer) → answer ≡ write_answer_of put → put ≡ Failed → answer ≡ write.Failed
write_failed put answer is failed = subst (λ p. answer ≡ write_answer_of p) failed is

takes :
    (put : Put) (old new : List (List ℕ)) (content : List ℕ)
    → NotesWrite put old new content → WriteTakes (write_answer_of put) old new content
takes Done old new content took = took
takes Failed old new content took = took

pub write_takes :
    (put : Put) (answer : WriteAnswer) (old new : List (List ℕ)) (content : List ℕ)
    → answer ≡ write_answer_of put → NotesWrite put old new content → WriteTakes answer old new content
write_takes put answer old new content is took =
    subst (λ a. WriteTakes a old new content) (sym is) (takes put old new content took)

calls :
    (put : Put) (name : List ℕ) (old new : List NameCall)
    → ReplaceCalls put name old new → WriteCalls (write_answer_of put) name old new
calls Done name old new replaced = replaced
calls Failed name old new kept = kept

pub write_calls :
    (put : Put) (answer : WriteAnswer) (name : List ℕ) (old new : List NameCall)
    → answer ≡ write_answer_of put → ReplaceCalls put name old new → WriteCalls answer name old new
write_calls put answer name old new is made =
    subst (λ a. WriteCalls a name old new) (sym is) (calls put name old new made)

error :
    (put : Put) (name : List ℕ) (old new : List ErrorKind)
    → FileHasError put name old new → WriteHasError (write_answer_of put) name old new
error Done name old new signals = signals
error Failed name old new fault = fault

pub write_error :
    (put : Put) (answer : WriteAnswer) (name : List ℕ) (old new : List ErrorKind)
    → answer ≡ write_answer_of put → FileHasError put name old new → WriteHasError answer name old new
write_error put answer name old new is why =
    subst (λ a. WriteHasError a name old new) (sym is) (error put name old new why)
