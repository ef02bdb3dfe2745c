-- Laws of logged errors: of signals, after which a call is made again, and of errors that make it give up.
use Rattle.std.proofs.Common.{◌≡◌, ◌≢◌, ◌↔◌, Bool, true, false, ℕ, ◌+◌, ◌-◌, ◌^◌, ◌≤◌, ◌⊎◌, inl, inr, List, [], ◌∷◌, ◌++◌, length, replicate, refl, sym, ap, subst, ◌∙◌, arith, length-append}
use Rattle.std.proofs.lemmas.List.{append-nil, append_assoc, replicate_more, replicate-append-replicate}
use Rattle.std.specs.Prelude.{IsTrue}
use Rattle.std.specs.Bool.{OnTrue, OnFalse}
use Rattle.std.specs.declared.io.ErrorKind.{ErrorKind}
use Rattle.std.specs.declared.io.ErrorKind.TheVariants.{NotFound, WriteZero, Interrupted}
use Rattle.m36_outside.specs.Chunk.{AddResult, ChunkHasError}
use Rattle.m36_outside.specs.Signals.{Signals, IsFault, GivesUp}
use Rattle.m36_outside.specs.System.{OpenHasError, ReadHasError, PutHasError, open_refusal_of}
use Rattle.m36_outside.specs.declared.folder.ReadAnswer.{ReadAnswer}
use Rattle.m36_outside.specs.declared.folder.ReadAnswer.TheVariants as read
use Rattle.m36_outside.specs.declared.reading.Chunk.{Chunk}
use Rattle.m36_outside.specs.declared.reading.Chunk.TheVariants as chunk
use Rattle.m36_outside.specs.declared.sink.Put.{Put}
use Rattle.m36_outside.specs.declared.sink.Put.TheVariants as put

-- ---- one call of the system, which is made again after a signal

-- no error yet
pub signals_none : (now : List ErrorKind) → Signals now now
signals_none now = record { count = 0; noted = sym (append-nil now) }

-- no further error
pub signals_same : (start now next : List ErrorKind) → Signals start now → next ≡ now → Signals start next
signals_same start now next first same = record { count = first.count; noted = same ∙ first.noted }

-- one more signal
pub signals_more :
    (start now next : List ErrorKind) → Signals start now → next ≡ now ++ Interrupted ∷ [] → Signals start next
signals_more start now next first more = record {
  count = first.count + 1;
  noted = more
      ∙ ap (λ l. l ++ Interrupted ∷ []) first.noted
      ∙ append_assoc start (replicate first.count Interrupted) (Interrupted ∷ [])
      ∙ ap (λ l. start ++ l) (replicate_more first.count Interrupted);
}

pub signals_by :
    (start now next : List ErrorKind) (kind : ErrorKind)
    → Signals start now → next ≡ now ++ kind ∷ [] → kind ≡ Interrupted → Signals start next
signals_by start now next kind first more is =
    signals_more start now next first (more ∙ ap (λ k. now ++ k ∷ []) is)

-- one more try
pub turns_more :
    (start now next : List ErrorKind) (kind : ErrorKind) (turn : ℕ)
    → length start + turn ≤ length now → next ≡ now ++ kind ∷ [] → length start + (turn + 1) ≤ length next
turns_more start now next kind turn many noted = omega (arith, ap length noted, length-append now (kind ∷ []))

-- an error that is not a signal
pub zero_is_fault : (now next : List ErrorKind) → next ≡ now ++ WriteZero ∷ [] → IsFault now next
zero_is_fault now next noted = record { error = WriteZero; no_signal = λ e. cc; noted = noted }

pub other_is_fault :
    (now next : List ErrorKind) (kind : ErrorKind) → kind ≢ Interrupted → next ≡ now ++ kind ∷ [] → IsFault now next
other_is_fault now next kind other noted = record { error = kind; no_signal = other; noted = noted }

pub gives_up_at :
    (start now next : List ErrorKind) → Signals start now → IsFault now next → GivesUp start next
gives_up_at start now next first fault = record { between = now; signals = first; last = inl fault }

pub gives_up_by :
    (start now next : List ErrorKind) (kind : ErrorKind)
    → Signals start now → next ≡ now ++ kind ∷ [] → kind ≢ Interrupted → GivesUp start next
gives_up_by start now next kind first noted other =
    gives_up_at start now next first (other_is_fault now next kind other noted)

-- one error, which is a signal or not
pub noted_signal :
    (signal : Bool) (kind : ErrorKind) (now next : List ErrorKind)
    → IsTrue signal ↔ (kind ≡ Interrupted) → next ≡ now ++ kind ∷ []
    → OnTrue signal (next ≡ now ++ Interrupted ∷ [])
noted_signal true kind now next is noted = noted ∙ ap (λ k. now ++ k ∷ []) (is.0 refl)
noted_signal false kind now next is noted = tt

pub noted_fault :
    (signal : Bool) (kind : ErrorKind) (now next : List ErrorKind)
    → IsTrue signal ↔ (kind ≡ Interrupted) → next ≡ now ++ kind ∷ [] → OnFalse signal (IsFault now next)
noted_fault true kind now next is noted = tt
noted_fault false kind now next is noted =
    other_is_fault now next kind (λ e. let t : false ≡ true = is.1 e in cc) noted

-- the last of 2^64 - 1 signals
pub gives_up_last :
    (start now : List ErrorKind) (turns : ℕ)
    → Signals start now → length start + turns ≤ length now → 2 ^ 64 - 1 ≤ turns → GivesUp start now
gives_up_last start now turns first many all =
    record { between = now; signals = first; last = inr (refl, omega arith) }

pub ruleset trying = (signals_none, signals_same, signals_more, signals_by, turns_more, zero_is_fault, other_is_fault, gives_up_at, gives_up_by, gives_up_last)

-- ---- several calls, one after another

pub signals_on :
    (start now next : List ErrorKind) → Signals start now → Signals now next → Signals start next
signals_on start now next first more = record {
  count = first.count + more.count;
  noted = more.noted
      ∙ ap (λ l. l ++ replicate more.count Interrupted) first.noted
      ∙ append_assoc start (replicate first.count Interrupted) (replicate more.count Interrupted)
      ∙ ap (λ l. start ++ l) (replicate-append-replicate first.count more.count Interrupted);
}

signals_longer : (start now : List ErrorKind) → Signals start now → length start ≤ length now
signals_longer start now first =
    omega (arith, ap length first.noted, length-append start (replicate first.count Interrupted))

last_on :
    (start now between next : List ErrorKind) → length start ≤ length now
    → IsFault between next ⊎ ((next ≡ between) × (length now + (2 ^ 64 - 1) ≤ length next))
    → IsFault between next ⊎ ((next ≡ between) × (length start + (2 ^ 64 - 1) ≤ length next))
last_on start now between next earlier (inl fault) = inl fault
last_on start now between next earlier (inr many) = inr (many.0, omega arith)

pub gives_up_on :
    (start now next : List ErrorKind) → Signals start now → GivesUp now next → GivesUp start next
gives_up_on start now next first more = record {
  between = more.between;
  signals = signals_on start now more.between first more.signals;
  last = last_on start now more.between next (signals_longer start now first) more.last;
}

pub ruleset in_turn = (signals_none, signals_on, gives_up_on)

-- ---- the log of one writer or reader, appended to the log of others

pub signals_behind :
    (old new before after : List ErrorKind)
    → Signals before after → before ≡ [] → new ≡ old ++ after → Signals old new
signals_behind old new before after signals none noted = record {
  count = signals.count;
  noted = noted
      ∙ ap (λ l. old ++ l) (signals.noted ∙ ap (λ l. l ++ replicate signals.count Interrupted) none);
}

last_behind :
    (old new before between after : List ErrorKind) → new ≡ old ++ after
    → IsFault between after ⊎ ((after ≡ between) × (length before + (2 ^ 64 - 1) ≤ length after))
    → IsFault (old ++ between) new ⊎ ((new ≡ old ++ between) × (length old + (2 ^ 64 - 1) ≤ length new))
last_behind old new before between after noted (inl fault) = inl (record {
  error = fault.error;
  no_signal = fault.no_signal;
  noted = noted ∙ ap (λ l. old ++ l) fault.noted ∙ sym (append_assoc old between (fault.error ∷ []));
})
last_behind old new before between after noted (inr many) =
    inr (noted ∙ ap (λ l. old ++ l) many.0, omega (arith, ap length noted, length-append old after))

pub gives_up_behind :
    (old new before after : List ErrorKind)
    → GivesUp before after → before ≡ [] → new ≡ old ++ after → GivesUp old new
gives_up_behind old new before after fault none noted = record {
  between = old ++ fault.between;
  signals = signals_behind old (old ++ fault.between) before fault.between fault.signals none refl;
  last = last_behind old new before fault.between after noted fault.last;
}

-- ---- by the answer

-- what was read was appended
pub chunk_has_error :
    (answer : Chunk) (before after got : List ℕ) (old new : List ErrorKind)
    → AddResult answer before after got → Signals old new → ChunkHasError answer old new
chunk_has_error chunk.More before after got old new added signals = signals
chunk_has_error chunk.End before after got old new added signals = absurd added
chunk_has_error chunk.TooLarge before after got old new added signals = signals
chunk_has_error chunk.Failed before after got old new added signals = absurd added
chunk_has_error chunk.NoMemory before after got old new added signals = signals

-- an opened file was read
pub open_error_behind :
    (answer : ReadAnswer) (old new before after : List ErrorKind)
    → OpenHasError answer before after → before ≡ [] → new ≡ old ++ after → OpenHasError answer old new
open_error_behind (read.Read bytes) old new before after signals none noted =
    signals_behind old new before after signals none noted
open_error_behind read.Absent old new before after error none noted = absurd error
open_error_behind read.TooLarge old new before after signals none noted =
    signals_behind old new before after signals none noted
open_error_behind read.Failed old new before after fault none noted =
    gives_up_behind old new before after fault none noted
open_error_behind read.NoMemory old new before after signals none noted =
    signals_behind old new before after signals none noted

-- a file was opened and read
pub read_has_error :
    (answer : ReadAnswer) (name : List ℕ) (old new : List ErrorKind)
    → OpenHasError answer old new → ReadHasError answer name old new
read_has_error (read.Read bytes) name old new signals = signals
read_has_error read.Absent name old new error = absurd error
read_has_error read.TooLarge name old new signals = signals
read_has_error read.Failed name old new fault = record { why = inl fault }
read_has_error read.NoMemory name old new signals = signals

-- a file could not be opened
refusal_has_error :
    (kind : ErrorKind) (name : List ℕ) (old new : List ErrorKind)
    → new ≡ old ++ kind ∷ [] → ReadHasError (open_refusal_of kind) name old new
refusal_has_error NotFound name old new noted = inr (NotFound, refl, noted)
refusal_has_error kind name old new noted = record { why = inr (kind, refl, noted) }

pub refused_has_error :
    (answer : ReadAnswer) (kind : ErrorKind) (name : List ℕ) (old new : List ErrorKind)
    → answer ≡ open_refusal_of kind → new ≡ old ++ kind ∷ [] → ReadHasError answer name old new
refused_has_error answer kind name old new is noted =
    subst (λ a. ReadHasError a name old new) (sym is) (refusal_has_error kind name old new noted)

-- a text was written
pub put_error_behind :
    (answer : Put) (old new before after : List ErrorKind)
    → PutHasError answer before after → before ≡ [] → new ≡ old ++ after → PutHasError answer old new
put_error_behind put.Done old new before after signals none noted =
    signals_behind old new before after signals none noted
put_error_behind put.Failed old new before after fault none noted =
    gives_up_behind old new before after fault none noted
