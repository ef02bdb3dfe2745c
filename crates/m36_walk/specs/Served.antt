-- What a call of the walk says about a request of a step's program: the store of core words serves
-- the request in this way.
use Rattle.std.specs.Prelude.{ℕ, ◌≡◌, ◌⊎◌, List, [], ◌∷◌, length, Option, Result, Ok, Err}
use Rattle.m36_desc.specs.Fields.{SdwFields}
use Rattle.m36_desc.specs.Descriptors.{sdw_of}
use Rattle.m36_model.specs.Fields.{AtFields}
use Rattle.m36_model.specs.Registers.{RegsFields}
use Rattle.m36_model.specs.Act.{RequestKind, Read, Write, Whole, Put, Request, Answer}
use Rattle.m36_model.specs.Store.{Spot, Change, Midstep, ServeResult, serve, changes, answered_with}
use Rattle.m36_model.specs.Store.{with_reference}
use Rattle.m36_model.specs.Core.{core_store, core_put}
use Rattle.m36_model.specs.Place.{core_sdw}
use Rattle.m36_model.specs.Step.{puts_from}
use Rattle.m36_model.specs.declared.outcome.Fault.{Fault}
use Rattle.m36_model.specs.declared.outcome.Refusal.{Refusal}
use Rattle.m36_model.specs.declared.place.Reference.{Reference}
use Rattle.m36_walk.specs.Memory.{Memory}
use Rattle.m36_walk.specs.ReferenceResult.{ReferenceResult}
use Rattle.m36_walk.specs.Runs.{run_from, words_from}
use Rattle.m36_walk.specs.Words.{pending_changes}
use Rattle.m36_walk.specs.declared.words.Pending.{Pending}

-- a result with a function applied to its value
abbrev pub ok_map : {A B : Type 0} → (A → B) → Result A Fault → Result B Fault
ok_map f (Ok a) = Ok (f a)
ok_map f (Err e) = Err e

-- the state within a step: core, what its Writes have claimed, and its completed references
abbrev pub midstep_with : List ℕ → List Spot → List Reference → Midstep (List ℕ)
midstep_with core claims refs = record { store = core; claims = claims; refs = refs }

-- a request for `count` words, which sees these pending writes
abbrev pub request : RequestKind → AtFields → ℕ → List Put → Request
request kind at count pending = record { kind = kind; at = at; count = count; pending = pending }

-- the descriptor of a segment; if there is none, the value has no meaning
abbrev pub sdw_or_zero : Result SdwFields Refusal → SdwFields
sdw_or_zero (Ok d) = d
sdw_or_zero (Err why) = sdw_of 0 0

-- the descriptor of a segment, in these tables; if there is none, the value has no meaning
unfoldable pub sdw_in : Memory → ℕ → SdwFields
sdw_in m seg = sdw_or_zero (core_sdw m.core m.dbr seg)

-- The reply to a request and the state after it, by the result of the reference. An answered
-- reference adds its claims and itself.
abbrev pub served_with_result :
    Request → List ℕ → List Spot → List Reference → Result ReferenceResult Fault
    → ServeResult (List ℕ)
served_with_result q new claims refs (Err f) =
    record { reply = Err f; mid = midstep_with new claims refs }
served_with_result q new claims refs (Ok r) =
    answered_with core_store new claims refs q r.sdw r.spots

-- the result of a reference to `count` words, by the core address of the first or the fault
abbrev pub result_at_place : SdwFields → ℕ → Result ℕ Fault → Result ReferenceResult Fault
result_at_place d count (Ok a) = Ok (record { sdw = d; spots = run_from a count })
result_at_place d count (Err f) = Err f

-- the result of a reference that checks a target and touches no word
abbrev pub result_at_target :
    {A : Type 0} → SdwFields → Result A Fault → Result ReferenceResult Fault
result_at_target d (Ok a) = Ok (record { sdw = d; spots = [] })
result_at_target d (Err f) = Err f

-- an answer with words and without a place
abbrev pub answer_of_words : SdwFields → List Spot → List ℕ → Answer
answer_of_words d claims words =
    record { sdw = d; first = length claims; place = 0; words = words }

-- the reply to a request with these words, or the fault, and the state after it; no write is
-- claimed
abbrev pub served_with_words : Request → SdwFields → List ℕ → List Spot → List Reference
    → Result (List ℕ) Fault → ServeResult (List ℕ)
served_with_words q d new claims refs (Err f) =
    record { reply = Err f; mid = midstep_with new claims refs }
served_with_words q d new claims refs (Ok words) =
    record {
      reply = Ok (answer_of_words d claims words);
      mid = record { store = new; claims = claims; refs = with_reference q.kind q refs };
    }

-- The request is served in this way, for all registers that satisfy Known and whatever the step has
-- claimed and referenced before.
abbrev pub Serves : (RegsFields → Type 0) → Memory → Request
    → (List Spot → List Reference → ServeResult (List ℕ)) → Type 0
Serves Known m q s =
    (g : RegsFields) → g.dbr ≡ m.dbr → Known g → (claims : List Spot) (refs : List Reference)
    → serve core_store g (midstep_with m.core claims refs) q ≡ s claims refs

-- the words of a run from a core address on, after these changes
abbrev pub run_words : List ℕ → List Change → ℕ → Result ℕ Fault → Result (List ℕ) Fault
run_words new changed count (Ok a) = Ok (words_from (core_put new changed) a count)
run_words new changed count (Err e) = Err e

-- a request that reads is served, by the core address that was found
abbrev pub ServesRun : (RegsFields → Type 0) → RequestKind → Memory → List ℕ → AtFields → ℕ
    → Result ℕ Fault → Type 0
ServesRun Known kind m new at count place =
    (g : RegsFields) → g.dbr ≡ m.dbr → Known g
    → (claims : List Spot) (refs : List Reference) (puts : List Put) (changed : List Change)
    → changes claims puts ≡ changed
    → serve core_store g (midstep_with m.core claims refs) (request kind at count puts)
    ≡ served_with_words (request kind at count puts) (sdw_in m at.seg) new claims refs
    (run_words new changed count place)

-- a Write is served, by the core address that was found
abbrev pub ServesClaim : Memory → List ℕ → AtFields → ℕ → Result ℕ Fault → Type 0
ServesClaim m new at count place =
    (g : RegsFields) → g.dbr ≡ m.dbr
    → (claims : List Spot) (refs : List Reference) (puts : List Put)
    → serve core_store g (midstep_with m.core claims refs) (request Write at count puts)
    ≡ served_with_result (request Write at count puts) new claims refs
    (result_at_place (sdw_in m at.seg) count place)

-- a request of this kind for one word is served, by the word
abbrev pub ServesWord : (RegsFields → Type 0) → RequestKind → Memory → List ℕ → AtFields
    → Result ℕ Fault → Type 0
ServesWord Known kind m new at word =
    Serves Known m (request kind at 1 [])
    (λ claims refs. served_with_words (request kind at 1 []) (sdw_in m at.seg) new claims refs
    (ok_map (λ w. w ∷ []) word))

-- A Read of `count` words is served. It reads the pending word as if it were written; the claims
-- and puts of the step give the same change.
abbrev pub Reads : Memory → List ℕ → ℕ → AtFields → ℕ → Option Pending → Result (List ℕ) Fault
    → Type 0
Reads m new psr at count pending words =
    (g : RegsFields) → g.dbr ≡ m.dbr → g.ppr.psr ≡ psr
    → (claims : List Spot) (refs : List Reference) (puts : List Put)
    → changes claims puts ≡ pending_changes pending
    → serve core_store g (midstep_with m.core claims refs) (request Read at count puts)
    ≡ served_with_words (request Read at count puts) (sdw_in m at.seg) new claims refs words

-- the number of words of a reference: a word, a pair, or a block
abbrev pub IsWordCount : ℕ → Type 0
IsWordCount n = (n ≡ 1) ⊎ ((n ≡ 2) ⊎ (n ≡ 16))

-- core after words were written to the spots that a Write has claimed
abbrev pub core_after_write : ServeResult (List ℕ) → List ℕ → List ℕ
core_after_write s words = core_put s.mid.store (changes s.mid.claims (puts_from Whole 0 words))

-- a reply without its answer
abbrev pub reply_without_answer : ServeResult (List ℕ) → Result Unit Fault
reply_without_answer s = ok_map (λ a. tt) s.reply

-- A Write of words by itself: it is served, and the words are written to the spots that it has
-- claimed. If it is refused, nothing has changed.
pub record IsServedWrite (s : ServeResult (List ℕ)) (new words : List ℕ)
    (result : Result Unit Fault) : Type 0 where
  pub told : result ≡ reply_without_answer s
  pub core : new ≡ core_after_write s words

-- a Write of words by itself, whatever the registers are
abbrev pub Writes : Memory → List ℕ → AtFields → ℕ → List ℕ → Result Unit Fault → Type 0
Writes m new at count words result =
    (g : RegsFields) → g.dbr ≡ m.dbr
    → IsServedWrite (serve core_store g (midstep_with m.core [] []) (request Write at count []))
    new words result

-- a request that checks a target, or asks for a place, is served and changes nothing
abbrev pub ServesWithoutChange : (RegsFields → Type 0) → RequestKind → Memory → AtFields
    → Result ReferenceResult Fault → Type 0
ServesWithoutChange Known kind m at r =
    (g : RegsFields) → g.dbr ≡ m.dbr → Known g
    → (claims : List Spot) (refs : List Reference) (puts : List Put)
    → serve core_store g (midstep_with m.core claims refs) (request kind at 1 puts)
    ≡ served_with_result (request kind at 1 puts) m.core claims refs r
