-- Stores: how a store serves the requests of a step, and a run of a program over it.
-- Multics Processor Manual AL39, "Address appending" and "Access control".
use Rattle.std.specs.Prelude.{ℕ, zero, suc, ◌+◌, ◌-◌, ◌*◌, ◌/◌, ◌%◌, ◌^◌, Bool, true, false}
use Rattle.std.specs.Prelude.{◌&&◌, ◌==◌, nat_le, if◌then◌else◌, List, [], ◌∷◌, ◌++◌, map, length}
use Rattle.std.specs.Prelude.{slice_get, Option, Some, None, Result, Ok, Err}
use Rattle.m36_desc.specs.Fields.{SdwFields, DbrFields}
use Rattle.m36_desc.specs.Access.{first_violation, has_ordered_brackets, ordered_rows, read_rows}
use Rattle.m36_desc.specs.Access.{write_rows}
use Rattle.m36_desc.specs.Access.{fetch_rows, transfer_rows, call_rows}
use Rattle.m36_desc.specs.Violations.{illegal_ring_order, out_of_segment_bounds}
use Rattle.m36_model.specs.Faults.{access_violation}
use Rattle.m36_model.specs.Fields.{AtFields}
use Rattle.m36_model.specs.Registers.{RegsFields}
use Rattle.m36_model.specs.Act.{Whole, Left, Right, RequestKind, Fetch, Indirect, Odd, Read, Write}
use Rattle.m36_model.specs.Act.{Transfer, Call, Locate, Part, Put, Request, Answer, Act, done, ask}
use Rattle.m36_model.specs.declared.outcome.Fault.{Fault}
use Rattle.m36_model.specs.declared.outcome.Refusal.{Refusal}
use Rattle.m36_model.specs.declared.place.Reference.{Reference}
use Rattle.m36_model.specs.declared.place.Kind.{Kind}
use Rattle.m36_model.specs.declared.place.Kind.TheVariants as reference

-- where a word is in a store: its address in core or, in a flat store, its segment and word number
pub data Spot : Type 0 where
  Core_word : ℕ → Spot
  Segment_word : (seg word : ℕ) → Spot

-- a value for the word at a spot, or for a half of it
pub record Change : Type 0 where
  pub spot : Spot
  pub part : Part
  pub value : ℕ

-- a word with a part of it replaced by v; a half is right-justified in v
abbrev pub with_part_written : Part → ℕ → ℕ → ℕ
with_part_written Whole old v = v
with_part_written Left old v = v * 2 ^ 18 + old % 2 ^ 18
with_part_written Right old v = (old / 2 ^ 18) * 2 ^ 18 + v

-- the refusal with an access violation of this number
abbrev pub violation : ℕ → Refusal
violation acv = record { number = access_violation; acv = acv }

-- the refusal with another fault of this number
abbrev pub plain_refusal : ℕ → Refusal
plain_refusal number = record { number = number; acv = 0 }

-- the fault at a word, for a refusal
abbrev pub fault_by : Refusal → AtFields → Fault
fault_by why at = record { at = at; number = why.number; acv = why.acv }

-- the fault at word `word` of the segment of a reference, for a refusal
abbrev pub fault_in : AtFields → ℕ → Refusal → Fault
fault_in at word why = fault_by why (record { seg = at.seg; word = word; ring = at.ring })

-- The table words by which a segment is found: the PTW of the descriptor segment's page, the two
-- words of the SDW, and the PTWs of the pages within its bound. Each is an address with the word
-- there, without its marks if it is a PTW, or None past the end of core.
pub record SegTable : Type 0 where
  pub directory : List (ℕ × Option ℕ)
  pub sdw : List (ℕ × Option ℕ)
  pub pages : List (ℕ × Option ℕ)

-- the tables of a store without marks: the DBR, the size of core, and the table words of each
-- segment
pub record Tables : Type 0 where
  pub dbr : DbrFields
  pub size : ℕ
  pub of : ℕ → SegTable

-- a store: what it answers, and how it is changed
pub record Store (S : Type 0) : Type 0 where
  pub sdw : S → DbrFields → ℕ → Result SdwFields Refusal  -- the descriptor of a segment
  -- the spot of a word within the bound
  pub spot : S → DbrFields → SdwFields → ℕ → ℕ → Result Spot Refusal
  pub word : S → Spot → ℕ
  pub marked : S → DbrFields → RequestKind → ℕ → ℕ → S  -- the store with the marks of a reference
  pub put : S → List Change → S  -- the store with these words written, in order
  pub tables : S → DbrFields → Tables

-- What a reference of each kind does.
pub record Conduct : Type 0 where
  -- it reads the words at its places
  pub reads : Bool
  -- it sets marks, and is among the completed references of the step
  pub touches : Bool
  -- it claims its words, to be written, and marks their page as modified
  pub claims : Bool
  -- it checks a target: its rights and its bound; it references no word
  pub target : Bool

-- the table of all kinds
abbrev pub conduct : RequestKind → Conduct
conduct Fetch = record { reads = true; touches = true; claims = false; target = false }
conduct Indirect = record { reads = true; touches = true; claims = false; target = false }
conduct Odd = record { reads = true; touches = true; claims = false; target = false }
conduct Read = record { reads = true; touches = true; claims = false; target = false }
conduct Write = record { reads = false; touches = true; claims = true; target = false }
conduct Transfer = record { reads = false; touches = false; claims = false; target = true }
conduct Call = record { reads = false; touches = false; claims = false; target = true }
conduct Locate = record { reads = false; touches = false; claims = false; target = false }

-- whether a reference of this kind reads words
abbrev pub reads : RequestKind → Bool
reads kind = (conduct kind).reads

-- whether a reference of this kind sets marks, and is among the completed references of the step
abbrev pub touches : RequestKind → Bool
touches kind = (conduct kind).touches

-- whether a reference of this kind claims its words, to be written
abbrev pub claims_words : RequestKind → Bool
claims_words kind = (conduct kind).claims

-- whether a reference of this kind only checks its target, by its rights and bound, and references
-- no word
abbrev pub is_target : RequestKind → Bool
is_target kind = (conduct kind).target

-- The rows of refusals for each kind of reference. trr is the ring of the reference, prr the ring
-- of execution, and same says that the segment is the one that the processor executes.
abbrev pub rows : RequestKind → SdwFields → ℕ → ℕ → Bool → ℕ → List (Bool × ℕ)
rows Fetch d trr prr same word = fetch_rows d prr
rows Indirect d trr prr same word = read_rows d trr same
rows Odd d trr prr same word = read_rows d trr same
rows Read d trr prr same word = read_rows d trr same
rows Write d trr prr same word = write_rows d trr
rows Transfer d trr prr same word = transfer_rows d trr prr
rows Call d trr prr same word = call_rows d trr prr same word
rows Locate d trr prr same word = ordered_rows d []

-- The number of the access violation of a reference, if there is one: that of the first row whose
-- condition holds.
unfoldable pub refusing_violation : RequestKind → SdwFields → ℕ → ℕ → Bool → ℕ → Option ℕ
refusing_violation kind d trr prr same word = first_violation (rows kind d trr prr same word)

-- Whether a word is within the bound of its segment. The bound is the number of the last block of
-- 16 words.
abbrev pub is_within_bound : SdwFields → ℕ → Bool
is_within_bound d word = nat_le (word / 16) d.bound

-- the refusal of a word past the bound
abbrev pub past_bound : Refusal
past_bound = violation out_of_segment_bounds

-- Whether a word may have a place: the brackets of its descriptor are in order, and it is within
-- the bound.
abbrev pub is_placed : SdwFields → ℕ → Bool
is_placed d word = has_ordered_brackets d && is_within_bound d word

-- the spot that is given, if the word is within the bound (true); otherwise the refusal
abbrev pub place_within : Bool → Result Spot Refusal → Result Spot Refusal
place_within true spot = spot
place_within false spot = Err past_bound

-- the result that is given, if the ring brackets are in order (true); otherwise the access
-- violation
abbrev pub when_ordered : {A : Type 0} → Bool → Result A Refusal → Result A Refusal
when_ordered true given = given
when_ordered false given = Err (violation illegal_ring_order)

-- a spot, by the descriptor of its segment: brackets in order, bound, and place
abbrev pub place_by :
    Result SdwFields Refusal → (SdwFields → Result Spot Refusal) → ℕ → Result Spot Refusal
place_by (Ok d) spot word =
    when_ordered (has_ordered_brackets d) (place_within (is_within_bound d word) (spot d))
place_by (Err e) spot word = Err e

-- The spot of a word of a segment, without access checks. Refused, in this order, if the segment
-- has no live descriptor, its brackets are not in order, the word is past its bound, or the word
-- has no spot.
unfoldable pub place : {S : Type 0} → Store S → S → DbrFields → ℕ → ℕ → Result Spot Refusal
place o s dbr seg word = place_by (o.sdw s dbr seg) (λ d. o.spot s dbr d seg word) word

-- R1 of the segment with this descriptor, if its brackets are in order
abbrev pub segment_r1_by : Result SdwFields Refusal → Result ℕ Refusal
segment_r1_by (Ok d) = when_ordered (has_ordered_brackets d) (Ok d.r1)
segment_r1_by (Err e) = Err e

-- R1 of a segment, if it has a live descriptor and its brackets are in order
unfoldable pub segment_r1 : {S : Type 0} → Store S → S → DbrFields → ℕ → Result ℕ Refusal
segment_r1 o s dbr seg = segment_r1_by (o.sdw s dbr seg)

-- a spot put before the spots of the words after it, or the refusal of one of these
abbrev pub spots_with : Result (List Spot) (ℕ × Refusal) → Spot → Result (List Spot) (ℕ × Refusal)
spots_with (Ok spots) spot = Ok (spot ∷ spots)
spots_with (Err e) spot = Err e

-- The spots of a word and of the words after it (`rest`), or the first word that is refused and
-- why. The Boolean says whether the word is within the bound.
abbrev pub spots_from :
    Bool → ℕ → Result Spot Refusal → Result (List Spot) (ℕ × Refusal)
    → Result (List Spot) (ℕ × Refusal)
spots_from false word spot rest = Err (word, past_bound)
spots_from true word (Err e) rest = Err (word, e)
spots_from true word (Ok spot) rest = spots_with rest spot

-- the spots of n words of a segment that begin at a word, or the first that is refused and why
unfoldable pub spots_of :
    {S : Type 0} → Store S → S → DbrFields → SdwFields → ℕ → ℕ → ℕ
    → Result (List Spot) (ℕ × Refusal)
spots_of o s dbr d seg word zero = Ok []
spots_of o s dbr d seg word (suc n) =
    spots_from (is_within_bound d word) word (o.spot s dbr d seg word)
    (spots_of o s dbr d seg (word + 1) n)

-- The spots of a check of a target: none. The word is refused if it is past the bound (false).
abbrev pub bound_only : Bool → ℕ → Result (List Spot) (ℕ × Refusal)
bound_only true word = Ok []
bound_only false word = Err (word, past_bound)

-- the spots of a request: `target` for a check of a target (true), and otherwise `spots`
abbrev pub spots_of_request_by :
    Bool → Result (List Spot) (ℕ × Refusal) → Result (List Spot) (ℕ × Refusal)
    → Result (List Spot) (ℕ × Refusal)
spots_of_request_by true target spots = target
spots_of_request_by false target spots = spots

-- the spots of a request, or the first word that is refused and why
unfoldable pub spots_of_request :
    {S : Type 0} → Store S → S → DbrFields → SdwFields → Request → Result (List Spot) (ℕ × Refusal)
spots_of_request o s dbr d q =
    spots_of_request_by (is_target q.kind) (bound_only (is_within_bound d q.at.word) q.at.word)
    (spots_of o s dbr d q.at.seg q.at.word q.count)

-- the state within a step: its store, the spots that its Writes have claimed, and its completed
-- references, oldest first
pub record Midstep (S : Type 0) : Type 0 where
  pub store : S
  pub claims : List Spot
  pub refs : List Reference

-- the state within a step at its beginning: nothing is claimed or completed
abbrev pub initial_midstep : {S : Type 0} → S → Midstep S
initial_midstep s = record { store = s; claims = []; refs = [] }

-- the change that a put makes, before other changes; no change if its number is not claimed
abbrev pub change_of : Put → Option Spot → List Change → List Change
change_of p None rest = rest
change_of p (Some spot) rest = record { spot = spot; part = p.part; value = p.value } ∷ rest

-- the changes that puts make, in order
unfoldable pub changes : List Spot → List Put → List Change
changes claims [] = []
changes claims (p ∷ puts) = change_of p (slice_get claims p.claim) (changes claims puts)

-- the reply to a request, and the state within the step after it
pub record ServeResult (S : Type 0) : Type 0 where
  pub reply : Result Answer Fault
  pub mid : Midstep S

-- the reply to a request that is refused at a word; the state is unchanged
abbrev pub refused_reply : {S : Type 0} → Midstep S → Request → ℕ → Refusal → ServeResult S
refused_reply m q word why = record { reply = Err (fault_in q.at word why); mid = m }

-- the store after the marks of a request
abbrev pub after_marks : {S : Type 0} → Store S → S → DbrFields → Request → S
after_marks o s dbr q = if touches q.kind then o.marked s dbr q.kind q.at.seg q.at.word else s

-- The completed references after the odd word of an indirect pair. It joins its even word, the last
-- reference so far: they are one reference to two words.
abbrev pub with_odd : Request → List Reference → List Reference
with_odd q [] = []
with_odd q (e ∷ []) =
    record {
      kind = reference.Indirect;
      at = record { seg = q.at.seg; word = q.at.word - 1; ring = q.at.ring };
      count = 2;
    }
    ∷ []
with_odd q (e ∷ f ∷ refs) = e ∷ with_odd q (f ∷ refs)

-- The kind with which a completed reference is recorded. The last line is for kinds that are not
-- recorded, and has no meaning.
abbrev pub recorded_kind : RequestKind → Kind
recorded_kind Fetch = reference.Fetch
recorded_kind Read = reference.Read
recorded_kind Write = reference.Write
recorded_kind Indirect = reference.Indirect
recorded_kind _ = reference.Indirect

-- the completed references after a request of a kind that sets marks
abbrev pub with_touched : RequestKind → Request → List Reference → List Reference
with_touched Odd q refs = with_odd q refs
with_touched kind q refs =
    refs ++ record { kind = recorded_kind kind; at = q.at; count = q.count } ∷ []

-- the completed references after a request, which is among them if its kind sets marks
abbrev pub with_reference : RequestKind → Request → List Reference → List Reference
with_reference kind q refs = if touches kind then with_touched kind q refs else refs

-- the claims with those of a request, if it is a Write
abbrev pub with_claims : RequestKind → List Spot → List Spot → List Spot
with_claims kind spots claims = if claims_words kind then claims ++ spots else claims

-- the core address of the word of a Locate, or 0 for other kinds
abbrev pub located_address : RequestKind → List Spot → ℕ
located_address Locate (Core_word a ∷ spots) = a
located_address _ _ = 0

-- The reply to a request that is served, and the state after it. The spots that it claims follow
-- earlier claims, and its reference follows earlier references.
abbrev pub answered_with :
    {S : Type 0} → Store S → S → List Spot → List Reference → Request → SdwFields → List Spot
    → ServeResult S
answered_with o s claims refs q d spots =
    record {
      reply = Ok (record {
        sdw = d;
        first = length claims;
        place = located_address q.kind spots;
        words =
            if reads q.kind then map (o.word (o.put s (changes claims q.pending))) spots else [];
      });
      mid =
          record {
            store = s;
            claims = with_claims q.kind spots claims;
            refs = with_reference q.kind q refs;
          };
    }

-- the reply after the rights were checked: the fault of the places, or the answer
abbrev pub serve_places :
    {S : Type 0} → Store S → RegsFields → Midstep S → Request → SdwFields
    → Result (List Spot) (ℕ × Refusal) → ServeResult S
serve_places o g m q d (Err e) = refused_reply m q e.0 e.1
serve_places o g m q d (Ok spots) =
    answered_with o (after_marks o m.store g.dbr q) m.claims m.refs q d spots

-- the reply after the descriptor was found: the access violation, or as `serve_places`
abbrev pub serve_rights :
    {S : Type 0} → Store S → RegsFields → Midstep S → Request → SdwFields → Option ℕ → ServeResult S
serve_rights o g m q d (Some acv) = refused_reply m q q.at.word (violation acv)
serve_rights o g m q d None = serve_places o g m q d (spots_of_request o m.store g.dbr d q)

-- the reply to a reference: the refusal of its descriptor, or as `serve_rights`
abbrev pub serve_sdw :
    {S : Type 0} → Store S → RegsFields → Midstep S → Request → Result SdwFields Refusal
    → ServeResult S
serve_sdw o g m q (Err why) = refused_reply m q q.at.word why
serve_sdw o g m q (Ok d) =
    serve_rights o g m q d (refusing_violation q.kind d q.at.ring g.ppr.prr (q.at.seg == g.ppr.psr)
    q.at.word)

-- Serves a reference. Checked in this order: descriptor, brackets, rights, bound and place. Then
-- its marks are set, and its words are read.
unfoldable pub serve : {S : Type 0} → Store S → RegsFields → Midstep S → Request → ServeResult S
serve o g m q = serve_sdw o g m q (o.sdw m.store g.dbr q.at.seg)

-- a store that sets no marks
abbrev pub without_marks : {S : Type 0} → Store S → Store S
without_marks o = record o { marked = λ s dbr kind seg word. s }

-- the reply to a read of one word outside of any step: with access checks, but without marks
unfoldable pub examined_reply :
    {S : Type 0} → Store S → RegsFields → S → AtFields → Result Answer Fault
examined_reply o g s at =
    (serve (without_marks o) g (initial_midstep s)
    (record { kind = Read; at = at; count = 1; pending = [] })).reply

-- the result of a program that was run, and the state within the step after it
pub record ProgramResult (A S : Type 0) : Type 0 where
  pub value : A
  pub mid : Midstep S

-- runs a program over a store, from a state within a step
unfoldable pub run : {A S : Type 0} → Store S → RegsFields → Act A → Midstep S → ProgramResult A S
run o g (done a) m = record { value = a; mid = m }
run o g (ask q next) m = let t = serve o g m q in run o g (next t.reply) t.mid

-- the state of a processor: its registers and its store
pub record State (S : Type 0) : Type 0 where
  pub regs : RegsFields
  pub store : S
