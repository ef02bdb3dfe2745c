-- Laws of readers, and of programs that begin with one: what was read, by the events and by the files; when such a call
-- ends with Done; and what the first bytes that it writes say of what was read.
use Rattle.std.proofs.Common.{◌≡◌, ◌⊎◌, ℕ, List, [], ◌∷◌, ◌++◌, Option, Some, None, Result, Ok, Err, refl, sym, ap}
use Rattle.std.proofs.Common.{subst, ◌∙◌, inl, inr, append_assoc}
use Rattle.std.specs.Prelude.{IfSome}
use Rattle.std.specs.List.{flat_map}
use Rattle.std.proofs.lemmas.Grind.{flat_map-append}
use Rattle.std.proofs.lemmas.List.{append-nil, append_cancel_left}
use Rattle.m36_outside.specs.Files.{Files}
use Rattle.m36_outside.specs.Passing.{joined}
use Rattle.m36_outside.specs.Putting.{PutsPieces}
use Rattle.m36_outside.specs.Written.{appended, Grew, GrewWithin}
use Rattle.m36_outside.specs.declared.sink.Put.{Put}
use Rattle.m36_outside.specs.declared.sink.Put.TheVariants.{Done, Failed}
use Rattle.m36_world.specs.Seen.{Seen}
use Rattle.m36_world.specs.Follow.{Follow, outputs}
use Rattle.m36_world.specs.Logs.{read_of}
use Rattle.m36_world.specs.declared.event.Event.{Event}
use Rattle.m36_world.specs.declared.event.Event.TheVariants.{FileRead, FileWrite, Output, OutputFailed, Input}
use Rattle.m36_world.specs.declared.event.Event.TheVariants.{InputFailed}
use Rattle.m36_world.proofs.Following.{follow_split, follow_logs}
use Rattle.m36_status.specs.declared.status.Bad.{Bad}
use Rattle.m36_status.specs.declared.status.Status.{Status}
use Rattle.m36_status.specs.declared.status.Status.TheVariants as status
use Rattle.m36_program.specs.Program.{Found, Content, Absent, TooLarge, May, quiet, Program, then_with}
use Rattle.m36_program.specs.Program.{done, stops, reads, writes, puts, takes, some, wants}
use Rattle.m36_program.specs.Alike.{IsEnd}
use Rattle.m36_program.specs.Early.{IsProgramResult}
use Rattle.m36_program.specs.Ended.{NoneRose, IsDoneOrNoMemory, StartsWith, OutputStartsWith, HasAuditedValue}
use Rattle.m36_program.specs.Found.{found_in}
use Rattle.m36_program.specs.Goes.{Goes}
use Rattle.m36_program.specs.Performs.{Performs}
use Rattle.m36_program.specs.Reader.{IsReader, reader_result, ReadBy}
use Rattle.m36_program.specs.Readers.{refuses, bytes_found, file_bytes}
use Rattle.m36_program.specs.Split.{BothGo, FirstEnds}
use Rattle.m36_program.specs.MayHappen.{MayHappen, HasCause, FilesKept, InputKept, pieces_of, put_answer_of, output_of}
use Rattle.m36_program.proofs.KeptLaws.{after_read, trail_files, trail_input}
use Rattle.m36_program.proofs.PieceLaws.{pieces_put}
use Rattle.m36_program.proofs.ProgramLaws.{performs_cause, performs_given, performs_text}
use Rattle.m36_program.proofs.SplitLaws.{goes_split}
use Rattle.m36_program.proofs.ToldLaws.{reads_told}
use Rattle.m36_program.proofs.TrailLaws.{read_map, own_unfailed, trail_ends}

-- ---- readers from their parts

pub reader_then :
    {may : May} {A B : Type 0} (p : Program may A) (next : A → Program may B) → IsReader p → ((a : A) → IsReader (next a))
    → IsReader (then_with p next)
unfolding IsReader then_with
reader_then (done a) next is on = on a
reader_then (stops s own) next is on = tt
reader_then (reads name go) next is on = λ found. reader_then (go found) next (is found) on
reader_then (writes allowed name content p) next is on = absurd is
reader_then (puts piece p) next is on = absurd is
reader_then (takes allowed go) next is on = absurd is
reader_then (some Is go) next is on = is
reader_then (wants p) next is on = reader_then p next is on

pub reader_done : (may : May) {A : Type 0} (a : A) → IsReader {may = may} (done a)
unfolding IsReader
reader_done may a = tt

pub reader_wants : {may : May} {A : Type 0} (p : Program may A) → IsReader p → IsReader (wants p)
unfolding IsReader
reader_wants p is = is

pub reader_refuses : (may : May) (A : Type 0) (bad : Bad) → IsReader (refuses {may = may} {A = A} bad)
unfolding IsReader refuses
reader_refuses may A bad = tt

found_is : (may : May) (name : List ℕ) (found : Found) → IsReader {may = may} (bytes_found name found)
found_is may name (Content bytes) = reader_done may bytes
found_is may name Absent = reader_refuses may (List ℕ) _
found_is may name TooLarge = reader_refuses may (List ℕ) _

pub reader_bytes : (may : May) (name : List ℕ) → IsReader {may = may} (file_bytes name)
unfolding IsReader file_bytes
reader_bytes may name = λ found. found_is may name found

-- ---- its events

-- A reader leaves the trail of a program that neither writes files nor takes input.
reader_trail :
    {may : May} {A : Type 0} (p : Program may A) (events : List Event) (result : Result A Status) → IsReader p
    → Goes p events result → MayHappen quiet events result
unfolding IsReader Goes
reader_trail (done a) events result is goes = trail_ends quiet (Ok a) events result tt goes
reader_trail {A = A} (stops s own) events result is goes = trail_ends quiet (Err s) events result (own_unfailed A s own) goes
reader_trail (reads name go) events result is goes =
    subst (λ e. MayHappen quiet e result) (sym goes.first)
    (read_map goes.answer _ (λ found more. MayHappen quiet goes.more result) goes.more result
    (λ found on. reader_trail (go found) goes.more result (is found) on) goes.rest)
reader_trail (writes allowed name content p) events result is goes = absurd is
reader_trail (puts piece p) events result is goes = absurd is
reader_trail (takes allowed go) events result is goes = absurd is
reader_trail (some Is go) events result is goes = absurd (is goes.value goes.is)
reader_trail (wants p) events result is (inl goes) = reader_trail p events result is goes
reader_trail {A = A} (wants p) events result is (inr ends) = trail_ends quiet (Err status.NoMemory) events result tt ends

-- It puts nothing.
pub reader_pieces :
    {may : May} {A : Type 0} (p : Program may A) (events : List Event) (result : Result A Status) → IsReader p
    → Goes p events result → pieces_of events ≡ []
unfolding IsReader Goes
reader_pieces (done a) events result is goes = ap pieces_of goes.none
reader_pieces (stops s own) events result is goes = ap pieces_of goes.none
reader_pieces (reads name go) events result is goes =
    ap pieces_of goes.first
    ∙ after_read goes.answer (pieces_of goes.more ≡ []) goes.more result (ap pieces_of) (λ on. on)
    (read_map goes.answer _ (λ found more. pieces_of goes.more ≡ []) goes.more result
    (λ found on. reader_pieces (go found) goes.more result (is found) on) goes.rest)
reader_pieces (writes allowed name content p) events result is goes = absurd is
reader_pieces (puts piece p) events result is goes = absurd is
reader_pieces (takes allowed go) events result is goes = absurd is
reader_pieces (some Is go) events result is goes = absurd (is goes.value goes.is)
reader_pieces (wants p) events result is (inl goes) = reader_pieces p events result is goes
reader_pieces (wants p) events result is (inr ends) = ap pieces_of ends.none

-- The files and the input are as before.
pub reader_files :
    {may : May} {A : Type 0} (p : Program may A) (result : Result A Status) (old new : Seen) → IsReader p
    → Performs p result old new → FilesKept old new
reader_files p result old new is performs =
    trail_files quiet performs.events result old new refl (reader_trail p performs.events result is performs.goes) performs.follow

pub reader_input :
    {may : May} {A : Type 0} (p : Program may A) (result : Result A Status) (old new : Seen) → IsReader p
    → Performs p result old new → InputKept old new
reader_input p result old new is performs =
    trail_input quiet performs.events result old new refl (reader_trail p performs.events result is performs.goes) performs.follow

-- ---- what it reads, by the files

pub reader_outcome :
    {may : May} {A : Type 0} (p : Program may A) (files : Files) (result : Result A Status) (old new : Seen) → IsReader p
    → old.files ≡ Some files → IsEnd result → Performs p result old new → reader_result files p ≡ Some result
unfolding IsReader Goes reader_result
reader_outcome (done a) files result old new is told ended performs = ap (λ r. Some r) (sym performs.goes.result_is)
reader_outcome (stops s own) files result old new is told ended performs = ap (λ r. Some r) (sym performs.goes.result_is)
reader_outcome (reads name go) files result old new is told ended performs =
    let on = reads_told name go files result old new told ended performs in
    reader_outcome (go (found_in (files name))) files result on.between new (is (found_in (files name))) on.told ended on.performs
reader_outcome (writes allowed name content p) files result old new is told ended performs = absurd is
reader_outcome (puts piece p) files result old new is told ended performs = absurd is
reader_outcome (takes allowed go) files result old new is told ended performs = absurd is
reader_outcome (some Is go) files result old new is told ended performs = absurd (is performs.goes.value performs.goes.is)
reader_outcome {may} {A} (wants p) files result old new is told ended performs =
    elim performs.goes [
      | inl goes ↦ reader_outcome p files result old new is told ended (record
          { events = performs.events; follow = performs.follow; goes = goes })
      | inr ends ↦ absurd (let end : IsEnd {A = A} (Err status.NoMemory) = subst (IsEnd {A = A}) ends.result_is ended in end)
    ]

-- ---- a program that begins with a reader

no_pieces :
    (passed : List Event) (last : List (List ℕ)) → pieces_of (passed ++ outputs last) ≡ [] → last ≡ []
no_pieces [] last none = sym (append-nil last) ∙ sym (pieces_put last [] ∙ refl) ∙ ap pieces_of (append-nil (outputs last)) ∙ none
no_pieces (FileRead name answer ∷ passed) last none = no_pieces passed last none
no_pieces (FileWrite name content answer ∷ passed) last none = no_pieces passed last none
no_pieces (Output piece ∷ passed) last none = absurd (cc)
no_pieces (OutputFailed [] ∷ passed) last none = no_pieces passed last none
no_pieces (OutputFailed (piece ∷ pieces) ∷ passed) last none = absurd (cc)
no_pieces (Input piece ∷ passed) last none = no_pieces passed last none
no_pieces (InputFailed ∷ passed) last none = no_pieces passed last none

-- The reader gave a value, and the other continued with it; or the reader ended the call.
pub reader_split :
    {may : May} {A B : Type 0} (p : Program may A) (next : A → Program may B) (events : List Event)
    (result : Result B Status)
    → IsReader p → Goes (then_with p next) events result → BothGo p next events result ⊎ FirstEnds p events result
reader_split p next events result is goes =
    elim (goes_split p next events result goes) [
      | inl both ↦ inl both
      | inr (inl ends) ↦ inr ends
      | inr (inr across) ↦
          let none : across.last ≡ [] =
          no_pieces across.passed across.last (reader_pieces p (across.passed ++ outputs across.last) (Ok across.value) is across.begins) in
          inl (record {
            first = across.passed ++ outputs across.last;
            more = OutputFailed across.rest ∷ [];
            is =
                across.is
                ∙ ap (λ l. across.passed ++ OutputFailed (l ++ across.rest) ∷ []) none
                ∙ ap (λ l. l ++ OutputFailed across.rest ∷ [])
                (sym (ap (λ l. across.passed ++ outputs l) none ∙ append-nil across.passed));
            value = across.value;
            begins = across.begins;
            goes_on = across.goes_on;
          })
    ]

-- ---- calls that end with Done

-- The result is an end of the program, or memory ran out.
pub ends_unless :
    {A : Type 0} (result : Result A Status) (old new : Seen)
    → IsProgramResult result → NoneRose old new → HasCause result old new → IsEnd result ⊎ (result ≡ Err status.NoMemory)
ends_unless (Ok a) old new given none cause = inl tt
ends_unless (Err status.Done) old new given none cause = absurd given
ends_unless (Err status.Usage) old new given none cause = absurd given
ends_unless (Err status.ReadFault) old new given none (inl cause) = absurd (none.reads cause.reads)
ends_unless (Err status.ReadFault) old new given none (inr cause) = absurd (none.inputs cause.inputs)
ends_unless (Err status.WriteFault) old new given none (inl cause) = absurd (none.writes cause.writes)
ends_unless (Err status.WriteFault) old new given none (inr cause) = absurd (none.outputs cause.outputs)
ends_unless (Err (status.BadFile bad)) old new given none cause = inl tt
ends_unless (Err status.AuditNo) old new given none cause = inl tt
ends_unless (Err (status.MachineStop end)) old new given none cause = inl tt
ends_unless (Err status.Steps) old new given none cause = inl tt
ends_unless (Err status.NoMemory) old new given none cause = inr refl

-- Without a fault each call of a program ends, or memory runs out.
pub performs_unless :
    {may : May} {A : Type 0} (p : Program may A) (result : Result A Status) (old new : Seen)
    → NoneRose old new → Performs p result old new → IsEnd result ⊎ (result ≡ Err status.NoMemory)
performs_unless p result old new none performs =
    ends_unless result old new (performs_given p result old new performs) none (performs_cause p result old new performs)

pub pieces_both : (first more : List Event) → pieces_of (first ++ more) ≡ pieces_of first ++ pieces_of more
pieces_both [] more = refl
pieces_both (FileRead name answer ∷ first) more = pieces_both first more
pieces_both (FileWrite name content answer ∷ first) more = pieces_both first more
pieces_both (Output piece ∷ first) more = ap (λ l. piece ∷ l) (pieces_both first more)
pieces_both (OutputFailed pieces ∷ first) more =
    ap (λ l. pieces ++ l) (pieces_both first more) ∙ sym (append_assoc pieces (pieces_of first) (pieces_of more))
pieces_both (Input piece ∷ first) more = pieces_both first more
pieces_both (InputFailed ∷ first) more = pieces_both first more

pub same_value : {A : Type 0} (a b : A) → (let r : Option (Result A Status) = Some (Ok a) in r) ≡ Some (Ok b) → a ≡ b
same_value a b is = cc

pub same_err : {A : Type 0} (s t : Status) → (let r : Option (Result A Status) = Some (Err s) in r) ≡ Some (Err t) → s ≡ t
same_err s t is = cc

pub ok_err :
    {A P : Type 0} (a : A) (s : Status) → (let r : Option (Result A Status) = Some (Ok a) in r) ≡ Some (Err s) → P
ok_err a s is = absurd (cc)

pub err_end : (A B : Type 0) (result : Result B Status) (s : Status) → result ≡ Err s → IsEnd result → IsEnd {A = A} (Err s)
err_end A B result s is ended = let end : IsEnd {A = B} (Err s) = subst (IsEnd {A = B}) is ended in end

-- A call that ends, with the value that the files give.
pub reader_then_ends :
    {may : May} {A B : Type 0} (p : Program may A) (next : A → Program may B) (files : Files) (value : A)
    (result : Result B Status) (P : Type 0) (old new : Seen)
    → IsReader p → old.files ≡ Some files → reader_result files p ≡ Some (Ok value) → IsEnd result
    → ((between : Seen) → between.files ≡ Some files → between.left ≡ old.left → Performs (next value) result between new → P)
    → Performs (then_with p next) result old new → P
reader_then_ends {A = A} {B = B} p next files value result P old new is told gives ended on performs =
    elim (reader_split p next performs.events result is performs.goes) [
      | inl both ↦
          let parts = follow_split both.first both.more old new (subst (λ e. Follow e old new) both.is performs.follow) in
          let begins : Performs p (Ok both.value) old parts.between =
          record { events = both.first; follow = parts.begins; goes = both.begins } in
          let same : both.value ≡ value =
          same_value both.value value (sym (reader_outcome p files (Ok both.value) old parts.between is told tt begins) ∙ gives) in
          on parts.between
          ((reader_files p (Ok both.value) old parts.between is begins).files ∙ told)
          (reader_input p (Ok both.value) old parts.between is begins).left
          (record {
            events = both.more;
            follow = parts.goes_on;
            goes = subst (λ v. Goes (next v) both.more result) same both.goes_on;
          })
      | inr ends ↦
          ok_err value ends.status
          (sym gives
          ∙ reader_outcome p files (Err ends.status) old new is told (err_end A B result ends.status ends.result_is ended)
          (record { events = performs.events; follow = performs.follow; goes = ends.goes }))
    ]

-- If what follows the reader ends with Done, whenever it ends, so does the call, unless memory runs out.
pub reader_comes_done :
    {may : May} {A : Type 0} (p : Program may A) (next : A → Program may (Unit {0})) (files : Files) (value : A)
    (result : Result (Unit {0}) Status) (old new : Seen)
    → IsReader p → old.files ≡ Some files → reader_result files p ≡ Some (Ok value) → NoneRose old new
    → ((between : Seen) → between.files ≡ Some files → between.left ≡ old.left → Performs (next value) result between new
    → IsEnd result → result ≡ Ok tt)
    → Performs (then_with p next) result old new → IsDoneOrNoMemory result
reader_comes_done p next files value result old new is told gives none on performs =
    elim (performs_unless (then_with p next) result old new none performs) [
      | inl ended ↦ inl (reader_then_ends p next files value result (result ≡ Ok tt) old new is told gives ended
          (λ between same left goes. on between same left goes ended) performs)
      | inr memory ↦ inr memory
    ]

-- ---- what the first bytes say

same_bytes : (before text others : List ℕ) → Some (before ++ text) ≡ Some (before ++ others) → text ≡ others
same_bytes before text others is = append_cancel_left before text others (let e = is in cc)

grew_starts :
    (opening bytes : List ℕ) (old new : Option (List ℕ)) → Grew old new bytes → OutputStartsWith opening old new
    → (rest : List ℕ) × (bytes ≡ opening ++ rest)
grew_starts opening bytes old new grew says = (
  says.rest,
  same_bytes says.before bytes (opening ++ says.rest)
      (sym (ap (appended bytes) says.was) ∙ sym grew ∙ says.is),
)

within_starts :
    (opening bytes : List ℕ) (old new : Option (List ℕ)) → GrewWithin old new bytes → OutputStartsWith opening old new
    → (rest : List ℕ) × (bytes ≡ opening ++ rest)
within_starts opening bytes old new cut says =
    let part = grew_starts opening cut.part old new cut.grew says in
    (part.0 ++ cut.rest, cut.whole ∙ ap (λ t. t ++ cut.rest) part.1 ∙ append_assoc opening part.0 cut.rest)

put_starts :
    (answer : Put) (opening : List ℕ) (pieces : List (List ℕ)) (old new : Seen)
    → PutsPieces answer pieces (output_of old) (output_of new) → OutputStartsWith opening old.written new.written → StartsWith opening pieces
put_starts Done opening pieces old new put says =
    let found = grew_starts opening (joined pieces) old.written new.written put.text says in
    record { rest = found.0; is = found.1 }
put_starts Failed opening pieces old new put says =
    let found = within_starts opening (joined pieces) old.written new.written put.text says in
    record { rest = found.0; is = found.1 }

-- What was added begins as the pieces of the call do.
pub performs_starts :
    {may : May} {A : Type 0} (p : Program may A) (result : Result A Status) (opening : List ℕ) (old new : Seen)
    (performs : Performs p result old new)
    → OutputStartsWith opening old.written new.written → StartsWith opening (pieces_of performs.events)
performs_starts p result opening old new performs says =
    put_starts (put_answer_of performs.events) opening (pieces_of performs.events) old new (performs_text p result old new performs) says

nothing_starts : {P : Type 0} (opening : List ℕ) → (opening ≡ [] → ⊥) → StartsWith opening [] → P
nothing_starts [] filled starts = absurd (filled refl)
nothing_starts (x ∷ opening) filled starts = absurd (let e = starts.is in cc)

pieces_later :
    (first more : List Event) → pieces_of first ≡ [] → pieces_of (first ++ more) ≡ pieces_of more
pieces_later [] more none = refl
pieces_later (FileRead name answer ∷ first) more none = pieces_later first more none
pieces_later (FileWrite name content answer ∷ first) more none = pieces_later first more none
pieces_later (Output piece ∷ first) more none = absurd (cc)
pieces_later (OutputFailed [] ∷ first) more none = pieces_later first more none
pieces_later (OutputFailed (piece ∷ pieces) ∷ first) more none = absurd (cc)
pieces_later (Input piece ∷ first) more none = pieces_later first more none
pieces_later (InputFailed ∷ first) more none = pieces_later first more none

by_files :
    {may : May} {A : Type 0} (p : Program may A) (value : A) (old new : Seen) (files : Option Files)
    → IsReader p → old.files ≡ files → Performs p (Ok value) old new
    → IfSome files (λ f. reader_result f p ≡ Some (Ok value))
by_files p value old new None is told performs = tt
by_files p value old new (Some files) is told performs = reader_outcome p files (Ok value) old new is told tt performs

-- A call that begins with a reader, up to the value that was read.
pub read_by :
    {may : May} {A : Type 0} (p : Program may A) (value : A) (first more : List Event) (old new : Seen)
    → IsReader p → Follow (first ++ more) old new → Goes p first (Ok value) → ReadBy p value old new
read_by p value first more old new is follow goes =
    let parts = follow_split first more old new follow in
    let logs = follow_logs (first ++ more) old new follow in record {
      first = first;
      goes = goes;
      later = flat_map read_of more;
      logged =
          logs.reads
          ∙ ap (λ l. old.reads ++ l) (flat_map-append read_of first more)
          ∙ sym (append_assoc old.reads (flat_map read_of first) (flat_map read_of more));
      by_files =
          by_files p value old parts.between old.files is refl (record { events = first; follow = parts.begins; goes = goes });
    }

-- If what was written begins with `opening`, and this says of what follows the reader that the value passes, it does.
pub reader_says_yes :
    {may : May} {A B : Type 0} (p : Program may A) (next : A → Program may B) (Passes : A → Type 0) (opening : List ℕ)
    (result : Result B Status) (old new : Seen)
    → IsReader p → (opening ≡ [] → ⊥) → OutputStartsWith opening old.written new.written
    → ((value : A) (events : List Event) → Goes (next value) events result → StartsWith opening (pieces_of events) → Passes value)
    → Performs (then_with p next) result old new → HasAuditedValue p Passes old new
reader_says_yes p next Passes opening result old new is filled says on performs =
    let starts = performs_starts (then_with p next) result opening old new performs says in
    elim (reader_split p next performs.events result is performs.goes) [
      | inl both ↦ record {
        value = both.value;
        read = read_by p both.value both.first both.more old new is
            (subst (λ e. Follow e old new) both.is performs.follow) both.begins;
        passes = on both.value both.more both.goes_on
            (subst (StartsWith opening)
            (ap pieces_of both.is ∙ pieces_later both.first both.more (reader_pieces p both.first (Ok both.value) is both.begins)) starts);
      }
      | inr ends ↦ nothing_starts opening filled
          (subst (StartsWith opening) (reader_pieces p performs.events (Err ends.status) is ends.goes) starts)
    ]
