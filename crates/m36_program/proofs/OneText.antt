-- A call puts a prefix of the pieces that another call puts which ends, over the same files and input, if their
-- programs are alike.
use Rattle.std.proofs.Common.{◌≡◌, ℕ, ◌≤◌, ◌<◌, List, [], ◌∷◌, ◌++◌, length, cond, Option, Some, Result, Ok, Err}
use Rattle.std.proofs.Common.{refl, sym, ap, subst, ◌∙◌, inl, inr}
use Rattle.std.specs.Prelude.{IfSome}
use Rattle.std.proofs.lemmas.Bool.{le-ltb, lt-ltb}
use Rattle.std.proofs.lemmas.List.{append-nil}
use Rattle.m36_outside.specs.Files.{Files, with_file, with_known_file}
use Rattle.m36_outside.specs.ReadAnswer.{ReadResult, IsWithinLimit, file_limit}
use Rattle.m36_outside.specs.WriteAnswer.{WriteResult}
use Rattle.m36_outside.specs.declared.folder.ReadAnswer.{ReadAnswer}
use Rattle.m36_outside.specs.declared.folder.ReadAnswer.TheVariants as read
use Rattle.m36_outside.specs.declared.folder.WriteAnswer.{WriteAnswer}
use Rattle.m36_outside.specs.declared.folder.WriteAnswer.TheVariants as write
use Rattle.m36_world.specs.Seen.{Seen}
use Rattle.m36_world.specs.Happened.{IsFileRead, IsFileWrite, IsOutput, IsInput}
use Rattle.m36_world.specs.Follow.{Follow}
use Rattle.m36_world.specs.declared.event.Event.{Event}
use Rattle.m36_world.specs.declared.event.Event.TheVariants.{FileRead, FileWrite, Output, OutputFailed, Input}
use Rattle.m36_status.specs.declared.status.Status.{Status}
use Rattle.m36_status.specs.declared.status.Status.TheVariants.{ReadFault, WriteFault, NoMemory}
use Rattle.m36_program.specs.Program.{Found, Content, TooLarge, May, Program}
use Rattle.m36_program.specs.Program.{done, stops, reads, writes, puts, takes, some, wants}
use Rattle.m36_program.specs.Goes.{AfterRead, AfterWrite, FailsWith, Goes}
use Rattle.m36_program.specs.MayHappen.{pieces_of}
use Rattle.m36_program.specs.Found.{found_in}
use Rattle.m36_program.specs.Alike.{EndsAlike, ReadsAlike, WritesAlike, PutsAlike, TakesAlike, Alike, IsEnd, OneText}
use Rattle.m36_program.specs.Alike.{SameInput, inputs_of}
use Rattle.m36_program.proofs.GoesLaws.{goes_failed, fails_with}
use Rattle.m36_program.proofs.SplitLaws.{same_pieces}

-- ---- results that are not an end

read_fault : {A P : Type 0} (result : Result A Status) → result ≡ Err ReadFault → IsEnd result → P
read_fault {A} result is ended =
    absurd (let fault : IsEnd {A = A} (Err ReadFault) = subst (IsEnd {A = A}) is ended in fault)

write_fault : {A P : Type 0} (result : Result A Status) → result ≡ Err WriteFault → IsEnd result → P
write_fault {A} result is ended =
    absurd (let fault : IsEnd {A = A} (Err WriteFault) = subst (IsEnd {A = A}) is ended in fault)

no_memory : {A P : Type 0} (result : Result A Status) → result ≡ Err NoMemory → IsEnd result → P
no_memory {A} result is ended =
    absurd (let fault : IsEnd {A = A} (Err NoMemory) = subst (IsEnd {A = A}) is ended in fault)

-- nothing was put, and the call did not end
nothing_put :
    {A : Type 0} (all : List (List ℕ)) (result end : Result A Status) → ((P : Type 0) → IsEnd result → P)
    → OneText [] all result end
nothing_put all result end fails = record { left = all; is = refl; ended = λ ended. fails _ ended }

-- one more piece of both
one_more :
    {A : Type 0} (piece other : List ℕ) (first all : List (List ℕ)) (result end : Result A Status)
    → piece ≡ other → OneText first all result end → OneText (piece ∷ first) (other ∷ all) result end
one_more piece other first all result end same text = record {
  left = text.left;
  is = ap (λ p. p ∷ all) (sym same) ∙ ap (λ l. piece ∷ l) text.is;
  ended = text.ended;
}

-- ---- what is found in the files

found_read : (bytes : List ℕ) → length bytes ≤ file_limit → found_in (Some bytes) ≡ Content bytes
found_read bytes within = ap (λ b. cond b TooLarge (Content bytes)) (le-ltb file_limit (length bytes) within)

found_large : (bytes : List ℕ) → file_limit < length bytes → found_in (Some bytes) ≡ TooLarge
found_large bytes over = ap (λ b. cond b TooLarge (Content bytes)) (lt-ltb file_limit (length bytes) over)

-- a read that was answered by the file, or that ended the program
pub found_or_ended :
    {A P : Type 0} (answer : ReadAnswer) (file : Option (List ℕ)) (goes : Found → List Event → Type 0)
    (more : List Event) (result : Result A Status)
    → ReadResult answer file → IsWithinLimit answer → AfterRead answer goes more result
    → (goes (found_in file) more → P) → (more ≡ [] → ((Q : Type 0) → IsEnd result → Q) → P) → P
found_or_ended (read.Read bytes) file goes more result says within after on ends =
    on (subst (λ found. goes found more) (sym (ap found_in says ∙ found_read bytes within)) after)
found_or_ended read.Absent file goes more result says within after on ends =
    on (subst (λ found. goes found more) (sym (ap found_in says)) after)
found_or_ended read.TooLarge file goes more result says within after on ends =
    on (subst (λ found. goes found more) (sym (ap found_in says.1 ∙ found_large says.0 says.2)) after)
found_or_ended read.Failed file goes more result says within after on ends =
    ends after.none (λ Q ended. read_fault result after.result_is ended)
found_or_ended read.NoMemory file goes more result says within after on ends =
    ends after.none (λ Q ended. no_memory result after.result_is ended)

-- a write that was done, or that ended the program
written_or_ended :
    {A P : Type 0} (answer : WriteAnswer) (goes : List Event → Type 0) (more : List Event) (result : Result A Status)
    (name content : List ℕ) (old new : Option Files)
    → WriteResult answer old new name content → AfterWrite answer goes more result
    → (goes more → new ≡ with_known_file name (Some content) old → P)
    → (more ≡ [] → ((Q : Type 0) → IsEnd result → Q) → P) → P
written_or_ended write.Written goes more result name content old new says after on ends = on after says
written_or_ended write.Failed goes more result name content old new says after on ends =
    ends after.none (λ Q ended. write_fault result after.result_is ended)
written_or_ended write.NoMemory goes more result name content old new says after on ends =
    ends after.none (λ Q ended. no_memory result after.result_is ended)

pub said :
    (answer : ReadAnswer) (name : List ℕ) (told : Option Files) (files : Files) → told ≡ Some files
    → IfSome told (λ f. ReadResult answer (f name)) → ReadResult answer (files name)
said answer name told files is says =
    let at : IfSome (Some files) (λ f. ReadResult answer (f name)) =
    subst (λ t. IfSome t (λ f. ReadResult answer (f name))) is says in at

-- ---- the other call, which ends

-- The other program continues from here, and from there the two have one text.
abbrev Continues :
    {may : May} {A : Type 0} → (Program may A → Type 0) → Files → List (List ℕ) → List (List ℕ) → Result A Status
    → Result A Status → Seen → Type 1
Continues {may} {A} alike files inputs first result end new =
    (q : Program may A) (events : List Event) (old : Seen)
    → alike q → old.files ≡ Some files → Follow events old new → SameInput inputs (inputs_of events) → Goes q events end
    → OneText first (pieces_of events) result end

-- it ends too, with the same result
ends_alike :
    {may : May} {A : Type 0} (value : Result A Status) (q : Program may A) (events : List Event) (end : Result A Status)
    → EndsAlike value q → IsEnd end → Goes q events end → (events ≡ []) × (value ≡ end)
unfolding Goes
ends_alike value (done a) events end alike ended goes = (goes.none, alike ∙ sym goes.result_is)
ends_alike value (stops s own) events end alike ended goes = (goes.none, alike ∙ sym goes.result_is)
ends_alike value (some Is go) events end alike ended goes =
    ends_alike value (go goes.value) events end (alike goes.value goes.is) ended goes.rest
ends_alike value (wants q) events end alike ended (inl goes) = ends_alike value q events end alike ended goes
ends_alike value (wants q) events end alike ended (inr ends) = no_memory end ends.result_is ended
ends_alike value _ events end alike ended goes = absurd alike

text_ends :
    {may : May} {A : Type 0} (value : Result A Status) (q : Program may A) (first events : List Event)
    (result end : Result A Status)
    → EndsAlike value q → IsEnd end → Goes q events end → first ≡ [] → result ≡ value
    → OneText (pieces_of first) (pieces_of events) result end
text_ends value q first events result end alike ended goes none is =
    let other : (events ≡ []) × (value ≡ end) = ends_alike value q events end alike ended goes in
    record {
      left = [];
      is = ap pieces_of other.0 ∙ sym (ap (λ l. l ++ []) (ap pieces_of none));
      ended = λ _. (refl, is ∙ other.1);
    }

-- it reads the same file
text_reads :
    {may : May} {A : Type 0} (name : List ℕ) (alike : Found → Program may A → Type 0) (files : Files)
    (inputs first : List (List ℕ)) (result end : Result A Status) (new : Seen)
    → IsEnd end → Continues (alike (found_in (files name))) files inputs first result end new
    → Continues (ReadsAlike name alike) files inputs first result end new
unfolding Goes Follow
text_reads name alike files inputs first result end new ended on (reads other go) events old is told follow input goes =
    let same : (let start : List Event = FileRead other goes.answer ∷ goes.more in Follow start old new) =
    subst (λ e. Follow e old new) goes.first follow in
    let did : IsFileRead other goes.answer old same.between = same.begins in
    let same_input : SameInput inputs (inputs_of (FileRead other goes.answer ∷ goes.more)) =
    subst (λ e. SameInput inputs (inputs_of e)) goes.first input in
    subst (λ e. OneText first (pieces_of e) result end) (sym goes.first)
    (found_or_ended goes.answer (files other) _ goes.more end
    (said goes.answer other old.files files told did.content) did.limit goes.rest
    (λ rest. on (go (found_in (files other))) goes.more same.between
    (subst (λ n. alike (found_in (files n)) (go (found_in (files other)))) (sym is.0) (is.1 (found_in (files other))))
    (ap (λ s. s.files) did.rest ∙ told) same.goes_on same_input rest)
    (λ none fails. fails _ ended))
text_reads name alike files inputs first result end new ended on (some Is go) events old is told follow input goes =
    text_reads name alike files inputs first result end new ended on (go goes.value) events old
    (is goes.value goes.is) told follow input goes.rest
text_reads name alike files inputs first result end new ended on (wants q) events old is told follow input (inl goes) =
    text_reads name alike files inputs first result end new ended on q events old is told follow input goes
text_reads name alike files inputs first result end new ended on (wants q) events old is told follow input (inr ends) =
    no_memory end ends.result_is ended
text_reads name alike files inputs first result end new ended on _ events old is told follow input goes = absurd is

-- it writes the same file
text_writes :
    {may : May} {A : Type 0} (name content : List ℕ) (alike : Program may A → Type 0) (files : Files)
    (inputs first : List (List ℕ)) (result end : Result A Status) (new : Seen)
    → IsEnd end → Continues alike (with_file name (Some content) files) inputs first result end new
    → Continues (WritesAlike name content alike) files inputs first result end new
unfolding Goes Follow
text_writes name content alike files inputs first result end new ended on
    (writes allowed other others q) events old is told follow input goes =
    let same : (let start : List Event = FileWrite other others goes.answer ∷ goes.more in Follow start old new) =
    subst (λ e. Follow e old new) goes.first follow in
    let did : IsFileWrite other others goes.answer old same.between = same.begins in
    let same_input : SameInput inputs (inputs_of (FileWrite other others goes.answer ∷ goes.more)) =
    subst (λ e. SameInput inputs (inputs_of e)) goes.first input in
    subst (λ e. OneText first (pieces_of e) result end) (sym goes.first)
    (written_or_ended goes.answer _ goes.more end other others old.files same.between.files did.files goes.rest
    (λ rest wrote. on q goes.more same.between is.2
    (wrote ∙ ap (with_known_file other (Some others)) told
    ∙ ap (λ n. Some (with_file n (Some others) files)) (sym is.0)
    ∙ ap (λ c. Some (with_file name (Some c) files)) (sym is.1))
    same.goes_on same_input rest)
    (λ none fails. fails _ ended))
text_writes name content alike files inputs first result end new ended on
    (some Is go) events old is told follow input goes =
    text_writes name content alike files inputs first result end new ended on (go goes.value) events old
    (is goes.value goes.is) told follow input goes.rest
text_writes name content alike files inputs first result end new ended on (wants q) events old is told follow input
    (inl goes) =
    text_writes name content alike files inputs first result end new ended on q events old is told follow input goes
text_writes name content alike files inputs first result end new ended on (wants q) events old is told follow input
    (inr ends) = no_memory end ends.result_is ended
text_writes name content alike files inputs first result end new ended on _ events old is told follow input goes =
    absurd is

-- it puts the same piece
text_puts :
    {may : May} {A : Type 0} (piece : List ℕ) (alike : Program may A → Type 0) (files : Files)
    (inputs first : List (List ℕ)) (result end : Result A Status) (new : Seen)
    → IsEnd end → Continues alike files inputs first result end new
    → Continues (PutsAlike piece alike) files inputs (piece ∷ first) result end new
unfolding Goes Follow
text_puts piece alike files inputs first result end new ended on (puts other q) events old is told follow input
    (inl goes) =
    let same : (let start : List Event = Output other ∷ goes.more in Follow start old new) =
    subst (λ e. Follow e old new) goes.first follow in
    let did : IsOutput other old same.between = same.begins in
    let same_input : SameInput inputs (inputs_of (Output other ∷ goes.more)) =
    subst (λ e. SameInput inputs (inputs_of e)) goes.first input in
    subst (λ e. OneText (piece ∷ first) (pieces_of e) result end) (sym goes.first)
    (one_more piece other first (pieces_of goes.more) result end is.0
    (on q goes.more same.between is.1 (ap (λ s. s.files) did.rest ∙ told) same.goes_on same_input goes.rest))
text_puts piece alike files inputs first result end new ended on (puts other q) events old is told follow input
    (inr failed) =
    write_fault end (fails_with failed.pieces _ end (λ goes. goes_failed q failed.pieces end goes) failed.rest) ended
text_puts piece alike files inputs first result end new ended on (some Is go) events old is told follow input goes =
    text_puts piece alike files inputs first result end new ended on (go goes.value) events old
    (is goes.value goes.is) told follow input goes.rest
text_puts piece alike files inputs first result end new ended on (wants q) events old is told follow input (inl goes) =
    text_puts piece alike files inputs first result end new ended on q events old is told follow input goes
text_puts piece alike files inputs first result end new ended on (wants q) events old is told follow input (inr ends) =
    no_memory end ends.result_is ended
text_puts piece alike files inputs first result end new ended on _ events old is told follow input goes = absurd is

-- it takes the same piece of input
text_takes :
    {may : May} {A : Type 0} (piece : List ℕ) (alike : List ℕ → Program may A → Type 0) (files : Files)
    (inputs first : List (List ℕ)) (result end : Result A Status) (new : Seen)
    → IsEnd end → Continues (alike piece) files inputs first result end new
    → Continues (TakesAlike alike) files (piece ∷ inputs) first result end new
unfolding Goes Follow
text_takes piece alike files inputs first result end new ended on (takes allowed go) events old is told follow input
    (inl goes) =
    let same : (let start : List Event = Input goes.piece ∷ goes.more in Follow start old new) =
    subst (λ e. Follow e old new) goes.first follow in
    let did : IsInput goes.piece old same.between = same.begins in
    let same_input : SameInput (piece ∷ inputs) (inputs_of (Input goes.piece ∷ goes.more)) =
    subst (λ e. SameInput (piece ∷ inputs) (inputs_of e)) goes.first input in
    subst (λ e. OneText first (pieces_of e) result end) (sym goes.first)
    (on (go goes.piece) goes.more same.between
    (subst (λ p. alike p (go goes.piece)) (sym same_input.0) (is goes.piece))
    (ap (λ s. s.files) did.rest ∙ told) same.goes_on same_input.1 goes.rest)
text_takes piece alike files inputs first result end new ended on (takes allowed go) events old is told follow input
    (inr failed) = read_fault end failed.result_is ended
text_takes piece alike files inputs first result end new ended on (some Is go) events old is told follow input goes =
    text_takes piece alike files inputs first result end new ended on (go goes.value) events old
    (is goes.value goes.is) told follow input goes.rest
text_takes piece alike files inputs first result end new ended on (wants q) events old is told follow input (inl goes) =
    text_takes piece alike files inputs first result end new ended on q events old is told follow input goes
text_takes piece alike files inputs first result end new ended on (wants q) events old is told follow input (inr ends) =
    no_memory end ends.result_is ended
text_takes piece alike files inputs first result end new ended on _ events old is told follow input goes = absurd is

-- ---- a call whose output failed

-- the pieces of the failed call are a prefix of the other's, wherever in the program the last of them is put
failed_with :
    {may : May} {A : Type 0} (p : Program may A) (pieces : List (List ℕ)) (files : Files) (end : Result A Status)
    (new : Seen)
    → (Goes p (OutputFailed pieces ∷ []) (Err WriteFault)
    → Continues (Alike p) files [] pieces (Err WriteFault) end new)
    → FailsWith {A = A} pieces (λ more. Goes p more (Err WriteFault)) (Err WriteFault)
    → Continues (Alike p) files [] pieces (Err WriteFault) end new
failed_with p [] files end new on fails =
    λ q events old alike told follow input goes. nothing_put (pieces_of events) (Err WriteFault) end
    (λ P ended. absurd ended)
failed_with p (piece ∷ pieces) files end new on fails = on fails

text_failed :
    {may : May} {A : Type 0} (p : Program may A) (pieces : List (List ℕ)) (files : Files) (end : Result A Status)
    (new : Seen)
    → IsEnd end → Goes p (OutputFailed pieces ∷ []) (Err WriteFault)
    → Continues (Alike p) files [] pieces (Err WriteFault) end new
unfolding Goes Alike
text_failed (done a) pieces files end new ended goes = absurd (let e = goes.none in cc)
text_failed (stops s own) pieces files end new ended goes = absurd (let e = goes.none in cc)
text_failed (reads name go) pieces files end new ended goes = absurd (let e = goes.first in cc)
text_failed (writes allowed name content p) pieces files end new ended goes = absurd (let e = goes.first in cc)
text_failed (puts piece p) pieces files end new ended (inl goes) = absurd (let e = goes.first in cc)
text_failed (puts piece p) pieces files end new ended (inr failed) =
    subst (λ l. Continues (PutsAlike piece (λ next. Alike p next)) files [] l (Err WriteFault) end new)
    (sym (same_pieces pieces (piece ∷ failed.pieces) failed.only))
    (text_puts piece (λ next. Alike p next) files [] failed.pieces (Err WriteFault) end new ended
    (failed_with p failed.pieces files end new
    (λ goes. text_failed p failed.pieces files end new ended goes) failed.rest))
text_failed (takes allowed go) pieces files end new ended (inl goes) = absurd (let e = goes.first in cc)
text_failed (takes allowed go) pieces files end new ended (inr failed) = absurd (let e = failed.only in cc)
text_failed (some Is go) pieces files end new ended goes =
    λ q events old alike. text_failed (go goes.value) pieces files end new ended goes.rest q events old
    (alike goes.value goes.is)
text_failed (wants p) pieces files end new ended (inl goes) = text_failed p pieces files end new ended goes
text_failed (wants p) pieces files end new ended (inr ends) = absurd (let e = ends.none in cc)

-- ---- one text

-- an end, and no piece is put
none_put :
    {A : Type 0} (first : List Event) (all : List (List ℕ)) (result end : Result A Status)
    → first ≡ [] → ((P : Type 0) → IsEnd result → P) → OneText (pieces_of first) all result end
none_put first all result end none fails =
    subst (λ e. OneText (pieces_of e) all result end) (sym none) (nothing_put all result end fails)

failed_text :
    {may : May} {A : Type 0} (p : Program may A) (pieces : List (List ℕ)) (files : Files) (result end : Result A Status)
    (new : Seen)
    → IsEnd end → result ≡ Err WriteFault → Goes p (OutputFailed pieces ∷ []) result
    → Continues (Alike p) files [] (pieces ++ []) result end new
failed_text p pieces files result end new ended is goes =
    subst (λ l. Continues (Alike p) files [] l result end new) (sym (append-nil pieces))
    (subst (λ r. Continues (Alike p) files [] pieces r end new) (sym is)
    (text_failed p pieces files end new ended (subst (λ r. Goes p (OutputFailed pieces ∷ []) r) is goes)))

pub one_text :
    {may : May} {A : Type 0} (p : Program may A) (events : List Event) (result end : Result A Status)
    (old between new : Seen) (files : Files)
    → IsEnd end → old.files ≡ Some files → Follow events old between → Goes p events result
    → Continues (Alike p) files (inputs_of events) (pieces_of events) result end new
unfolding Goes Follow Alike
one_text (done x) events result end old between new files ended told follow goes =
    λ q others old' alike told' follow' input goes'. text_ends
    (Ok x) q events others result end alike ended goes' goes.none goes.result_is
one_text (stops s own) events result end old between new files ended told follow goes =
    λ q others old' alike told' follow' input goes'. text_ends
    (Err s) q events others result end alike ended goes' goes.none goes.result_is
one_text (reads name go) events result end old between new files ended told follow goes =
    let same : (let start : List Event = FileRead name goes.answer ∷ goes.more in Follow start old between) =
    subst (λ e. Follow e old between) goes.first follow in
    let did : IsFileRead name goes.answer old same.between = same.begins in
    subst (λ e. Continues (ReadsAlike name (λ found next. Alike (go found) next)) files (inputs_of e)
    (pieces_of e) result end new) (sym goes.first)
    (λ q others old' alike told' follow' input goes'.
    found_or_ended goes.answer (files name) _ goes.more result
    (said goes.answer name old.files files told did.content) did.limit goes.rest
    (λ rest. text_reads name (λ found next. Alike (go found) next) files (inputs_of goes.more)
    (pieces_of goes.more) result end new ended
    (one_text (go (found_in (files name))) goes.more result end same.between between new files ended
    (ap (λ s. s.files) did.rest ∙ told) same.goes_on rest)
    q others old' alike told' follow' input goes')
    (λ none fails. none_put goes.more (pieces_of others) result end none fails))
one_text (writes allowed name content p) events result end old between new files ended told follow goes =
    let same : (let start : List Event = FileWrite name content goes.answer ∷ goes.more in Follow start old between) =
    subst (λ e. Follow e old between) goes.first follow in
    let did : IsFileWrite name content goes.answer old same.between = same.begins in
    subst (λ e. Continues (WritesAlike name content (λ next. Alike p next)) files (inputs_of e)
    (pieces_of e) result end new) (sym goes.first)
    (λ q others old' alike told' follow' input goes'.
    written_or_ended goes.answer _ goes.more result name content old.files same.between.files did.files goes.rest
    (λ rest wrote. text_writes name content (λ next. Alike p next) files (inputs_of goes.more)
    (pieces_of goes.more) result end new ended
    (one_text p goes.more result end same.between between new (with_file name (Some content) files) ended
    (wrote ∙ ap (with_known_file name (Some content)) told) same.goes_on rest)
    q others old' alike told' follow' input goes')
    (λ none fails. none_put goes.more (pieces_of others) result end none fails))
one_text (puts piece p) events result end old between new files ended told follow (inl goes) =
    let same : (let start : List Event = Output piece ∷ goes.more in Follow start old between) =
    subst (λ e. Follow e old between) goes.first follow in
    let did : IsOutput piece old same.between = same.begins in
    subst (λ e. Continues (PutsAlike piece (λ next. Alike p next)) files (inputs_of e) (pieces_of e) result end new)
    (sym goes.first)
    (text_puts piece (λ next. Alike p next) files (inputs_of goes.more) (pieces_of goes.more) result end new ended
    (one_text p goes.more result end same.between between new files ended
    (ap (λ s. s.files) did.rest ∙ told) same.goes_on goes.rest))
one_text (puts piece p) events result end old between new files ended told follow (inr failed) =
    let goes : Goes (puts piece p) (OutputFailed (piece ∷ failed.pieces) ∷ []) result =
    inr (record { pieces = failed.pieces; only = refl; rest = failed.rest }) in
    subst (λ e. Continues (PutsAlike piece (λ next. Alike p next)) files (inputs_of e) (pieces_of e) result end new)
    (sym failed.only)
    (failed_text (puts piece p) (piece ∷ failed.pieces) files result end new ended
    (goes_failed (puts piece p) (piece ∷ failed.pieces) result goes) goes)
one_text (takes allowed go) events result end old between new files ended told follow (inl goes) =
    let same : (let start : List Event = Input goes.piece ∷ goes.more in Follow start old between) =
    subst (λ e. Follow e old between) goes.first follow in
    let did : IsInput goes.piece old same.between = same.begins in
    subst (λ e. Continues (TakesAlike (λ piece next. Alike (go piece) next)) files (inputs_of e)
    (pieces_of e) result end new) (sym goes.first)
    (text_takes goes.piece (λ piece next. Alike (go piece) next) files (inputs_of goes.more)
    (pieces_of goes.more) result end new ended
    (one_text (go goes.piece) goes.more result end same.between between new files ended
    (ap (λ s. s.files) did.rest ∙ told) same.goes_on goes.rest))
one_text (takes allowed go) events result end old between new files ended told follow (inr failed) =
    λ q others old' alike told' follow' input goes'.
    subst (λ e. OneText (pieces_of e) (pieces_of others) result end) (sym failed.only)
    (nothing_put (pieces_of others) result end (λ P is. read_fault result failed.result_is is))
one_text (some Is go) events result end old between new files ended told follow goes =
    λ q others old' alike. one_text (go goes.value) events result end old between new files ended told follow goes.rest
    q others old' (alike goes.value goes.is)
one_text (wants p) events result end old between new files ended told follow (inl goes) =
    one_text p events result end old between new files ended told follow goes
one_text (wants p) events result end old between new files ended told follow (inr ends) =
    λ q others old' alike told' follow' input goes'. none_put events (pieces_of others) result end ends.none
    (λ P is. no_memory result ends.result_is is)
