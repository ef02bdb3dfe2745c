-- Programs are alike if their parts are, and calls of them.
use Rattle.std.proofs.Common.{◌∙◌, ◌++◌, ◌≡◌, ℕ, false, List, [], ◌∷◌, Some, Result, Ok, Err, refl, sym, ap, subst}
use Rattle.std.proofs.lemmas.List.Folds.{concat-append as joined_both}
use Rattle.m36_outside.specs.Files.{Files}
use Rattle.m36_outside.specs.Passing.{joined}
use Rattle.m36_outside.specs.Putting.{PutsPieces}
use Rattle.m36_outside.specs.SinkState.{SinkState}
use Rattle.m36_outside.specs.Written.{GrewWithin}
use Rattle.m36_outside.specs.declared.sink.Put.{Put}
use Rattle.m36_outside.specs.declared.sink.Put.TheVariants.{Done, Failed}
use Rattle.m36_outside.proofs.Grown.{grew_within, grew_longer}
use Rattle.m36_world.specs.Seen.{Seen}
use Rattle.m36_world.specs.declared.event.Event.{Event}
use Rattle.m36_world.specs.declared.event.Event.TheVariants.{FileRead, FileWrite, Output, OutputFailed, Input}
use Rattle.m36_world.specs.declared.event.Event.TheVariants.{InputFailed}
use Rattle.m36_status.specs.declared.status.Status.{Status}
use Rattle.m36_program.specs.Program.{Found, Content, Absent, TooLarge, May, Program, then_with, puts_all}
use Rattle.m36_program.specs.Program.{done, stops, reads, writes, puts, takes, some, wants}
use Rattle.m36_program.specs.Performs.{Performs}
use Rattle.m36_program.specs.MayHappen.{MayHappen, pieces_of, put_answer_of, output_of}
use Rattle.m36_program.specs.Alike.{EndsAlike, ReadsAlike, WritesAlike, PutsAlike, TakesAlike, Alike, IsEnd, OneText}
use Rattle.m36_program.specs.Alike.{SameInput, inputs_of}
use Rattle.m36_program.specs.OneText.{HasOneText}
use Rattle.m36_program.specs.Readers.{refuses, bytes_found, file_bytes}
use Rattle.m36_program.proofs.TrailLaws.{goes_trail}
use Rattle.m36_program.proofs.KeptLaws.{after_read, after_write, false_true}
use Rattle.m36_program.proofs.OneText.{one_text}
use Rattle.m36_program.proofs.ProgramLaws.{performs_text}

-- ---- the second program

-- it chooses: they are alike if they are for each value
pub alike_some :
    {may : May} {A B : Type 0} (p : Program may A) (Is : B → Type 0) (go : B → Program may A)
    → ((b : B) → Is b → Alike p (go b)) → Alike p (some Is go)
unfolding Alike
alike_some (done a) Is go each = each
alike_some (stops s own) Is go each = each
alike_some (reads name more) Is go each = each
alike_some (writes allowed name content p) Is go each = each
alike_some (puts piece p) Is go each = each
alike_some (takes allowed more) Is go each = each
alike_some (some Is' go') Is go each = λ b is. alike_some (go' b) Is go (λ c is'. each c is' b is)
alike_some (wants p) Is go each = alike_some p Is go each

pub alike_wants : {may : May} {A : Type 0} (p q : Program may A) → Alike p q → Alike p (wants q)
unfolding Alike
alike_wants (done a) q alike = alike
alike_wants (stops s own) q alike = alike
alike_wants (reads name go) q alike = alike
alike_wants (writes allowed name content p) q alike = alike
alike_wants (puts piece p) q alike = alike
alike_wants (takes allowed go) q alike = alike
alike_wants (some Is go) q alike = λ b is. alike_wants (go b) q (alike b is)
alike_wants (wants p) q alike = alike_wants p q alike

-- ---- one after another

ends_then :
    {may : May} {A B : Type 0} (a : A) (q : Program may A) (next next' : A → Program may B)
    → ((b : A) → Alike (next b) (next' b)) → EndsAlike (Ok a) q → Alike (next a) (then_with q next')
unfolding then_with
ends_then a (done b) next next' on alike = let same : a ≡ b = cc in subst (λ c. Alike (next a) (next' c)) same (on a)
ends_then a (stops s own) next next' on alike = absurd (cc)
ends_then a (some Is go) next next' on alike =
    alike_some (next a) Is (λ b. then_with (go b) next') (λ b is. ends_then a (go b) next next' on (alike b is))
ends_then a (wants q) next next' on alike = alike_wants (next a) (then_with q next') (ends_then a q next next' on alike)
ends_then a _ next next' on alike = absurd alike

stops_then :
    {may : May} {A B : Type 0} (s : Status) (q : Program may A) (next' : A → Program may B)
    → EndsAlike {A = A} (Err s) q → EndsAlike {A = B} (Err s) (then_with q next')
unfolding then_with
stops_then s (done b) next' alike = absurd (cc)
stops_then s (stops t own) next' alike = let same : s ≡ t = cc in ap (λ (u : Status). Err u) same
stops_then s (some Is go) next' alike = λ b is. stops_then s (go b) next' (alike b is)
stops_then s (wants q) next' alike = stops_then s q next' alike
stops_then s _ next' alike = absurd alike

reads_then :
    {may : May} {A B : Type 0} (name : List ℕ) (alike : Found → Program may A → Type 0)
    (alike' : Found → Program may B → Type 0) (q : Program may A) (next' : A → Program may B)
    → ((found : Found) (r : Program may A) → alike found r → alike' found (then_with r next'))
    → ReadsAlike name alike q → ReadsAlike name alike' (then_with q next')
unfolding then_with
reads_then name alike alike' (reads other go) next' on is = (is.0, λ found. on found (go found) (is.1 found))
reads_then name alike alike' (some Is go) next' on is = λ b at. reads_then name alike alike' (go b) next' on (is b at)
reads_then name alike alike' (wants q) next' on is = reads_then name alike alike' q next' on is
reads_then name alike alike' _ next' on is = absurd is

writes_then :
    {may : May} {A B : Type 0} (name content : List ℕ) (alike : Program may A → Type 0)
    (alike' : Program may B → Type 0) (q : Program may A) (next' : A → Program may B)
    → ((r : Program may A) → alike r → alike' (then_with r next'))
    → WritesAlike name content alike q → WritesAlike name content alike' (then_with q next')
unfolding then_with
writes_then name content alike alike' (writes allowed other others q) next' on is = (is.0, is.1, on q is.2)
writes_then name content alike alike' (some Is go) next' on is =
    λ b at. writes_then name content alike alike' (go b) next' on (is b at)
writes_then name content alike alike' (wants q) next' on is = writes_then name content alike alike' q next' on is
writes_then name content alike alike' _ next' on is = absurd is

puts_then :
    {may : May} {A B : Type 0} (piece : List ℕ) (alike : Program may A → Type 0) (alike' : Program may B → Type 0)
    (q : Program may A) (next' : A → Program may B)
    → ((r : Program may A) → alike r → alike' (then_with r next'))
    → PutsAlike piece alike q → PutsAlike piece alike' (then_with q next')
unfolding then_with
puts_then piece alike alike' (puts other q) next' on is = (is.0, on q is.1)
puts_then piece alike alike' (some Is go) next' on is = λ b at. puts_then piece alike alike' (go b) next' on (is b at)
puts_then piece alike alike' (wants q) next' on is = puts_then piece alike alike' q next' on is
puts_then piece alike alike' _ next' on is = absurd is

takes_then :
    {may : May} {A B : Type 0} (alike : List ℕ → Program may A → Type 0) (alike' : List ℕ → Program may B → Type 0)
    (q : Program may A) (next' : A → Program may B)
    → ((piece : List ℕ) (r : Program may A) → alike piece r → alike' piece (then_with r next'))
    → TakesAlike alike q → TakesAlike alike' (then_with q next')
unfolding then_with
takes_then alike alike' (takes allowed go) next' on is = λ piece. on piece (go piece) (is piece)
takes_then alike alike' (some Is go) next' on is = λ b at. takes_then alike alike' (go b) next' on (is b at)
takes_then alike alike' (wants q) next' on is = takes_then alike alike' q next' on is
takes_then alike alike' _ next' on is = absurd is

pub alike_then :
    {may : May} {A B : Type 0} (p q : Program may A) (next next' : A → Program may B)
    → Alike p q → ((a : A) → Alike (next a) (next' a)) → Alike (then_with p next) (then_with q next')
unfolding Alike then_with
alike_then (done a) q next next' alike on = ends_then a q next next' on alike
alike_then (stops s own) q next next' alike on = stops_then s q next' alike
alike_then (reads name go) q next next' alike on =
    reads_then name (λ found r. Alike (go found) r) (λ found r. Alike (then_with (go found) next) r) q next'
    (λ found r is. alike_then (go found) r next next' is on) alike
alike_then (writes allowed name content p) q next next' alike on =
    writes_then name content (λ r. Alike p r) (λ r. Alike (then_with p next) r) q next'
    (λ r is. alike_then p r next next' is on) alike
alike_then (puts piece p) q next next' alike on =
    puts_then piece (λ r. Alike p r) (λ r. Alike (then_with p next) r) q next'
    (λ r is. alike_then p r next next' is on) alike
alike_then (takes allowed go) q next next' alike on =
    takes_then (λ piece r. Alike (go piece) r) (λ piece r. Alike (then_with (go piece) next) r) q next'
    (λ piece r is. alike_then (go piece) r next next' is on) alike
alike_then (some Is go) q next next' alike on = λ b is. alike_then (go b) q next next' (alike b is) on
alike_then (wants p) q next next' alike on = alike_then p q next next' alike on

pub alike_puts :
    {may : May} {A : Type 0} (pieces : List (List ℕ)) (p q : Program may A) → Alike p q
    → Alike (puts_all pieces p) (puts_all pieces q)
unfolding Alike puts_all
alike_puts [] p q alike = alike
alike_puts (piece ∷ pieces) p q alike = (refl, alike_puts pieces p q alike)

-- the value with the property is unique
pub alike_one :
    {may : May} {A B : Type 0} (Is : B → Type 0) (go : B → Program may A)
    → ((b c : B) → Is b → Is c → b ≡ c) → ((b : B) → Is b → Alike (go b) (go b)) → Alike (some Is go) (some Is go)
unfolding Alike
alike_one Is go one each =
    λ b is. alike_some (go b) Is go (λ c is'. subst (λ d. Alike (go b) (go d)) (one b c is is') (each b is))

-- ---- calls

-- a program that takes no input
no_inputs :
    {A : Type 0} (may : May) (events : List Event) (result : Result A Status) → may.takes ≡ false
    → MayHappen may events result → inputs_of events ≡ []
no_inputs may [] result never trail = refl
no_inputs may (FileRead name answer ∷ more) result never trail =
    after_read answer (MayHappen may more result) more result (ap inputs_of)
    (λ on. no_inputs may more result never on) trail
no_inputs may (FileWrite name content answer ∷ more) result never trail =
    after_write answer (MayHappen may more result) more result (ap inputs_of)
    (λ on. no_inputs may more result never on) trail.1
no_inputs may (Output piece ∷ more) result never trail = no_inputs may more result never trail
no_inputs may (OutputFailed pieces ∷ more) result never trail = ap inputs_of trail.none
no_inputs may (Input piece ∷ more) result never trail = false_true may.takes never trail.0
no_inputs may (InputFailed ∷ more) result never trail = false_true may.takes never trail.0

-- Over the same files and input, a call puts a prefix of the pieces that any call puts that ends.
pub performs_one_text :
    {may : May} {A : Type 0} (p : Program may A) (files : Files) (result end : Result A Status)
    (old new old' new' : Seen)
    → Alike p p → IsEnd end → old.files ≡ Some files → old'.files ≡ Some files
    → (one : Performs p result old new) (other : Performs p end old' new')
    → SameInput (inputs_of one.events) (inputs_of other.events)
    → OneText (pieces_of one.events) (pieces_of other.events) result end
performs_one_text p files result end old new old' new' alike ended told told' one other input =
    one_text p one.events result end old new new' files ended told one.follow one.goes p other.events old' alike told'
    other.follow input other.goes

-- As above, for a program that takes no input.
pub performs_quiet_text :
    {may : May} {A : Type 0} (p : Program may A) (files : Files) (result end : Result A Status)
    (old new old' new' : Seen)
    → may.takes ≡ false → Alike p p → IsEnd end → old.files ≡ Some files → old'.files ≡ Some files
    → (one : Performs p result old new) (other : Performs p end old' new')
    → OneText (pieces_of one.events) (pieces_of other.events) result end
performs_quiet_text {may = may} p files result end old new old' new' never alike ended told told' one other =
    performs_one_text p files result end old new old' new' alike ended told told' one other
    (subst (λ l. SameInput l (inputs_of other.events))
    (sym (no_inputs may one.events result never (goes_trail p one.events result one.goes))) tt)

-- If the pieces are a prefix of a list, what is written grows by a prefix of its concatenation.
pub written_within :
    (answer : Put) (first all left : List (List ℕ)) (old new : SinkState)
    → all ≡ first ++ left → PutsPieces answer first old new → GrewWithin old.written new.written (joined all)
written_within Done first all left old new is put =
    subst (GrewWithin old.written new.written) (sym (ap joined is ∙ joined_both first left))
    (grew_longer old.written new.written (joined first) (joined left)
    (grew_within old.written new.written (joined first) put.text))
written_within Failed first all left old new is put =
    subst (GrewWithin old.written new.written) (sym (ap joined is ∙ joined_both first left))
    (grew_longer old.written new.written (joined first) (joined left) put.text)

-- So however the call ends, what is written grows by a prefix of the one text of these files.
pub performs_written :
    {may : May} {A : Type 0} (p : Program may A) (files : Files) (result end : Result A Status)
    (old new old' new' : Seen)
    → may.takes ≡ false → Alike p p → IsEnd end → old.files ≡ Some files → old'.files ≡ Some files
    → Performs p result old new → (other : Performs p end old' new')
    → GrewWithin old.written new.written (joined (pieces_of other.events))
performs_written p files result end old new old' new' never alike ended told told' one other =
    let text = performs_quiet_text p files result end old new old' new' never alike ended told told' one other in
    written_within (put_answer_of one.events) (pieces_of one.events) (pieces_of other.events) text.left
    (output_of old) (output_of new) text.is (performs_text p result old new one)

pub has_one_text : {may : May} (p : Program may (Unit {0})) → may.takes ≡ false → Alike p p → HasOneText p
has_one_text p never alike = record {
  alike = alike;
  one_text = λ files result end old new old' new' ended told told' one other.
      performs_quiet_text p files result end old new old' new' never alike ended told told' one other;
  written = λ files result end old new old' new' ended told told' one other.
      performs_written p files result end old new old' new' never alike ended told told' one other;
}

-- the bytes of a file
found_alike :
    (may : May) (name : List ℕ) (found : Found) → Alike {may = may} (bytes_found name found) (bytes_found name found)
unfolding Alike refuses
found_alike may name (Content bytes) = refl
found_alike may name Absent = refl
found_alike may name TooLarge = refl

pub bytes_alike : (may : May) (name : List ℕ) → Alike {may = may} (file_bytes name) (file_bytes name)
unfolding Alike file_bytes
bytes_alike may name = (refl, λ found. found_alike may name found)
