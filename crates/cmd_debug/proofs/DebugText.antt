-- Over the same files and the same bytes of input, calls of `debug FILE` put prefixes of one text.
use Rattle.std.proofs.Common.{◌≡◌, ◌⊎◌, ℕ, List, [], ◌++◌, Some, Result, Ok, Err}
use Rattle.std.proofs.Common.{refl, sym, ap, subst, ◌∙◌, inl, inr, arith}
use Rattle.m36_outside.specs.Files.{Files}
use Rattle.m36_outside.specs.declared.sink.Put.TheVariants.{Done}
use Rattle.m36_world.specs.Follow.{Follow}
use Rattle.m36_world.specs.Seen.{Seen}
use Rattle.m36_world.specs.declared.event.Event.{Event}
use Rattle.m36_world.proofs.Following.{follow_split}
use Rattle.m36_model.specs.Store.{State}
use Rattle.m36_step.specs.MachineFields.{MachineFields}
use Rattle.m36_step.specs.declared.turns.BackAnswer.{BackAnswer}
use Rattle.m36_step.specs.declared.turns.BackAnswer.TheVariants as back
use Rattle.m36_back.specs.History.{History, MayGoBack}
use Rattle.m36_status.specs.declared.status.Status.{Status}
use Rattle.m36_program.specs.Alike.{IsEnd, OneText}
use Rattle.m36_program.specs.Goes.{Goes}
use Rattle.m36_program.specs.Performs.{Performs}
use Rattle.m36_program.specs.Program.{wants}
use Rattle.m36_program.specs.Reader.{reader_result}
use Rattle.m36_program.specs.MayHappen.{output_of, pieces_of, put_answer_of}
use Rattle.m36_program.proofs.AlikeLaws.{written_within}
use Rattle.m36_program.proofs.ProgramLaws.{performs_text}
use Rattle.m36_program.proofs.ReaderLaws.{pieces_both, same_value, same_err, ok_err, err_end, reader_pieces, reader_input}
use Rattle.m36_program.proofs.ReaderLaws.{reader_outcome, reader_split}
use Rattle.m36_debug.specs.Session.{MachineRelations}
use Rattle.m36_debug.specs.SessionProgram.{talking, session}
use Rattle.m36_debug.specs.SessionText.{OneAnswer, IsDeterministic}
use Rattle.m36_debug.proofs.SessionText.{session_one_text}
use Rattle.cmd_image.specs.ImageProgram.{image_state}
use Rattle.cmd_image.proofs.ImageReads.{image_reader}
use Rattle.cmd_debug.specs.DebugProgram.{on_image, debug_image}
use Rattle.cmd_debug.specs.Held.{new_history, past_turning}
use Rattle.cmd_debug.specs.Sessions.{DebugTextLaw}
use Rattle.cmd_debug.proofs.DebugCalls.{not_end}
use Rattle.cmd_debug.proofs.FolderText.{folder_text}

-- ---- the machine of an image is deterministic

one_back :
    (before m m' : History MachineFields) (n : ℕ) (one other : BackAnswer)
    → MayGoBack before n one m → MayGoBack before n other m' → OneAnswer back.NoMemory one other m m'
one_back before m m' n back.NoMemory other went went' = inl refl
one_back before m m' n one back.NoMemory went went' = inr (inl refl)
one_back before m m' n back.Done back.Done went went' = inr (inr (refl, went.1 ∙ sym went'.1))
one_back before m m' n back.Done (back.Before taken) went went' = absurd (omega (arith, went.0, went'.0))
one_back before m m' n (back.Before taken) back.Done went went' = absurd (omega (arith, went.0, went'.0))
one_back before m m' n (back.Before taken) (back.Before taken') went went' =
    inr (inr (ap (λ t. back.Before t) (went.1 ∙ sym went'.1), went.2 ∙ sym went'.2))
one_back before m m' n back.Unable other went went' = absurd went
one_back before m m' n one back.Unable went went' = absurd went'

image_deterministic : IsDeterministic past_turning
image_deterministic = record {
  turns = λ before m m' one other turns turns'. inr (inr (turns.0 ∙ sym turns'.0, turns.1 ∙ sym turns'.1));
  goes_back = λ before m m' n one other went went'. one_back before m m' n one other went went';
}

-- ---- a session over it

-- nothing was put, and the call did not end
nothing_put :
    (events others : List Event) (result end : Result (Unit {0}) Status) → pieces_of events ≡ []
    → (IsEnd result → (pieces_of others ≡ []) × (result ≡ end)) → OneText (pieces_of events) (pieces_of others) result
    end
nothing_put events others result end none ended =
    record { left = pieces_of others; is = ap (λ l. l ++ pieces_of others) (sym none); ended = ended }

wants_text :
    {M : Type 0} (o : MachineRelations M) (m : M) (bytes : List ℕ) (result end : Result (Unit {0}) Status)
    (old new old' new' : Seen) (events others : List Event)
    → IsDeterministic o → IsEnd end → old.left ≡ Some bytes → old'.left ≡ Some bytes
    → Follow events old new → Follow others old' new'
    → Goes (wants (session o m)) events result → Goes (wants (session o m)) others end
    → OneText (pieces_of events) (pieces_of others) result end
unfolding Goes
wants_text o m bytes result end old new old' new' events others one is_end left left' follow follow' (inl goes)
    (inl goes') =
    session_one_text o m bytes result end old new old' new' one is_end left left'
    (record { events = events; follow = follow; goes = goes }) (record
    { events = others; follow = follow'; goes = goes' })
wants_text o m bytes result end old new old' new' events others one is_end left left' follow follow' (inr ends) goes' =
    nothing_put events others result end (ap pieces_of ends.none) (λ ended. not_end result ends.result_is ended)
wants_text o m bytes result end old new old' new' events others one is_end left left' follow follow' (inl goes)
    (inr ends') =
    not_end end ends'.result_is is_end

image_text :
    (state : State (List ℕ)) (bytes : List ℕ) (result end : Result (Unit {0}) Status) (old new old' new' : Seen)
    (events others : List Event)
    → IsEnd end → old.left ≡ Some bytes → old'.left ≡ Some bytes → Follow events old new → Follow others old' new'
    → Goes (on_image state) events result → Goes (on_image state) others end → OneText (pieces_of events)
    (pieces_of others) result end
unfolding on_image
image_text state bytes result end old new old' new' events others is_end left left' follow follow' goes goes' =
    wants_text past_turning (new_history state) bytes result end old new old' new' events others image_deterministic
    is_end left left' follow follow' goes goes'

-- ---- a call

-- A value was read in a call, and the pieces of the call are those of what followed.
record Read (name : List ℕ) (files : Files) (events : List Event) (result : Result (Unit {0}) Status) (old new : Seen)
    : Type 0 where
  value : State (List ℕ)
  outcome : reader_result files (image_state {may = talking} name) ≡ Some (Ok value)
  between : Seen
  left : between.left ≡ old.left
  more : List Event
  pieces : pieces_of events ≡ pieces_of more
  follow : Follow more between new
  goes : Goes (on_image value) more result

-- The reader ended the call.
record Refused (name : List ℕ) (files : Files) (events : List Event) (result : Result (Unit {0}) Status) : Type 0 where
  status : Status
  result_is : result ≡ Err status
  outcome : IsEnd result → reader_result files (image_state {may = talking} name) ≡ Some (Err status)
  pieces : pieces_of events ≡ []

abbrev ReadOrRefused : List ℕ → Files → List Event → Result (Unit {0}) Status → Seen → Seen → Type 0
ReadOrRefused name files events result old new = Read name files events result old new ⊎ Refused name files events
    result

read_or_refused :
    (name : List ℕ) (files : Files) (result : Result (Unit {0}) Status) (old new : Seen) → old.files ≡ Some files
    → (performs : Performs (debug_image name) result old new) → ReadOrRefused name files performs.events result old new
unfolding debug_image
read_or_refused name files result old new told performs =
    elim (reader_split (image_state name) on_image performs.events result (image_reader talking name) performs.goes) [
      | inl both ↦
          let parts = follow_split both.first both.more old new (subst (λ e. Follow e old new) both.is
          performs.follow) in
          let begins : Performs {may = talking} (image_state name) (Ok both.value) old parts.between =
          record { events = both.first; follow = parts.begins; goes = both.begins } in
          inl (record {
            value = both.value;
            outcome = reader_outcome (image_state name) files (Ok both.value) old parts.between
                (image_reader talking name) told tt begins;
            between = parts.between;
            left = (reader_input (image_state name) (Ok both.value) old parts.between (image_reader talking name)
                begins).left;
            more = both.more;
            pieces =
                ap pieces_of both.is
                ∙ pieces_both both.first both.more
                ∙ ap (λ l. l ++ pieces_of both.more)
                (reader_pieces (image_state name) both.first (Ok both.value) (image_reader talking name) both.begins);
            follow = parts.goes_on;
            goes = both.goes_on;
          })
      | inr ends ↦ inr (record {
        status = ends.status;
        result_is = ends.result_is;
        outcome = λ ended. reader_outcome (image_state name) files (Err ends.status) old new (image_reader talking name)
            told
            (err_end (State (List ℕ)) (Unit {0}) result ends.status ends.result_is ended)
            (record { events = performs.events; follow = performs.follow; goes = ends.goes });
        pieces = reader_pieces (image_state name) performs.events (Err ends.status) (image_reader talking name)
            ends.goes;
      })
    ]

both_text :
    (name : List ℕ) (files : Files) (bytes : List ℕ) (events others : List Event)
    (result end : Result (Unit {0}) Status) (old new old' new' : Seen)
    → IsEnd end → old.left ≡ Some bytes → old'.left ≡ Some bytes
    → ReadOrRefused name files events result old new → ReadOrRefused name files others end old' new'
    → OneText (pieces_of events) (pieces_of others) result end
both_text name files bytes events others result end old new old' new' is_end left left' (inl one) (inl other) =
    let same : other.value ≡ one.value = same_value other.value one.value (sym other.outcome ∙ one.outcome) in
    subst (λ l. OneText l (pieces_of others) result end) (sym one.pieces)
    (subst (λ l. OneText (pieces_of one.more) l result end) (sym other.pieces)
    (image_text one.value bytes result end one.between new other.between new' one.more other.more is_end
    (one.left ∙ left) (other.left ∙ left') one.follow other.follow one.goes
    (subst (λ v. Goes (on_image v) other.more end) same other.goes)))
both_text name files bytes events others result end old new old' new' is_end left left' (inl one) (inr other) =
    ok_err one.value other.status (sym one.outcome ∙ other.outcome is_end)
both_text name files bytes events others result end old new old' new' is_end left left' (inr one) (inl other) =
    nothing_put events others result end one.pieces
    (λ ended. ok_err other.value one.status (sym other.outcome ∙ one.outcome ended))
both_text name files bytes events others result end old new old' new' is_end left left' (inr one) (inr other) =
    nothing_put events others result end one.pieces
    (λ ended. (
      other.pieces,
      one.result_is
          ∙ ap (λ s. Err s) (same_err one.status other.status (sym (one.outcome ended) ∙ other.outcome is_end))
          ∙ sym other.result_is,
    ))

call_text :
    (name : List ℕ) (files : Files) (bytes : List ℕ) (result end : Result (Unit {0}) Status) (old new old' new' : Seen)
    → IsEnd end → old.files ≡ Some files → old'.files ≡ Some files → old.left ≡ Some bytes → old'.left ≡ Some bytes
    → (one : Performs (debug_image name) result old new) (other : Performs (debug_image name) end old' new')
    → OneText (pieces_of one.events) (pieces_of other.events) result end
call_text name files bytes result end old new old' new' is_end told told' left left' one other =
    both_text name files bytes one.events other.events result end old new old' new' is_end left left'
    (read_or_refused name files result old new told one) (read_or_refused name files end old' new' told' other)

pub debug_text_law : DebugTextLaw
debug_text_law = record {
  one_text = λ name files bytes result end old new old' new' is_end told told' left left' one other.
      call_text name files bytes result end old new old' new' is_end told told' left left' one other;
  written = λ name files bytes result end old new old' new' is_end told told' left left' one other.
      let text = call_text name files bytes result end old new old' new' is_end told told' left left' one other in
      written_within (put_answer_of one.events) (pieces_of one.events) (pieces_of other.events) text.left (output_of old)
      (output_of new) text.is
      (performs_text (debug_image name) result old new one);
  folder = λ files bytes result end old new old' new' is_end told told' left left' one other.
      folder_text files bytes result end old new old' new' is_end told told' left left' one other;
}
