-- A call that performs the program of `debug FILE` or of `debug` reads, and then holds a session.
use Rattle.std.proofs.Common.{◌≡◌, ℕ, List, [], ◌∷◌, ◌++◌, Result, Ok, Err, refl, sym, ap, subst, ◌∙◌, inl, inr}
use Rattle.std.proofs.lemmas.List.{append-nil}
use Rattle.std.specs.Prelude.{None}
use Rattle.m36_outside.specs.Putting.{PutsPieces}
use Rattle.m36_outside.specs.declared.sink.Put.{Put}
use Rattle.m36_outside.specs.declared.sink.Put.TheVariants.{Done}
use Rattle.m36_outside.proofs.Grown.{appended-nil}
use Rattle.m36_world.specs.Follow.{Follow}
use Rattle.m36_world.specs.Seen.{Seen}
use Rattle.m36_world.specs.declared.event.Event.{Event}
use Rattle.m36_world.proofs.Following.{follow_split, follow_logs}
use Rattle.m36_model.specs.Store.{State}
use Rattle.m36_super.specs.BootResult.{IsBooted}
use Rattle.m36_super.specs.Library.{Library}
use Rattle.m36_super.specs.SuperFields.{SuperFields}
use Rattle.m36_status.specs.declared.status.Status.{Status}
use Rattle.m36_status.specs.declared.status.Status.TheVariants as status
use Rattle.m36_program.specs.Alike.{IsEnd}
use Rattle.m36_program.specs.Goes.{Chosen, Goes}
use Rattle.m36_program.specs.Objects.{PerformsOver}
use Rattle.m36_program.specs.Performs.{Performs}
use Rattle.m36_program.specs.Program.{May, Program, done, stops, reads, writes, puts, takes, some, wants, then_with}
use Rattle.m36_program.specs.Reader.{IsReader}
use Rattle.m36_program.specs.MayHappen.{output_of, pieces_of, put_answer_of}
use Rattle.m36_program.proofs.KeptLaws.{after_read, passed_none}
use Rattle.m36_program.proofs.Objects.{over_performs, world_before, world_after}
use Rattle.m36_program.proofs.ProgramLaws.{performs_text}
use Rattle.m36_program.proofs.ReaderLaws.{reader_pieces, reader_files, reader_input, reader_split, read_by}
use Rattle.m36_program.proofs.TrailLaws.{read_map}
use Rattle.cmd_folder.specs.Folder.{FolderFields}
use Rattle.m36_debug.specs.Session.{MachineRelations}
use Rattle.m36_debug.specs.SessionProgram.{talking, Talk, session}
use Rattle.m36_debug.proofs.SessionText.{is_held, session_done}
use Rattle.cmd_image.specs.ImageProgram.{image_state}
use Rattle.cmd_image.proofs.ImageReads.{image_reader}
use Rattle.cmd_folder.specs.FolderProgram.{folder_given}
use Rattle.cmd_folder.proofs.FolderReader.{folder_reader}
use Rattle.cmd_debug.specs.DebugProgram.{on_image, on_library, on_folder, debug_image, debug_folder}
use Rattle.cmd_debug.specs.Held.{new_history, past_turning, super_turning}
use Rattle.cmd_debug.specs.Needs.{SessionNeeds}
use Rattle.cmd_debug.specs.Sessions.{NothingDone, IsHeldOver, HoldsImage, HoldsFolder, IsDebugCall, IsImageCall}
use Rattle.cmd_debug.specs.Sessions.{IsFolderCall, DebugLaw}

-- ---- pieces

-- ---- a reader puts nothing

reader_put :
    {may : May} {A : Type 0} (p : Program may A) (events : List Event) (result : Result A Status) → IsReader p
    → Goes p events result → put_answer_of events ≡ Done
unfolding IsReader Goes
reader_put (done a) events result is goes = ap put_answer_of goes.none
reader_put (stops s own) events result is goes = ap put_answer_of goes.none
reader_put (reads name go) events result is goes =
    ap put_answer_of goes.first
    ∙ after_read goes.answer (put_answer_of goes.more ≡ Done) goes.more result (ap put_answer_of) (λ on. on)
    (read_map goes.answer _ (λ found more. put_answer_of goes.more ≡ Done) goes.more result
    (λ found on. reader_put (go found) goes.more result (is found) on) goes.rest)
reader_put (writes allowed name content p) events result is goes = absurd is
reader_put (puts piece p) events result is goes = absurd is
reader_put (takes allowed go) events result is goes = absurd is
reader_put (some Is go) events result is goes = absurd (is goes.value goes.is)
reader_put (wants p) events result is (inl goes) = reader_put p events result is goes
reader_put (wants p) events result is (inr ends) = ap put_answer_of ends.none

none_put : (old new : Seen) → PutsPieces Done [] (output_of old) (output_of new) → output_of new ≡ output_of old
none_put old new put =
    let text : new.written ≡ old.written = put.text ∙ appended-nil old.written in
    let pieces : new.outputs ≡ old.outputs = put.pieces ∙ append-nil old.outputs in
    let faults : new.output_faults ≡ old.output_faults = put.faults in
    λ i. record { written = text i; taken = pieces i; faults = faults i }

reader_nothing :
    {A : Type 0} (p : Program talking A) (result : Result A Status) (old new : Seen) → IsReader p
    → Performs p result old new → NothingDone old new
reader_nothing p result old new is performs = record {
  files = reader_files p result old new is performs;
  input = reader_input p result old new is performs;
  output = none_put old new
      (subst (λ l. PutsPieces Done l (output_of old) (output_of new)) (reader_pieces p performs.events result is
      performs.goes)
      (subst (λ (put : Put). PutsPieces put (pieces_of performs.events) (output_of old) (output_of new))
      (reader_put p performs.events result is performs.goes) (performs_text p result old new performs)));
}

nothing_at : (seen : Seen) → NothingDone seen seen
nothing_at seen = record {
  files = record { files = refl; writes = refl; faults = refl };
  input = record { left = refl; inputs = refl; faults = refl };
  output = refl;
}

-- ---- a session

held_over :
    {M : Type 0} (o : MachineRelations M) (m : M) (result : Result (Unit {0}) Status) (old new : Seen)
    → Performs (wants (session o m)) result old new → IsHeldOver o m result old new
unfolding Goes
held_over o m result old new performs =
    elim performs.goes [
      | inl goes ↦ inl (is_held o m result old new (record {
        events = performs.events;
        follow = performs.follow;
        goes =
            goes;
      }))
      | inr ends ↦ inr (record {
        result_is = ends.result_is;
        nothing = subst (NothingDone old) (sym (passed_none performs.events old new ends.none performs.follow))
            (nothing_at old);
      })
    ]

image_held :
    (state : State (List ℕ)) (result : Result (Unit {0}) Status) (old new : Seen)
    → Performs (on_image state) result old new → HoldsImage state result old new
unfolding on_image
image_held state result old new performs = held_over past_turning (new_history state) result old new performs

abbrev over : SuperFields → Talk
over system = wants (session super_turning system)

pub chosen_system :
    (lib : Library) (events : List Event) (result : Result (Unit {0}) Status)
    → Goes (on_library lib) events result → Chosen (IsBooted lib) (λ system. Goes (over system) events result)
unfolding Goes on_library
chosen_system lib events result goes = goes

folder_held :
    (given : FolderFields) (result : Result (Unit {0}) Status) (old new : Seen)
    → Performs (on_folder given) result old new → HoldsFolder given result old new
folder_held given result old new performs =
    let chosen = chosen_system given.lib performs.events result performs.goes in
    record {
      system = chosen.value;
      booted = chosen.is;
      held = held_over super_turning chosen.value result old new
          (record { events = performs.events; follow = performs.follow; goes = chosen.rest });
    }

-- ---- a call

read_and_held :
    {A : Type 0} (reader : Program talking A) (next : A → Talk) (Holds : A → Result (Unit {0}) Status → Seen → Seen
    → Type 0)
    (result : Result (Unit {0}) Status) (old new : Seen)
    → IsReader reader
    → ((value : A) (between : Seen) → Performs (next value) result between new → Holds value result between new)
    → Performs (then_with reader next) result old new → IsDebugCall reader Holds result old new
read_and_held reader next Holds result old new is on performs =
    elim (reader_split reader next performs.events result is performs.goes) [
      | inl both ↦
          let follow : Follow (both.first ++ both.more) old new = subst (λ e. Follow e old new) both.is
          performs.follow in
          let parts = follow_split both.first both.more old new follow in
          let begins : Performs reader (Ok both.value) old parts.between =
          record { events = both.first; follow = parts.begins; goes = both.begins } in
          inl (record {
            value = both.value;
            read = read_by reader both.value both.first both.more old new is follow both.begins;
            between = parts.between;
            nothing = reader_nothing reader (Ok both.value) old parts.between is begins;
            held = on both.value parts.between (record {
              events = both.more;
              follow = parts.goes_on;
              goes = both.goes_on;
            });
          })
      | inr ends ↦ inr (record {
        status = ends.status;
        result_is = ends.result_is;
        events = performs.events;
        goes = ends.goes;
        logged = (follow_logs performs.events old new performs.follow).reads;
        nothing = reader_nothing reader (Err ends.status) old new is
            (record { events = performs.events; follow = performs.follow; goes = ends.goes });
      })
    ]

image_call :
    (name : List ℕ) (result : Result (Unit {0}) Status) (old new : Seen)
    → Performs (debug_image name) result old new → IsImageCall name result old new
unfolding debug_image
image_call name result old new performs =
    read_and_held (image_state name) on_image HoldsImage result old new (image_reader talking name)
    (λ state between on. image_held state result between new on) performs

folder_call :
    (result : Result (Unit {0}) Status) (old new : Seen)
    → Performs debug_folder result old new → IsFolderCall result old new
unfolding debug_folder
folder_call result old new performs =
    read_and_held (folder_given None) on_folder HoldsFolder result old new (folder_reader talking None)
    (λ given between on. folder_held given result between new on) performs

-- ---- over three objects: the same of the states without events and references

held_later :
    {M : Type 0} (o : MachineRelations M) (m : M) (result : Result (Unit {0}) Status) (old new : Seen) (events : List Event)
    (references : List ℕ)
    → IsHeldOver o m result old (record new { events = events; references = references }) → IsHeldOver o m result old
    new
held_later o m result old new events references (inl held) = inl (record {
  ended = held.ended;
  result_is = held.result_is;
  later = held.later;
  says = record { lines = held.says.lines; session = held.says.session; wrote = held.says.wrote };
  reads = held.reads;
  read_faults = held.read_faults;
})
held_later o m result old new events references (inr none) = inr (record {
  result_is = none.result_is;
  nothing = record {
    files = record {
      files = none.nothing.files.files;
      writes = none.nothing.files.writes;
      faults =
          none.nothing.files.faults;
    };
    input = record {
      left = none.nothing.input.left;
      inputs = none.nothing.input.inputs;
      faults =
          none.nothing.input.faults;
    };
    output = none.nothing.output;
  };
})

call_over :
    {A : Type 0} (reader : Program talking A) (Holds : A → Result (Unit {0}) Status → Seen → Seen → Type 0)
    (result : Result (Unit {0}) Status) (old new : Seen) (events : List Event) (before after : List ℕ)
    → ((value : A) (between : Seen) → Holds value result between (record new { events = events; references = after })
    → Holds value result between new)
    → IsDebugCall reader Holds result (record old { references = before })
    (record new { events = events; references = after })
    → IsDebugCall reader Holds result old new
call_over reader Holds result old new events before after on (inl held) = inl (record {
  value = held.value;
  read = record {
    first = held.read.first;
    goes = held.read.goes;
    later = held.read.later;
    logged = held.read.logged;
    by_files = held.read.by_files;
  };
  between = held.between;
  nothing = record {
    files = record {
      files = held.nothing.files.files;
      writes = held.nothing.files.writes;
      faults =
          held.nothing.files.faults;
    };
    input = record {
      left = held.nothing.input.left;
      inputs = held.nothing.input.inputs;
      faults =
          held.nothing.input.faults;
    };
    output = held.nothing.output;
  };
  held = on held.value held.between held.held;
})
call_over reader Holds result old new events before after on (inr none) = inr (record {
  status = none.status;
  result_is = none.result_is;
  events = none.events;
  goes = none.goes;
  logged = none.logged;
  nothing = record {
    files = record {
      files = none.nothing.files.files;
      writes = none.nothing.files.writes;
      faults =
          none.nothing.files.faults;
    };
    input = record {
      left = none.nothing.input.left;
      inputs = none.nothing.input.inputs;
      faults =
          none.nothing.input.faults;
    };
    output = none.nothing.output;
  };
})

image_call_over :
    (name : List ℕ) (result : Result (Unit {0}) Status) (old new : Seen)
    → PerformsOver (debug_image name) result old new → IsImageCall name result old new
image_call_over name result old new over =
    call_over (image_state name) HoldsImage result old new (old.events ++ over.events) over.references over.references
    (λ state between held. held_later past_turning (new_history state) result between new (old.events ++ over.events)
    over.references held)
    (image_call name result (world_before over) (world_after over) (over_performs over))

folder_call_over :
    (result : Result (Unit {0}) Status) (old new : Seen)
    → PerformsOver debug_folder result old new → IsFolderCall result old new
folder_call_over result old new over =
    call_over (folder_given None) HoldsFolder result old new (old.events ++ over.events) over.references over.references
    (λ given between held. record {
      system = held.system;
      booted = held.booted;
      held = held_later super_turning held.system result between new (old.events ++ over.events) over.references
          held.held;
    })
    (folder_call result (world_before over) (world_after over) (over_performs over))

pub debug_law : DebugLaw
debug_law = record {
  image = λ name result old new performs. image_call name result old new performs;
  folder = λ result old new performs. folder_call result old new performs;
  image_over = λ name result old new over. image_call_over name result old new over;
  folder_over = λ result old new over. folder_call_over result old new over;
}

-- ---- an end with Done

pub not_end : {P : Type 0} (result : Result (Unit {0}) Status) → result ≡ Err status.NoMemory → IsEnd result → P
not_end result is ended = absurd (let end : IsEnd {A = Unit {0}} (Err status.NoMemory) = subst IsEnd is ended in end)

held_done :
    {M : Type 0} (o : MachineRelations M) (m : M) (events : List Event) (result : Result (Unit {0}) Status) (old new : Seen)
    → SessionNeeds old.left → Goes (wants (session o m)) events result → Follow events old new → IsEnd result → result ≡
    Ok tt
unfolding Goes
held_done o m events result old new needs (inl goes) follow ended =
    session_done o m needs.bytes result old new needs.known needs.short
    (record { events = events; follow = follow; goes = goes }) ended
held_done o m events result old new needs (inr ends) follow ended = not_end result ends.result_is ended

-- What follows the reader of `debug FILE` ends with Done, if it ends and the input is not too long.
pub image_done :
    (state : State (List ℕ)) (result : Result (Unit {0}) Status) (old new : Seen)
    → SessionNeeds old.left → Performs (on_image state) result old new → IsEnd result → result ≡ Ok tt
unfolding on_image
image_done state result old new needs performs ended =
    held_done past_turning (new_history state) performs.events result old new needs performs.goes performs.follow ended

-- The same of `debug`.
pub folder_done :
    (given : FolderFields) (result : Result (Unit {0}) Status) (old new : Seen)
    → SessionNeeds old.left → Performs (on_folder given) result old new → IsEnd result → result ≡ Ok tt
folder_done given result old new needs performs ended =
    let chosen = chosen_system given.lib performs.events result performs.goes in
    held_done super_turning chosen.value performs.events result old new needs chosen.rest performs.follow ended
