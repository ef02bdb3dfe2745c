-- What is left of a session's program after a piece was taken and the answers to its lines were put.
use Rattle.std.proofs.Common.{◌≤◌, ℕ, List, [], ◌∷◌, ◌++◌, length, Ok, Err, refl, sym, subst, inl, inr}
use Rattle.std.proofs.lemmas.List.{append_assoc}
use Rattle.m36_text.specs.Lines.{open_last_line}
use Rattle.m36_world.specs.Happened.{IsInput, IsInputFailed}
use Rattle.m36_world.specs.Seen.{Seen}
use Rattle.m36_world.specs.declared.event.Event.TheVariants.{Input, InputFailed}
use Rattle.m36_world.proofs.Following.{follow_on, follow_one, follow_none}
use Rattle.m36_status.specs.declared.status.Status.TheVariants.{ReadFault, WriteFault, NoMemory}
use Rattle.m36_program.specs.Goes.{Goes}
use Rattle.m36_program.specs.Gathered.{Gathers, Loses}
use Rattle.m36_program.specs.Performs.{Performs, Leads}
use Rattle.m36_program.specs.Program.{done, some, puts_all}
use Rattle.m36_program.proofs.LeadLaws.{leads_some, leads_empty, leads_gathers, leads_lost, leads_ends}
use Rattle.m36_program.proofs.Performing.{goes_no_memory}
use Rattle.m36_debug.specs.Parts.{LineContract}
use Rattle.m36_debug.specs.PieceContract.{AnsweredAll, AnsweredQuit, AnsweredSome, AnsweredCut}
use Rattle.m36_debug.specs.Putting.{pending}
use Rattle.m36_debug.specs.Replies.{Reply, All, Quits, Breaks, IsReply, IsLastReply}
use Rattle.m36_debug.specs.Session.{MachineRelations, Waiting, Starved, standing, texts_of}
use Rattle.m36_debug.specs.SessionProgram.{Talk, starves, takes_within, on_reply, replies, answer_at_end, ended_by}
use Rattle.m36_debug.specs.SessionContract.{session_result}
use Rattle.m36_debug.specs.SessionState.{SessionStateFields}
use Rattle.m36_debug.specs.declared.machine_relations.LineResult.{LineResult}
use Rattle.m36_debug.specs.declared.machine_relations.LineResult.TheVariants as ends

-- ---- a piece of input

-- a piece was taken
pub leads_taken :
    (most : ℕ) (go : List ℕ → Talk) (first : Talk) (piece : List ℕ) (old between new : Seen)
    → Leads (takes_within most go) first old between → IsInput piece between new → length piece ≤ most
    → Leads (go piece) first old new
unfolding Goes takes_within
leads_taken most go first piece old between new left did within = record {
  events = left.events ++ Input piece ∷ [];
  follow = follow_on left.events (Input piece ∷ []) old between new left.follow (follow_one (Input piece) between new did);
  leads = λ more result goes.
      subst (λ events. Goes first events result) (sym (append_assoc left.events (Input piece ∷ []) more))
      (left.leads (Input piece ∷ more) result (inl (record {
        piece = piece;
        more = more;
        first = refl;
        rest = record { value = tt; is = within; rest = goes };
      })));
}

-- the input failed
pub leads_untaken :
    (most : ℕ) (go : List ℕ → Talk) (first : Talk) (old between new : Seen)
    → Leads (takes_within most go) first old between → IsInputFailed between new
    → Performs first (Err ReadFault) old new
unfolding Goes takes_within
leads_untaken most go first old between new left did =
    leads_ends (takes_within most go) first (Err ReadFault) old between new left (record {
      events = InputFailed ∷ [];
      follow = follow_one InputFailed between new did;
      goes = inr (record { only = refl; result_is = refl });
    })

-- ---- replies

-- the answers are these
leads_reply :
    {M : Type 0} (Is : Reply M → Type 0) (on : List ℕ → SessionStateFields → M → Talk) (reply : Reply M) (first : Talk) (old new : Seen)
    → Is reply → Leads (replies Is on) first old new → Leads (on_reply on reply) first old new
unfolding replies
leads_reply Is on reply first old new is left = leads_some Is (on_reply on) reply first old new is left

-- no line waits in the block before the answers
leads_none :
    (more : List (List ℕ)) (rest first : Talk) (old new : Seen)
    → Leads (puts_all more rest) first old new → Leads (puts_all [] (puts_all more rest)) first old new
leads_none more rest first old new left = leads_empty [] (puts_all more rest) first old new refl left

-- all lines were answered
pub replied_all :
    {M : Type 0} (Is : Reply M → Type 0) (on : List ℕ → SessionStateFields → M → Talk) (written : List (List ℕ)) (kept : List ℕ) (s : SessionStateFields) (m : M)
    (first : Talk) (old between new : Seen)
    → Is (All written kept s m) → Leads (replies Is on) first old between → Gathers [] [] written between new
    → Leads (on kept s m) first old new
unfolding puts_all
replied_all Is on written kept s m first old between new is left gathers =
    leads_gathers [] [] written (on kept s m) first old between new
    (leads_none written (on kept s m) first old between (leads_reply Is on (All written kept s m) first old between is left)) gathers

-- the last was `quit`
pub replied_quit :
    {M : Type 0} (Is : Reply M → Type 0) (on : List ℕ → SessionStateFields → M → Talk) (written : List (List ℕ)) (first : Talk) (old between new : Seen)
    → Is (Quits written) → Leads (replies Is on) first old between → Gathers [] [] written between new
    → Performs first (Ok tt) old new
unfolding puts_all Goes
replied_quit Is on written first old between new is left gathers =
    leads_ends (done tt) first (Ok tt) old new new
    (leads_gathers [] [] written (done tt) first old between new
    (leads_none written (done tt) first old between (leads_reply Is on (Quits written) first old between is left)) gathers)
    (record { events = []; follow = follow_none new; goes = record { none = refl; result_is = refl } })

goes_starved : Goes starves [] (Err NoMemory)
unfolding starves
goes_starved = goes_no_memory (some (λ (u : Unit {0}). ⊥) (λ u. done tt))

-- memory ran out
pub replied_starved :
    {M : Type 0} (Is : Reply M → Type 0) (on : List ℕ → SessionStateFields → M → Talk) (written : List (List ℕ)) (first : Talk) (old between new : Seen)
    → Is (Breaks written) → Leads (replies Is on) first old between → Gathers [] [] written between new
    → Performs first (Err NoMemory) old new
unfolding puts_all
replied_starved Is on written first old between new is left gathers =
    leads_ends starves first (Err NoMemory) old new new
    (leads_gathers [] [] written starves first old between new
    (leads_none written starves first old between (leads_reply Is on (Breaks written) first old between is left)) gathers)
    (record { events = []; follow = follow_none new; goes = goes_starved })

-- the output failed
pub replied_cut :
    {M : Type 0} (Is : Reply M → Type 0) (on : List ℕ → SessionStateFields → M → Talk) (written : List (List ℕ)) (first : Talk) (old between new : Seen)
    → Is (Breaks written) → Leads (replies Is on) first old between → Loses ([] ++ written) between new
    → Performs first (Err WriteFault) old new
replied_cut Is on written first old between new is left loses =
    leads_lost [] written starves first old between new
    (leads_none written starves first old between (leads_reply Is on (Breaks written) first old between is left)) loses

goes_done : Goes (let p : Talk = done tt in p) [] (Ok tt)
unfolding Goes
goes_done = record { none = refl; result_is = refl }

-- ---- the end of the input

-- the last line was answered, if there was one
pub ended_so :
    {M : Type 0} (o : MachineRelations M) (end : LineResult) (begun : List ℕ) (s sitting : SessionStateFields) (m m' : M) (first : Talk) (old between new : Seen)
    → Leads (answer_at_end o begun s m) first old between
    → LineContract o end (standing s Waiting) m (open_last_line begun) sitting m' (pending [] between) (pending [] new)
    → Performs first (ended_by (session_result end)) old new
ended_so o ends.Line begun s sitting m m' first old between new left said =
    let written = texts_of o (standing s Waiting) said.events in
    leads_ends (done tt) first (Ok tt) old new new
    (replied_all (IsLastReply o (standing s Waiting) m begun) (λ kept sitting later. done tt) written [] sitting m' first old between new
    (record { events = said.events; follow = said.follow; took = said.took; said = refl }) left said.wrote)
    (record { events = []; follow = follow_none new; goes = goes_done })
ended_so o ends.Quit begun s sitting m m' first old between new left said =
    replied_quit (IsLastReply o (standing s Waiting) m begun) (λ kept sitting later. done tt) (texts_of o (standing s Waiting) said.events) first old between new
    (record {
      sitting = sitting;
      machine = m';
      happens = record { events = said.events; follow = said.follow; took = said.took; said = refl };
    })
    left said.wrote
ended_so o ends.Starved begun s sitting m m' first old between new left said =
    replied_starved (IsLastReply o (standing s Waiting) m begun) (λ kept sitting later. done tt) (texts_of o (standing s Waiting) said.events) first old between new
    (record {
      stands = standing sitting Starved;
      machine = m';
      happens = record { events = said.events; follow = said.follow; took = said.took; said = refl };
    })
    left said.wrote
ended_so o ends.Cut begun s sitting m m' first old between new left said =
    replied_cut (IsLastReply o (standing s Waiting) m begun) (λ kept sitting later. done tt) (texts_of o (standing s Waiting) said.part.events) first old between new
    (record {
      stands = said.stands;
      machine = m';
      happens = record { events = said.part.events; follow = said.part.follow; took = said.part.took; said = refl };
    })
    left said.part.wrote

-- ---- the lines of a piece

-- all whole lines of a piece were answered
pub piece_all :
    {M : Type 0} (o : MachineRelations M) (text kept : List ℕ) (s sitting : SessionStateFields) (m m' : M) (on : List ℕ → SessionStateFields → M → Talk) (first : Talk)
    (old between new : Seen)
    → Leads (replies (IsReply o (standing s Waiting) m text) on) first old between
    → AnsweredAll o (standing s Waiting) m text kept sitting m' (pending [] between) (pending [] new)
    → Leads (on kept sitting m') first old new
piece_all o text kept s sitting m m' on first old between new left said =
    replied_all (IsReply o (standing s Waiting) m text) on (texts_of o (standing s Waiting) said.part.events) kept sitting m' first old between new
    (record {
      lines = said.lines;
      is = said.is;
      unbroken = said.unbroken;
      happens = record { events = said.part.events; follow = said.part.follow; took = said.part.took; said = refl };
    })
    left said.part.wrote

pub piece_quit :
    {M : Type 0} (o : MachineRelations M) (text : List ℕ) (s sitting : SessionStateFields) (m m' : M) (on : List ℕ → SessionStateFields → M → Talk) (first : Talk)
    (old between new : Seen)
    → Leads (replies (IsReply o (standing s Waiting) m text) on) first old between
    → AnsweredQuit o (standing s Waiting) m text sitting m' (pending [] between) (pending [] new)
    → Performs first (Ok tt) old new
piece_quit o text s sitting m m' on first old between new left said =
    replied_quit (IsReply o (standing s Waiting) m text) on (texts_of o (standing s Waiting) said.part.events) first old between new
    (record {
      lines = said.lines;
      rest = said.rest;
      is = said.is;
      sitting = sitting;
      machine = m';
      happens = record { events = said.part.events; follow = said.part.follow; took = said.part.took; said = refl };
    })
    left said.part.wrote

pub piece_starved :
    {M : Type 0} (o : MachineRelations M) (text : List ℕ) (s : SessionStateFields) (m m' : M) (on : List ℕ → SessionStateFields → M → Talk) (first : Talk)
    (old between new : Seen)
    → Leads (replies (IsReply o (standing s Waiting) m text) on) first old between
    → AnsweredSome o (standing s Waiting) m text m' (pending [] between) (pending [] new)
    → Performs first (Err NoMemory) old new
piece_starved o text s m m' on first old between new left said =
    replied_starved (IsReply o (standing s Waiting) m text) on (texts_of o (standing s Waiting) said.part.events) first old between new
    (record {
      lines = said.lines;
      rest = said.rest;
      is = said.is;
      stands = said.stands;
      machine = m';
      happens = record { events = said.part.events; follow = said.part.follow; took = said.part.took; said = refl };
    })
    left said.part.wrote

pub piece_cut :
    {M : Type 0} (o : MachineRelations M) (text : List ℕ) (s : SessionStateFields) (m m' : M) (on : List ℕ → SessionStateFields → M → Talk) (first : Talk)
    (old between new : Seen)
    → Leads (replies (IsReply o (standing s Waiting) m text) on) first old between
    → AnsweredCut o (standing s Waiting) m text m' (pending [] between) (pending [] new)
    → Performs first (Err WriteFault) old new
piece_cut o text s m m' on first old between new left said =
    let happened = said.part.part in
    replied_cut (IsReply o (standing s Waiting) m text) on (texts_of o (standing s Waiting) happened.events) first old between new
    (record {
      lines = said.lines;
      rest = said.rest;
      is = said.is;
      stands = said.part.stands;
      machine = m';
      happens = record { events = happened.events; follow = happened.follow; took = happened.took; said = refl };
    })
    left happened.wrote
