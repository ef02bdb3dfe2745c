-- Over the same files and the same bytes of input, a call of `debug` puts a prefix of what a session writes whose turns
-- are plain: frames differ between two such systems, and nothing else.
use Rattle.std.proofs.Common.{◌≡◌, ℕ, Bool, false, List, ◌++◌, Option, Some, None, Result, Ok, Err, refl, sym, ap}
use Rattle.std.proofs.Common.{subst, ◌∙◌, inl, inr}
use Rattle.std.specs.Prelude.{IfSome}
use Rattle.m36_outside.specs.Files.{Files}
use Rattle.m36_world.specs.Follow.{Follow}
use Rattle.m36_world.specs.Seen.{Seen}
use Rattle.m36_world.specs.declared.event.Event.{Event}
use Rattle.m36_world.proofs.Following.{follow_split}
use Rattle.m36_model.specs.Flat.{flat_store}
use Rattle.m36_model.specs.Sight.{content_in}
use Rattle.m36_step.specs.declared.turns.Turn.{Turn}
use Rattle.m36_step.specs.declared.turns.Turn.TheVariants as turns
use Rattle.m36_step.specs.declared.turns.BackAnswer.{BackAnswer}
use Rattle.m36_step.specs.declared.turns.BackAnswer.TheVariants as back
use Rattle.m36_super.specs.BootResult.{IsBooted}
use Rattle.m36_super.specs.BootedRun.{LaidOutUntilLdbr, flat_run_of}
use Rattle.m36_super.specs.FlatRun.{FlatRun, FlatTurn, flat_turn}
use Rattle.m36_super.specs.Library.{Library}
use Rattle.m36_super.specs.SuperFields.{SuperFields, booted_of}
use Rattle.m36_super.specs.SuperTurn.{SuperTurns, SuperBack, content_by, super_content}
use Rattle.m36_super.specs.TurnLaws.{TurnExecutesAbsa, IsFlatTurn, IsPlainTurn}
use Rattle.m36_super.proofs.Audited.{flat_loaded, not_located, plain_flat}
use Rattle.m36_super.proofs.BootTurns.{start_lib, start_unloaded}
use Rattle.m36_super.proofs.Turns.{turn_law}
use Rattle.m36_status.specs.declared.status.Status.{Status}
use Rattle.m36_program.specs.Alike.{IsEnd}
use Rattle.m36_program.specs.Goes.{Goes}
use Rattle.m36_program.specs.Performs.{Performs}
use Rattle.m36_program.specs.Program.{wants}
use Rattle.m36_program.specs.Reader.{reader_result}
use Rattle.m36_program.specs.MayHappen.{pieces_of}
use Rattle.m36_program.proofs.ReaderLaws.{pieces_both, same_value, reader_pieces, reader_input, reader_outcome, reader_split}
use Rattle.cmd_folder.specs.Folder.{FolderFields}
use Rattle.cmd_folder.proofs.OneSystem.{one_system}
use Rattle.m36_debug.specs.LinesTaken.{IsFirstPart}
use Rattle.m36_debug.specs.SessionProgram.{talking, session}
use Rattle.m36_debug.specs.SessionText.{IsHeld, EachTurn}
use Rattle.m36_debug.proofs.FirstLines.{first_none}
use Rattle.m36_debug.proofs.SessionText.{session_plain_text}
use Rattle.m36_debug.proofs.TextLaws.{SameAnswer, StayAlike}
use Rattle.cmd_folder.specs.FolderProgram.{folder_given}
use Rattle.cmd_folder.proofs.FolderReader.{folder_reader}
use Rattle.cmd_debug.specs.DebugProgram.{on_folder, debug_folder}
use Rattle.cmd_debug.specs.Held.{super_turning}
use Rattle.cmd_debug.specs.Sessions.{IsPlainCall}
use Rattle.cmd_debug.proofs.DebugCalls.{chosen_system}

-- ---- systems that differ in their frames

-- Both have the same library and the same flat state, and executed no LDBR.
record AlikeSystems (s t : SuperFields) : Type 0 where
  lib : s.lib ≡ t.lib
  flat : flat_run_of (booted_of s) ≡ flat_run_of (booted_of t)
  loaded : s.loaded ≡ false
  loaded' : t.loaded ≡ false
  stands : LaidOutUntilLdbr false s.lib.catalog.frames (booted_of s).state
  stands' : LaidOutUntilLdbr false t.lib.catalog.frames (booted_of t).state

content_flat :
    (s : SuperFields) (seg word : ℕ) → s.loaded ≡ false
    → super_content s seg word ≡ content_in flat_store (flat_run_of (booted_of s)).state.store
    (flat_run_of (booted_of s)).state.regs.dbr seg word
unfolding super_content
content_flat s seg word none = ap (λ (b : Bool). content_by b s seg word) none

same_content : (s t : SuperFields) → AlikeSystems s t → super_content s ≡ super_content t
same_content s t alike =
    let each : (seg word : ℕ) → super_content s seg word ≡ super_content t seg word =
    λ seg word. content_flat s seg word alike.loaded
    ∙ ap (λ (r : FlatRun). content_in flat_store r.state.store r.state.regs.dbr seg word) alike.flat
    ∙ sym (content_flat t seg word alike.loaded') in
    λ i seg word. each seg word i

after_alike :
    (s t s' t' : SuperFields) (one other : Turn) → AlikeSystems s t → s'.lib ≡ s.lib → t'.lib ≡ t.lib
    → IsPlainTurn other
    → flat_turn s.lib (flat_run_of (booted_of s)) ≡ flat_turn t.lib (flat_run_of (booted_of t))
    → IsFlatTurn s.lib (booted_of s) one (booted_of s') → IsFlatTurn t.lib (booted_of t) other (booted_of t')
    → LaidOutUntilLdbr s'.loaded s.lib.catalog.frames (booted_of s').state → LaidOutUntilLdbr t'.loaded
    t.lib.catalog.frames (booted_of t').state
    → AlikeSystems s' t'
after_alike s t s' t' one other alike lib lib' plain same flat flat' stands stands' =
    let after : flat_run_of (booted_of s') ≡ flat_run_of (booted_of t') =
    flat.after_is ∙ ap (λ (f : FlatTurn). f.after) same ∙ sym flat'.after_is in
    let loaded' : t'.loaded ≡ false =
    ap (λ (r : FlatRun). r.loaded) flat'.after_is
    ∙ flat_loaded t.lib (flat_run_of (booted_of t)) alike.loaded' (subst IsPlainTurn flat'.turn_is plain) in
    let loaded : s'.loaded ≡ false = ap (λ (r : FlatRun). r.loaded) after ∙ loaded' in
    record {
      lib = lib ∙ alike.lib ∙ sym lib';
      flat = after;
      loaded = loaded;
      loaded' = loaded';
      stands = subst (λ (b : Bool). LaidOutUntilLdbr b s'.lib.catalog.frames (booted_of s').state) loaded
          (subst (λ (l : Library). LaidOutUntilLdbr s'.loaded l.catalog.frames (booted_of s').state) (sym lib) stands);
      stands' = subst (λ (b : Bool). LaidOutUntilLdbr b t'.lib.catalog.frames (booted_of t').state) loaded'
          (subst (λ (l : Library). LaidOutUntilLdbr t'.loaded l.catalog.frames (booted_of t').state) (sym lib')
          stands');
    }

-- a plain turn of one is the turn of the other
turn_alike :
    (s t s' t' : SuperFields) (one other : Turn) → AlikeSystems s t → SuperTurns s one s' → SuperTurns t other t'
    → IsPlainTurn other
    → SameAnswer AlikeSystems turns.NoMemory one other s' t'
turn_alike s t s' t' one other alike next next' plain =
    let kept = turn_law s.lib (booted_of s) one (booted_of s') alike.loaded alike.stands next.0 in
    let kept' = turn_law t.lib (booted_of t) other (booted_of t') alike.loaded' alike.stands' next'.0 in
    let flat' = plain_flat t.lib (booted_of t) other (booted_of t') plain kept'.cases in
    let same : flat_turn s.lib (flat_run_of (booted_of s)) ≡ flat_turn t.lib (flat_run_of (booted_of t)) =
    λ i. flat_turn (alike.lib i) (alike.flat i) in
    elim kept.cases [
      | inl flat ↦ inr (inr (
        flat.turn_is ∙ ap (λ (f : FlatTurn). f.turn) same ∙ sym flat'.turn_is,
        after_alike s t s' t' one other alike next.1 next'.1 plain same flat flat' kept.stands kept'.stands,
      ))
      | inr (inl memory) ↦ inl memory.0
      | inr (inr locates) ↦ absurd (not_located other
          (subst TurnExecutesAbsa (sym flat'.turn_is) (subst TurnExecutesAbsa (ap (λ (f : FlatTurn). f.turn) same)
          (kept.locates locates)))
          plain)
    ]

back_alike :
    (s t s' t' : SuperFields) (n : ℕ) (one other : BackAnswer) → AlikeSystems s t → SuperBack s n one s'
    → SuperBack t n other t'
    → SameAnswer AlikeSystems back.NoMemory one other s' t'
back_alike s t s' t' n one other alike went went' = inr (inr (
  went.0 ∙ sym went'.0,
  subst (λ (x : SuperFields). AlikeSystems x t') (sym went.1) (subst (λ (x : SuperFields). AlikeSystems s x)
      (sym went'.1) alike),
))

systems_alike : StayAlike super_turning IsPlainTurn AlikeSystems
systems_alike = record {
  regs = λ s t alike. ap (λ (r : FlatRun). r.state.regs) alike.flat;
  content = λ s t alike. same_content s t alike;
  turns = λ s t s' t' one other alike next next' plain. turn_alike s t s' t' one other alike next next' plain;
  goes_back = λ s t s' t' n one other alike went went'. back_alike s t s' t' n one other alike went went';
}

start_alike : (lib : Library) (s t : SuperFields) → IsBooted lib s → IsBooted lib t → AlikeSystems s t
start_alike lib s t booted booted' =
    let loaded = start_unloaded lib s booted in
    let stands : LaidOutUntilLdbr false s.lib.catalog.frames (booted_of s).state =
    subst (λ (l : Library). LaidOutUntilLdbr false l.catalog.frames (booted_of s).state) (sym (start_lib lib s booted))
    booted.stands in
    subst (λ (x : SuperFields). AlikeSystems s x) (one_system lib s t booted booted') (record {
      lib = refl;
      flat = refl;
      loaded = loaded;
      loaded' = loaded;
      stands = stands;
      stands' = stands;
    })

-- ---- a session

wants_plain :
    (system other : SuperFields) (bytes : List ℕ) (result end : Result (Unit {0}) Status) (old new old' new' : Seen)
    (events : List Event)
    → AlikeSystems system other → IsEnd end → old.left ≡ Some bytes → old'.left ≡ Some bytes
    → Follow events old new → Goes (wants (session super_turning system)) events result
    → (held : IsHeld super_turning other end old' new') → EachTurn IsPlainTurn held.says.session.events
    → IsFirstPart (pieces_of events) held.says.lines
unfolding Goes
wants_plain system other bytes result end old new old' new' events alike is_end left left' follow (inl goes) held
    plain =
    session_plain_text super_turning IsPlainTurn AlikeSystems systems_alike system other bytes result end old new old'
    new' alike is_end left left'
    (record { events = events; follow = follow; goes = goes }) held plain
wants_plain system other bytes result end old new old' new' events alike is_end left left' follow (inr ends) held
    plain =
    subst (λ e. IsFirstPart (pieces_of e) held.says.lines) (sym ends.none) (first_none held.says.lines)

-- ---- a call

given_by_files :
    (given : FolderFields) (files : Files) (shown : Option Files) → shown ≡ Some files
    → IfSome shown (λ f. reader_result f (folder_given {may = talking} None) ≡ Some (Ok given))
    → reader_result files (folder_given {may = talking} None) ≡ Some (Ok given)
given_by_files given files shown is says =
    let at : IfSome (Some files) (λ f. reader_result f (folder_given {may = talking} None) ≡ Some (Ok given)) =
    subst (λ (t : Option Files). IfSome t (λ f. reader_result f (folder_given {may = talking} None) ≡ Some (Ok given))) is
    says in at

pub folder_text :
    (files : Files) (bytes : List ℕ) (result end : Result (Unit {0}) Status) (old new old' new' : Seen)
    → IsEnd end → old.files ≡ Some files → old'.files ≡ Some files → old.left ≡ Some bytes → old'.left ≡ Some bytes
    → (one : Performs debug_folder result old new) (other : IsPlainCall end old' new')
    → IsFirstPart (pieces_of one.events) other.held.says.lines
unfolding debug_folder
folder_text files bytes result end old new old' new' is_end told told' left left' one other =
    let lines = other.held.says.lines in
    elim (reader_split (folder_given None) on_folder one.events result (folder_reader talking None) one.goes) [
      | inl both ↦
          let parts = follow_split both.first both.more old new (subst (λ e. Follow e old new) both.is one.follow) in
          let begins : Performs {may = talking} (folder_given None) (Ok both.value) old parts.between =
          record { events = both.first; follow = parts.begins; goes = both.begins } in
          let outcome = reader_outcome (folder_given None) files (Ok both.value) old parts.between
          (folder_reader talking None) told tt begins in
          let same : other.given ≡ both.value =
          same_value other.given both.value (sym (given_by_files other.given files old'.files told' other.read.by_files)
          ∙ outcome) in
          let chosen = chosen_system both.value.lib both.more result both.goes_on in
          let booted : IsBooted both.value.lib other.system = subst (λ (g : FolderFields). IsBooted g.lib other.system)
          same other.booted in
          let pieces : pieces_of one.events ≡ pieces_of both.more =
          ap pieces_of both.is
          ∙ pieces_both both.first both.more
          ∙ ap (λ l. l ++ pieces_of both.more) (reader_pieces (folder_given None) both.first (Ok both.value)
          (folder_reader talking None) both.begins) in
          subst (λ l. IsFirstPart l lines) (sym pieces)
          (wants_plain chosen.value other.system bytes result end parts.between new other.between new' both.more
          (start_alike both.value.lib chosen.value other.system chosen.is booted) is_end
          ((reader_input (folder_given None) (Ok both.value) old parts.between (folder_reader talking None) begins).left
          ∙ left)
          (other.nothing.input.left ∙ left') parts.goes_on chosen.rest other.held other.plain)
      | inr ends ↦
          subst (λ l. IsFirstPart l lines)
          (sym (reader_pieces (folder_given None) one.events (Err ends.status) (folder_reader talking None) ends.goes))
          (first_none lines)
    ]
