-- Laws of the line `quit`: a session that continues has not taken it.
use Rattle.std.proofs.Common.{◌≡◌, ℕ, Bool, true, false, List, [], ◌∷◌, ◌++◌, Option, Some, None, All, ◌⊎◌, inl, inr, refl, sym, ap, subst, ◌∙◌}
use Rattle.std.proofs.lemmas.List.Elements.{All-nil, All-cons, All-append}
use Rattle.std.specs.Prelude.{nat_le, if◌then◌else◌}
use Rattle.std.proofs.lemmas.List.{append-nil, append_assoc}
use Rattle.m36_model.specs.Registers.{RegsFields}
use Rattle.m36_model.specs.declared.endings.End.{End}
use Rattle.m36_step.specs.declared.turns.BackAnswer.{BackAnswer}
use Rattle.m36_step.specs.declared.turns.BackAnswer.TheVariants as back
use Rattle.m36_debug.specs.declared.commands.TurnCommand.{TurnCommand}
use Rattle.m36_debug.specs.declared.commands.AfterTurn.{AfterTurn}
use Rattle.m36_debug.specs.declared.commands.AfterTurn.TheVariants.{Runs, Waits, Starves}
use Rattle.m36_debug.specs.declared.session_line.SessionLine.{SessionLine}
use Rattle.m36_debug.specs.declared.session_line.SessionLine.TheVariants.{Quit}
use Rattle.m36_debug.specs.declared.session_line.SessionLine.TheVariants as session
use Rattle.m36_debug.specs.Session.{MachineRelations, Activity, Waiting, Running, Backing, Over, Starved, SessionPoint, standing, EventKind, Took, Turned, Went, SessionEvent, MayHappen, activity_after_line, activity_if_running, activity_by_after_turn, point_after_back, next_of, state_after, Follow, lines_in, line_in}
use Rattle.m36_debug.specs.SessionLines.{session_line, IsNotQuit}
use Rattle.m36_debug.specs.SessionContract.{EndInQuit}
use Rattle.m36_debug.specs.SessionState.{SessionStateFields}

none_over : {M : Type 0} (o : MachineRelations M) (m : M) (h : EventKind) (m' : M) → MayHappen o Over m h m' → ⊥
none_over o m (Took line) m' may = may
none_over o m (Turned turn) m' may = may
none_over o m (Went answer) m' may = may

-- nothing happens once the session is over
over_stays :
    {M : Type 0} (o : MachineRelations M) (sitting : SessionStateFields) (doing : Activity) (m : M) (events : List (SessionEvent M)) (s' : SessionPoint) (m' : M)
    → doing ≡ Over → Follow o (standing sitting doing) m events s' m' → s'.doing ≡ Over
unfolding Follow
over_stays o sitting doing m [] s' m' over follow = ap (λ (s : SessionPoint). s.doing) follow.0 ∙ over
over_stays o sitting doing m (e ∷ events) s' m' over follow =
    absurd (none_over o m e.happened e.after (subst (λ d. MayHappen o d m e.happened e.after) over follow.0))

not_both : (d : Activity) → d ≡ Over → d ≡ Waiting → ⊥
not_both d over waits = cc

quit_over : (g : RegsFields) (sitting : SessionStateFields) (line : List ℕ) → session_line line ≡ Quit → (state_after g (standing sitting Waiting) (Took line)).doing ≡ Over
unfolding state_after
quit_over g sitting line is = ap (activity_after_line sitting line) is

-- a line that was taken, after which the session continues
taken_no_quit :
    {M : Type 0} (o : MachineRelations M) (g : RegsFields) (sitting : SessionStateFields) (doing : Activity) (m m' m2 : M) (h : EventKind) (events : List (SessionEvent M)) (s2 : SessionPoint)
    → MayHappen o doing m h m' → Follow o (state_after g (standing sitting doing) h) m' events s2 m2 → s2.doing ≡ Waiting
    → All IsNotQuit (line_in h)
taken_no_quit o g sitting Waiting m m' m2 (Took line) events s2 may follow waits =
    let after : SessionPoint = state_after g (standing sitting Waiting) (Took line) in
    All-cons IsNotQuit line []
    (λ is. not_both s2.doing (over_stays o after.sitting after.doing m' events s2 m2 (quit_over g sitting line is) follow) waits)
    (All-nil IsNotQuit)
taken_no_quit o g sitting (Running run) m m' m2 (Took line) events s2 may follow waits = absurd may
taken_no_quit o g sitting (Backing n text) m m' m2 (Took line) events s2 may follow waits = absurd may
taken_no_quit o g sitting Over m m' m2 (Took line) events s2 may follow waits = absurd may
taken_no_quit o g sitting Starved m m' m2 (Took line) events s2 may follow waits = absurd may
taken_no_quit o g sitting doing m m' m2 (Turned turn) events s2 may follow waits = All-nil IsNotQuit
taken_no_quit o g sitting doing m m' m2 (Went answer) events s2 may follow waits = All-nil IsNotQuit

pub no_quit :
    {M : Type 0} (o : MachineRelations M) (sitting : SessionStateFields) (doing : Activity) (m : M) (events : List (SessionEvent M)) (s' : SessionPoint) (m' : M)
    → Follow o (standing sitting doing) m events s' m' → s'.doing ≡ Waiting → All IsNotQuit (lines_in events)
unfolding Follow lines_in
no_quit o sitting doing m [] s' m' follow waits = All-nil IsNotQuit
no_quit o sitting doing m (e ∷ events) s' m' follow waits =
    let after : SessionPoint = state_after (o.regs e.after) (standing sitting doing) e.happened in
    All-append IsNotQuit (line_in e.happened) (lines_in events)
    (taken_no_quit o (o.regs e.after) sitting doing m e.after m' e.happened events s' follow.0 follow.1 waits)
    (no_quit o after.sitting after.doing e.after events s' m' follow.1 waits)

-- ---- a session that is over has taken `quit` last

run_not_over : (ended : Option End) (command : TurnCommand) (left : ℕ) → activity_if_running ended command left ≡ Over → ⊥
run_not_over None command left is = cc
run_not_over (Some end) command left is = cc

back_not_over : (enough : Bool) (n : ℕ) (line : List ℕ) → (if enough then Backing n line else Waiting) ≡ Over → ⊥
back_not_over true n line is = cc
back_not_over false n line is = cc

over_kind : (s : SessionStateFields) (line : List ℕ) (kind : SessionLine) → activity_after_line s line kind ≡ Over → kind ≡ Quit
over_kind s line (session.Step n) is = absurd (run_not_over s.ended _ _ is)
over_kind s line session.Go is = absurd (run_not_over s.ended _ _ is)
over_kind s line (session.Break seg word) is = cc
over_kind s line session.Regs is = cc
over_kind s line (session.Seg seg word) is = cc
over_kind s line session.Where is = cc
over_kind s line (session.Back n) is = absurd (back_not_over (nat_le n s.taken) n line is)
over_kind s line session.Quit is = refl
over_kind s line session.Empty is = cc
over_kind s line session.Unknown is = cc

further_not_over : (next : AfterTurn) → activity_by_after_turn next ≡ Over → ⊥
further_not_over (Runs run) is = cc
further_not_over Waits is = cc
further_not_over Starves is = cc

went_not_over : (s : SessionStateFields) (n : ℕ) (answer : BackAnswer) → (point_after_back s n answer).doing ≡ Over → ⊥
went_not_over s n back.Done is = cc
went_not_over s n (back.Before taken) is = cc
went_not_over s n back.Unable is = cc
went_not_over s n back.NoMemory is = cc

-- the last event was that `quit` was taken
happened_quit :
    {M : Type 0} (o : MachineRelations M) (g : RegsFields) (sitting : SessionStateFields) (doing : Activity) (m m' : M) (h : EventKind)
    → MayHappen o doing m h m' → (state_after g (standing sitting doing) h).doing ≡ Over → EndInQuit (line_in h)
unfolding state_after
happened_quit o g sitting Waiting m m' (Took line) may over =
    record { before = []; last = line; are = refl; quits = over_kind sitting line (session_line line) over }
happened_quit o g sitting (Running run) m m' (Took line) may over = absurd may
happened_quit o g sitting (Backing n text) m m' (Took line) may over = absurd may
happened_quit o g sitting Over m m' (Took line) may over = absurd may
happened_quit o g sitting Starved m m' (Took line) may over = absurd may
happened_quit o g sitting Waiting m m' (Turned turn) may over = absurd may
happened_quit o g sitting (Running run) m m' (Turned turn) may over = absurd (further_not_over (next_of g sitting run turn) over)
happened_quit o g sitting (Backing n text) m m' (Turned turn) may over = absurd may
happened_quit o g sitting Over m m' (Turned turn) may over = absurd may
happened_quit o g sitting Starved m m' (Turned turn) may over = absurd may
happened_quit o g sitting Waiting m m' (Went answer) may over = absurd may
happened_quit o g sitting (Running run) m m' (Went answer) may over = absurd may
happened_quit o g sitting (Backing n text) m m' (Went answer) may over = absurd (went_not_over sitting n answer over)
happened_quit o g sitting Over m m' (Went answer) may over = absurd may
happened_quit o g sitting Starved m m' (Went answer) may over = absurd may

-- nothing happens once the session is over, and so no line is taken
over_takes_none :
    {M : Type 0} (o : MachineRelations M) (sitting : SessionStateFields) (doing : Activity) (m : M) (events : List (SessionEvent M)) (s' : SessionPoint) (m' : M)
    → doing ≡ Over → Follow o (standing sitting doing) m events s' m' → lines_in events ≡ []
unfolding Follow lines_in
over_takes_none o sitting doing m [] s' m' over follow = refl
over_takes_none o sitting doing m (e ∷ events) s' m' over follow =
    absurd (none_over o m e.happened e.after (subst (λ d. MayHappen o d m e.happened e.after) over follow.0))

quit_behind : (front lines : List (List ℕ)) → EndInQuit lines → EndInQuit (front ++ lines)
quit_behind front lines quit = record {
  before = front ++ quit.before;
  last = quit.last;
  are = ap (λ l. front ++ l) quit.are ∙ sym (append_assoc front quit.before (quit.last ∷ []));
  quits = quit.quits;
}

IsOverOrNot : Activity → Type 0
IsOverOrNot d = (d ≡ Over) ⊎ (d ≡ Over → ⊥)

over_or_not : (d : Activity) → IsOverOrNot d
unfolding IsOverOrNot
over_or_not Waiting = inr (λ is. let no : Waiting ≡ Over = is in not_both Waiting no refl)
over_or_not (Running run) = inr (λ is. further_not_over (Runs run) is)
over_or_not (Backing n line) = inr (λ is. back_not_over true n line is)
over_or_not Over = inl refl
over_or_not Starved = inr (λ is. further_not_over Starves is)

pub quit_last :
    {M : Type 0} (o : MachineRelations M) (sitting : SessionStateFields) (doing : Activity) (m : M) (events : List (SessionEvent M)) (s' : SessionPoint) (m' : M)
    → (doing ≡ Over → ⊥) → Follow o (standing sitting doing) m events s' m' → s'.doing ≡ Over → EndInQuit (lines_in events)
unfolding Follow lines_in IsOverOrNot
quit_last o sitting doing m [] s' m' going follow over =
    absurd (going (sym (ap (λ (s : SessionPoint). s.doing) follow.0) ∙ over))
quit_last o sitting doing m (e ∷ events) s' m' going follow over =
    let after : SessionPoint = state_after (o.regs e.after) (standing sitting doing) e.happened in
    elim (over_or_not after.doing) [
      | inl there ↦ subst (λ l. EndInQuit (line_in e.happened ++ l)) (sym (over_takes_none o after.sitting after.doing e.after events s' m' there follow.1))
          (subst EndInQuit (sym (append-nil (line_in e.happened))) (happened_quit o (o.regs e.after) sitting doing m e.after e.happened follow.0 there))
      | inr further ↦ quit_behind (line_in e.happened) (lines_in events) (quit_last o after.sitting after.doing e.after events s' m' further follow.1 over)
    ]
