-- Laws of lines that are answered.
use Rattle.std.proofs.Common.{◌≡◌, ℕ, Bool, true, false, nat_le, List, [], ◌∷◌, ◌++◌, Option, Some, None, refl, sym, ap, subst}
use Rattle.std.specs.Prelude.{if◌then◌else◌}
use Rattle.m36_model.specs.declared.endings.End.{End}
use Rattle.m36_outside.specs.declared.sink.Put.{Put}
use Rattle.m36_outside.specs.declared.sink.Put.TheVariants.{Done, Failed}
use Rattle.m36_debug.specs.Putting.{Pending, PutsPieces}
use Rattle.m36_step.specs.declared.turns.BackAnswer.{BackAnswer}
use Rattle.m36_step.specs.declared.turns.BackAnswer.TheVariants as back
use Rattle.m36_debug.specs.declared.commands.RunningCommand.{RunningCommand}
use Rattle.m36_debug.specs.declared.session_line.SessionLine.{SessionLine}
use Rattle.m36_debug.specs.declared.session_line.SessionLine.TheVariants as session
use Rattle.m36_debug.specs.declared.machine_relations.LineResult.{LineResult}
use Rattle.m36_debug.specs.declared.machine_relations.LineResult.TheVariants as ends
use Rattle.m36_debug.specs.Parts.{SessionPart, FailedPart, LineContract, PutsAnswer, IsTold, CommandContract, BackContract, result_of_put}
use Rattle.m36_debug.specs.Session.{MachineRelations, Activity, Waiting, Running, Backing, Over, Starved, SessionPoint, standing, Took, Went, state_after, event_lines, activity_after_line, state_after_line, line_answer, activity_if_running, point_after_back, back_answer}
use Rattle.m36_debug.specs.SessionLines.{session_line}
use Rattle.m36_debug.specs.SessionTexts.{unknown_line, end_line, end_lines}
use Rattle.m36_debug.specs.SessionState.{SessionStateFields}
use Rattle.m36_debug.proofs.PutLaws.{puts_nothing}
use Rattle.m36_debug.proofs.PartLaws.{event_part, event_cut, part_on, part_cut}

-- a part of a session, and then one that an answer describes
pub then_ends :
    {M : Type 0} (o : MachineRelations M) (end : LineResult) (s : SessionPoint) (m : M) (lines others : List (List ℕ)) (s1 : SessionPoint) (m1 : M) (sitting : SessionStateFields) (m2 : M) (old now new : Pending)
    → SessionPart o s m lines s1 m1 Done old now → LineContract o end s1 m1 others sitting m2 now new
    → LineContract o end s m (lines ++ others) sitting m2 old new
then_ends o ends.Line s m lines others s1 m1 sitting m2 old now new one two =
    part_on o s m lines others s1 m1 (standing sitting Waiting) m2 old now new one two
then_ends o ends.Quit s m lines others s1 m1 sitting m2 old now new one two =
    part_on o s m lines others s1 m1 (standing sitting Over) m2 old now new one two
then_ends o ends.Starved s m lines others s1 m1 sitting m2 old now new one two =
    part_on o s m lines others s1 m1 (standing sitting Starved) m2 old now new one two
then_ends o ends.Cut s m lines others s1 m1 sitting m2 old now new one two =
    part_cut o s m lines others s1 m1 m2 old now new one two

-- a line of this kind was taken
took_part :
    {M : Type 0} (o : MachineRelations M) (s : SessionStateFields) (m : M) (text : List ℕ) (kind : SessionLine) (old new : Pending)
    → session_line text ≡ kind → PutsPieces Done (line_answer (o.regs m) (o.content m) s text kind) old new
    → SessionPart o (standing s Waiting) m (text ∷ []) (standing (state_after_line s kind) (activity_after_line s text kind)) m Done old new
unfolding state_after event_lines
took_part o s m text kind old new is puts =
    let P : SessionLine → Type 0 = λ k. SessionPart o (standing s Waiting) m (text ∷ []) (standing (state_after_line s k) (activity_after_line s text k)) m Done old new in
    subst P is
    (event_part o (standing s Waiting) m m (Took text) old new refl
    (subst (λ k. PutsPieces Done (line_answer (o.regs m) (o.content m) s text k) old new) (sym is) puts))

took_cut :
    {M : Type 0} (o : MachineRelations M) (s : SessionStateFields) (m : M) (text : List ℕ) (kind : SessionLine) (old new : Pending)
    → session_line text ≡ kind → PutsPieces Failed (line_answer (o.regs m) (o.content m) s text kind) old new
    → FailedPart o (standing s Waiting) m (text ∷ []) m old new
unfolding event_lines
took_cut o s m text kind old new is puts =
    event_cut o (standing s Waiting) m m (Took text) old new refl
    (subst (λ k. PutsPieces Failed (line_answer (o.regs m) (o.content m) s text k) old new) (sym is) puts)

-- a line of this kind was taken and answered at once
pub took_told :
    {M : Type 0} (o : MachineRelations M) (put : Put) (s : SessionStateFields) (m : M) (text : List ℕ) (kind : SessionLine) (sitting : SessionStateFields) (old new : Pending)
    → session_line text ≡ kind → activity_after_line s text kind ≡ Waiting → sitting ≡ state_after_line s kind
    → PutsPieces put (line_answer (o.regs m) (o.content m) s text kind) old new
    → LineContract o (result_of_put put) (standing s Waiting) m (text ∷ []) sitting m old new
took_told o Done s m text kind sitting old new is waits remembers puts =
    subst (λ r. SessionPart o (standing s Waiting) m (text ∷ []) (standing r Waiting) m Done old new) (sym remembers)
    (subst (λ d. SessionPart o (standing s Waiting) m (text ∷ []) (standing (state_after_line s kind) d) m Done old new) waits (took_part o s m text kind old new is puts))
took_told o Failed s m text kind sitting old new is waits remembers puts = took_cut o s m text kind old new is puts

-- as `took_told`, by how the line ended
took_end :
    {M : Type 0} (o : MachineRelations M) (end : LineResult) (s : SessionStateFields) (m : M) (text : List ℕ) (kind : SessionLine) (old new : Pending)
    → session_line text ≡ kind → activity_after_line s text kind ≡ Waiting → state_after_line s kind ≡ s
    → PutsAnswer end old new (line_answer (o.regs m) (o.content m) s text kind)
    → LineContract o end (standing s Waiting) m (text ∷ []) s m old new
took_end o ends.Line s m text kind old new is waits remembers puts =
    took_told o Done s m text kind s old new is waits (sym remembers) puts
took_end o ends.Quit s m text kind old new is waits remembers puts = absurd puts
took_end o ends.Starved s m text kind old new is waits remembers puts = absurd puts
took_end o ends.Cut s m text kind old new is waits remembers puts =
    took_told o Failed s m text kind s old new is waits (sym remembers) puts

-- as `took_end`, if session and machine are unchanged
took_is_told :
    {M : Type 0} (o : MachineRelations M) (end : LineResult) (s : SessionStateFields) (m : M) (text : List ℕ) (kind : SessionLine) (lines : List (List ℕ)) (sitting : SessionStateFields) (m' : M) (old new : Pending)
    → session_line text ≡ kind → activity_after_line s text kind ≡ Waiting → state_after_line s kind ≡ s
    → line_answer (o.regs m) (o.content m) s text kind ≡ lines
    → IsTold end lines s m sitting m' old new
    → LineContract o end (standing s Waiting) m (text ∷ []) sitting m' old new
took_is_told o end s m text kind lines sitting m' old new is waits remembers says told =
    subst (λ r. LineContract o end (standing s Waiting) m (text ∷ []) r m' old new) (sym told.sitting_stays)
    (subst (λ n. LineContract o end (standing s Waiting) m (text ∷ []) s n old new) (sym told.machine_stays)
    (took_end o end s m text kind old new is waits remembers (subst (PutsAnswer end old new) (sym says) told.puts)))

-- a line for which nothing is written
pub took_quit :
    {M : Type 0} (o : MachineRelations M) (s : SessionStateFields) (m : M) (text : List ℕ) (now : Pending)
    → session_line text ≡ session.Quit → LineContract o ends.Quit (standing s Waiting) m (text ∷ []) s m now now
took_quit o s m text now is = took_part o s m text session.Quit now now is (puts_nothing now)

pub took_empty :
    {M : Type 0} (o : MachineRelations M) (s : SessionStateFields) (m : M) (text : List ℕ) (now : Pending)
    → session_line text ≡ session.Empty → LineContract o ends.Line (standing s Waiting) m (text ∷ []) s m now now
took_empty o s m text now is = took_part o s m text session.Empty now now is (puts_nothing now)

-- a line that begins something
took_then :
    {M : Type 0} (o : MachineRelations M) (end : LineResult) (s : SessionStateFields) (m : M) (text : List ℕ) (kind : SessionLine) (doing : Activity) (sitting : SessionStateFields) (m' : M) (old new : Pending)
    → session_line text ≡ kind → activity_after_line s text kind ≡ doing → state_after_line s kind ≡ s
    → line_answer (o.regs m) (o.content m) s text kind ≡ []
    → LineContract o end (standing s doing) m [] sitting m' old new
    → LineContract o end (standing s Waiting) m (text ∷ []) sitting m' old new
took_then o end s m text kind doing sitting m' old new is begins remembers silent says =
    let took : SessionPart o (standing s Waiting) m (text ∷ []) (standing (state_after_line s kind) (activity_after_line s text kind)) m Done old old =
    took_part o s m text kind old old is (subst (λ l. PutsPieces Done l old old) (sym silent) (puts_nothing old)) in
    let there : SessionPart o (standing s Waiting) m (text ∷ []) (standing s doing) m Done old old =
    subst (λ r. SessionPart o (standing s Waiting) m (text ∷ []) (standing r doing) m Done old old) remembers
    (subst (λ d. SessionPart o (standing s Waiting) m (text ∷ []) (standing (state_after_line s kind) d) m Done old old) begins took) in
    then_ends o end (standing s Waiting) m (text ∷ []) [] (standing s doing) m sitting m' old old new there says

-- a command that takes turns, by whether the run has ended
command_by :
    {M : Type 0} (o : MachineRelations M) (end : LineResult) (ended : Option End) (run : RunningCommand) (s : SessionStateFields) (m : M) (text : List ℕ) (kind : SessionLine) (sitting : SessionStateFields) (m' : M) (old new : Pending)
    → session_line text ≡ kind → activity_after_line s text kind ≡ activity_if_running ended run.command run.left → state_after_line s kind ≡ s
    → line_answer (o.regs m) (o.content m) s text kind ≡ end_lines ended s.taken
    → CommandContract o end ended run s m sitting m' old new
    → LineContract o end (standing s Waiting) m (text ∷ []) sitting m' old new
command_by o end None run s m text kind sitting m' old new is begins remembers says command =
    took_then o end s m text kind (Running run) sitting m' old new is begins remembers says command
command_by o end (Some e) run s m text kind sitting m' old new is begins remembers says command =
    took_is_told o end s m text kind (end_line e s.taken ∷ []) sitting m' old new is begins remembers says command

-- `step`, and `go`
pub took_command :
    {M : Type 0} (o : MachineRelations M) (end : LineResult) (run : RunningCommand) (s : SessionStateFields) (m : M) (text : List ℕ) (kind : SessionLine) (sitting : SessionStateFields) (m' : M) (old new : Pending)
    → session_line text ≡ kind → activity_after_line s text kind ≡ activity_if_running s.ended run.command run.left → state_after_line s kind ≡ s
    → line_answer (o.regs m) (o.content m) s text kind ≡ end_lines s.ended s.taken
    → CommandContract o end s.ended run s m sitting m' old new
    → LineContract o end (standing s Waiting) m (text ∷ []) sitting m' old new
took_command o end run s m text kind sitting m' old new is begins remembers says command =
    command_by o end s.ended run s m text kind sitting m' old new is begins remembers says command

-- `back`, by whether that many steps were taken
back_by :
    {M : Type 0} (o : MachineRelations M) (end : LineResult) (some : Bool) (n : ℕ) (s : SessionStateFields) (m : M) (text : List ℕ) (sitting : SessionStateFields) (m' : M) (old new : Pending)
    → session_line text ≡ session.Back n → nat_le n s.taken ≡ some
    → BackContract o end some text n s m sitting m' old new
    → LineContract o end (standing s Waiting) m (text ∷ []) sitting m' old new
back_by o end true n s m text sitting m' old new is enough back =
    took_then o end s m text (session.Back n) (Backing n text) sitting m' old new is
    (ap (λ b. if b then Backing n text else Waiting) enough) refl
    (ap (λ b. if b then [] else unknown_line text ∷ []) enough) back
back_by o end false n s m text sitting m' old new is few back =
    took_is_told o end s m text (session.Back n) (unknown_line text ∷ []) sitting m' old new is
    (ap (λ b. if b then Backing n text else Waiting) few) refl
    (ap (λ b. if b then [] else unknown_line text ∷ []) few) back

pub took_back :
    {M : Type 0} (o : MachineRelations M) (end : LineResult) (n : ℕ) (s : SessionStateFields) (m : M) (text : List ℕ) (sitting : SessionStateFields) (m' : M) (old new : Pending)
    → session_line text ≡ session.Back n
    → BackContract o end (nat_le n s.taken) text n s m sitting m' old new
    → LineContract o end (standing s Waiting) m (text ∷ []) sitting m' old new
took_back o end n s m text sitting m' old new is back =
    back_by o end (nat_le n s.taken) n s m text sitting m' old new is refl back

-- the machine was asked to go back
pub went_part :
    {M : Type 0} (o : MachineRelations M) (answer : BackAnswer) (n : ℕ) (text : List ℕ) (s : SessionStateFields) (m m' : M) (old new : Pending)
    → o.went m n answer m' → PutsPieces Done (back_answer (o.regs m') text answer) old new
    → SessionPart o (standing s (Backing n text)) m [] (point_after_back s n answer) m' Done old new
unfolding state_after event_lines
went_part o answer n text s m m' old new may puts =
    event_part o (standing s (Backing n text)) m m' (Went answer) old new may puts

pub went_cut :
    {M : Type 0} (o : MachineRelations M) (answer : BackAnswer) (n : ℕ) (text : List ℕ) (s : SessionStateFields) (m m' : M) (old new : Pending)
    → o.went m n answer m' → PutsPieces Failed (back_answer (o.regs m') text answer) old new
    → FailedPart o (standing s (Backing n text)) m [] m' old new
unfolding event_lines
went_cut o answer n text s m m' old new may puts =
    event_cut o (standing s (Backing n text)) m m' (Went answer) old new may puts

-- ---- in the form of the equations that the code has

-- what is written at once, by how it ended
pub told_puts :
    (put : Put) (old new : Pending) (lines : List (List ℕ))
    → PutsPieces put lines old new → PutsAnswer (result_of_put put) old new lines
told_puts Done old new lines puts = puts
told_puts Failed old new lines puts = puts

-- the end line was written again
pub command_told :
    {M : Type 0} (o : MachineRelations M) (put : Put) (answer : LineResult) (end : End) (run : RunningCommand) (s : SessionStateFields) (taken : ℕ) (m : M) (old new : Pending)
    → Some end ≡ s.ended → taken ≡ s.taken → PutsPieces put (end_line end taken ∷ []) old new → answer ≡ result_of_put put
    → CommandContract o answer s.ended run s m s m old new
command_told o put answer end run s taken m old new is counted puts ends =
    let lines : PutsPieces put (end_line end s.taken ∷ []) old new =
    subst (λ (n : ℕ). PutsPieces put (end_line end n ∷ []) old new) counted puts in
    let there : IsTold (result_of_put put) (end_line end s.taken ∷ []) s m s m old new =
    record { puts = told_puts put old new (end_line end s.taken ∷ []) lines; sitting_stays = refl; machine_stays = refl } in
    subst (λ (e : Option End). CommandContract o answer e run s m s m old new) is
    (subst (λ (a : LineResult). IsTold a (end_line end s.taken ∷ []) s m s m old new) (sym ends) there)

-- the turns were taken
pub command_ran :
    {M : Type 0} (o : MachineRelations M) (answer : LineResult) (run : RunningCommand) (s : SessionStateFields) (m : M) (sitting : SessionStateFields) (m' : M) (old new : Pending)
    → None ≡ s.ended → LineContract o answer (standing s (Running run)) m [] sitting m' old new
    → CommandContract o answer s.ended run s m sitting m' old new
command_ran o answer run s m sitting m' old new is says =
    subst (λ (e : Option End). CommandContract o answer e run s m sitting m' old new) is says

-- the machine was asked to go back, and the answer was written at once
pub went_told :
    {M : Type 0} (o : MachineRelations M) (put : Put) (end : LineResult) (answer : BackAnswer) (n : ℕ) (text : List ℕ) (s sitting : SessionStateFields) (m m' : M) (old new : Pending)
    → o.went m n answer m' → point_after_back s n answer ≡ standing sitting Waiting
    → PutsPieces put (back_answer (o.regs m') text answer) old new → end ≡ result_of_put put
    → LineContract o end (standing s (Backing n text)) m [] sitting m' old new
went_told o Done end answer n text s sitting m m' old new may stands puts ends =
    subst (λ (a : LineResult). LineContract o a (standing s (Backing n text)) m [] sitting m' old new) (sym ends)
    (subst (λ (t : SessionPoint). SessionPart o (standing s (Backing n text)) m [] t m' Done old new) stands (went_part o answer n text s m m' old new may puts))
went_told o Failed end answer n text s sitting m m' old new may stands puts ends =
    subst (λ (a : LineResult). LineContract o a (standing s (Backing n text)) m [] sitting m' old new) (sym ends)
    (went_cut o answer n text s m m' old new may puts)

pub went_starved :
    {M : Type 0} (o : MachineRelations M) (n : ℕ) (text : List ℕ) (s : SessionStateFields) (m m' : M) (now : Pending)
    → o.went m n back.NoMemory m' → LineContract o ends.Starved (standing s (Backing n text)) m [] s m' now now
went_starved o n text s m m' now may = went_part o back.NoMemory n text s m m' now now may (puts_nothing now)

-- that many steps were taken
pub back_went :
    {M : Type 0} (o : MachineRelations M) (end : LineResult) (n : ℕ) (text : List ℕ) (s : SessionStateFields) (m : M) (sitting : SessionStateFields) (m' : M) (old new : Pending)
    → nat_le n s.taken ≡ true → LineContract o end (standing s (Backing n text)) m [] sitting m' old new
    → BackContract o end (nat_le n s.taken) text n s m sitting m' old new
back_went o end n text s m sitting m' old new enough says =
    subst (λ (b : Bool). BackContract o end b text n s m sitting m' old new) (sym enough) says

-- fewer steps were taken
pub back_not :
    {M : Type 0} (o : MachineRelations M) (put : Put) (end : LineResult) (n : ℕ) (text : List ℕ) (s : SessionStateFields) (m : M) (old new : Pending)
    → nat_le n s.taken ≡ false → PutsPieces put (unknown_line text ∷ []) old new → end ≡ result_of_put put
    → BackContract o end (nat_le n s.taken) text n s m s m old new
back_not o put end n text s m old new few puts ends =
    let there : IsTold (result_of_put put) (unknown_line text ∷ []) s m s m old new =
    record { puts = told_puts put old new (unknown_line text ∷ []) puts; sitting_stays = refl; machine_stays = refl } in
    subst (λ (b : Bool). BackContract o end b text n s m s m old new) (sym few)
    (subst (λ (a : LineResult). IsTold a (unknown_line text ∷ []) s m s m old new) (sym ends) there)

-- a line of this kind was answered at once
pub took_at_once :
    {M : Type 0} (o : MachineRelations M) (put : Put) (end : LineResult) (s : SessionStateFields) (m : M) (text : List ℕ) (kind : SessionLine) (sitting : SessionStateFields) (old new : Pending)
    → kind ≡ session_line text → activity_after_line s text kind ≡ Waiting → sitting ≡ state_after_line s kind
    → PutsPieces put (line_answer (o.regs m) (o.content m) s text kind) old new → end ≡ result_of_put put
    → LineContract o end (standing s Waiting) m (text ∷ []) sitting m old new
took_at_once o put end s m text kind sitting old new is waits remembers puts ends =
    subst (λ (a : LineResult). LineContract o a (standing s Waiting) m (text ∷ []) sitting m old new) (sym ends)
    (took_told o put s m text kind sitting old new (sym is) waits remembers puts)
