-- Over two machines with the same turns the events of two sessions with the same lines write the same, up to where one
-- ends.
use Rattle.std.proofs.Common.{◌≡◌, ◌⊎◌, ℕ, List, [], ◌∷◌, ◌++◌, refl, sym, ap, subst, ◌∙◌, inl, inr}
use Rattle.m36_model.specs.Registers.{RegsFields}
use Rattle.std.specs.Prelude.{⊤, Option}
use Rattle.m36_step.specs.declared.turns.BackAnswer.{BackAnswer}
use Rattle.m36_step.specs.declared.turns.BackAnswer.TheVariants as back
use Rattle.m36_step.specs.declared.turns.Turn.{Turn}
use Rattle.m36_step.specs.declared.turns.Turn.TheVariants as turns
use Rattle.m36_program.specs.Alike.{SameInput}
use Rattle.m36_debug.specs.declared.commands.TurnCommand.{TurnCommand}
use Rattle.m36_debug.specs.declared.commands.TurnCommand.TheVariants.{Step, Go}
use Rattle.m36_debug.specs.declared.commands.AfterTurn.TheVariants.{Starves}
use Rattle.m36_debug.specs.declared.commands.RunningCommand.{RunningCommand}
use Rattle.m36_debug.specs.Commands.{after_turn}
use Rattle.m36_debug.specs.LinesTaken.{IsFirstPart}
use Rattle.m36_debug.specs.Session.{MachineRelations, Activity, Waiting, Running, Backing, Over, Starved, SessionPoint, standing}
use Rattle.m36_debug.specs.Session.{EventKind, Took, Turned, Went, SessionEvent}
use Rattle.m36_debug.specs.Session.{MayHappen, command_lines, state_after, event_lines, Follow, texts_of, lines_in, line_in}
use Rattle.m36_debug.specs.SessionState.{SessionStateFields, session_state_after}
use Rattle.m36_debug.specs.SessionTexts.{turn_lines}
use Rattle.m36_debug.specs.SessionText.{IsDeterministic, TurnIs, EachTurn}
use Rattle.m36_debug.proofs.FirstLines.{first_none, first_on}

-- Two answers of two machines are equal, and the machines are alike after them, unless memory ran out.
abbrev pub SameAnswer : {A M : Type 0} → (M → M → Type 0) → A → A → A → M → M → Type 0
SameAnswer Alike no_memory one other m n = (one ≡ no_memory) ⊎ (other ≡ no_memory) ⊎ ((one ≡ other) × Alike m n)

-- Machines that are alike show the same registers and words, and stay alike by a turn that is plain and by going back.
pub record StayAlike {M : Type 0} (o : MachineRelations M) (Plain : Turn → Type 0) (Alike : M → M → Type 0) : Type 0 where
  pub regs : (m n : M) → Alike m n → o.regs m ≡ o.regs n
  pub content : (m n : M) → Alike m n → o.content m ≡ o.content n
  pub turns :
      (m n m' n' : M) (one other : Turn) → Alike m n → o.next m one m' → o.next n other n' → Plain other
      → SameAnswer Alike turns.NoMemory one other m' n'
  pub goes_back :
      (m n m' n' : M) (k : ℕ) (one other : BackAnswer) → Alike m n → o.went m k one m' → o.went n k other n'
      → SameAnswer Alike back.NoMemory one other m' n'

-- each turn of a deterministic machine
abbrev pub AnyTurn : Turn → Type 0
AnyTurn turn = ⊤

any_event : (h : EventKind) → TurnIs AnyTurn h
any_event (Took line) = tt
any_event (Turned turn) = tt
any_event (Went answer) = tt

pub any_turn : {M : Type 0} (events : List (SessionEvent M)) → EachTurn AnyTurn events
any_turn [] = tt
any_turn (e ∷ events) = (any_event e.happened, any_turn events)

pub deterministic_alike : {M : Type 0} (o : MachineRelations M) → IsDeterministic o → StayAlike o AnyTurn (λ m n. m ≡ n)
deterministic_alike {M} o one = record {
  regs = λ m n same. ap o.regs same;
  content = λ m n same. ap o.content same;
  turns = λ m n m' n' turn other same next next' plain.
      one.turns m m' n' turn other next (subst (λ (k : M). o.next k other n') (sym same) next');
  goes_back = λ m n m' n' k answer other same went went'.
      one.goes_back m m' n' k answer other went (subst (λ (l : M). o.went l k other n') (sym same) went');
}

-- The second of two sessions is over, or it waits and has taken all lines of the first.
abbrev pub IsFurther : Activity → List (List ℕ) → List (List ℕ) → Type 0
IsFurther doing lines others = (doing ≡ Over) ⊎ ((doing ≡ Waiting) × IsFirstPart lines others)

-- ---- memory has run out

-- nothing more happens
starved_none :
    {M : Type 0} (o : MachineRelations M) (m : M) (h : EventKind) (m' : M) → MayHappen o Starved m h m' → ⊥
starved_none o m (Took line) m' may = may
starved_none o m (Turned turn) m' may = may
starved_none o m (Went answer) m' may = may

-- What holds of the events after it.
record NoMore {M : Type 0} (o : MachineRelations M) (s : SessionPoint) (events : List (SessionEvent M)) (last : SessionPoint)
    : Type 0 where
  texts : texts_of o s events ≡ []
  doing : last.doing ≡ Starved

starved_stays :
    {M : Type 0} (o : MachineRelations M) (sitting : SessionStateFields) (doing : Activity) (m : M) (events : List (SessionEvent M))
    (s' : SessionPoint) (m' : M)
    → doing ≡ Starved → Follow o (standing sitting doing) m events s' m' → NoMore o (standing sitting doing) events s'
unfolding Follow texts_of
starved_stays o sitting doing m [] s' m' starved follow =
    record { texts = refl; doing = ap (λ (s : SessionPoint). s.doing) follow.0 ∙ starved }
starved_stays o sitting doing m (e ∷ events) s' m' starved follow =
    absurd (starved_none o m e.happened e.after (subst (λ d. MayHappen o d m e.happened e.after) starved follow.0))

not_further : (doing : Activity) (lines others : List (List ℕ)) → doing ≡ Starved → IsFurther doing lines others → ⊥
not_further doing lines others starved (inl over) = let is : Starved ≡ Over = sym starved ∙ over in cc
not_further doing lines others starved (inr waits) = let is : Starved ≡ Waiting = sym starved ∙ waits.0 in cc

-- a turn that ran out of memory
turn_starves :
    (g : RegsFields) (s : SessionStateFields) (run : RunningCommand)
    → (state_after g (standing s (Running run)) (Turned turns.NoMemory)).doing ≡ Starved
unfolding state_after after_turn
turn_starves g s run = refl

command_silent :
    (command : TurnCommand) (g : RegsFields) (taken : ℕ) (after : SessionStateFields)
    → command_lines command g taken after turns.NoMemory Starves ≡ []
unfolding turn_lines
command_silent Step g taken after = refl
command_silent Go g taken after = refl

turn_silent :
    (g : RegsFields) (content : ℕ → ℕ → Option ℕ) (s : SessionStateFields) (run : RunningCommand)
    → event_lines g content (standing s (Running run)) (Turned turns.NoMemory) ≡ []
unfolding event_lines after_turn
turn_silent g content s run = command_silent run.command g s.taken (session_state_after s turns.NoMemory)

-- going back ran out of memory
back_starves :
    (g : RegsFields) (s : SessionStateFields) (n : ℕ) (line : List ℕ)
    → (state_after g (standing s (Backing n line)) (Went back.NoMemory)).doing ≡ Starved
unfolding state_after
back_starves g s n line = refl

back_silent :
    (g : RegsFields) (content : ℕ → ℕ → Option ℕ) (s : SessionStateFields) (n : ℕ) (line : List ℕ)
    → event_lines g content (standing s (Backing n line)) (Went back.NoMemory) ≡ []
unfolding event_lines
back_silent g content s n line = refl

-- ---- an event of each

-- what is written for an event and the events after it
abbrev after_event : {M : Type 0} → MachineRelations M → SessionPoint → EventKind → M → List (SessionEvent M) → List (List ℕ)
after_event o s h a events = event_lines (o.regs a) (o.content a) s h ++ texts_of o (state_after (o.regs a) s h) events

-- memory ran out in the first session
first_starved :
    {M : Type 0} (o : MachineRelations M) (s : SessionPoint) (h : EventKind) (a : M) (events : List (SessionEvent M))
    (s1 : SessionPoint) (m1 : M) (all : List (List ℕ))
    → event_lines (o.regs a) (o.content a) s h ≡ [] → (state_after (o.regs a) s h).doing ≡ Starved
    → Follow o (state_after (o.regs a) s h) a events s1 m1 → IsFirstPart (after_event o s h a events) all
first_starved o s h a events s1 m1 all silent starved follow =
    let after : SessionPoint = state_after (o.regs a) s h in
    let none = starved_stays o after.sitting after.doing a events s1 m1 starved follow in
    subst (λ l. IsFirstPart l all) (sym (ap (λ l. l ++ texts_of o after events) silent ∙ none.texts)) (first_none all)

-- memory ran out in the second session, which so is not over and does not wait
second_starved :
    {M P : Type 0} (o : MachineRelations M) (s : SessionPoint) (h : EventKind) (a : M) (others : List (SessionEvent M))
    (s2 : SessionPoint) (m2 : M) (lines taken : List (List ℕ))
    → (state_after (o.regs a) s h).doing ≡ Starved → Follow o (state_after (o.regs a) s h) a others s2 m2 → IsFurther
    s2.doing lines taken → P
second_starved o s h a others s2 m2 lines taken starved follow further =
    let after : SessionPoint = state_after (o.regs a) s h in
    let none = starved_stays o after.sitting after.doing a others s2 m2 starved follow in
    absurd (not_further s2.doing lines taken none.doing further)

-- What is shown of the events after the first of each.
abbrev Later : {M : Type 0} → MachineRelations M → (M → M → Type 0) → List (SessionEvent M) → List (SessionEvent M)
    → SessionPoint → M → SessionPoint → M → Type 0
Later {M} o Alike events others s1 m1 s2 m2 =
    (s : SessionPoint) (m n : M) → Alike m n → Follow o s m events s1 m1 → Follow o s n others s2 m2
    → SameInput (lines_in events) (lines_in others) → IsFurther s2.doing (lines_in events) (lines_in others)
    → IsFirstPart (texts_of o s events) (texts_of o s others)

-- the same event in both
same_event :
    {M : Type 0} (o : MachineRelations M) (Plain : Turn → Type 0) (Alike : M → M → Type 0) → StayAlike o Plain Alike
    → (s : SessionPoint) (h h' : EventKind) (a a' : M) (events others : List (SessionEvent M)) (s1 : SessionPoint)
    (m1 : M) (s2 : SessionPoint) (m2 : M)
    → h ≡ h' → Alike a a' → Follow o (state_after (o.regs a) s h) a events s1 m1 → Follow o
    (state_after (o.regs a') s h') a' others s2 m2
    → SameInput (lines_in events) (lines_in others) → IsFurther s2.doing (lines_in events) (lines_in others)
    → Later o Alike events others s1 m1 s2 m2
    → IsFirstPart (after_event o s h a events) (after_event o s h' a' others)
same_event o Plain Alike stay s h h' a a' events others s1 m1 s2 m2 same_kind alike follow follow' same further later =
    let regs : o.regs a ≡ o.regs a' = stay.regs a a' alike in
    let content : o.content a ≡ o.content a' = stay.content a a' alike in
    let point : state_after (o.regs a) s h ≡ state_after (o.regs a') s h' = λ i. state_after (regs i) s (same_kind i) in
    let texts : event_lines (o.regs a) (o.content a) s h ++ texts_of o (state_after (o.regs a) s h) others ≡ after_event o s h'
    a' others =
    λ i. event_lines (regs i) (content i) s (same_kind i) ++ texts_of o (point i) others in
    subst (λ l. IsFirstPart (after_event o s h a events) l) texts
    (first_on (event_lines (o.regs a) (o.content a) s h) (texts_of o (state_after (o.regs a) s h) events)
    (texts_of o (state_after (o.regs a) s h) others)
    (later (state_after (o.regs a) s h) a a' alike follow
    (subst (λ (p : SessionPoint). Follow o p a' others s2 m2) (sym point) follow') same further))

further_tail : (doing : Activity) (line other : List ℕ) (lines others : List (List ℕ))
    → IsFurther doing (line ∷ lines) (other ∷ others) → IsFurther doing lines others
further_tail doing line other lines others (inl over) = inl over
further_tail doing line other lines others (inr waits) = inr (
  waits.0,
  record { rest = waits.1.rest; is = let e : other ∷ others ≡ line ∷ (lines ++ waits.1.rest) = waits.1.is in cc },
)

-- a turn of each
both_turned :
    {M : Type 0} (o : MachineRelations M) (Plain : Turn → Type 0) (Alike : M → M → Type 0) → StayAlike o Plain Alike
    → (s : SessionStateFields) (run : RunningCommand) (turn turn' : Turn) (a a' : M) (events others : List (SessionEvent M))
    (s1 : SessionPoint) (m1 : M) (s2 : SessionPoint) (m2 : M)
    → SameAnswer Alike turns.NoMemory turn turn' a a'
    → Follow o (state_after (o.regs a) (standing s (Running run)) (Turned turn)) a events s1 m1
    → Follow o (state_after (o.regs a') (standing s (Running run)) (Turned turn')) a' others s2 m2
    → SameInput (lines_in events) (lines_in others) → IsFurther s2.doing (lines_in events) (lines_in others)
    → Later o Alike events others s1 m1 s2 m2
    → IsFirstPart (after_event o (standing s (Running run)) (Turned turn) a events)
    (after_event o (standing s (Running run)) (Turned turn') a' others)
both_turned o Plain Alike stay s run turn turn' a a' events others s1 m1 s2 m2 (inl memory) follow follow' same further
    later =
    let p : SessionPoint = standing s (Running run) in
    first_starved o p (Turned turn) a events s1 m1 (after_event o p (Turned turn') a' others)
    (ap (λ t. event_lines (o.regs a) (o.content a) p (Turned t)) memory ∙ turn_silent (o.regs a) (o.content a) s run)
    (ap (λ t. (state_after (o.regs a) p (Turned t)).doing) memory ∙ turn_starves (o.regs a) s run) follow
both_turned o Plain Alike stay s run turn turn' a a' events others s1 m1 s2 m2 (inr (inl memory)) follow follow' same
    further later =
    let p : SessionPoint = standing s (Running run) in
    second_starved o p (Turned turn') a' others s2 m2 (lines_in events) (lines_in others)
    (ap (λ t. (state_after (o.regs a') p (Turned t)).doing) memory ∙ turn_starves (o.regs a') s run) follow' further
both_turned o Plain Alike stay s run turn turn' a a' events others s1 m1 s2 m2 (inr (inr equal)) follow follow' same
    further later =
    same_event o Plain Alike stay (standing s (Running run)) (Turned turn) (Turned turn') a a' events others s1 m1 s2 m2
    (ap (λ t. Turned t) equal.0) equal.1 follow follow' same further later

-- both went back
both_went :
    {M : Type 0} (o : MachineRelations M) (Plain : Turn → Type 0) (Alike : M → M → Type 0) → StayAlike o Plain Alike
    → (s : SessionStateFields) (n : ℕ) (line : List ℕ) (answer answer' : BackAnswer) (a a' : M)
    (events others : List (SessionEvent M))
    (s1 : SessionPoint) (m1 : M) (s2 : SessionPoint) (m2 : M)
    → SameAnswer Alike back.NoMemory answer answer' a a'
    → Follow o (state_after (o.regs a) (standing s (Backing n line)) (Went answer)) a events s1 m1
    → Follow o (state_after (o.regs a') (standing s (Backing n line)) (Went answer')) a' others s2 m2
    → SameInput (lines_in events) (lines_in others) → IsFurther s2.doing (lines_in events) (lines_in others)
    → Later o Alike events others s1 m1 s2 m2
    → IsFirstPart (after_event o (standing s (Backing n line)) (Went answer) a events)
    (after_event o (standing s (Backing n line)) (Went answer') a' others)
both_went o Plain Alike stay s n line answer answer' a a' events others s1 m1 s2 m2 (inl memory) follow follow' same
    further later =
    let p : SessionPoint = standing s (Backing n line) in
    first_starved o p (Went answer) a events s1 m1 (after_event o p (Went answer') a' others)
    (ap (λ t. event_lines (o.regs a) (o.content a) p (Went t)) memory ∙ back_silent (o.regs a) (o.content a) s n line)
    (ap (λ t. (state_after (o.regs a) p (Went t)).doing) memory ∙ back_starves (o.regs a) s n line) follow
both_went o Plain Alike stay s n line answer answer' a a' events others s1 m1 s2 m2 (inr (inl memory)) follow follow'
    same further later =
    let p : SessionPoint = standing s (Backing n line) in
    second_starved o p (Went answer') a' others s2 m2 (lines_in events) (lines_in others)
    (ap (λ t. (state_after (o.regs a') p (Went t)).doing) memory ∙ back_starves (o.regs a') s n line) follow' further
both_went o Plain Alike stay s n line answer answer' a a' events others s1 m1 s2 m2 (inr (inr equal)) follow follow'
    same further later =
    same_event o Plain Alike stay (standing s (Backing n line)) (Went answer) (Went answer') a a' events others s1 m1 s2
    m2
    (ap (λ t. Went t) equal.0) equal.1 follow follow' same further later

-- both took a line
both_took :
    {M : Type 0} (o : MachineRelations M) (Plain : Turn → Type 0) (Alike : M → M → Type 0) → StayAlike o Plain Alike
    → (s : SessionStateFields) (m n : M) (line other : List ℕ) (a a' : M) (events others : List (SessionEvent M))
    (s1 : SessionPoint) (m1 : M) (s2 : SessionPoint) (m2 : M)
    → Alike m n → a ≡ m → a' ≡ n
    → Follow o (state_after (o.regs a) (standing s Waiting) (Took line)) a events s1 m1
    → Follow o (state_after (o.regs a') (standing s Waiting) (Took other)) a' others s2 m2
    → SameInput (line ∷ lines_in events) (other ∷ lines_in others) → IsFurther s2.doing (line ∷ lines_in events)
    (other ∷ lines_in others)
    → Later o Alike events others s1 m1 s2 m2
    → IsFirstPart (after_event o (standing s Waiting) (Took line) a events)
    (after_event o (standing s Waiting) (Took other) a' others)
both_took {M} o Plain Alike stay s m n line other a a' events others s1 m1 s2 m2 alike here there follow follow' same
    further later =
    same_event o Plain Alike stay (standing s Waiting) (Took line) (Took other) a a' events others s1 m1 s2 m2
    (ap (λ l. Took l) same.0) (subst (λ (k : M). Alike k a') (sym here)
    (subst (λ (k : M). Alike m k) (sym there) alike)) follow follow' same.1
    (further_tail s2.doing line other (lines_in events) (lines_in others) further) later

both_happened :
    {M : Type 0} (o : MachineRelations M) (Plain : Turn → Type 0) (Alike : M → M → Type 0) → StayAlike o Plain Alike
    → (s : SessionStateFields) (doing : Activity) (m n : M) (h h' : EventKind) (a a' : M)
    (events others : List (SessionEvent M))
    (s1 : SessionPoint) (m1 : M) (s2 : SessionPoint) (m2 : M)
    → Alike m n → TurnIs Plain h' → MayHappen o doing m h a → MayHappen o doing n h' a'
    → Follow o (state_after (o.regs a) (standing s doing) h) a events s1 m1
    → Follow o (state_after (o.regs a') (standing s doing) h') a' others s2 m2
    → SameInput (line_in h ++ lines_in events) (line_in h' ++ lines_in others)
    → IsFurther s2.doing (line_in h ++ lines_in events) (line_in h' ++ lines_in others)
    → Later o Alike events others s1 m1 s2 m2
    → IsFirstPart (after_event o (standing s doing) h a events) (after_event o (standing s doing) h' a' others)
both_happened o Plain Alike stay s Waiting m n (Took line) (Took other) a a' events others s1 m1 s2 m2 alike plain may
    may' follow follow' same further later =
    both_took o Plain Alike stay s m n line other a a' events others s1 m1 s2 m2 alike may may' follow follow' same
    further later
both_happened o Plain Alike stay s (Running run) m n (Turned turn) (Turned turn') a a' events others s1 m1 s2 m2 alike
    plain may may' follow follow' same further later =
    both_turned o Plain Alike stay s run turn turn' a a' events others s1 m1 s2 m2
    (stay.turns m n a a' turn turn' alike may may' plain) follow follow' same further later
both_happened o Plain Alike stay s (Backing k line) m n (Went answer) (Went answer') a a' events others s1 m1 s2 m2
    alike plain may may' follow follow' same further later =
    both_went o Plain Alike stay s k line answer answer' a a' events others s1 m1 s2 m2
    (stay.goes_back m n a a' k answer answer' alike may may') follow follow' same further later
both_happened o Plain Alike stay s Waiting m n (Took line) (Turned turn') a a' events others s1 m1 s2 m2 alike plain may
    may' follow follow' same further later = absurd may'
both_happened o Plain Alike stay s Waiting m n (Took line) (Went answer') a a' events others s1 m1 s2 m2 alike plain may
    may' follow follow' same further later = absurd may'
both_happened o Plain Alike stay s (Running run) m n (Turned turn) (Took other) a a' events others s1 m1 s2 m2 alike
    plain may may' follow follow' same further later = absurd may'
both_happened o Plain Alike stay s (Running run) m n (Turned turn) (Went answer') a a' events others s1 m1 s2 m2 alike
    plain may may' follow follow' same further later = absurd may'
both_happened o Plain Alike stay s (Backing k line) m n (Went answer) (Took other) a a' events others s1 m1 s2 m2 alike
    plain may may' follow follow' same further later = absurd may'
both_happened o Plain Alike stay s (Backing k line) m n (Went answer) (Turned turn') a a' events others s1 m1 s2 m2
    alike plain may may' follow follow' same further later = absurd may'
both_happened o Plain Alike stay s doing m n h h' a a' events others s1 m1 s2 m2 alike plain may may' follow follow'
    same further later = absurd may

-- the second has ended
no_line : (line : List ℕ) (lines rest : List (List ℕ)) → [] ≡ line ∷ (lines ++ rest) → ⊥
no_line line lines rest is = cc

none_further :
    {M : Type 0} (o : MachineRelations M) (doing : Activity) (m : M) (h : EventKind) (a : M) (lines : List (List ℕ))
    → MayHappen o doing m h a → IsFurther doing (line_in h ++ lines) [] → ⊥
none_further o Waiting m (Took line) a lines may (inl over) = let is = over in cc
none_further o Waiting m (Took line) a lines may (inr waits) = no_line line lines waits.1.rest waits.1.is
none_further o (Running run) m (Turned turn) a lines may (inl over) = let is = over in cc
none_further o (Running run) m (Turned turn) a lines may (inr waits) = let is = waits.0 in cc
none_further o (Backing n line) m (Went answer) a lines may (inl over) = let is = over in cc
none_further o (Backing n line) m (Went answer) a lines may (inr waits) = let is = waits.0 in cc
none_further o doing m h a lines may further = absurd may

-- If the second session is over, or waits and has taken all lines of the first, the first wrote a prefix of what the
-- second wrote.
pub first_texts :
    {M : Type 0} (o : MachineRelations M) (Plain : Turn → Type 0) (Alike : M → M → Type 0) → StayAlike o Plain Alike
    → (sitting : SessionStateFields) (doing : Activity) (m n : M) (events others : List (SessionEvent M))
    (s1 : SessionPoint) (m1 : M) (s2 : SessionPoint) (m2 : M)
    → Alike m n → EachTurn Plain others → Follow o (standing sitting doing) m events s1 m1 → Follow o
    (standing sitting doing) n others s2 m2
    → SameInput (lines_in events) (lines_in others) → IsFurther s2.doing (lines_in events) (lines_in others)
    → IsFirstPart (texts_of o (standing sitting doing) events) (texts_of o (standing sitting doing) others)
unfolding Follow texts_of lines_in
first_texts o Plain Alike stay sitting doing m n [] others s1 m1 s2 m2 alike plain follow follow' same further =
    first_none (texts_of o (standing sitting doing) others)
first_texts o Plain Alike stay sitting doing m n (e ∷ events) [] s1 m1 s2 m2 alike plain follow follow' same further =
    absurd (none_further o doing m e.happened e.after (lines_in events) follow.0
    (subst (λ d. IsFurther d (line_in e.happened ++ lines_in events) []) (ap (λ (s : SessionPoint). s.doing) follow'.0)
    further))
first_texts o Plain Alike stay sitting doing m n (e ∷ events) (e' ∷ others) s1 m1 s2 m2 alike plain follow follow' same
    further =
    both_happened o Plain Alike stay sitting doing m n e.happened e'.happened e.after e'.after events others s1 m1 s2 m2
    alike plain.0 follow.0 follow'.0 follow.1 follow'.1 same further
    (λ s k l alike' on on' agree further'.
    first_texts o Plain Alike stay s.sitting s.doing k l events others s1 m1 s2 m2 alike' plain.1 on on' agree further')
