-- What a session answers to a piece of input and to the end of the input.
use Rattle.std.specs.Prelude.{ℕ, ◌≡◌, List}
use Rattle.m36_text.specs.Lines.{open_last_line}
use Rattle.m36_debug.specs.LinesTaken.{IsLines, IsUnbroken}
use Rattle.m36_debug.specs.Session.{MachineRelations, SessionPoint, standing, SessionEvent, Waiting}
use Rattle.m36_debug.specs.Session.{Over}
use Rattle.m36_debug.specs.Session.{Follow, texts_of, lines_in}
use Rattle.m36_debug.specs.SessionState.{SessionStateFields}

-- Some events of a session lead from one state of the session and the machine to another. In them
-- `lines` are taken, and `written` is what is written for them.
pub record EventsLead {M : Type 0} (o : MachineRelations M) (s : SessionPoint) (m : M)
    (lines written : List (List ℕ)) (s' : SessionPoint) (m' : M) : Type 0 where
  pub events : List (SessionEvent M)
  pub follow : Follow o s m events s' m'
  pub took : lines_in events ≡ lines
  pub said : texts_of o s events ≡ written

-- the answers to some lines, and the state after them
pub data Reply (M : Type 0) : Type 0 where
  -- all lines were answered: what is written, the part of a line that is kept, and the session and
  -- the machine as they are now
  All : List (List ℕ) → List ℕ → SessionStateFields → M → Reply M
  -- the last line that was answered is `quit`
  Quits : List (List ℕ) → Reply M
  -- after these answers the session cannot continue
  Breaks : List (List ℕ) → Reply M

-- ---- a piece of input

-- All whole lines of a text are answered, and the bytes after them are kept.
pub record RepliesAll {M : Type 0} (o : MachineRelations M) (s : SessionPoint) (m : M)
    (text : List ℕ)
    (written : List (List ℕ)) (kept : List ℕ) (sitting : SessionStateFields) (m' : M) : Type 0 where
  pub lines : List (List ℕ)
  pub is : IsLines text lines kept
  pub unbroken : IsUnbroken kept
  pub happens : EventsLead o s m lines written (standing sitting Waiting) m'

-- The first lines of a text are answered; the last of these is `quit`.
pub record RepliesQuit {M : Type 0} (o : MachineRelations M) (s : SessionPoint) (m : M)
    (text : List ℕ)
    (written : List (List ℕ)) : Type 0 where
  pub lines : List (List ℕ)
  pub rest : List ℕ
  pub is : IsLines text lines rest
  pub sitting : SessionStateFields
  pub machine : M
  pub happens : EventsLead o s m lines written (standing sitting Over) machine

-- The first lines of a text are answered, perhaps the last of them in part.
pub record RepliesSome {M : Type 0} (o : MachineRelations M) (s : SessionPoint) (m : M)
    (text : List ℕ)
    (written : List (List ℕ)) : Type 0 where
  pub lines : List (List ℕ)
  pub rest : List ℕ
  pub is : IsLines text lines rest
  pub stands : SessionPoint
  pub machine : M
  pub happens : EventsLead o s m lines written stands machine

-- this is a reply to the whole lines of a text that the machine may give
abbrev pub IsReply :
    {M : Type 0} → MachineRelations M → SessionPoint → M → List ℕ → Reply M → Type 0
IsReply o s m text (All written kept sitting m') =
    RepliesAll o s m text written kept sitting m'
IsReply o s m text (Quits written) = RepliesQuit o s m text written
IsReply o s m text (Breaks written) = RepliesSome o s m text written

-- ---- the end of the input

-- The line that has begun is answered and is `quit`.
pub record LastQuits {M : Type 0} (o : MachineRelations M) (s : SessionPoint) (m : M)
    (begun : List ℕ)
    (written : List (List ℕ)) : Type 0 where
  pub sitting : SessionStateFields
  pub machine : M
  pub happens : EventsLead o s m (open_last_line begun) written (standing sitting Over) machine

-- The line that has begun is answered in part.
pub record LastBreaks {M : Type 0} (o : MachineRelations M) (s : SessionPoint) (m : M)
    (begun : List ℕ)
    (written : List (List ℕ)) : Type 0 where
  pub stands : SessionPoint
  pub machine : M
  pub happens : EventsLead o s m (open_last_line begun) written stands machine

-- this is a reply to the line that has begun when the input ends; there is nothing to answer if it
-- is empty
abbrev pub IsLastReply :
    {M : Type 0} → MachineRelations M → SessionPoint → M → List ℕ → Reply M → Type 0
IsLastReply o s m begun (All written kept sitting m') =
    EventsLead o s m (open_last_line begun) written (standing sitting Waiting) m'
IsLastReply o s m begun (Quits written) = LastQuits o s m begun written
IsLastReply o s m begun (Breaks written) = LastBreaks o s m begun written
