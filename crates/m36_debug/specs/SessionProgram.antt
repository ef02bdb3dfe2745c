-- What a session does, as a program: it takes a piece of input, puts the answers to the lines that
-- are whole by then, and only after that takes the next piece.
use Rattle.std.specs.Prelude.{ℕ, zero, suc, ◌≤◌, true, false, refl, List, [], ◌∷◌, ◌++◌, length}
use Rattle.std.specs.Prelude.{codes, Result, Ok, Err}
use Rattle.m36_status.specs.declared.status.Code.TheVariants.{S1}
use Rattle.m36_status.specs.declared.status.Status.{Status}
use Rattle.m36_status.specs.declared.status.Status.TheVariants as status
use Rattle.m36_program.specs.Program.{May, Program, done, stops, takes, some, wants, puts_all}
use Rattle.m36_program.specs.Readers.{bad_file}
use Rattle.m36_debug.specs.declared.fault.SessionFault.{SessionFault}
use Rattle.m36_debug.specs.declared.fault.SessionFault.TheVariants as fault
use Rattle.m36_debug.specs.Replies.{Reply, All, Quits, Breaks, IsReply, IsLastReply}
use Rattle.m36_debug.specs.Session.{MachineRelations, Waiting, standing}
use Rattle.m36_debug.specs.SessionContract.{bytes_limit}
use Rattle.m36_debug.specs.SessionState.{SessionStateFields, initial_session_state}

-- what a session may do: it takes input, and writes no file
abbrev pub talking : May
talking = record { writes = false; takes = true }

-- a session as a program: it has no value
abbrev pub Talk : Type 1
Talk = Program talking (Unit {0})

-- the name of the standard input
abbrev pub stdin_name : List ℕ
stdin_name = codes "stdin"

-- S1: there is more input than a session takes
unfoldable pub too_long : Talk
too_long = stops (status.BadFile (bad_file stdin_name S1 0)) tt

-- Memory has run out: the program can only end with NoMemory here.
unfoldable pub starves : Talk
starves = wants (some (λ (u : Unit {0}). ⊥) (λ u. done tt))

-- takes a piece of at most `most` bytes, and continues with it
unfoldable pub takes_within : ℕ → (List ℕ → Talk) → Talk
takes_within most go =
    takes refl (λ piece. some (λ (u : Unit {0}). length piece ≤ most) (λ u. go piece))

-- Puts the answers to some lines. Then the session continues from the state after them, is over, or
-- runs out of memory.
abbrev pub on_reply : {M : Type 0} → (List ℕ → SessionStateFields → M → Talk) → Reply M → Talk
on_reply on (All written kept s m) = puts_all written (on kept s m)
on_reply on (Quits written) = puts_all written (done tt)
on_reply on (Breaks written) = puts_all written starves

-- answers with any reply that has the property, and continues
unfoldable pub replies :
    {M : Type 0} → (Reply M → Type 0) → (List ℕ → SessionStateFields → M → Talk) → Talk
replies Is on = some Is (on_reply on)

-- answers the line that has begun, at the end of the input; then the session is over
abbrev pub answer_at_end :
    {M : Type 0} → MachineRelations M → List ℕ → SessionStateFields → M → Talk
answer_at_end o begun s m =
    replies (IsLastReply o (standing s Waiting) m begun) (λ kept sitting later. done tt)

-- continues by a piece: an empty one is the end of the input; otherwise by the count of its bytes
-- less 1, and the piece
abbrev pub by_piece : Talk → (ℕ → List ℕ → Talk) → List ℕ → Talk
by_piece end more [] = end
by_piece end more (byte ∷ bytes) = more (length bytes) (byte ∷ bytes)

-- A session from a state: the first number is how many bytes it may take, and the second how many
-- of these it has taken already. The list is the part of a line that has begun. Once no byte may be
-- taken, a session still asks for one: if there is one, the input is too long.
unfoldable pub session_from :
    {M : Type 0} → MachineRelations M → ℕ → ℕ → List ℕ → SessionStateFields → M → Talk
session_from o zero zero begun s m =
    takes_within 1 (by_piece (answer_at_end o begun s m) (λ taken piece. too_long))
session_from o zero (suc taken) begun s m = too_long
session_from o (suc left) zero begun s m =
    takes_within (suc left)
    (by_piece (answer_at_end o begun s m) (λ taken piece.
    replies (IsReply o (standing s Waiting) m (begun ++ piece)) (session_from o left taken)))
session_from o (suc left) (suc taken) begun s m = session_from o left taken begun s m

-- a session over a machine
unfoldable pub session : {M : Type 0} → MachineRelations M → M → Talk
session o m = session_from o bytes_limit 0 [] initial_session_state m

-- the result of the whole command for each result of a session
abbrev pub ended_by : Result (Unit {0}) SessionFault → Result (Unit {0}) Status
ended_by (Ok u) = Ok tt
ended_by (Err fault.ReadFault) = Err status.ReadFault
ended_by (Err fault.WriteFault) = Err status.WriteFault
ended_by (Err fault.TooLong) = Err (status.BadFile (bad_file stdin_name S1 0))
ended_by (Err fault.NoMemory) = Err status.NoMemory
