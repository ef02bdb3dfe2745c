-- What a call of the program of a run is: a booted run. Its pieces are those of the turns of the
-- run and of its end, and its status is that of the end.
use Rattle.std.specs.Prelude.{ℕ, ◌≡◌, ◌⊎◌, ⊤, List, [], ◌++◌, Option, Some, None, Result, Err}
use Rattle.m36_world.specs.declared.event.Event.{Event}
use Rattle.m36_step.specs.declared.turns.Turn.{Turn}
use Rattle.m36_super.specs.Library.{Library}
use Rattle.m36_super.specs.BootedRun.{Booted}
use Rattle.m36_status.specs.declared.status.Status.{Status}
use Rattle.m36_status.specs.declared.status.Status.TheVariants.{WriteFault, NoMemory}
use Rattle.m36_program.specs.Early.{result_of_status}
use Rattle.m36_program.specs.MayHappen.{pieces_of}
use Rattle.cmd_folder.specs.declared.finish.Finish.{Finish}
use Rattle.cmd_folder.specs.RunText.{run_pieces, finish_status}
use Rattle.cmd_folder.specs.Runs.{Goes, Finishes, AwaitsLink}
use Rattle.cmd_folder.specs.RunProgram.{RunContext}

-- If the run finished, it finished in this way.
abbrev pub FinishesAs : Option Finish → Library → ℕ → List Turn → Booted → Type 0
FinishesAs None lib limit turns last = ⊤
FinishesAs (Some how) lib limit turns last = Finishes how lib limit turns last

-- The call ended as the run finished; or memory ran out in the link service that is next.
abbrev pub EndsAs : Option Finish → Booted → Result (Unit {0}) Status → Type 0
EndsAs None last result = AwaitsLink last.next_event × (result ≡ Err NoMemory)
EndsAs (Some how) last result = result ≡ result_of_status (finish_status (Some how))

-- All pieces were put, and then the call ended; or the output failed.
abbrev pub StopsAs :
    Option Finish → Booted → List (List ℕ) → Result (Unit {0}) Status → Type 0
StopsAs how last unput result =
    ((unput ≡ []) × EndsAs how last result) ⊎ (result ≡ Err WriteFault)

-- The events are those of a booted run of at most `limit` steps, up to its finish or to where the
-- call stopped. Every call is so (`run` of `FolderLaw`), and every run that finishes has such a
-- call (`some_call`).
pub record IsBootedRun (run : RunContext) (limit : ℕ) (first : Booted) (events : List Event)
    (result : Result (Unit {0}) Status) : Type 0 where
  pub turns : List Turn
  pub last : Booted
  pub how : Option Finish
  pub goes : Goes run.lib limit first turns last
  pub finishes : FinishesAs how run.lib limit turns last
  -- the pieces that were not put
  pub unput : List (List ℕ)
  pub pieces : run_pieces run.denied run.output turns how ≡ pieces_of events ++ unput
  pub stops : StopsAs how last unput result
