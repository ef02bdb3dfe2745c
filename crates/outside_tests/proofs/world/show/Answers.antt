-- A read, and then a put.
use Rattle.std.proofs.Common.{[], ◌∷◌}
use Rattle.m36_outside.specs.declared.folder.ReadAnswer.TheVariants.{Read}
use Rattle.m36_world.specs.CallEvents.{put_events}
use Rattle.m36_world.specs.declared.event.Event.TheVariants.{FileRead}
use Rattle.m36_world.proofs.Following.{follow_one, follow_on, follow_put}
use Rattle.outside_tests.proofs.world.show.Goals as goal

pub returns-in-Read : goal.returns-in-Read
returns-in-Read g c =
    let text = c.in-Read.text in (
      text,
      follow_on (FileRead c.args.name.now (Read text) ∷ []) (put_events c.put.result text) _ _ _
          (follow_one _ _ _ c.in-Read.ensures) (follow_put _ _ _ _ (rw c.bytes.ensures at c.put.ensures)),
    )

pub returns-in_default : goal.returns-in_default
returns-in_default g c = follow_one _ _ _ c.read.ensures
