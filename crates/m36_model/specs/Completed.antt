-- The references that a run completes, and how they change the store: by the marks of each, in
-- order, and by nothing else. Words are written only after the run.
use Rattle.std.specs.Prelude.{ℕ, ◌≡◌, if◌then◌else◌, List, [], ◌∷◌, ◌++◌, Result, Ok, Err}
use Rattle.m36_desc.specs.Fields.{DbrFields}
use Rattle.m36_model.specs.Registers.{RegsFields}
use Rattle.m36_model.specs.Act.{Request, Answer, Act, done, ask}
use Rattle.m36_model.specs.Store.{Store, Midstep, State, serve, touches, with_reference}
use Rattle.m36_model.specs.Core.{core_store}
use Rattle.m36_model.specs.Step.{program, start_of_step, run_of_step}
use Rattle.m36_model.specs.declared.outcome.Fault.{Fault}
use Rattle.m36_model.specs.declared.place.Reference.{Reference}

-- a request is completed if it is answered and its kind sets marks: not a target of a transfer or a
-- call, nor the word that ABSA locates
abbrev pub completed_by : Request → Result Answer Fault → List Request
completed_by q (Ok a) = if touches q.kind then q ∷ [] else []
completed_by q (Err f) = []

-- the requests that a run completes, in order
unfoldable pub completed_requests :
    {A S : Type 0} → Store S → RegsFields → Act A → Midstep S → List Request
completed_requests o g (done a) m = []
completed_requests o g (ask q next) m =
    let t = serve o g m q in completed_by q t.reply ++ completed_requests o g (next t.reply) t.mid

-- the store with the marks of requests, one after another
unfoldable pub with_marks_of : {S : Type 0} → Store S → DbrFields → S → List Request → S
with_marks_of o dbr s [] = s
with_marks_of o dbr s (q ∷ more) =
    with_marks_of o dbr (o.marked s dbr q.kind q.at.seg q.at.word) more

-- the completed references after these requests; the odd word of an indirect pair joins its even
-- word
unfoldable pub references_of : List Reference → List Request → List Reference
references_of refs [] = refs
references_of refs (q ∷ more) = references_of (with_reference q.kind q refs) more

-- The run of a step from a state sets exactly the marks of the requests that it completes, and
-- records their references.
pub record HasMarksOfCompleted {S : Type 0} (o : Store S) (s : State S) : Type 0 where
  pub marks :
      (run_of_step o s).mid.store
      ≡ with_marks_of o s.regs.dbr s.store
      (completed_requests o s.regs (program s.regs) (start_of_step s))
  pub references :
      (run_of_step o s).mid.refs ≡ references_of []
      (completed_requests o s.regs (program s.regs) (start_of_step s))

-- In every step, exactly the marks of the completed references are set before words are written.
abbrev pub MarksOfCompletedReferences : Type 0
MarksOfCompletedReferences = (s : State (List ℕ)) → HasMarksOfCompleted core_store s
