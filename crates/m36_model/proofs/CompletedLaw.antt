-- A run sets exactly the marks of the requests that it completes, and records them.
use Rattle.std.proofs.Common.{ℕ, ◌≡◌, refl, sym, ap, ◌∙◌, ◌==◌, Option, Some, None, List, [], ◌∷◌, ◌++◌, Result, Ok, Err}
use Rattle.m36_desc.specs.Fields.{SdwFields, DbrFields}
use Rattle.m36_model.specs.Registers.{RegsFields}
use Rattle.m36_model.specs.Act.{RequestKind, Fetch, Indirect, Odd, Read, Write, Transfer, Call, Locate, Request, Act, done, ask}
use Rattle.m36_model.specs.Store.{Spot, Store, Midstep, ServeResult, serve, serve_sdw, serve_rights, serve_places, refusing_violation, spots_of_request, run, with_reference}
use Rattle.m36_model.specs.Core.{core_store}
use Rattle.m36_model.specs.Step.{program, start_of_step}
use Rattle.m36_model.specs.Completed.{completed_by, completed_requests, with_marks_of, references_of, MarksOfCompletedReferences}
use Rattle.m36_model.specs.declared.outcome.Refusal.{Refusal}
use Rattle.m36_model.specs.declared.place.Reference.{Reference}

with_more_marks : {S : Type 0} (o : Store S) (dbr : DbrFields) (s : S) (xs ys : List Request) → with_marks_of o dbr s (xs ++ ys) ≡ with_marks_of o dbr (with_marks_of o dbr s xs) ys
unfolding with_marks_of
with_more_marks o dbr s [] ys = refl
with_more_marks o dbr s (x ∷ xs) ys = with_more_marks o dbr (o.marked s dbr x.kind x.at.seg x.at.word) xs ys

more_references : (refs : List Reference) (xs ys : List Request) → references_of refs (xs ++ ys) ≡ references_of (references_of refs xs) ys
unfolding references_of
more_references refs [] ys = refl
more_references refs (x ∷ xs) ys = more_references (with_reference x.kind x refs) xs ys

-- how one request changes the store and the references
record Does {S : Type 0} (o : Store S) (g : RegsFields) (m : Midstep S) (q : Request) (t : ServeResult S) : Type 0 where
  marks : t.mid.store ≡ with_marks_of o g.dbr m.store (completed_by q t.reply)
  references : t.mid.refs ≡ references_of m.refs (completed_by q t.reply)

module _ {S : Type 0} (o : Store S) (g : RegsFields) (m : Midstep S) where
  by_places : (q : Request) (k : RequestKind) → q.kind ≡ k → (d : SdwFields) (r : Result (List Spot) (ℕ × Refusal)) → Does o g m q (serve_places o g m q d r)
  unfolding with_marks_of references_of
  by_places q k e d (Err f) = record { marks = refl; references = refl }
  by_places q Fetch e d (Ok spots) = record { marks = rw e refl; references = rw e refl }
  by_places q Indirect e d (Ok spots) = record { marks = rw e refl; references = rw e refl }
  by_places q Odd e d (Ok spots) = record { marks = rw e refl; references = rw e refl }
  by_places q Read e d (Ok spots) = record { marks = rw e refl; references = rw e refl }
  by_places q Write e d (Ok spots) = record { marks = rw e refl; references = rw e refl }
  by_places q Transfer e d (Ok spots) = record { marks = rw e refl; references = rw e refl }
  by_places q Call e d (Ok spots) = record { marks = rw e refl; references = rw e refl }
  by_places q Locate e d (Ok spots) = record { marks = rw e refl; references = rw e refl }

  by_rights : (q : Request) (d : SdwFields) (r : Option ℕ) → Does o g m q (serve_rights o g m q d r)
  unfolding with_marks_of references_of
  by_rights q d (Some acv) = record { marks = refl; references = refl }
  by_rights q d None = by_places q q.kind refl d (spots_of_request o m.store g.dbr d q)

  by_sdw : (q : Request) (r : Result SdwFields Refusal) → Does o g m q (serve_sdw o g m q r)
  unfolding with_marks_of references_of
  by_sdw q (Err why) = record { marks = refl; references = refl }
  by_sdw q (Ok d) =
      by_rights q d (refusing_violation q.kind d q.at.ring g.ppr.prr (q.at.seg == g.ppr.psr) q.at.word)

  does : (q : Request) → Does o g m q (serve o g m q)
  unfolding serve
  does q = by_sdw q (o.sdw m.store g.dbr q.at.seg)

-- how a run changes them
record DoesAll {A S : Type 0} (o : Store S) (g : RegsFields) (act : Act A) (m : Midstep S) : Type 0 where
  marks : (run o g act m).mid.store ≡ with_marks_of o g.dbr m.store (completed_requests o g act m)
  references : (run o g act m).mid.refs ≡ references_of m.refs (completed_requests o g act m)

does_all : {A S : Type 0} (o : Store S) (g : RegsFields) (act : Act A) (m : Midstep S) → DoesAll o g act m
unfolding run completed_requests with_marks_of references_of
does_all o g (done a) m = record { marks = refl; references = refl }
does_all {A} {S} o g (ask q next) m =
    let t = serve o g m q in
    let one = does o g m q in
    let rest = does_all o g (next t.reply) t.mid in
    let xs = completed_by q t.reply in
    let ys = completed_requests o g (next t.reply) t.mid in
    record {
      marks = rest.marks ∙ ap (λ (s : S). with_marks_of o g.dbr s ys) one.marks ∙ sym (with_more_marks o g.dbr m.store xs ys);
      references = rest.references ∙ ap (λ (refs : List Reference). references_of refs ys) one.references ∙ sym (more_references m.refs xs ys);
    }

pub marks_of_completed_references : MarksOfCompletedReferences
marks_of_completed_references s =
    let d = does_all core_store s.regs (program s.regs) (start_of_step s) in record { marks = d.marks; references = d.references }
