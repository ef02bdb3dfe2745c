use Rattle.std.proofs.Common.{List, length, inl, inr, sym, ap, subst, ◌∙◌, arith}
use Rattle.m36_model.specs.declared.place.Reference.{Reference}
use Rattle.m36_page.specs.Residence.{frame_of, IsConsistent}
use Rattle.m36_page.specs.Changes.{IsBrought, AllPinned}
use Rattle.m36_page.proofs.Moves.{marks_settled, marks_frame, taken_settled}
use Rattle.m36_page.proofs.Room.{few_frames}
use Rattle.m36_page.proofs.Parts.{settled_by, marks_of, resident_from, out_from, brought_same, was_out, brought, not_pinned}
use Rattle.m36_page.proofs.pager.Pager.bring.Goals as goal

pub returns-then-is_some-clause-ok : goal.returns-then-is_some-clause-ok
returns-then-is_some-clause-ok c =
    brought_same c.args.self.now c.args.core.now c.args.seg c.args.page c.args.pinned.now.items
    (resident_from c.args.self.now c.args.core.now c.args.seg c.args.page c.spot-spot.result c.frame_at.result c.is_some.result
    c.spot-spot.ensures.value c.frame_at.ensures c.is_some.ensures c.if-is_some.true)

pub returns-then-is_some-clause-free : goal.returns-then-is_some-clause-free
returns-then-is_some-clause-free c =
    inl (resident_from c.args.self.now c.args.core.now c.args.seg c.args.page c.spot-spot.result c.frame_at.result c.is_some.result
    c.spot-spot.ensures.value c.frame_at.ensures c.is_some.ensures c.if-is_some.true)

pub empty_frame-requires-clause-settled : goal.empty_frame-requires-clause-settled
empty_frame-requires-clause-settled c =
    let settled : IsConsistent c.args.self.now c.args.core.now =
    settled_by c.args.self.now c.args.core.now c.spot-spot.ensures.pager c.requires.reads c.requires.frames c.len.ensures.most in
    marks_settled c.args.self.now c.args.core.now c.choose.new.core settled
    (marks_of c.args.self.now c.as_slice.result.now c.args.core.now c.choose.new.core c.spot-spot.ensures.pager c.choose.ensures.marks)

pub take_in-requires-clause-out : goal.take_in-requires-clause-out
take_in-requires-clause-out c =
    let settled : IsConsistent c.args.self.now c.args.core.now =
    settled_by c.args.self.now c.args.core.now c.spot-spot.ensures.pager c.requires.reads c.requires.frames c.len.ensures.most in
    c.empty_frame.ensures.out c.args.seg c.args.page c.requires.page
    (marks_frame c.args.self.now c.args.core.now c.choose.new.core c.args.seg c.args.page settled
    (marks_of c.args.self.now c.as_slice.result.now c.args.core.now c.choose.new.core c.spot-spot.ensures.pager c.choose.ensures.marks) c.requires.page
    ∙ out_from c.args.self.now c.args.core.now c.args.seg c.args.page c.spot-spot.result c.frame_at.result c.is_some.result
    c.spot-spot.ensures.value c.frame_at.ensures c.is_some.ensures c.if-is_some.false)

pub returns-in_default-clause-absent : goal.returns-in_default-clause-absent
returns-in_default-clause-absent c =
    out_from c.args.self.now c.args.core.now c.args.seg c.args.page c.spot-spot.result c.frame_at.result c.is_some.result
    c.spot-spot.ensures.value c.frame_at.ensures c.is_some.ensures c.if-is_some.false

pub returns-in_default-clause-room : goal.returns-in_default-clause-room
returns-in_default-clause-room c =
    let few = few_frames c.args.self.now c.args.core.now c.as_slice.result.now c.requires.reads c.in_default.ensures.none in
    omega (arith, few, ap length c.as_slice.ensures.value)

pub returns-clause-ok : goal.returns-clause-ok
returns-clause-ok c =
    let settled : IsConsistent c.args.self.now c.args.core.now =
    settled_by c.args.self.now c.args.core.now c.spot-spot.ensures.pager c.requires.reads c.requires.frames c.len.ensures.most in
    let P : List Reference → Type 0 = λ refs. IsBrought c.args.self.now c.args.core.now c.take_in.new.self c.take_in.new.core c.args.seg c.args.page refs in
    subst P c.as_slice.ensures.value
    (brought c.args.self.now c.args.core.now c.choose.new.core c.empty_frame.new.self c.empty_frame.new.core c.take_in.new.self c.take_in.new.core
    c.in-Some.k c.args.seg c.args.page c.as_slice.result.now settled c.choose.ensures.marks c.empty_frame.ensures c.take_in.ensures c.in-Some.ensures.found)

pub returns-clause-same : goal.returns-clause-same
returns-clause-same c = λ resident.
    absurd (was_out (frame_of c.args.self.now c.args.core.now c.args.seg c.args.page)
    (out_from c.args.self.now c.args.core.now c.args.seg c.args.page c.spot-spot.result c.frame_at.result c.is_some.result
    c.spot-spot.ensures.value c.frame_at.ensures c.is_some.ensures c.if-is_some.false) resident)

pub returns-clause-free : goal.returns-clause-free
returns-clause-free c =
    let P : List Reference → Type 0 = λ refs. AllPinned c.args.self.now refs in
    inr (λ all. not_pinned c.args.self.now c.as_slice.result.now c.in-Some.k c.in-Some.ensures.found (subst P (sym c.as_slice.ensures.value) all))

pub returns-clause-reads : goal.returns-clause-reads
returns-clause-reads c =
    (taken_settled c.empty_frame.new.self c.empty_frame.new.core c.take_in.new.self c.take_in.new.core c.in-Some.k c.args.seg c.args.page
    c.empty_frame.ensures.settled c.take_in.ensures).reads
